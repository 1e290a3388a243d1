use Rattle.std.proofs.Common.{rules, ◌≡◌, [], List}
use Rattle.std.proofs.lemmas.List.Elements.{All-push}
use Rattle.plan_compiler.specs.Compiled.{SetView}
use Rattle.plan_shelf.proofs.shelves.empty_shelf.Goals as goal

pub loop-preserved : goal.loop-preserved
loop-preserved g c =
    let empty : c.new-in-loop.result ≡ [] = search rules in
    record {
      count = search rules;
      empty =
          rw (c.in_ok-push.ensures.items)
          (All-push (λ (reader : List SetView). reader ≡ []) c.loop.all.items c.new-in-loop.result c.loop.invariant.empty empty);
    }
