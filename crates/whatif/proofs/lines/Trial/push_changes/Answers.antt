use Rattle.std.proofs.Common.{◌≡◌, ◌∙◌, ◌++◌, ap, arith, flat_map, length}
use Rattle.std.specs.List.{range_with_len}
use Rattle.span_money.proofs.LinePartLemmas.{numbered_more}
use Rattle.whatif.specs.near.Trials.{change_text}
use Rattle.whatif.proofs.OrderLineLemmas.{all_changes}
use Rattle.whatif.proofs.lines.Trial.push_changes.Goals as goal

pub loop-commodity-preserved : goal.loop-commodity-preserved
loop-commodity-preserved c = λ o is.
    let f = change_text c.args.self.now.tables o in
    let n = c.loop-commodity.commodity in
    c.in_ok-push_change.ensures o is ∙ ap (λ t. t ++ f n) (c.loop-commodity.invariant o is) ∙ numbered_more f c.args.out.now.items n

pub returns : goal.returns
returns c = λ o is.
    let t = c.args.self.now.tables in
    let count : length c.commodities-commodity-end.result.now ≡ length t.commodities =
    ap length c.commodities-commodity-end.ensures.value ∙ ap (λ t. length t.commodities) c.tables.ensures in
    let all : c.loop-commodity.commodity ≡ length t.commodities =
    omega (arith, c.loop-commodity-test.false, c.loop-commodity.auto.commodity-end, count) in
    c.loop-commodity.invariant o is ∙ ap (λ n. c.args.out.now.items ++ flat_map (change_text t o) (range_with_len 0 n)) all
    ∙ ap (λ text. c.args.out.now.items ++ text) (all_changes t o)
