use Rattle.std.proofs.Common.{◌≡◌, ◌∙◌, ◌++◌, ◌∷◌, [], ◌+◌, ap, sym, length, map, arith}
use Rattle.std.specs.List.{range_with_len}
use Rattle.std.proofs.lemmas.List.FromFn.{map-range_with_len_more}
use Rattle.plan_ir.specs.Figures.{intras_at}
use Rattle.plan_compiler.specs.Places.{first_step}
use Rattle.plan_compiler.proofs.LayoutLemmas.{first_more}
use Rattle.plan_compiler.proofs.layout.first_steps.Goals as goal

pub loop-c-preserved : goal.loop-c-preserved
loop-c-preserved c =
    let t = c.args.tables.now in
    let n = c.loop-c.c in
    let before = c.loop-c.invariant in
    let here : 0 + n ≡ n = omega arith in
    let spreads : length c.intras.result.now ≡ length (intras_at t n) = ap length c.intras.ensures.value in
    let few = c.intras.ensures.few in
    record {
      firsts = c.in_ok-push.ensures.items ∙ ap (λ xs. xs ++ c.loop-c.first ∷ []) before.firsts
          ∙ ap (λ x. map (first_step t) (range_with_len 0 n) ++ x ∷ []) before.first
          ∙ sym (map-range_with_len_more (first_step t) 0 n n here);
      first = let more = first_more t n in let first = before.first in omega (arith, first, spreads, more, c.value_steps.ensures.value);
      small = let small = before.small in omega (arith, small, few, c.value_steps.ensures.bound);
    }

pub returns : goal.returns
returns c =
    let t = c.args.tables.now in
    let before = c.loop-c.invariant in
    let n = c.loop-c.c in
    let here : 0 + n ≡ n = omega arith in
    let all : n ≡ length t.commodities =
    omega (arith, c.loop-c-test.false, c.loop-c.auto.c-end, ap length c.commodities-c-end.ensures.value) in
    c.in_ok-push-2.ensures.items ∙ ap (λ xs. xs ++ c.loop-c.first ∷ []) before.firsts
    ∙ ap (λ x. map (first_step t) (range_with_len 0 n) ++ x ∷ []) before.first
    ∙ sym (map-range_with_len_more (first_step t) 0 n n here)
    ∙ ap (λ m. map (first_step t) (range_with_len 0 (m + 1))) all
