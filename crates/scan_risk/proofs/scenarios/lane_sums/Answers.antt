use Rattle.std.proofs.Common.{◌≡◌, ℤ, ◌+◌, ◌*◌, ◌∙◌, ap, sym, refl, arith, lit<, take, w64, FitsSigned, length, rules, All}
use Rattle.std.proofs.lemmas.Int.{to_z-of_z}
use Rattle.std.proofs.lemmas.List.{take_all}
use Rattle.span_tables.specs.declared.limits.TheConstants.{MAX_SUM, MAX_TERM}
use Rattle.span_tables.proofs.HeldLemmas.{held_here}
use Rattle.scan_risk.specs.Scenarios.{scenario_sums}
use Rattle.scan_risk.proofs.LaneLemmas.{IsWithin, lanes_kept, sums_grow}
use Rattle.scan_risk.proofs.SumLemmas.{sums_more, terms_of, with_terms}
use Rattle.scan_risk.proofs.scenarios.lane_sums.Goals as goal

pub loop-place-init : goal.loop-place-init
unfolding scenario_sums
loop-place-init c = record { value = refl; bound = search rules }

pub with_terms-sums-requires-clause-room : goal.with_terms-sums-requires-clause-room
with_terms-sums-requires-clause-room c =
    rw c.loop-place.invariant.value (λ k d lt. omega (arith, c.loop-place.invariant.bound k d lt, c.len-place-end.ensures.kept.few))

pub with_terms-sums-requires-clause-terms : goal.with_terms-sums-requires-clause-terms
with_terms-sums-requires-clause-terms c = rw (lanes_kept c.terms.result MAX_TERM (lit< tt) c.terms.ensures.bound) c.terms.ensures.bound

pub loop-place-preserved : goal.loop-place-preserved
loop-place-preserved c =
    let held = c.args.held.now in
    let i = c.loop-place.place in
    let old = scenario_sums (take i held) in
    let new = scenario_sums (take (i + 1) held) in
    let of = c.terms-of.result.now in
    let here = held_here held i of c.net.result (omega arith) c.terms-of.ensures.value c.net.ensures.value in
    let h = here.0 in
    let values : of.values ≡ h.contract.values = here.2.values in
    let fits : FitsSigned w64 c.net.result = search rules in
    let terms : c.terms.result ≡ terms_of h.net h.contract.values =
    c.terms.ensures.value ∙ ap (λ (z : ℤ). terms_of z of.values) (to_z-of_z w64 c.net.result fits)
    ∙ (λ j. terms_of (here.3 j) (values j)) in
    let kept = lanes_kept c.terms.result MAX_TERM (lit< tt) c.terms.ensures.bound in
    let added : c.with_terms-sums.result ≡ with_terms old (terms_of h.net h.contract.values) =
    c.with_terms-sums.ensures ∙ rw (c.loop-place.invariant.value, kept, terms) refl in
    let more = sums_more held i h (omega arith) here.1 (ap length (sym values) ∙ c.terms-of.ensures.in_range.sixteen) in
    let grown = sums_grow (i * MAX_TERM) old c.terms.result c.loop-place.invariant.bound c.terms.ensures.bound in
    let bound : All (IsWithin ((i + 1) * MAX_TERM)) new = rw (sym more, sym terms) (λ k d lt. omega (arith, grown k d lt)) in
    let small : All (IsWithin MAX_SUM) new = λ k d lt. omega (arith, bound k d lt, c.len-place-end.ensures.kept.few) in
    record { value = rw (added, more) (lanes_kept new MAX_SUM (lit< tt) small); bound = bound }

pub returns-clause-value : goal.returns-clause-value
returns-clause-value c = c.loop-place.invariant.value ∙ ap scenario_sums (take_all c.loop-place.place c.args.held.now (omega arith))

pub returns-clause-bound : goal.returns-clause-bound
returns-clause-bound c =
    rw c.loop-place.invariant.value (λ k d lt. omega (arith, c.loop-place.invariant.bound k d lt, c.len-place-end.ensures.kept.few))
