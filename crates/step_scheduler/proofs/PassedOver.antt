-- Commodities are loaded in the order of their numbers. A commodity that is not held changes nothing.
use Rattle.std.proofs.Common.{◌≡◌, ℕ, zero, suc, ◌+◌, ◌-◌, ◌<◌, ◌≤◌, List, [], ◌∷◌, ◌++◌, length, map}
use Rattle.std.proofs.Common.{sym, ap, ◌∙◌, append_assoc, slice_set, zero-add, arith}
use Rattle.std.specs.Prelude.{◌+ℤ◌, ℤ, pos, replicate, slice_index_or, true}
use Rattle.std.specs.List.{range_with_len}
use Rattle.std.proofs.Math.IntN.{+ℤ_idr}
use Rattle.std.proofs.lemmas.List.FromFn.{map-range_with_len_more}
use Rattle.span_tables.specs.Tables.{AcceptedTables, facts_in}
use Rattle.span_tables.specs.declared.portfolios.Holding.{Holding}
use Rattle.inter_credit.specs.Credits.{unspread_state}
use Rattle.inter_credit.specs.declared.commodity_state.CommodityState.{CommodityState}
use Rattle.plan_ir.specs.Figures.{figures_of, held_at, state_of, net_value_at, total_to, value_to}
use Rattle.plan_ir.specs.declared.figures.Figures.{Figures}
use Rattle.plan_compiler.specs.Meaning.{states_loaded}
use Rattle.plan_compiler.proofs.Meanings.{load_more, total_more, value_more}
use Rattle.step_scheduler.specs.declared.run_memory.Part.{Part}
use Rattle.step_scheduler.specs.near.Parts.{IsNext, IsPart, NoneHeld}
use Rattle.step_scheduler.specs.declared.held_figures.HeldFigures.{HeldFigures}
use Rattle.step_scheduler.specs.near.Figures.{HasFigures, place_of}
use Rattle.step_scheduler.proofs.NothingLemmas.{figures_of_nothing, no_state, no_value}

-- a function that does not change from any number of a range to the next is equal at both ends of the range
steady : {A : Type 0} (f : ℕ → A) (from n : ℕ) → ((c : ℕ) → from ≤ c → c < from + n → f c ≡ f (c + 1)) → f from ≡ f (from + n)
steady f from zero same = let e : from ≡ from + 0 = omega arith in ap f e
steady f from (suc n) same =
    let e : (from + n) + 1 ≡ from + suc n = omega arith in
    steady f from n (λ c a b. same c a (omega (arith, b))) ∙ same (from + n) (omega arith) (omega arith) ∙ ap f e

steady_up_to : {A : Type 0} (f : ℕ → A) (from to : ℕ) → from ≤ to → ((c : ℕ) → from ≤ c → c < to → f c ≡ f (c + 1)) → f from ≡ f to
steady_up_to f from to le same =
    let e : from + (to - from) ≡ to = omega arith in
    steady f from (to - from) (λ c a b. same c a (omega (arith, b, e))) ∙ ap f e

module _ (t : AcceptedTables) (holdings : List Holding) where
  one_over : (c : ℕ) → c < length t.commodities → held_at t holdings c ≡ [] → states_loaded t holdings c ≡ states_loaded t holdings (c + 1)
  one_over c lt none =
      let nothing : CommodityState = unspread_state (pos 0) 0 in
      let front = map (state_of t holdings) (range_with_len 0 c) in
      let rest = replicate (length t.commodities - (c + 1)) nothing in
      let one_more : length t.commodities - c ≡ suc (length t.commodities - (c + 1)) = omega arith in
      ap (λ n. front ++ replicate n nothing) one_more
      ∙ ap (λ state. front ++ state ∷ rest) (sym (no_state t holdings c none))
      ∙ sym (append_assoc front (state_of t holdings c ∷ []) rest)
      ∙ ap (λ xs. xs ++ rest) (sym (map-range_with_len_more (state_of t holdings) 0 c c (zero-add c)))

  -- commodities that are not held do not change the loaded states
  pub states_over : (from to : ℕ) → from ≤ to → to ≤ length t.commodities → NoneHeld t holdings from to
      → states_loaded t holdings from ≡ states_loaded t holdings to
  states_over from to le few none =
      steady_up_to (states_loaded t holdings) from to le (λ c a b. one_over c (omega (arith, b, few)) (none c a b))

  -- the next held commodity is loaded
  pub loaded_more : (p : Part) (from : ℕ) (before after : List CommodityState) → IsNext t holdings from p.commodity
      → IsPart t holdings p → before ≡ states_loaded t holdings from
      → after ≡ slice_set before p.commodity (unspread_state p.net (p.scan).price2) → after ≡ states_loaded t holdings (p.commodity + 1)
  loaded_more p from before after next is b a =
      let here = b ∙ states_over from p.commodity next.behind (omega (arith, next.known)) next.none in
      a ∙ (λ k. slice_set (here k) p.commodity (unspread_state (is.net k) (is.scan k).price2)) ∙ load_more t holdings p.commodity next.known

  total_over : (c : ℕ) → c < length t.commodities → held_at t holdings c ≡ [] → total_to t holdings c ≡ total_to t holdings (c + 1)
  total_over c lt none =
      let nothing : (figures_of t holdings c).requirement ≡ pos 0 =
      ap (λ (f : Figures). f.requirement) (figures_of_nothing t holdings c none lt) in
      sym (+ℤ_idr (total_to t holdings c)) ∙ ap (λ z. total_to t holdings c +ℤ z) (sym nothing) ∙ total_more t holdings c

  -- commodities that are not held add nothing to the total
  pub totals_over : (from to : ℕ) → from ≤ to → to ≤ length t.commodities → NoneHeld t holdings from to
      → total_to t holdings from ≡ total_to t holdings to
  totals_over from to le few none =
      steady_up_to (total_to t holdings) from to le (λ c a b. total_over c (omega (arith, b, few)) (none c a b))

  -- the total up to the next held commodity, plus the requirement of that commodity
  pub total_with : (c from : ℕ) (total : ℤ) (held : HeldFigures) (f : Figures) → IsNext t holdings from c
      → HasFigures t holdings held c → slice_index_or held.figures.items (place_of held c) f ≡ f → total ≡ total_to t holdings from
      → total +ℤ f.requirement ≡ total_to t holdings c +ℤ (figures_of t holdings c).requirement
  total_with c from total held f next has is e =
      λ k. (e ∙ totals_over from c next.behind (omega (arith, next.known)) next.none) k +ℤ ((sym is ∙ has.right f) k).requirement

  value_over : (c : ℕ) → held_at t holdings c ≡ [] → value_to t holdings c ≡ value_to t holdings (c + 1)
  value_over c none =
      sym (+ℤ_idr (value_to t holdings c)) ∙ ap (λ z. value_to t holdings c +ℤ z) (sym (no_value t holdings c none))
      ∙ value_more t holdings c

  -- commodities that are not held add nothing to the option value
  pub values_over : (from to : ℕ) → from ≤ to → NoneHeld t holdings from to → value_to t holdings from ≡ value_to t holdings to
  values_over from to le none = steady_up_to (value_to t holdings) from to le (λ c a b. value_over c (none c a b))

  -- the option value up to and including the next held commodity
  pub value_with : (p : Part) (from : ℕ) (value : ℤ) → IsNext t holdings from p.commodity → IsPart t holdings p
      → (facts_in t).options_have_value ≡ true → value ≡ value_to t holdings from
      → value +ℤ p.worth ≡ value_to t holdings p.commodity +ℤ net_value_at t holdings p.commodity
  value_with p from value next is has e =
      λ k. (e ∙ values_over from p.commodity next.behind next.none) k +ℤ is.worth has k
