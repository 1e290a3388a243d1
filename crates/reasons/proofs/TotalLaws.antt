-- A commodity without held contracts adds nothing to the total and the option value of an account.
use Rattle.std.proofs.Common.{◌≡◌, ℕ, zero, suc, ◌+◌, ◌<◌, Bool, true, false, cond, List, [], ◌∷◌, length, refl, ap, ◌∙◌, arith}
use Rattle.std.proofs.Common.{filter, sym}
use Rattle.std.specs.Prelude.{◌==◌, ℤ, nat_abs, not, pos}
use Rattle.std.specs.List.{range_with_len}
use Rattle.std.proofs.lemmas.Bool.Decides.{nat_tests}
use Rattle.std.proofs.lemmas.Int.{ints}
use Rattle.span_money.specs.Numbers.{int_sum_by}
use Rattle.span_tables.specs.Net.{HeldContract}
use Rattle.span_tables.specs.Tables.{AcceptedTables, facts_in}
use Rattle.span_tables.specs.declared.portfolios.Holding.{Holding}
use Rattle.span_tables.specs.declared.records.Intra.{Intra}
use Rattle.span_tables.specs.declared.records.Spot.{Spot}
use Rattle.span_tables.proofs.SumLaws.{int_sum_by-cons, int_sum_by-if}
use Rattle.scan_risk.specs.Scenarios.{scan_risk, scenario_sums}
use Rattle.spread_stage.specs.Charges.{delivery_charge, intra_charge}
use Rattle.spread_stage.specs.Deltas.{month_deltas}
use Rattle.spread_stage.specs.Spreads.{TierRests, after_spreads}
use Rattle.spread_stage.specs.declared.months.MonthUnits.{MonthUnits}
use Rattle.spread_stage.proofs.ClosedLemmas.{after_spreads_of_nothing}
use Rattle.spread_stage.proofs.FallLemmas.{spreads_shrink}
use Rattle.inter_credit.specs.OptionValue.{net_value_of, position_value}
use Rattle.inter_credit.specs.Requirement.{minimum_of, requirement_of}
use Rattle.inter_credit.proofs.CreditLaws.{credit_zero}
use Rattle.plan_ir.specs.Figures.{commodity_at, deltas_at, figures_of, held_at, intras_at, is_commodity_held, option_value_of, spots_at}
use Rattle.plan_ir.specs.Figures.{tiers_at, total_to, value_to}
use Rattle.plan_ir.proofs.NothingLemmas.{delivery_of_no_months, minimum_of_nothing, month_deltas_of_nothing, sums_of_nothing}
use Rattle.reasons.specs.Laws.{numbers_shown, values_shown_at}
use Rattle.reasons.specs.Reasons.{state_after_all}
use Rattle.reasons.specs.Shown.{months_shown}
use Rattle.reasons.proofs.CreditLaws.{net_shown}
use Rattle.reasons.proofs.FigureLaws.{credit_shown, requirement_shown, risk_shown}

-- a sum is the sum over the numbers that pass a test, if its terms for the other numbers are 0
module _ (passes : ℕ → Bool) (f : ℕ → ℤ) (end : ℕ)
    (others : (c : ℕ) → c < end → passes c ≡ false → f c ≡ pos 0) where
  value_if : (b : Bool) (c : ℕ) → c < end → passes c ≡ b → f c ≡ cond b (f c) (pos 0)
  value_if true c lt e = refl
  value_if false c lt e = others c lt e

  sum_of_passing : (a n : ℕ) → end ≡ a + n
      → int_sum_by f (range_with_len a n) ≡ int_sum_by f (filter passes (range_with_len a n))
  sum_of_passing a zero to = refl
  sum_of_passing a (suc n) to =
      let all = int_sum_by-cons f a (range_with_len (a + 1) n) in
      let here = value_if (passes a) a (omega (arith, to)) refl in
      let split = int_sum_by-if f (passes a) a (filter passes (range_with_len (a + 1) n)) in
      let rest = sum_of_passing (a + 1) n (omega (arith, to)) in
      omega (arith, ints, all, here, split, rest)

-- ---- nothing held

-- no contract is held if the number of held contracts is 0
pub none_held : (held : List HeldContract) → not (length held == 0) ≡ false → held ≡ []
none_held [] e = refl
none_held (h ∷ held) e =
    let some : (length (h ∷ held) == 0) ≡ false = grind (arith, nat_tests) in
    let apart : true ≡ false = sym (ap not some) ∙ e in
    cc

intra_of_nothing : (spreads : List Intra) → intra_charge (after_spreads spreads []).charge ≡ 0
unfolding intra_charge
intra_of_nothing spreads = ap (λ (t : TierRests). intra_charge t.charge) (after_spreads_of_nothing spreads)

delivery_none : (deltas : List MonthUnits) (spreads : List Intra) (spots : List Spot) → deltas ≡ []
    → delivery_charge deltas (after_spreads spreads deltas).rests spots ≡ 0
delivery_none deltas spreads spots none =
    ap (λ (ms : List MonthUnits). delivery_charge ms (after_spreads spreads ms).rests spots) none
    ∙ delivery_of_no_months (after_spreads spreads []).rests spots (spreads_shrink spreads [])

nothing_required : requirement_of (pos 0) (pos 0) (pos 0) (pos 0) (pos 0) ≡ pos 0
unfolding requirement_of
nothing_required = refl

module _ (t : AcceptedTables) (holdings : List Holding) (c : ℕ) (none : held_at t holdings c ≡ []) where
  no_months : deltas_at t holdings c ≡ []
  no_months = ap month_deltas none ∙ month_deltas_of_nothing

  no_scan : (figures_of t holdings c).scan ≡ pos 0
  no_scan =
      risk_shown t holdings c ∙ ap (λ held. scan_risk (scenario_sums held)) none ∙ ap scan_risk sums_of_nothing

  no_intra : (figures_of t holdings c).intra ≡ pos 0
  unfolding figures_of
  no_intra =
      ap (λ (ms : List MonthUnits). pos (intra_charge (after_spreads (intras_at t c) ms).charge)) no_months
      ∙ ap pos (intra_of_nothing (intras_at t c))

  no_delivery : (figures_of t holdings c).delivery ≡ pos 0
  unfolding figures_of
  no_delivery = ap pos (delivery_none (deltas_at t holdings c) (intras_at t c) (spots_at t c) no_months)

  no_minimum : (figures_of t holdings c).minimum ≡ pos 0
  unfolding figures_of
  no_minimum =
      ap (λ held. pos (minimum_of (commodity_at t c).minimum_rate (commodity_at t c).method held)) none
      ∙ ap pos (minimum_of_nothing (commodity_at t c).minimum_rate (commodity_at t c).method)

  no_credit : c < length t.commodities → (figures_of t holdings c).credit ≡ pos 0
  no_credit lt =
      let net : (state_after_all t holdings c).net ≡ pos 0 =
      net_shown t holdings c lt
      ∙ ap (λ ms. int_sum_by (λ m. m.delta) (months_shown ms (tiers_at t holdings c).rests)) no_months in
      credit_shown t holdings c ∙ ap pos (credit_zero (state_after_all t holdings c) (ap nat_abs net))

  -- a commodity without held contracts has no requirement
  pub no_requirement : c < length t.commodities → (figures_of t holdings c).requirement ≡ pos 0
  no_requirement lt =
      requirement_shown t holdings c
      ∙ (λ k. requirement_of (no_scan k) (no_intra k) (no_delivery k) (no_credit lt k) (no_minimum k))
      ∙ nothing_required

  -- a commodity without held contracts has no option value
  no_value : values_shown_at t holdings c ≡ pos 0
  no_value = ap (int_sum_by position_value) none

-- ---- the sums of an account

module _ (t : AcceptedTables) (holdings : List Holding) where
  pub total_shown : total_to t holdings (length t.commodities)
      ≡ int_sum_by (λ c. (figures_of t holdings c).requirement) (numbers_shown t holdings)
  unfolding total_to
  total_shown =
      sum_of_passing (is_commodity_held t holdings) (λ c. (figures_of t holdings c).requirement) (length t.commodities)
      (λ c lt e. no_requirement t holdings c (none_held (held_at t holdings c) e) lt) 0 (length t.commodities) (omega arith)

  values_shown : value_to t holdings (length t.commodities) ≡ int_sum_by (values_shown_at t holdings) (numbers_shown t holdings)
  unfolding value_to net_value_of
  values_shown =
      sum_of_passing (is_commodity_held t holdings) (values_shown_at t holdings) (length t.commodities)
      (λ c lt e. no_value t holdings c (none_held (held_at t holdings c) e)) 0 (length t.commodities) (omega arith)

  pub value_shown : (facts_in t).options_have_value ≡ true
      → option_value_of t holdings ≡ int_sum_by (values_shown_at t holdings) (numbers_shown t holdings)
  value_shown has = ap (λ b. cond b (value_to t holdings (length t.commodities)) (pos 0)) has ∙ values_shown
