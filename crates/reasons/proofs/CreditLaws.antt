-- The net delta, price risk and weight of a commodity follow from the months, the scan and the spreads shown.
use Rattle.std.proofs.Common.{◌≡◌, ℕ, ◌+◌, ◌*◌, ◌<◌, Bool, true, false, cond, List, [], ◌∷◌, length, refl, sym}
use Rattle.std.proofs.Common.{ap, ◌∙◌, arith, filter, subst, sum_by}
use Rattle.std.specs.Prelude.{All, Some, ◌==◌, ℤ, ◌+ℤ◌, find, fold, option_map, pos}
use Rattle.std.specs.List.{list_any}
use Rattle.std.proofs.Math.Nat.{add-mul, zero-mul}
use Rattle.std.proofs.lemmas.Bool.Decides.{nat_tests}
use Rattle.std.proofs.lemmas.List.Elements.{All-head, All-tail}
use Rattle.std.proofs.lemmas.List.Folds.{fold-map}
use Rattle.std.proofs.lemmas.List.FromFn.{length-map-range_with_len}
use Rattle.std.proofs.lemmas.List.Sums.{sum_by-append, sum_by-cons}
use Rattle.span_money.specs.Numbers.{int_sum_by}
use Rattle.span_tables.specs.Accepted.{IsInter, IsWithinLimits}
use Rattle.span_tables.specs.Names.{has_repeat}
use Rattle.span_tables.specs.Tables.{AcceptedTables, inters_of}
use Rattle.span_tables.specs.declared.portfolios.Holding.{Holding}
use Rattle.span_tables.specs.declared.records.CommodityLeg.{CommodityLeg}
use Rattle.span_tables.specs.declared.records.Inter.{Inter}
use Rattle.span_tables.specs.declared.sides.Direction.{Direction}
use Rattle.span_tables.specs.declared.sides.Direction.TheVariants.{ALong, AShort}
use Rattle.span_tables.specs.declared.sides.SpreadsFormed.{SpreadsFormed}
use Rattle.spread_stage.specs.Deltas.{units_at}
use Rattle.spread_stage.specs.declared.months.MonthUnits.{MonthUnits}
use Rattle.inter_credit.specs.Credits.{after_inter_spreads, inter_formed_both, inter_both_ways, state_at}
use Rattle.inter_credit.specs.declared.commodity_state.CommodityState.{CommodityState}
use Rattle.inter_credit.proofs.RestLaws.{length-inter_both_ways}
use Rattle.inter_credit.proofs.WeightLaws.{weight-inter_both_ways}
use Rattle.plan_ir.specs.Figures.{deltas_at, inter_states, state_of, loaded_states, scan_at, tiers_at}
use Rattle.plan_compiler.proofs.StageLemmas.{kept_at, loaded_at}
use Rattle.reasons.specs.Reasons.{inters_shown_at, state_after_all, months_shown_at}
use Rattle.reasons.specs.Shown.{inter_in, inter_ways, inters_shown, ratio_in, weight_of}
use Rattle.reasons.specs.declared.shown.ShownInter.{ShownInter}
use Rattle.reasons.specs.declared.shown.ShownMonth.{ShownMonth}
use Rattle.std.proofs.lemmas.Bool.{or_parts}

pub net_shown : (t : AcceptedTables) (holdings : List Holding) (c : ℕ) → c < length t.commodities
    → (state_after_all t holdings c).net ≡ int_sum_by (λ m. m.delta) (months_shown_at t holdings c)
net_shown t holdings c lt =
    let rests = (tiers_at t holdings c).rests in
    let shown : MonthUnits → ShownMonth = λ m. record { month = m.month; delta = m.units; left = units_at rests m.month } in
    kept_at t holdings (λ state. state.net) (λ on used bp state. refl) c lt
    ∙ sym (fold-map (λ (z : ℤ) (m : ShownMonth). z +ℤ m.delta) shown (pos 0) (deltas_at t holdings c))

pub price2_shown : (t : AcceptedTables) (holdings : List Holding) (c : ℕ) → c < length t.commodities
    → (state_after_all t holdings c).price2 ≡ (scan_at t holdings c).price2
price2_shown t holdings c lt = kept_at t holdings (λ state. state.price2) (λ on used bp state. refl) c lt

-- ---- the weight

shown_if : (b : Bool) (n ratio bp : ℕ) (s : ShownInter) → (n == 0) ≡ b → weight_of s ≡ n * ratio * bp
    → sum_by weight_of (cond b [] (s ∷ [])) ≡ n * ratio * bp
shown_if true n ratio bp s e is =
    let none : n ≡ 0 = grind (arith, nat_tests, e) in
    sym (ap (λ k. k * ratio * bp) none ∙ ap (λ k. k * bp) (zero-mul ratio) ∙ zero-mul bp)
shown_if false n ratio bp s e is = let all = sum_by-cons weight_of s [] in omega (arith, all, is)

-- the weight shown for a spread in a direction is its whole weight
weight_in : (s : Inter) (ratio : ℕ) (d : Direction) (n : ℕ)
    → sum_by weight_of (inter_in s ratio d n) ≡ n * ratio * s.basis_points
weight_in s ratio d n =
    let bp = s.basis_points in
    shown_if (n == 0) n ratio bp
    (record { priority = s.priority; direction = d; formed = n; used = n * ratio; basis_points = bp }) refl refl

module _ (s : Inter) (f : SpreadsFormed) (c : ℕ) where
  -- what a leg adds to the weight of its commodity
  abbrev part : CommodityLeg → ℕ
  part leg = (f.a_long + f.a_short) * leg.ratio * s.basis_points

  abbrev is_leg : CommodityLeg → Bool
  is_leg leg = leg.commodity == c

  weight_ways : (leg : CommodityLeg) → sum_by weight_of (inter_ways s f (Some leg.ratio)) ≡ part leg
  weight_ways leg =
      let n = f.a_long in
      let k = f.a_short in
      let bp = s.basis_points in
      let all = sum_by-append weight_of (inter_in s leg.ratio ALong n) (inter_in s leg.ratio AShort k) in
      let long = weight_in s leg.ratio ALong n in
      let short = weight_in s leg.ratio AShort k in
      let both : (n + k) * leg.ratio * bp ≡ n * leg.ratio * bp + k * leg.ratio * bp =
      ap (λ m. m * bp) (add-mul n k leg.ratio) ∙ add-mul (n * leg.ratio) (k * leg.ratio) bp in
      omega (arith, all, long, short, both)

  passed_if : (b : Bool) (leg : CommodityLeg) (legs : List CommodityLeg) → b ≡ false → cond b (leg ∷ legs) legs ≡ legs
  passed_if true leg legs e = cc
  passed_if false leg legs e = refl

  -- if a leg is in the commodity, no leg after it is
  none_behind : (leg : CommodityLeg) (legs : List CommodityLeg) → leg.commodity ≡ c
      → list_any (λ other. leg.commodity == other.commodity) legs ≡ false → filter is_leg legs ≡ []
  none_behind leg [] same apart = refl
  none_behind leg (x ∷ legs) same apart =
      let alike : CommodityLeg → Bool = λ other. leg.commodity == other.commodity in
      let other : (leg.commodity == x.commodity) ≡ false = (or_parts (alike x) (list_any alike legs) apart).0 in
      let passed : (x.commodity == c) ≡ false = grind (arith, nat_tests, other, same) in
      passed_if (x.commodity == c) x (filter is_leg legs) passed
      ∙ none_behind leg legs same (or_parts (alike x) (list_any alike legs) apart).1

  leg_if : (b : Bool) (leg : CommodityLeg) (legs : List CommodityLeg) → (leg.commodity == c) ≡ b
      → list_any (λ other. leg.commodity == other.commodity) legs ≡ false
      → sum_by weight_of (inter_ways s f (ratio_in c legs)) ≡ sum_by part (filter is_leg legs)
      → sum_by weight_of
      (inter_ways s f (option_map (λ (x : CommodityLeg). x.ratio) (cond b (Some leg) (find is_leg legs))))
      ≡ sum_by part (cond b (leg ∷ filter is_leg legs) (filter is_leg legs))
  leg_if true leg legs e apart rest =
      let same : leg.commodity ≡ c = grind (arith, nat_tests, e) in
      let one = weight_ways leg in
      let all = sum_by-cons part leg (filter is_leg legs) in
      let none = ap (sum_by part) (none_behind leg legs same apart) in
      omega (arith, one, all, none)
  leg_if false leg legs e apart rest = rest

  -- the weight shown for a spread is the weight that its legs in the commodity add
  weight_legs : (legs : List CommodityLeg) → has_repeat (λ a b. a.commodity == b.commodity) legs ≡ false
      → sum_by weight_of (inter_ways s f (ratio_in c legs)) ≡ sum_by part (filter is_leg legs)
  weight_legs [] apart = refl
  weight_legs (leg ∷ legs) apart =
      let alike : CommodityLeg → Bool = λ other. leg.commodity == other.commodity in
      let others = has_repeat (λ (a b : CommodityLeg). a.commodity == b.commodity) legs in
      leg_if (leg.commodity == c) leg legs refl (or_parts (list_any alike legs) others apart).0
      (weight_legs legs (or_parts (list_any alike legs) others apart).1)

-- the weight after some spreads is the weight before them plus the weights shown for them
weights_shown : (n c : ℕ) (spreads : List Inter) (states : List CommodityState) → c < length states → All (IsInter n) spreads
    → (state_at (fold inter_both_ways states spreads) c).weight
    ≡ (state_at states c).weight + sum_by weight_of (inters_shown c spreads states)
weights_shown n c [] states lt inters = omega arith
weights_shown n c (s ∷ spreads) states lt inters =
    let next = inter_both_ways states s in
    let f = inter_formed_both states s in
    let inside : c < length next = subst (λ k. c < k) (sym (length-inter_both_ways states s)) lt in
    let rest = weights_shown n c spreads next inside (All-tail (IsInter n) s spreads inters) in
    let first = weight-inter_both_ways states s c lt in
    let is_inter : IsInter n s = All-head (IsInter n) s spreads inters in
    let here = weight_legs s f c s.legs is_inter.apart in
    let all = sum_by-append weight_of (inter_ways s f (ratio_in c s.legs)) (inters_shown c spreads next) in
    omega (arith, rest, first, here, all)

pub weight_shown : (t : AcceptedTables) (holdings : List Holding) (c : ℕ) → IsWithinLimits t → c < length t.commodities
    → (state_after_all t holdings c).weight ≡ sum_by weight_of (inters_shown_at t holdings c)
unfolding inter_states after_inter_spreads
weight_shown t holdings c limits lt =
    let loaded = loaded_states t holdings in
    let long : length loaded ≡ length t.commodities = length-map-range_with_len (state_of t holdings) 0 (length t.commodities) in
    let inside : c < length loaded = subst (λ k. c < k) (sym long) lt in
    let all = weights_shown (length t.commodities) c (inters_of t) loaded inside limits.inters_in_range in
    let begun : (state_at loaded c).weight ≡ 0 = ap (λ (state : CommodityState). state.weight) (loaded_at t holdings c lt) in
    omega (arith, all, begun)
