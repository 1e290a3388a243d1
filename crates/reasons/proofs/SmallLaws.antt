-- The numbers in lines have at most 64 digits.
use Rattle.std.proofs.Common.{◌≡◌, ℕ, ◌+◌, ◌*◌, ◌<◌, ◌≤◌, Bool, true, false, cond, List, [], ◌∷◌, length, get_or, refl}
use Rattle.std.proofs.Common.{sym, ap, ◌∙◌, arith, filter, nat_abs, subst}
use Rattle.std.specs.Prelude.{All, None, Option, Some, ◌==◌, find, not, option_map}
use Rattle.std.proofs.Math.Nat.{mul-le-mul}
use Rattle.std.proofs.lemmas.Bool.Decides.{nat_tests}
use Rattle.std.proofs.lemmas.List.Elements.{All-append, All-cons, All-filter, All-head, All-map, All-nil, All-tail}
use Rattle.std.proofs.lemmas.List.Sums.{sum_by-cons}
use Rattle.span_tables.specs.Accepted.{IsInter, IsIntra, IsSpot}
use Rattle.span_tables.specs.Sides.{market_side, spreads_formed}
use Rattle.span_tables.specs.declared.limits.TheConstants.{MAX_BASIS_POINTS, MAX_RATE, MAX_UNITS}
use Rattle.span_tables.specs.declared.records.CommodityLeg.{CommodityLeg}
use Rattle.span_tables.specs.declared.records.Inter.{Inter}
use Rattle.span_tables.specs.declared.records.Intra.{Intra}
use Rattle.span_tables.specs.declared.records.Spot.{Spot}
use Rattle.span_tables.specs.declared.sides.Direction.{Direction}
use Rattle.span_tables.specs.declared.sides.Direction.TheVariants.{ALong, AShort}
use Rattle.spread_stage.specs.Charges.{left_of, used_of}
use Rattle.spread_stage.specs.Deltas.{units_at}
use Rattle.spread_stage.specs.Months.{AreMonths, AreTierRests, Shrinks, total_size}
use Rattle.spread_stage.specs.Spreads.{TierRests, formed_both, rests_after, spread_both_ways, tier_rooms}
use Rattle.spread_stage.specs.declared.months.MonthUnits.{MonthUnits}
use Rattle.spread_stage.proofs.SpreadBounds.{both_ways_are}
use Rattle.spread_stage.proofs.SizeLemmas.{left_le, part_on-le, units_at_le}
use Rattle.spread_stage.proofs.SpreadLemmas.{formed_falls, legs_rise}
use Rattle.inter_credit.specs.Credits.{inter_both_ways, inter_formed_both, inter_formed_in, inter_one_way, leg_side, rest_at, state_at}
use Rattle.inter_credit.specs.States.{UsesState}
use Rattle.inter_credit.specs.near.Rooms.{HaveRoom}
use Rattle.inter_credit.specs.declared.commodity_state.CommodityState.{CommodityState}
use Rattle.inter_credit.proofs.RestLaws.{length-inter_both_ways, length-states_after, one_way_uses}
use Rattle.inter_credit.proofs.SpreadLemmas.{formed_have_room}
use Rattle.reasons.specs.Shown.{inter_in, inter_ways, inters_shown, intra_in, intra_ways, intras_shown, months_shown, ratio_in, spots_shown}
use Rattle.reasons.specs.declared.shown.ShownInter.{ShownInter}
use Rattle.reasons.specs.declared.shown.ShownIntra.{ShownIntra}
use Rattle.reasons.specs.declared.shown.ShownMonth.{ShownMonth}
use Rattle.reasons.specs.declared.shown.ShownSpot.{ShownSpot}
use Rattle.inter_credit.proofs.CreditBounds.{parts_size}
use Rattle.inter_credit.proofs.StateLemmas.{rest_of_state}

-- an item that is shown only if a number is more than 0 has P if it has P for such a number
pub in_if : {A : Type 0} (P : A → Type 0) (b : Bool) (n : ℕ) (x : A) → (n == 0) ≡ b → (0 < n → P x) → All P (cond b [] (x ∷ []))
in_if P true n x e is = All-nil P
in_if P false n x e is = All-cons P x [] (is (grind (arith, nat_tests, e))) (All-nil P)

-- ---- months

pub record IsSmallMonth (m : ShownMonth) : Type 0 where
  pub delta : nat_abs m.delta ≤ MAX_UNITS
  pub left : nat_abs m.left ≤ MAX_UNITS

each_size : (ms : List MonthUnits) → All (λ m. nat_abs m.units ≤ total_size ms) ms
each_size [] = All-nil (λ (m : MonthUnits). nat_abs m.units ≤ total_size [])
each_size (m ∷ ms) =
    let all = sum_by-cons (λ (x : MonthUnits). nat_abs x.units) m ms in
    All-cons (λ (x : MonthUnits). nat_abs x.units ≤ total_size (m ∷ ms)) m ms (omega (arith, all))
    (λ k d lt. let rest = each_size ms k d lt in omega (arith, all, rest))

pub months_small : (deltas rests : List MonthUnits) → total_size deltas ≤ MAX_UNITS → total_size rests ≤ MAX_UNITS
    → All IsSmallMonth (months_shown deltas rests)
months_small deltas rests small less =
    All-map IsSmallMonth (λ (m : MonthUnits). record { month = m.month; delta = m.units; left = units_at rests m.month }) deltas
    (λ k d lt. record {
      delta = (let size = each_size deltas k d lt in omega (arith, size, small));
      left = (let size = units_at_le rests (get_or deltas k d).month in omega (arith, size, less));
    })

-- ---- spot months

pub record IsSmallSpot (s : ShownSpot) : Type 0 where
  pub used : s.used ≤ MAX_UNITS
  pub spread_rate : s.spread_rate ≤ MAX_RATE
  pub left : s.left ≤ MAX_UNITS
  pub outright_rate : s.outright_rate ≤ MAX_RATE

module _ (deltas rests : List MonthUnits) (small : total_size deltas ≤ MAX_UNITS) (shrinks : Shrinks deltas rests) where
  spot_small : (s : Spot) → IsSpot s → IsSmallSpot (record {
    month = s.month;
    used = used_of deltas rests s.month;
    spread_rate = s.spread_rate;
    left = left_of rests s.month;
    outright_rate = s.outright_rate;
  })
  spot_small s is =
      let whole = units_at_le deltas s.month in
      let less = left_le deltas rests s.month shrinks in
      record {
        used = omega (arith, whole, small);
        spread_rate = is.spread_rate;
        left = omega (arith, whole, less, small);
        outright_rate = is.outright_rate;
      }

  pub spots_small : (spots : List Spot) → All IsSpot spots → All IsSmallSpot (spots_shown deltas rests spots)
  spots_small spots all =
      let held : Spot → Bool = λ s. not (nat_abs (units_at deltas s.month) == 0) in
      let kept : List Spot = filter held spots in
      let are : All IsSpot kept = All-filter held IsSpot spots all in
      All-map IsSmallSpot (λ (s : Spot). record {
        month = s.month;
        used = used_of deltas rests s.month;
        spread_rate = s.spread_rate;
        left = left_of rests s.month;
        outright_rate = s.outright_rate;
      }) kept (λ k d lt. spot_small (get_or kept k d) (are k d lt))

-- ---- spreads between months

pub record IsSmallIntra (s : ShownIntra) : Type 0 where
  pub some : 0 < s.formed
  pub formed : s.formed ≤ MAX_UNITS
  pub rate : s.rate ≤ MAX_RATE

intra_in_small : (s : Intra) (d : Direction) (n : ℕ) → n ≤ MAX_UNITS → s.rate ≤ MAX_RATE → All IsSmallIntra (intra_in s d n)
intra_in_small s d n few rate =
    in_if IsSmallIntra (n == 0) n (record { priority = s.priority; direction = d; formed = n; rate = s.rate }) refl
    (λ some. record { some = some; formed = few; rate = rate })

-- the delta that forms in a direction, and the delta left then, are no more than the delta before
formed_fits : (s : Intra) (d : Direction) (rests : List MonthUnits) (most : ℕ) → IsIntra s → AreMonths rests
    → spreads_formed (tier_rooms d s.legs rests)
    + total_size (rests_after d (spreads_formed (tier_rooms d s.legs rests)) s.legs rests) ≤ total_size rests
formed_fits s d rests most is are = formed_falls d s.legs rests are.rise (omega (arith, is.at_least_two)) is.ratios_above

intra_ways_small : (s : Intra) (t : TierRests) → IsIntra s → AreMonths t.rests → All IsSmallIntra (intra_ways s (formed_both t s))
intra_ways_small s t is are =
    let n = spreads_formed (tier_rooms ALong s.legs t.rests) in
    let after = rests_after ALong n s.legs t.rests in
    let first = formed_fits s ALong t.rests 0 is are in
    let less : AreMonths after =
    record { rise = legs_rise ALong n s.legs t.rests are.rise; small = omega (arith, first, are.small) } in
    let second = formed_fits s AShort after 0 is less in
    All-append IsSmallIntra (intra_in s ALong n) (intra_in s AShort (spreads_formed (tier_rooms AShort s.legs after)))
    (intra_in_small s ALong n (omega (arith, first, are.small)) is.rate)
    (intra_in_small s AShort (spreads_formed (tier_rooms AShort s.legs after)) (omega (arith, second, less.small)) is.rate)

-- residual deltas of tiers are month deltas
pub rests_are : (t : TierRests) → AreTierRests t → AreMonths t.rests
rests_are t are = record { rise = are.rise; small = omega (arith, are.small) }

pub intras_small : (spreads : List Intra) (t : TierRests) → All IsIntra spreads → AreTierRests t
    → All IsSmallIntra (intras_shown spreads t)
intras_small [] t all are = All-nil IsSmallIntra
intras_small (s ∷ spreads) t all are =
    let is : IsIntra s = All-head IsIntra s spreads all in
    let next = spread_both_ways t s in
    All-append IsSmallIntra (intra_ways s (formed_both t s)) (intras_shown spreads next)
    (intra_ways_small s t is (rests_are t are))
    (intras_small spreads next (All-tail IsIntra s spreads all) (both_ways_are s t is are))

-- ---- spreads between commodities

pub record IsSmallInter (s : ShownInter) : Type 0 where
  pub some : 0 < s.formed
  pub formed : s.formed ≤ MAX_UNITS
  pub used : s.used ≤ MAX_UNITS
  pub basis_points : s.basis_points ≤ MAX_BASIS_POINTS

-- a number of spreads that fits a leg
record FitsLeg (n : ℕ) (leg : CommodityLeg) : Type 0 where
  used : n * leg.ratio ≤ MAX_UNITS
  above : 0 < leg.ratio

inter_in_small : (s : Inter) (leg : CommodityLeg) (d : Direction) (n : ℕ) → FitsLeg n leg → s.basis_points ≤ MAX_BASIS_POINTS
    → All IsSmallInter (inter_in s leg.ratio d n)
inter_in_small s leg d n fits points =
    let one : 1 ≤ leg.ratio = omega (arith, fits.above) in
    let fewer : n * 1 ≤ n * leg.ratio = mul-le-mul (omega arith) one in
    let few : n ≤ MAX_UNITS = omega (arith, fewer, fits.used) in
    in_if IsSmallInter (n == 0) n
    (record { priority = s.priority; direction = d; formed = n; used = n * leg.ratio; basis_points = s.basis_points }) refl
    (λ some. record { some = some; formed = few; used = fits.used; basis_points = points })

-- an element that is found has P if every element that passes the test has P
pub found_has : {A : Type 0} (P : A → Type 0) (p : A → Bool) (xs : List A) (x : A) → find p xs ≡ Some x
    → All (λ y. p y ≡ true → P y) xs → P x
found_has P p [] x e all = cc
found_has P p (y ∷ ys) x e all =
    by_test (p y) refl (λ later. found_has P p ys x later (All-tail (λ z. p z ≡ true → P z) y ys all)) where
      by_test : (b : Bool) → p y ≡ b → (find p ys ≡ Some x → P x) → P x
      by_test true is behind =
          let at : cond (p y) (Some y) (find p ys) ≡ Some y = ap (λ b. cond b (Some y) (find p ys)) is in
          let same : y ≡ x = cc in
          subst P same (All-head (λ z. p z ≡ true → P z) y ys all is)
      by_test false is behind =
          let at : cond (p y) (Some y) (find p ys) ≡ find p ys = ap (λ b. cond b (Some y) (find p ys)) is in
          behind (sym at ∙ e)

pub found_is : {A : Type 0} (P : A → Type 0) (p : A → Bool) (xs : List A) (x : A) → find p xs ≡ Some x → All P xs → P x
found_is P p xs x e all = found_has P p xs x e (λ k d lt passes. all k d lt)

-- the residual deltas of all commodities are within their limit
abbrev pub AreSmallRests : List CommodityState → Type 0
AreSmallRests states = (k : ℕ) → nat_abs (state_at states k).rest ≤ MAX_UNITS

less_after : (bp : ℕ) (a b : CommodityState) → UsesState bp a b → nat_abs a.rest ≤ MAX_UNITS → nat_abs b.rest ≤ MAX_UNITS
less_after bp a b uses small =
    omega (arith, parts_size a.rest, parts_size b.rest, uses.rest.long, uses.rest.short, small)

-- the number of spreads that form in a direction fits each of the legs
legs_fit : (s : Inter) (d : Direction) (states : List CommodityState) → IsInter (length states) s → AreSmallRests states
    → All (FitsLeg (inter_formed_in s d states)) s.legs
legs_fit s d states is small k leg lt =
    let n = inter_formed_in s d states in
    let room : HaveRoom d n s.legs states = formed_have_room (length states) d s states s.legs n is refl refl refl in
    let x = get_or s.legs k leg in
    let fits : n * x.ratio ≤ leg_side d x states = room.room k leg lt in
    let part = part_on-le (market_side d x.side) (rest_at states x.commodity) in
    let same = ap nat_abs (rest_of_state states x.commodity) in
    record { used = omega (arith, fits, part, same, small x.commodity); above = is.ratios_above k leg lt }

one_way_small : (s : Inter) (d : Direction) (states : List CommodityState) → IsInter (length states) s → AreSmallRests states
    → AreSmallRests (inter_one_way s d states)
one_way_small s d states is small k =
    less_after s.basis_points (state_at states k) (state_at (inter_one_way s d states) k) (one_way_uses s d states is k) (small k)

length-one_way : (s : Inter) (d : Direction) (states : List CommodityState) → length (inter_one_way s d states) ≡ length states
length-one_way s d states = length-states_after d (inter_formed_in s d states) s.basis_points s.legs states

both_ways_small : (s : Inter) (states : List CommodityState) → IsInter (length states) s → AreSmallRests states
    → AreSmallRests (inter_both_ways states s)
unfolding inter_both_ways
both_ways_small s states is small =
    let first = inter_one_way s ALong states in
    one_way_small s AShort first (subst (λ n. IsInter n s) (sym (length-one_way s ALong states)) is)
    (one_way_small s ALong states is small)

module _ (s : Inter) (states : List CommodityState) (is : IsInter (length states) s) (small : AreSmallRests states) (c : ℕ) where
  found_small : (o : Option CommodityLeg) → find (λ leg. leg.commodity == c) s.legs ≡ o
      → All IsSmallInter (inter_ways s (inter_formed_both states s) (option_map (λ leg. leg.ratio) o))
  found_small None e = All-nil IsSmallInter
  found_small (Some leg) e =
      let first = inter_one_way s ALong states in
      let n = inter_formed_in s ALong states in
      let m = inter_formed_in s AShort first in
      let long : FitsLeg n leg = found_is (FitsLeg n) (λ x. x.commodity == c) s.legs leg e (legs_fit s ALong states is small) in
      let short : FitsLeg m leg =
      found_is (FitsLeg m) (λ x. x.commodity == c) s.legs leg e
      (legs_fit s AShort first (subst (λ k. IsInter k s) (sym (length-one_way s ALong states)) is)
      (one_way_small s ALong states is small)) in
      All-append IsSmallInter (inter_in s leg.ratio ALong n) (inter_in s leg.ratio AShort m)
      (inter_in_small s leg ALong n long is.basis_points) (inter_in_small s leg AShort m short is.basis_points)

pub inters_small : (n c : ℕ) (spreads : List Inter) (states : List CommodityState) → length states ≡ n → All (IsInter n) spreads
    → AreSmallRests states → All IsSmallInter (inters_shown c spreads states)
inters_small n c [] states long all small = All-nil IsSmallInter
inters_small n c (s ∷ spreads) states long all small =
    let is : IsInter (length states) s = subst (λ k. IsInter k s) (sym long) (All-head (IsInter n) s spreads all) in
    let next = inter_both_ways states s in
    All-append IsSmallInter (inter_ways s (inter_formed_both states s) (ratio_in c s.legs)) (inters_shown c spreads next)
    (found_small s states is small c (find (λ leg. leg.commodity == c) s.legs) refl)
    (inters_small n c spreads next (length-inter_both_ways states s ∙ long) (All-tail (IsInter n) s spreads all)
    (both_ways_small s states is small))
