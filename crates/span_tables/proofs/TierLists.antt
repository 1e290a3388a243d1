-- The tiers of a commodity: no two of them share a month, and each leg of a spread has the months of one of them.
use Rattle.std.proofs.Common.{◌≡◌, ◌≢◌, ℕ, suc, zero, ◌+◌, ◌<◌, ◌≤◌, Bool, true, false, cond, not}
use Rattle.std.proofs.Common.{List, [], ◌∷◌, length, map, filter, get_or, refl, sym, ap, ◌∙◌, subst, arith}
use Rattle.std.specs.Prelude.{◌&&◌, ◌||◌, ◌==◌, All, MatchOption, bytes_eq, filter_map}
use Rattle.std.specs.List.{AllByRecursion, list_any, position_or_len}
use Rattle.std.proofs.lemmas.Bool.{not-false, and_parts, or_parts, or_right}
use Rattle.std.proofs.lemmas.Bool.Decides.{nat_tests}
use Rattle.std.proofs.lemmas.List.Elements.{All-filter, All-map, All-weaker, filter_passes}
use Rattle.std.proofs.lemmas.Slice.Eq.{bytes_eq-Decides}
use Rattle.span_tables.specs.Names.{has_repeat}
use Rattle.span_tables.specs.Rules.{as_intra, as_tier, has_tier, names_no_tier, share_month}
use Rattle.span_tables.specs.Tables.{has_months, intra_spread, month_leg}
use Rattle.span_tables.specs.declared.records.Intra.{Intra}
use Rattle.span_tables.specs.declared.records.IntraLeg.{IntraLeg}
use Rattle.span_tables.specs.declared.records.IntraRecord.{IntraRecord}
use Rattle.span_tables.specs.declared.records.Record.{Record}
use Rattle.span_tables.specs.declared.records.Record.TheVariants as record_of
use Rattle.span_tables.specs.declared.records.Tier.{Tier}
use Rattle.span_tables.specs.declared.legs.MonthLeg.{MonthLeg}
use Rattle.span_tables.proofs.KeptRules.{none_any, of_kind}

-- ---- for the users of the tiers of a commodity

known_step : (b : Bool) (m n : ℕ) → (b ≡ false → m < n) → cond (not b) (1 + m) 0 < suc n
known_step true m n more = omega arith
known_step false m n more = let lt : m < n = more refl in omega arith

none_passed : (b c : Bool) → b ≡ false → (b || c) ≡ true → c ≡ true
none_passed true c fails e = cc
none_passed false c fails e = e

-- if an element passes, the first that passes has an index
pub position_known : {X : Type 0} (p : X → Bool) (xs : List X) → list_any p xs ≡ true → position_or_len p xs < length xs
position_known p [] e = cc
position_known p (x ∷ xs) e =
    known_step (p x) (position_or_len p xs) (length xs) (λ fails. position_known p xs (none_passed (p x) (list_any p xs) fails e))

-- a month of two tiers is shared
shared : (t u : Tier) (m : ℕ) → t.first ≤ m → m ≤ t.last → u.first ≤ m → m ≤ u.last → share_month t u ≡ true
shared t u m a b c d = grind (arith, nat_tests)

-- no month is a month of the first tier and of a later one
first_disjoint : (t : Tier) (tiers : List Tier) (k : ℕ) (d : Tier) (m : ℕ) → list_any (share_month t) tiers ≡ false
    → k < length tiers → t.first ≤ m → m ≤ t.last → (get_or tiers k d).first ≤ m → m ≤ (get_or tiers k d).last → ⊥
first_disjoint t tiers k d m none lt a b e f =
    cc (none_any (share_month t) tiers none k d lt, shared t (get_or tiers k d) m a b e f)

-- no month is a month of two tiers, if no two tiers share a month
pub tiers_disjoint : (tiers : List Tier) → has_repeat share_month tiers ≡ false → (i j : ℕ) → i < length tiers → j < length tiers
    → i ≢ j → (d : Tier) → (m : ℕ) → (get_or tiers i d).first ≤ m → m ≤ (get_or tiers i d).last → (get_or tiers j d).first ≤ m
    → m ≤ (get_or tiers j d).last → ⊥
tiers_disjoint [] apart i j lt below other d m a b e f = absurd (omega arith)
tiers_disjoint (t ∷ tiers) apart zero zero lt below other d m a b e f = other refl
tiers_disjoint (t ∷ tiers) apart zero (suc j) lt below other d m a b e f =
    first_disjoint t tiers j d m (or_parts (list_any (share_month t) tiers) (has_repeat share_month tiers) apart).0 (omega arith) a b e f
tiers_disjoint (t ∷ tiers) apart (suc i) zero lt below other d m a b e f =
    first_disjoint t tiers i d m (or_parts (list_any (share_month t) tiers) (has_repeat share_month tiers) apart).0 (omega arith) e f a b
tiers_disjoint (t ∷ tiers) apart (suc i) (suc j) lt below other d m a b e f =
    tiers_disjoint tiers (or_parts (list_any (share_month t) tiers) (has_repeat share_month tiers) apart).1 i j (omega arith) (omega arith)
    (λ same. other (ap suc same)) d m a b e f

-- ---- the tiers of one commodity share no month

-- the tiers are of one commodity and share a month: the form of the rule
abbrev pub overlap : Tier → Tier → Bool
overlap u t = bytes_eq u.commodity t.commodity && share_month t u

share_sym : (t u : Tier) → share_month t u ≡ share_month u t
share_sym t u = grind (arith, nat_tests)

module _ (id : List ℕ) where
  abbrev IsOfId : Tier → Bool
  IsOfId t = bytes_eq t.commodity id

  same_commodity : (t u : Tier) → IsOfId t ≡ true → IsOfId u ≡ true → bytes_eq t.commodity u.commodity ≡ true
  same_commodity t u a b =
      (bytes_eq-Decides t.commodity u.commodity).1
      ((bytes_eq-Decides t.commodity id).0 a ∙ sym ((bytes_eq-Decides u.commodity id).0 b))

  later_if : (b : Bool) (t u : Tier) (tiers : List Tier) → IsOfId u ≡ b → IsOfId t ≡ true → overlap t u ≡ false
      → list_any (share_month t) (filter IsOfId tiers) ≡ false
      → list_any (share_month t) (cond b (u ∷ filter IsOfId tiers) (filter IsOfId tiers)) ≡ false
  later_if true t u tiers is of free more =
      let apart : share_month u t ≡ false = rw (same_commodity t u of is) at free in
      rw (share_sym t u ∙ apart) more
  later_if false t u tiers is of free more = more

  later_free : (t : Tier) (tiers : List Tier) → IsOfId t ≡ true → list_any (overlap t) tiers ≡ false
      → list_any (share_month t) (filter IsOfId tiers) ≡ false
  later_free t [] of none = refl
  later_free t (u ∷ tiers) of none =
      let h = or_parts (overlap t u) (list_any (overlap t) tiers) none in
      later_if (IsOfId u) t u tiers refl of h.0 (later_free t tiers of h.1)

  apart_if : (b : Bool) (t : Tier) (tiers : List Tier) → IsOfId t ≡ b → list_any (overlap t) tiers ≡ false
      → has_repeat share_month (filter IsOfId tiers) ≡ false
      → has_repeat share_month (cond b (t ∷ filter IsOfId tiers) (filter IsOfId tiers)) ≡ false
  apart_if true t tiers is none more = rw (later_free t tiers is none) more
  apart_if false t tiers is none more = more

  -- if no two tiers of one commodity share a month, no two of this commodity do
  pub apart_of : (tiers : List Tier) → has_repeat overlap tiers ≡ false → has_repeat share_month (filter IsOfId tiers) ≡ false
  apart_of [] e = refl
  apart_of (t ∷ tiers) e =
      let h = or_parts (list_any (overlap t) tiers) (has_repeat overlap tiers) e in
      apart_if (IsOfId t) t tiers refl h.0 (apart_of tiers h.1)

-- ---- each leg has the months of a tier

same_months : (t : Tier) → ((t.first == t.first) && (t.last == t.last)) ≡ true
same_months t = grind (arith, nat_tests)

module _ (id : List ℕ) (leg : IntraLeg) where
  abbrev IsItsTier : Tier → Bool
  IsItsTier t = bytes_eq t.commodity id && (t.number == leg.tier)

  -- a tier of the commodity has the months that the leg has among these tiers
  abbrev HasTier : MonthLeg → List Tier → Type 0
  HasTier m tiers = list_any (has_months m) (filter (λ t. bytes_eq t.commodity id) tiers) ≡ true

  other_first : (b : Bool) (m : MonthLeg) (t : Tier) (tiers : List Tier) → bytes_eq t.commodity id ≡ b → HasTier m tiers
      → list_any (has_months m) (cond b (t ∷ filter (λ u. bytes_eq u.commodity id) tiers) (filter (λ u. bytes_eq u.commodity id) tiers))
      ≡ true
  other_first true m t tiers is more = or_right (has_months m t) _ more
  other_first false m t tiers is more = more

  leg_if : (b : Bool) (t : Tier) (tiers : List Tier) → IsItsTier t ≡ b → (b || list_any IsItsTier tiers) ≡ true
      → (list_any IsItsTier tiers ≡ true → HasTier (month_leg tiers id leg) tiers)
      → HasTier (month_leg (t ∷ tiers) id leg) (t ∷ tiers)
  leg_if true t tiers is some more = rw (is, (and_parts (bytes_eq t.commodity id) (t.number == leg.tier) is).0, same_months t) refl
  leg_if false t tiers is some more =
      rw is (other_first (bytes_eq t.commodity id) (month_leg tiers id leg) t tiers refl (more some))

  leg_known : (tiers : List Tier) → list_any IsItsTier tiers ≡ true → HasTier (month_leg tiers id leg) tiers
  leg_known [] e = cc
  leg_known (t ∷ tiers) e = leg_if (IsItsTier t) t tiers refl e (leg_known tiers)

-- each leg of the spread has the tier that it names
abbrev pub NamesTiers : List Tier → IntraRecord → Type 0
NamesTiers tiers s = All (λ leg. list_any (λ t. bytes_eq t.commodity s.commodity && (t.number == leg.tier)) tiers ≡ true) s.legs.items

names_tiers : (all : List Record) (r : Record) → names_no_tier all r ≡ false
    → MatchOption (as_intra r) (Unit {0}) (NamesTiers (filter_map as_tier all))
names_tiers all (record_of.Intra s) e =
    λ k d lt. not-false _ (none_any (λ (leg : IntraLeg). not (has_tier all s.commodity leg.tier)) s.legs.items e k d lt)
names_tiers all _ e = tt

-- if no spread names a tier that does not exist, each spread names only tiers of the file
pub all_named : (all rs : List Record) → AllByRecursion (λ r. names_no_tier all r ≡ false) rs
    → All (NamesTiers (filter_map as_tier all)) (filter_map as_intra rs)
all_named all = of_kind as_intra _ (λ r. names_no_tier all r ≡ false) (names_tiers all)

-- each leg of the spread has the months of a tier of the commodity
abbrev pub HasTiers : List ℕ → List Tier → Intra → Type 0
HasTiers id tiers s = All (λ leg. list_any (has_months leg) (filter (λ t. bytes_eq t.commodity id) tiers) ≡ true) s.legs

spread_named : (id : List ℕ) (tiers : List Tier) (s : IntraRecord) → bytes_eq s.commodity id ≡ true → NamesTiers tiers s
    → HasTiers id tiers (intra_spread tiers s)
spread_named id tiers s of named =
    let same : s.commodity ≡ id = (bytes_eq-Decides s.commodity id).0 of in
    subst (λ n. HasTiers n tiers (intra_spread tiers s)) same
    (All-map (λ (m : MonthLeg). list_any (has_months m) (filter (λ t. bytes_eq t.commodity s.commodity) tiers) ≡ true)
    (month_leg tiers s.commodity) s.legs.items
    (All-weaker (λ (leg : IntraLeg). list_any (λ t. bytes_eq t.commodity s.commodity && (t.number == leg.tier)) tiers ≡ true)
    (λ leg. list_any (has_months (month_leg tiers s.commodity leg)) (filter (λ t. bytes_eq t.commodity s.commodity) tiers) ≡ true)
    (λ leg. leg_known s.commodity leg tiers) s.legs.items named))

-- each leg of the spreads of a commodity has the months of one of its tiers
pub legs_named : (id : List ℕ) (tiers : List Tier) (ss : List IntraRecord) → All (NamesTiers tiers) ss
    → All (HasTiers id tiers) (map (intra_spread tiers) (filter (λ s. bytes_eq s.commodity id) ss))
legs_named id tiers ss named =
    let of = filter_passes (λ (s : IntraRecord). bytes_eq s.commodity id) ss in
    let kept = All-filter (λ (s : IntraRecord). bytes_eq s.commodity id) (NamesTiers tiers) ss named in
    All-map (HasTiers id tiers) (intra_spread tiers) (filter (λ s. bytes_eq s.commodity id) ss)
    (λ k d lt. spread_named id tiers (get_or (filter (λ s. bytes_eq s.commodity id) ss) k d) (of k d lt) (kept k d lt))
