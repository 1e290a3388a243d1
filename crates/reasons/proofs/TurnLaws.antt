-- The spreads shown are the lines of each spread in turn, only for directions in which more than 0 form, by rising
-- priority.
use Rattle.std.proofs.Common.{◌≡◌, ℕ, ◌+◌, ◌*◌, ◌<◌, ◌≤◌, Bool, true, false, cond, List, [], ◌∷◌, ◌++◌, length, take, flat_map, filter, map}
use Rattle.std.proofs.Common.{refl, sym, ap, ◌∙◌, append_assoc, arith, subst}
use Rattle.std.specs.Prelude.{All, None, Option, Some, ◌==◌, bytes_eq, fold}
use Rattle.std.specs.List.{AllByRecursion, enumerate_from}
use Rattle.std.proofs.lemmas.List.{length-append, take_at}
use Rattle.std.proofs.lemmas.List.Elements.{All-append, All-nil}
use Rattle.std.proofs.lemmas.List.Sums.{fold_push}
use Rattle.span_tables.specs.Laws.{IsRisingBy}
use Rattle.span_tables.specs.Tables.{inter_spread, inters_of, intra_spread, intras_of, tables_of}
use Rattle.span_tables.specs.declared.records.Inter.{Inter}
use Rattle.span_tables.specs.declared.records.InterRecord.{InterRecord}
use Rattle.span_tables.specs.declared.records.Intra.{Intra}
use Rattle.span_tables.specs.declared.records.IntraRecord.{IntraRecord}
use Rattle.span_tables.specs.declared.records.Record.{Record}
use Rattle.span_tables.specs.Rules.{inters_in, intras_in}
use Rattle.span_tables.specs.declared.sides.Direction.{Direction}
use Rattle.span_tables.specs.declared.sides.Direction.TheVariants.{ALong, AShort}
use Rattle.span_tables.specs.declared.sides.SpreadsFormed.{SpreadsFormed}
use Rattle.span_tables.proofs.OrderLaws.{rising_rises}
use Rattle.spread_stage.specs.Spreads.{TierRests, spread_both_ways}
use Rattle.spread_stage.specs.Spreads as months
use Rattle.inter_credit.specs.Credits.{inter_both_ways}
use Rattle.inter_credit.specs.Credits as commodities
use Rattle.inter_credit.specs.declared.commodity_state.CommodityState.{CommodityState}
use Rattle.reasons.specs.Shown.{inter_in, inter_ways, inters_shown, intra_in, intra_ways, intras_shown, ratio_in}
use Rattle.reasons.specs.declared.shown.ShownInter.{ShownInter}
use Rattle.reasons.specs.declared.shown.ShownIntra.{ShownIntra}
use Rattle.reasons.proofs.SmallLaws.{in_if}

-- ---- one after another

module _ {S A B : Type 0} (step : S → A → S) (ways : S → A → List B) where
  -- the items of each element, from the state that the elements before it left
  abbrev turns : S → List A → List B
  turns state [] = []
  turns state (x ∷ xs) = ways state x ++ turns (step state x) xs

  abbrev turn : S → List A → ℕ × A → List B
  turn state all p = ways (fold step state (take p.0 all)) p.1

  turns_behind : (state : S) (front xs : List A)
      → turns (fold step state front) xs ≡ flat_map (turn state (front ++ xs)) (enumerate_from (length front) xs)
  turns_behind state front [] = refl
  turns_behind state front (x ∷ xs) =
      let here : take (length front) (front ++ x ∷ xs) ≡ front = take_at front (x ∷ xs) (length front) refl in
      let long : length (front ++ x ∷ []) ≡ length front + 1 = length-append front (x ∷ []) in
      let same : (front ++ x ∷ []) ++ xs ≡ front ++ x ∷ xs = append_assoc front (x ∷ []) xs in
      let next : fold step state (front ++ x ∷ []) ≡ step (fold step state front) x = fold_push step state front x in
      let rest : turns (step (fold step state front) x) xs
      ≡ flat_map (turn state (front ++ x ∷ xs)) (enumerate_from (length front + 1) xs) =
      ap (λ s. turns s xs) (sym next) ∙ turns_behind state (front ++ x ∷ []) xs
      ∙ (λ k. flat_map (turn state (same k)) (enumerate_from (long k) xs)) in
      (λ k. ways (fold step state (sym here k)) x ++ rest k)

  -- each element gives its items from the state after the elements before it
  pub in_turn : (state : S) (xs : List A) → turns state xs ≡ flat_map (turn state xs) (enumerate_from 0 xs)
  in_turn state xs = turns_behind state [] xs

-- ---- between months

module _ (s : Intra) where
  intra_some_in : (d : Direction) (n : ℕ) → All (λ x. 0 < x.formed) (intra_in s d n)
  intra_some_in d n =
      in_if (λ (x : ShownIntra). 0 < x.formed) (n == 0) n
      (record { priority = s.priority; direction = d; formed = n; rate = s.rate }) refl (λ some. some)

  intra_some_ways : (f : SpreadsFormed) → All (λ x. 0 < x.formed) (intra_ways s f)
  intra_some_ways f =
      All-append (λ (x : ShownIntra). 0 < x.formed) (intra_in s ALong f.a_long) (intra_in s AShort f.a_short)
      (intra_some_in ALong f.a_long) (intra_some_in AShort f.a_short)

pub intras_some : (spreads : List Intra) (t : TierRests) → All (λ x. 0 < x.formed) (intras_shown spreads t)
intras_some [] t = All-nil (λ (x : ShownIntra). 0 < x.formed)
intras_some (s ∷ spreads) t =
    All-append (λ (x : ShownIntra). 0 < x.formed) (intra_ways s (months.formed_both t s)) (intras_shown spreads (spread_both_ways t s))
    (intra_some_ways s (months.formed_both t s)) (intras_some spreads (spread_both_ways t s))

abbrev intra_turn : TierRests → Intra → List ShownIntra
intra_turn t s = intra_ways s (months.formed_both t s)

intras_turns : (spreads : List Intra) (t : TierRests) → intras_shown spreads t ≡ turns spread_both_ways intra_turn t spreads
intras_turns [] t = refl
intras_turns (s ∷ spreads) t = ap (λ xs. intra_turn t s ++ xs) (intras_turns spreads (spread_both_ways t s))

pub intras_in_turn : (spreads : List Intra) (t : TierRests)
    → intras_shown spreads t
    ≡ flat_map (λ x. intra_ways x.1 (months.formed_both (fold spread_both_ways t (take x.0 spreads)) x.1)) (enumerate_from 0 spreads)
intras_in_turn spreads t = intras_turns spreads t ∙ in_turn spread_both_ways intra_turn t spreads

-- ---- between commodities

module _ (s : Inter) where
  inter_some_in : (ratio : ℕ) (d : Direction) (n : ℕ) → All (λ x. 0 < x.formed) (inter_in s ratio d n)
  inter_some_in ratio d n =
      in_if (λ (x : ShownInter). 0 < x.formed) (n == 0) n
      (record { priority = s.priority; direction = d; formed = n; used = n * ratio; basis_points = s.basis_points }) refl
      (λ some. some)

  inter_some_ways : (f : SpreadsFormed) (ratio : Option ℕ) → All (λ x. 0 < x.formed) (inter_ways s f ratio)
  inter_some_ways f None = All-nil (λ (x : ShownInter). 0 < x.formed)
  inter_some_ways f (Some ratio) =
      All-append (λ (x : ShownInter). 0 < x.formed) (inter_in s ratio ALong f.a_long) (inter_in s ratio AShort f.a_short)
      (inter_some_in ratio ALong f.a_long) (inter_some_in ratio AShort f.a_short)

pub inters_some : (c : ℕ) (spreads : List Inter) (states : List CommodityState)
    → All (λ x. 0 < x.formed) (inters_shown c spreads states)
inters_some c [] states = All-nil (λ (x : ShownInter). 0 < x.formed)
inters_some c (s ∷ spreads) states =
    All-append (λ (x : ShownInter). 0 < x.formed)
    (inter_ways s (commodities.inter_formed_both states s) (ratio_in c s.legs)) (inters_shown c spreads (inter_both_ways states s))
    (inter_some_ways s (commodities.inter_formed_both states s) (ratio_in c s.legs))
    (inters_some c spreads (inter_both_ways states s))

module _ (c : ℕ) where
  abbrev inter_turn : List CommodityState → Inter → List ShownInter
  inter_turn states s = inter_ways s (commodities.inter_formed_both states s) (ratio_in c s.legs)

  inters_turns : (spreads : List Inter) (states : List CommodityState)
      → inters_shown c spreads states ≡ turns inter_both_ways inter_turn states spreads
  inters_turns [] states = refl
  inters_turns (s ∷ spreads) states = ap (λ xs. inter_turn states s ++ xs) (inters_turns spreads (inter_both_ways states s))

  pub inters_in_turn : (spreads : List Inter) (states : List CommodityState)
      → inters_shown c spreads states
      ≡ flat_map (λ x. inter_ways x.1 (commodities.inter_formed_both (fold inter_both_ways states (take x.0 spreads)) x.1)
      (ratio_in c (x.1).legs)) (enumerate_from 0 spreads)
  inters_in_turn spreads states = inters_turns spreads states ∙ in_turn inter_both_ways inter_turn states spreads

-- ---- by rising priority

all-append : {A : Type 0} (P : A → Type 0) (xs ys : List A) → AllByRecursion P xs → AllByRecursion P ys → AllByRecursion P (xs ++ ys)
all-append P [] ys h k = k
all-append P (x ∷ xs) ys h k = (h.0, all-append P xs ys h.1 k)

-- elements of one key, followed by rising elements with the same key or higher ones, are rising
rising_behind : {A : Type 0} (key : A → ℕ) (p : ℕ) (xs ys : List A) → AllByRecursion (λ x. key x ≡ p) xs
    → AllByRecursion (λ y. p ≤ key y) ys → IsRisingBy key ys → IsRisingBy key (xs ++ ys)
rising_behind key p [] ys same above up = up
rising_behind {A = A} key p (x ∷ xs) ys same above up = (
  all-append (λ y. key x ≤ key y) xs ys (as_high xs same.1) (not_lower ys above),
  rising_behind key p xs ys same.1 above up,
) where
  as_high : (zs : List A) → AllByRecursion (λ z. key z ≡ p) zs → AllByRecursion (λ z. key x ≤ key z) zs
  as_high [] all = tt
  as_high (z ∷ zs) all = (omega (arith, same.0, all.0), as_high zs all.1)

  not_lower : (zs : List A) → AllByRecursion (λ z. p ≤ key z) zs → AllByRecursion (λ z. key x ≤ key z) zs
  not_lower [] all = tt
  not_lower (z ∷ zs) all = (omega (arith, same.0, all.0), not_lower zs all.1)

one_if : {A : Type 0} (P : A → Type 0) (b : Bool) (x : A) → P x → AllByRecursion P (cond b [] (x ∷ []))
one_if P true x is = tt
one_if P false x is = (is, tt)

all_filter : {A : Type 0} (P : A → Type 0) (p : A → Bool) (xs : List A) → AllByRecursion P xs → AllByRecursion P (filter p xs)
all_filter P p [] h = tt
all_filter P p (x ∷ xs) h = by_test (p x) (all_filter P p xs h.1) where
  by_test : (b : Bool) → AllByRecursion P (filter p xs) → AllByRecursion P (cond b (x ∷ filter p xs) (filter p xs))
  by_test true rest = (h.0, rest)
  by_test false rest = rest

filter_rises : {A : Type 0} (key : A → ℕ) (p : A → Bool) (xs : List A) → IsRisingBy key xs → IsRisingBy key (filter p xs)
filter_rises key p [] h = tt
filter_rises key p (x ∷ xs) h = by_test (p x) (filter_rises key p xs h.1) where
  by_test : (b : Bool) → IsRisingBy key (filter p xs) → IsRisingBy key (cond b (x ∷ filter p xs) (filter p xs))
  by_test true rest = (all_filter (λ y. key x ≤ key y) p xs h.0, rest)
  by_test false rest = rest

-- a map that preserves the keys preserves their order
module _ {A B : Type 0} (key : A → ℕ) (other : B → ℕ) (g : A → B) (same : (x : A) → other (g x) ≡ key x) where
  map_above : (p : ℕ) (xs : List A) → AllByRecursion (λ x. p ≤ key x) xs → AllByRecursion (λ y. p ≤ other y) (map g xs)
  map_above p [] h = tt
  map_above p (x ∷ xs) h = (let e = same x in omega (arith, e, h.0), map_above p xs h.1)

  map_rises : (xs : List A) → IsRisingBy key xs → IsRisingBy other (map g xs)
  map_rises [] h = tt
  map_rises (x ∷ xs) h = (
    subst (λ p. AllByRecursion (λ y. p ≤ other y) (map g xs)) (sym (same x)) (map_above (key x) xs h.0),
    map_rises xs h.1,
  )

module _ (p : ℕ) where
  intra_ways_above : (s : Intra) (f : SpreadsFormed) → p ≤ s.priority → AllByRecursion (λ x. p ≤ x.priority) (intra_ways s f)
  intra_ways_above s f le =
      all-append (λ (x : ShownIntra). p ≤ x.priority) (intra_in s ALong f.a_long) (intra_in s AShort f.a_short)
      (one_if (λ (x : ShownIntra). p ≤ x.priority) (f.a_long == 0) _ le)
      (one_if (λ (x : ShownIntra). p ≤ x.priority) (f.a_short == 0) _ le)

  intras_above : (spreads : List Intra) (t : TierRests) → AllByRecursion (λ s. p ≤ s.priority) spreads
      → AllByRecursion (λ x. p ≤ x.priority) (intras_shown spreads t)
  intras_above [] t h = tt
  intras_above (s ∷ spreads) t h =
      all-append (λ (x : ShownIntra). p ≤ x.priority) (intra_ways s (months.formed_both t s))
      (intras_shown spreads (spread_both_ways t s)) (intra_ways_above s (months.formed_both t s) h.0)
      (intras_above spreads (spread_both_ways t s) h.1)

  inter_ways_above : (s : Inter) (f : SpreadsFormed) (ratio : Option ℕ) → p ≤ s.priority
      → AllByRecursion (λ x. p ≤ x.priority) (inter_ways s f ratio)
  inter_ways_above s f None le = tt
  inter_ways_above s f (Some ratio) le =
      all-append (λ (x : ShownInter). p ≤ x.priority) (inter_in s ratio ALong f.a_long) (inter_in s ratio AShort f.a_short)
      (one_if (λ (x : ShownInter). p ≤ x.priority) (f.a_long == 0) _ le)
      (one_if (λ (x : ShownInter). p ≤ x.priority) (f.a_short == 0) _ le)

  inters_above : (c : ℕ) (spreads : List Inter) (states : List CommodityState) → AllByRecursion (λ s. p ≤ s.priority) spreads
      → AllByRecursion (λ x. p ≤ x.priority) (inters_shown c spreads states)
  inters_above c [] states h = tt
  inters_above c (s ∷ spreads) states h =
      all-append (λ (x : ShownInter). p ≤ x.priority)
      (inter_ways s (commodities.inter_formed_both states s) (ratio_in c s.legs))
      (inters_shown c spreads (inter_both_ways states s))
      (inter_ways_above s (commodities.inter_formed_both states s) (ratio_in c s.legs) h.0)
      (inters_above c spreads (inter_both_ways states s) h.1)

intra_ways_same : (s : Intra) (f : SpreadsFormed) → AllByRecursion (λ x. x.priority ≡ s.priority) (intra_ways s f)
intra_ways_same s f =
    all-append (λ (x : ShownIntra). x.priority ≡ s.priority) (intra_in s ALong f.a_long) (intra_in s AShort f.a_short)
    (one_if (λ (x : ShownIntra). x.priority ≡ s.priority) (f.a_long == 0) _ refl)
    (one_if (λ (x : ShownIntra). x.priority ≡ s.priority) (f.a_short == 0) _ refl)

inter_ways_same : (s : Inter) (f : SpreadsFormed) (ratio : Option ℕ) → AllByRecursion (λ x. x.priority ≡ s.priority) (inter_ways s f ratio)
inter_ways_same s f None = tt
inter_ways_same s f (Some ratio) =
    all-append (λ (x : ShownInter). x.priority ≡ s.priority) (inter_in s ratio ALong f.a_long) (inter_in s ratio AShort f.a_short)
    (one_if (λ (x : ShownInter). x.priority ≡ s.priority) (f.a_long == 0) _ refl)
    (one_if (λ (x : ShownInter). x.priority ≡ s.priority) (f.a_short == 0) _ refl)

intras_rise : (spreads : List Intra) (t : TierRests) → IsRisingBy (λ s. s.priority) spreads
    → IsRisingBy (λ x. x.priority) (intras_shown spreads t)
intras_rise [] t up = tt
intras_rise (s ∷ spreads) t up =
    let next = spread_both_ways t s in
    rising_behind (λ (x : ShownIntra). x.priority) s.priority (intra_ways s (months.formed_both t s)) (intras_shown spreads next)
    (intra_ways_same s (months.formed_both t s)) (intras_above s.priority spreads next up.0) (intras_rise spreads next up.1)

inters_rise : (c : ℕ) (spreads : List Inter) (states : List CommodityState) → IsRisingBy (λ s. s.priority) spreads
    → IsRisingBy (λ x. x.priority) (inters_shown c spreads states)
inters_rise c [] states up = tt
inters_rise c (s ∷ spreads) states up =
    let next = inter_both_ways states s in
    let f = commodities.inter_formed_both states s in
    rising_behind (λ (x : ShownInter). x.priority) s.priority (inter_ways s f (ratio_in c s.legs)) (inters_shown c spreads next)
    (inter_ways_same s f (ratio_in c s.legs)) (inters_above s.priority c spreads next up.0) (inters_rise c spreads next up.1)

-- the priorities rise for the tables of any records
pub intras_rising : (rs : List Record) (id : List ℕ) (t : TierRests)
    → IsRisingBy (λ x. x.priority) (intras_shown (intras_of (tables_of rs) id) t)
unfolding intras_of tables_of
intras_rising rs id t =
    let tables = tables_of rs in
    let records = filter (λ (s : IntraRecord). bytes_eq s.commodity id) tables.intra_records in
    intras_rise (map (intra_spread tables.tiers) records) t
    (map_rises (λ (s : IntraRecord). s.priority) (λ (s : Intra). s.priority) (intra_spread tables.tiers) (λ s. refl) records
    (filter_rises (λ (s : IntraRecord). s.priority) (λ s. bytes_eq s.commodity id) tables.intra_records
    (rising_rises (λ (s : IntraRecord). s.priority) (intras_in rs))))

pub inters_rising : (rs : List Record) (c : ℕ) (states : List CommodityState)
    → IsRisingBy (λ x. x.priority) (inters_shown c (inters_of (tables_of rs)) states)
unfolding inters_of tables_of
inters_rising rs c states =
    let tables = tables_of rs in
    inters_rise c (map (inter_spread tables.commodities) tables.inter_records) states
    (map_rises (λ (s : InterRecord). s.priority) (λ (s : Inter). s.priority) (inter_spread tables.commodities) (λ s. refl)
    tables.inter_records (rising_rises (λ (s : InterRecord). s.priority) (inters_in rs)))
