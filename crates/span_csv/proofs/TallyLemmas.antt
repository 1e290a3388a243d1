-- The counts of the records that were read.
use Rattle.std.proofs.Common.{rules, refl, ◌≡◌, ◌≤◌, ◌+◌, ◌∙◌, sym, ap, subst, arith, ℕ, Bool}
use Rattle.std.proofs.Common.{true, false, if◌then◌else◌, List, [], ◌∷◌, ◌++◌, length, Some}
use Rattle.std.specs.Prelude.{◌==◌, ◌&&◌, codes, bytes_eq}
use Rattle.std.specs.List.{count_by}
use Rattle.std.proofs.lemmas.List.Sums.{sum_by_push, count_by-le-length}
use Rattle.std.proofs.lemmas.Bool.{eq-eqb, ne_eqb}
use Rattle.span_tables.proofs.NameLemmas.{same_name}
use Rattle.span_tables.specs.declared.records.Record.{Record}
use Rattle.span_tables.specs.declared.records.Record.TheVariants as record_of
use Rattle.span_csv.specs.near.Checks.{AddsRecord, Counts, IsOfKind, KeepsProfile, Tallies, count_for, count_in, count_word, count_words}
use Rattle.span_csv.specs.near.Checks.{limit_of}
use Rattle.span_csv.specs.ParamFaults.{counted, exceeds_limit, is_formed, profile_of}
use Rattle.span_csv.specs.Records.{Fields, kind_of, record_of_kind, text_at}
use Rattle.span_csv.specs.declared.tally.Tally.{Tally}
use Rattle.span_csv.proofs.CountLemmas.{named_word, word_of}
use Rattle.span_csv.proofs.FormedLemmas.{counted_few, counted_more, counted_same}
use Rattle.span_csv.specs.declared.grammar.Kind.{Kind}
use Rattle.span_csv.specs.declared.grammar.Kind.TheVariants as kind

-- a record of a kind begins with its word
kind_word : (r : Fields) (kind : Kind) → kind_of r ≡ Some kind → text_at r 0 ≡ word_of kind
kind_word r kind e = same_name (text_at r 0) (word_of kind) (named_word (text_at r 0) kind e)

-- ---- one more record

more : (p : Fields → Bool) (rs : List Fields) (r : Fields) (b : Bool) → p r ≡ b
    → count_by p (rs ++ r ∷ []) ≡ count_by p rs + (if b then 1 else 0)
more p rs r b e = rw (← e) (sum_by_push _ rs r)

-- a count of records by their first field
word_more : (a b : ℕ) (word : List ℕ) (rs : List Fields) (r : Fields) (first : List ℕ) → text_at r 0 ≡ first
    → a ≡ b + (if bytes_eq first word then 1 else 0)
    → b ≡ count_word word rs → a ≡ count_word word (rs ++ r ∷ [])
word_more a b word rs r first is counts before =
    let step = more (λ x. bytes_eq (text_at x 0) word) rs r (bytes_eq first word) (ap (λ t. bytes_eq t word) is) in
    counts ∙ ap (λ n. n + (if bytes_eq first word then 1 else 0)) before ∙ sym step

-- a count of records by their first two fields
words_more : (a b : ℕ) (word cc : List ℕ) (rs : List Fields) (r : Fields) (first : List ℕ) → text_at r 0 ≡ first
    → a ≡ b + (if bytes_eq first word && bytes_eq (text_at r 1) cc then 1 else 0)
    → b ≡ count_words word cc rs → a ≡ count_words word cc (rs ++ r ∷ [])
words_more a b word cc rs r first is counts before =
    let step = more (λ x. bytes_eq (text_at x 0) word && bytes_eq (text_at x 1) cc) rs r (bytes_eq first word && bytes_eq (text_at r 1) cc)
    (ap (λ t. bytes_eq t word && bytes_eq (text_at r 1) cc) is) in
    counts ∙ ap (λ n. n + (if bytes_eq first word && bytes_eq (text_at r 1) cc then 1 else 0)) before ∙ sym step

-- each count grows by the record if the record is of the count's kind and commodity
record Grows (t u : Tally) (first : List ℕ) (r : Fields) : Type 0 where
  profile : u.profile ≡ t.profile
  commodities : u.commodities ≡ t.commodities + (if bytes_eq first (codes "COMMODITY") then 1 else 0)
  contracts : u.contracts ≡ t.contracts + (if bytes_eq first (codes "CONTRACT") then 1 else 0)
  tiers : (q : List ℕ) → count_in u.tiers q ≡ count_in t.tiers q
      + (if bytes_eq first (codes "TIER") && bytes_eq (text_at r 1) q then 1 else 0)
  intras : (q : List ℕ) → count_in u.intras q ≡ count_in t.intras q
      + (if bytes_eq first (codes "INTRA") && bytes_eq (text_at r 1) q then 1 else 0)
  spots : (q : List ℕ) → count_in u.spots q ≡ count_in t.spots q
      + (if bytes_eq first (codes "SPOT") && bytes_eq (text_at r 1) q then 1 else 0)
  inters : u.inters ≡ t.inters + (if bytes_eq first (codes "INTER") then 1 else 0)

grown : (t u : Tally) (rs : List Fields) (r : Fields) (first : List ℕ) → text_at r 0 ≡ first → Counts t rs → Grows t u first r
    → Counts u (rs ++ r ∷ [])
grown t u rs r first is counts g = record {
  commodities = word_more _ _ (codes "COMMODITY") rs r first is g.commodities counts.commodities;
  contracts = word_more _ _ (codes "CONTRACT") rs r first is g.contracts counts.contracts;
  tiers = λ cc. words_more _ _ (codes "TIER") cc rs r first is (g.tiers cc) (counts.tiers cc);
  intras = λ cc. words_more _ _ (codes "INTRA") cc rs r first is (g.intras cc) (counts.intras cc);
  spots = λ cc. words_more _ _ (codes "SPOT") cc rs r first is (g.spots cc) (counts.spots cc);
  inters = word_more _ _ (codes "INTER") rs r first is g.inters counts.inters;
}

grows : (t u : Tally) (kind : Kind) (r : Fields) → AddsRecord (record_of_kind kind r) t u → Grows t u (word_of kind) r
grows t u kind.Set r adds = search rules
grows t u _ r adds = search rules

-- the profile is the one that the first record gives
profile_more : (p : ℕ) (rs : List Fields) (r : Fields) → p ≡ profile_of rs
    → (if length rs == 0 then profile_of (r ∷ []) else p) ≡ profile_of (rs ++ r ∷ [])
profile_more p [] r before = refl
profile_more p (x ∷ rs) r before =
    let later : (length (x ∷ rs) == 0) ≡ false = ne_eqb (length (x ∷ rs)) 0 (λ e. absurd (omega (arith, e))) in
    rw later before

module _ (t kept : Tally) (rs : List Fields) (r : Fields) (n : ℕ) (len : length rs ≡ n) (keeps : KeepsProfile (n == 0) r t kept)
    (tallies : Tallies t rs) where
  -- the profile is kept, and the record is not counted yet
  kept_profile : kept.profile ≡ profile_of (rs ++ r ∷ [])
  kept_profile =
      ap (λ (k : Tally). k.profile) keeps ∙ ap (λ k. if k == 0 then profile_of (r ∷ []) else t.profile) (sym len)
      ∙ profile_more t.profile rs r tallies.profile

  pub kept_counts : Counts kept (counted rs)
  kept_counts = subst (λ k. Counts k (counted rs)) (sym keeps) (record {
    commodities = tallies.counts.commodities;
    contracts = tallies.counts.contracts;
    tiers = tallies.counts.tiers;
    intras = tallies.counts.intras;
    spots = tallies.counts.spots;
    inters = tallies.counts.inters;
  })

  -- a record with one of P1 to P7 is not counted
  pub tally_same : is_formed rs r ≡ false → Tallies kept (rs ++ r ∷ [])
  tally_same e = record { profile = kept_profile; counts = subst (Counts kept) (sym (counted_same rs r e)) kept_counts }

  -- a record with none of P1 to P7 is counted
  pub tally_more : (u : Tally) (x : Record) → IsOfKind r x → is_formed rs r ≡ true → AddsRecord x kept u → Tallies u (rs ++ r ∷ [])
  tally_more u x of formed adds =
      let g = grows kept u of.0 r (subst (λ y. AddsRecord y kept u) of.2 adds) in
      record {
        profile = g.profile ∙ kept_profile;
        counts = subst (Counts u) (sym (counted_more rs r formed)) (grown kept u (counted rs) r (word_of of.0) (kind_word r of.0 of.1)
            kept_counts g);
      }

-- ---- the limit

count_exceeds : (t : Tally) (kind : Kind) (rs : List Fields) (r : Fields) → kind_of r ≡ Some kind → Counts t rs
    → exceeds_limit rs r (kind_of r) ≡ (count_for t (record_of_kind kind r) == limit_of (record_of_kind kind r))
count_exceeds t kind.Set rs r is tallies = ap (exceeds_limit rs r) is
count_exceeds t kind.Commodity rs r is tallies = rw (is, kind_word r kind.Commodity is, tallies.commodities) refl
count_exceeds t kind.Contract rs r is tallies = rw (is, kind_word r kind.Contract is, tallies.contracts) refl
count_exceeds t kind.Tier rs r is tallies = rw (is, kind_word r kind.Tier is, tallies.tiers (text_at r 1)) refl
count_exceeds t kind.Intra rs r is tallies = rw (is, kind_word r kind.Intra is, tallies.intras (text_at r 1)) refl
count_exceeds t kind.Spot rs r is tallies = rw (is, kind_word r kind.Spot is, tallies.spots (text_at r 1)) refl
count_exceeds t kind.Inter rs r is tallies = rw (is, kind_word r kind.Inter is, tallies.inters) refl

few_counted : (t : Tally) (x : Record) (rs : List Fields) → Counts t rs → count_for t x ≤ length rs
few_counted t (record_of.Set x) rs counts = omega arith
few_counted t (record_of.Commodity x) rs counts = rw counts.commodities (count_by-le-length _ rs)
few_counted t (record_of.Contract x) rs counts = rw counts.contracts (count_by-le-length _ rs)
few_counted t (record_of.Tier x) rs counts = subst (λ n. n ≤ length rs) (sym (counts.tiers x.commodity)) (count_by-le-length _ rs)
few_counted t (record_of.Intra x) rs counts = subst (λ n. n ≤ length rs) (sym (counts.intras x.commodity)) (count_by-le-length _ rs)
few_counted t (record_of.Spot x) rs counts = subst (λ n. n ≤ length rs) (sym (counts.spots x.commodity)) (count_by-le-length _ rs)
few_counted t (record_of.Inter x) rs counts = rw counts.inters (count_by-le-length _ rs)

-- no more records are counted than were read
pub count_small : (t : Tally) (x : Record) (rs : List Fields) → Counts t (counted rs) → count_for t x ≤ length rs
count_small t x rs counts = omega (arith, few_counted t x (counted rs) counts, counted_few rs)

module _ (t : Tally) (x : Record) (rs : List Fields) (r : Fields) (count limit : ℕ) (of : IsOfKind r x) (tallies : Counts t rs)
    (counts : count ≡ count_for t x) (limits : limit ≡ limit_of x) where
  exceeds : exceeds_limit rs r (kind_of r) ≡ (count_for t x == limit_of x)
  exceeds = count_exceeds t of.0 rs r of.1 tallies ∙ ap (λ y. count_for t y == limit_of y) (sym of.2)

  -- if a kind already has the maximum number of records, one more exceeds the limit
  pub count_full : count ≡ limit → exceeds_limit rs r (kind_of r) ≡ true
  count_full e = exceeds ∙ eq-eqb _ _ (sym counts ∙ e ∙ limits)

  -- if a kind has fewer records than the maximum, one more is within the limit
  pub count_within : (count ≡ limit → ⊥) → exceeds_limit rs r (kind_of r) ≡ false
  count_within e = exceeds ∙ ne_eqb _ _ (λ h. e (counts ∙ h ∙ sym limits))
