-- The records of a parameter file without a fault are in their ranges, and each kind has no more records than its
-- limit.
use Rattle.std.proofs.Common.{◌≡◌, ◌∙◌, refl, sym, ap, ap₂, subst, arith, ℕ, ◌<◌, ◌≤◌, Bool, true, false, not}
use Rattle.std.proofs.Common.{◌&&◌, ◌||◌, ◌==◌, List, [], ◌∷◌, ◌++◌, length, length-append, map, Option, Some, None, Ok}
use Rattle.std.specs.Prelude.{All, nat_le, count_by, filter_map, is_some, bytes_eq}
use Rattle.std.specs.List.{list_all}
use Rattle.std.proofs.Math.Bool.{and-true}
use Rattle.std.proofs.lemmas.Bool.{and_parts, and_from, eq-eqb, le-leb, ne_eqb, not-false, both_ways}
use Rattle.std.proofs.lemmas.List.Elements.{All-head, All-tail}
use Rattle.std.proofs.lemmas.List.Sums.{sum_by-cons}
use Rattle.span_tables.specs.Faults.{first_of}
use Rattle.span_tables.specs.Laws.{IsFaultFree}
use Rattle.span_tables.specs.Profiles.{facts_of}
use Rattle.span_tables.specs.Rules.{as_set, as_commodity, as_contract, as_tier, as_intra, as_spot, as_inter, contracts_in}
use Rattle.span_tables.specs.near.Limits.{in_range, at_most_each, keeps_counts, keeps_profile, is_readable}
use Rattle.span_tables.specs.Tables.{profile_in}
use Rattle.span_tables.specs.declared.limits.TheConstants.{MAX_COMMODITIES, MAX_CONTRACTS, MAX_TIERS}
use Rattle.span_tables.specs.declared.limits.TheConstants.{MAX_INTRA_SPREADS, MAX_SPOT_MONTHS, MAX_INTER_SPREADS}
use Rattle.span_tables.specs.declared.records.Contract.{Contract}
use Rattle.span_tables.specs.declared.records.Record.{Record}
use Rattle.span_tables.proofs.FaultLaws.{first_fault_none, ok_parts}
use Rattle.span_tables.proofs.NameLemmas.{same_name}
use Rattle.span_csv.specs.Records.{Fields, records_of, kind_of, text_at, record_of_kind, param_record}
use Rattle.span_csv.specs.ParamFaults.{is_set, profile_of, exceeds_limit, count_of_kind, count_of_commodity}
use Rattle.span_csv.specs.ParamFaults.{counted, faults_in, param_faults, params_of, record_fault}
use Rattle.span_csv.proofs.KindLemmas.{clean_right}
use Rattle.span_csv.proofs.ProfileLaws.{params_values}
use Rattle.span_csv.proofs.RangeLemmas.{kept}
use Rattle.span_csv.proofs.CountLemmas.{IsClean, clean, clean_kind, param_record-kind, has_kind, word_of}
use Rattle.span_csv.proofs.CountLemmas.{named_word, word_named, IsPicked, count_picked, never_more}
use Rattle.span_csv.specs.declared.grammar.Kind.{Kind}
use Rattle.span_csv.specs.declared.grammar.Kind.TheVariants as kind

-- ---- ranges

-- a record without a fault is in its ranges
clean_in_range : (earlier : List Fields) (r : Fields) → IsClean earlier r → in_range (param_record r) ≡ true
clean_in_range earlier r c =
    let k = clean_kind earlier r c in
    let right = clean_right earlier r c k.0 k.1 in
    rw (param_record-kind r k.0 k.1) (kept k.0 (profile_of earlier) r right.0 right.1)

all_in_range : (before rows : List Fields) → IsFaultFree record_fault before rows → list_all in_range (map param_record rows) ≡ true
all_in_range before [] free = refl
all_in_range before (r ∷ rows) free =
    and_from _ _ (clean_in_range before r (clean before r free.0)) (all_in_range (before ++ r ∷ []) rows free.1)

-- ---- the SET

-- the first record is a SET
first_set : (r : Fields) → IsClean [] r → is_some (as_set (param_record r)) ≡ true
first_set r c =
    let word : is_set r ≡ true = not-false (is_set r) c.first in
    rw (param_record-kind r kind.Set (word_named r kind.Set word)) refl

not_set : (k : Kind) (r : Fields) → kind_of r ≡ Some k → is_set r ≡ false
    → not (is_some (as_set (record_of_kind k r))) ≡ true
not_set kind.Set r e other = absurd (both_ways (is_set r) other (named_word (text_at r 0) kind.Set e))
not_set _ r e other = refl

-- no record after the first is a SET
later_set : (earlier : List Fields) (r : Fields) → 0 < length earlier → IsClean earlier r
    → not (is_some (as_set (param_record r))) ≡ true
later_set earlier r some c =
    let k = clean_kind earlier r c in
    let behind : (length earlier == 0) ≡ false = ne_eqb (length earlier) 0 (λ e. absurd (omega (arith, e))) in
    let other : is_set r ≡ false = rw behind at c.second in
    rw (param_record-kind r k.0 k.1) (not_set k.0 r k.1 other)

no_more_sets : (before rows : List Fields) → 0 < length before → IsFaultFree record_fault before rows
    → list_all (λ x. not (is_some (as_set x))) (map param_record rows) ≡ true
no_more_sets before [] some free = refl
no_more_sets before (r ∷ rows) some free =
    and_from _ _ (later_set before r some (clean before r free.0))
    (no_more_sets (before ++ r ∷ []) rows (omega (arith, length-append before (r ∷ []))) free.1)

-- ---- counts

-- the records of a kind that pass a test are no more than the kind's limit
module _ (kind : Kind) (most : ℕ) (test : Fields → Bool) (limit : (earlier : List Fields) (r : Fields) → text_at r 0 ≡ word_of kind
    → test r ≡ true → exceeds_limit earlier r (Some kind) ≡ (count_by (λ x. has_kind kind x && test x) earlier == most)) where
  room : (earlier : List Fields) (r : Fields) → counted earlier ≡ earlier → IsClean earlier r → (has_kind kind r && test r) ≡ true
      → (count_by (λ x. has_kind kind x && test x) earlier == most) ≡ false
  room earlier r all c h =
      let parts = and_parts (has_kind kind r) (test r) h in
      sym (limit earlier r (same_name (text_at r 0) (word_of kind) parts.0) parts.1)
      ∙ ap₂ (λ rs k. exceeds_limit rs r k) (sym all) (sym (word_named r kind parts.0)) ∙ c.room

  few : {A : Type 0} (pick : Record → Option A) (by : A → Bool) → IsPicked kind pick by test → (rows : List Fields)
      → IsFaultFree record_fault [] rows → count_by by (filter_map pick (map param_record rows)) ≤ most
  few pick by picked rows free =
      let in_rows = never_more (λ r. has_kind kind r && test r) most room [] rows refl (omega arith) free in
      let same = count_picked kind pick by test picked [] rows free in omega (arith, in_rows, same)

length-count : {A : Type 0} (xs : List A) → count_by (λ x. true) xs ≡ length xs
length-count [] = refl
length-count (x ∷ xs) = sum_by-cons (λ x. 1) x xs ∙ omega (arith, length-count xs)

few_of_kind : {A : Type 0} (kind : Kind) (most : ℕ) (pick : Record → Option A)
    → ((earlier : List Fields) (r : Fields) → exceeds_limit earlier r (Some kind) ≡ (count_of_kind earlier r == most))
    → IsPicked kind pick (λ x. true) (λ r. true) → (rows : List Fields) → IsFaultFree record_fault [] rows
    → nat_le (length (filter_map pick (map param_record rows))) most ≡ true
few_of_kind kind most pick limit picked rows free =
    let counts = few kind most (λ x. true) (λ earlier r word passes.
    limit earlier r ∙ ap (λ w. count_by (λ (x : Fields). bytes_eq (text_at x 0) w) earlier == most) word
    ∙ ap (λ (p : Fields → Bool). count_by p earlier == most) (λ i. λ x. sym (and-true (has_kind kind x)) i))
    pick (λ x. true) picked rows free in
    le-leb _ most (omega (arith, counts, length-count (filter_map pick (map param_record rows))))

all_true : {A : Type 0} (test : A → Bool) (xs : List A) → ((x : A) → test x ≡ true) → list_all test xs ≡ true
all_true test [] each = refl
all_true test (x ∷ xs) each = and_from (test x) (list_all test xs) (each x) (all_true test xs each)

few_of_each : {A : Type 0} (kind : Kind) (most : ℕ) (pick : Record → Option A) (commodity_of : A → List ℕ)
    → ((earlier : List Fields) (r : Fields) → exceeds_limit earlier r (Some kind) ≡ (count_of_commodity earlier r == most))
    → ((commodity : List ℕ) → IsPicked kind pick (λ x. bytes_eq (commodity_of x) commodity) (λ r. bytes_eq (text_at r 1) commodity))
    → (rows : List Fields) → IsFaultFree record_fault [] rows
    → at_most_each most commodity_of (filter_map pick (map param_record rows)) ≡ true
few_of_each kind most pick commodity_of limit picked rows free =
    all_true _ (filter_map pick (map param_record rows)) (λ x.
    let id = commodity_of x in
    le-leb _ most (few kind most (λ r. bytes_eq (text_at r 1) id) (λ earlier r word passes.
    limit earlier r ∙ ap₂ (λ v w. count_by (λ (x : Fields). bytes_eq (text_at x 0) v && bytes_eq (text_at x 1) w) earlier == most) word
    (same_name (text_at r 1) id passes)) pick (λ y. bytes_eq (commodity_of y) id) (picked id) rows free))

commodity_picked : IsPicked kind.Commodity as_commodity (λ x. true) (λ r. true)
commodity_picked kind.Commodity r = refl
commodity_picked _ r = refl

contract_picked : IsPicked kind.Contract as_contract (λ x. true) (λ r. true)
contract_picked kind.Contract r = refl
contract_picked _ r = refl

inter_picked : IsPicked kind.Inter as_inter (λ x. true) (λ r. true)
inter_picked kind.Inter r = refl
inter_picked _ r = refl

tier_picked : (commodity : List ℕ) → IsPicked kind.Tier as_tier (λ t. bytes_eq t.commodity commodity)
    (λ r. bytes_eq (text_at r 1) commodity)
tier_picked commodity kind.Tier r = refl
tier_picked commodity _ r = refl

intra_picked : (commodity : List ℕ) → IsPicked kind.Intra as_intra (λ s. bytes_eq s.commodity commodity)
    (λ r. bytes_eq (text_at r 1) commodity)
intra_picked commodity kind.Intra r = refl
intra_picked commodity _ r = refl

spot_picked : (commodity : List ℕ) → IsPicked kind.Spot as_spot (λ s. bytes_eq s.commodity commodity)
    (λ r. bytes_eq (text_at r 1) commodity)
spot_picked commodity kind.Spot r = refl
spot_picked commodity _ r = refl

counts_kept : (rows : List Fields) → IsFaultFree record_fault [] rows → keeps_counts (map param_record rows) ≡ true
counts_kept rows free =
    and_from _ _
    (and_from _ _
    (and_from _ _
    (and_from _ _
    (and_from _ _
    (few_of_kind kind.Commodity MAX_COMMODITIES as_commodity (λ earlier r. refl) commodity_picked rows free)
    (few_of_kind kind.Contract MAX_CONTRACTS as_contract (λ earlier r. refl) contract_picked rows free))
    (few_of_kind kind.Inter MAX_INTER_SPREADS as_inter (λ earlier r. refl) inter_picked rows free))
    (few_of_each kind.Tier MAX_TIERS as_tier (λ t. t.commodity) (λ earlier r. refl) tier_picked rows free))
    (few_of_each kind.Intra MAX_INTRA_SPREADS as_intra (λ s. s.commodity) (λ earlier r. refl) intra_picked rows free))
    (few_of_each kind.Spot MAX_SPOT_MONTHS as_spot (λ s. s.commodity) (λ earlier r. refl) spot_picked rows free)

-- ---- option values

all_zero : (xs : List Contract) → All (λ x. x.extras.option_value ≡ 0) xs → list_all (λ x. x.extras.option_value == 0) xs ≡ true
all_zero [] all = refl
all_zero (x ∷ xs) all =
    and_from _ _ (eq-eqb x.extras.option_value 0 (All-head (λ (y : Contract). y.extras.option_value ≡ 0) x xs all))
    (all_zero xs (All-tail (λ (y : Contract). y.extras.option_value ≡ 0) x xs all))

value_or : (has : Bool) (xs : List Contract) → (has ≡ false → All (λ x. x.extras.option_value ≡ 0) xs)
    → (has || list_all (λ x. x.extras.option_value == 0) xs) ≡ true
value_or true xs zero = refl
value_or false xs zero = all_zero xs (zero refl)

-- ---- all conditions

free_readable : (r : Fields) (rows : List Fields) → IsFaultFree record_fault [] (r ∷ rows)
    → keeps_profile (map param_record (r ∷ rows)) ≡ true → is_readable (map param_record (r ∷ rows)) ≡ true
unfolding is_readable
free_readable r rows free profile =
    and_from _ _
    (and_from _ _
    (and_from _ _
    (and_from _ _ (first_set r (clean [] r free.0)) (no_more_sets (r ∷ []) rows (omega arith) free.1))
    (all_in_range [] (r ∷ rows) free))
    (counts_kept (r ∷ rows) free))
    profile

rows_readable : (rows : List Fields) → first_of (faults_in rows) ≡ None → keeps_profile (map param_record rows) ≡ true
    → is_readable (map param_record rows) ≡ true
unfolding faults_in
rows_readable [] e profile = cc
rows_readable (r ∷ rows) e profile = free_readable r rows (first_fault_none record_fault [] (r ∷ rows) e) profile

-- the records of a parameter file without a fault are readable
pub params_readable : (bytes : List ℕ) (records : List Record) → params_of bytes ≡ Ok records → is_readable records ≡ true
unfolding params_of param_faults
params_readable bytes records e =
    let parts = ok_parts (first_of (faults_in (records_of bytes))) (map param_record (records_of bytes)) records e in
    let profile = value_or (facts_of (profile_in records)).options_have_value (contracts_in records) (params_values bytes records e) in
    subst (λ rs. keeps_profile rs ≡ true → is_readable rs ≡ true) parts.1 (rows_readable (records_of bytes) parts.0) profile
