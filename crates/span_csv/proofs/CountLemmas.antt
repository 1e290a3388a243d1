-- A record without a fault, and the number of records of a kind if no record has a fault.
use Rattle.std.proofs.Common.{◌≡◌, ◌∙◌, refl, sym, ap, ap₂, subst, arith, inl, inr, ℕ, ◌+◌}
use Rattle.std.proofs.Common.{◌≤◌, Bool, true, false, not, cond, ◌&&◌, ◌==◌, if◌then◌else◌}
use Rattle.std.proofs.Common.{List, [], ◌∷◌, ◌++◌, length, map, Option, Some, None, append_assoc}
use Rattle.std.specs.Prelude.{count_by, filter_map, is_none, codes}
use Rattle.std.specs.List.{cons_option}
use Rattle.std.specs.Option.{option_map_or}
use Rattle.std.proofs.lemmas.Bool.{eqb-false, cases_Bool}
use Rattle.std.proofs.lemmas.List.{append-nil}
use Rattle.std.proofs.lemmas.List.Sums.{sum_by-cons, sum_by_push}
use Rattle.span_tables.specs.Laws.{IsFaultFree}
use Rattle.span_tables.specs.declared.records.Record.{Record}
use Rattle.span_tables.proofs.NameLemmas.{same_name}
use Rattle.span_csv.specs.Records.{Fields, has_word_form}
use Rattle.span_csv.specs.Records.{is_in_range, kind_named, kind_of, layout_of, is_word, text_at, record_of_kind, param_record}
use Rattle.span_csv.specs.ParamFaults.{counted, is_set, profile_of, some_fail, exceeds_limit, record_fault, record_faults}
use Rattle.span_csv.proofs.FormedLemmas.{counted_more, free_formed}
use Rattle.span_csv.proofs.LowestLaws.{all_fail}
use Rattle.span_csv.specs.declared.grammar.Kind.{Kind}
use Rattle.span_csv.specs.declared.grammar.Kind.TheVariants as kind

-- ---- a record without a fault

-- every test for a fault of the record after the earlier ones fails
pub record IsClean (earlier : List Fields) (r : Fields) : Type 0 where
  pub first : ((length earlier == 0) && not (is_set r)) ≡ false
  pub second : (not (length earlier == 0) && is_set r) ≡ false
  pub kind : is_none (kind_of r) ≡ false
  pub layout : is_none (layout_of (profile_of earlier) r) ≡ false
  pub words : some_fail has_word_form (profile_of earlier) r ≡ false
  pub ranges : some_fail is_in_range (profile_of earlier) r ≡ false
  pub room : exceeds_limit (counted earlier) r (kind_of r) ≡ false

pub clean : (earlier : List Fields) (r : Fields) → record_fault earlier r ≡ None → IsClean earlier r
clean earlier r e =
    let h = all_fail (record_faults earlier r) e in
    record {
      first = h.0;
      second = h.1.0;
      kind = h.1.1.0;
      layout = h.1.1.1.0;
      words = h.1.1.1.1.0;
      ranges = h.1.1.1.1.1.1.0;
      room = h.1.1.1.1.1.1.1.0;
    }

-- ---- kinds and their words

abbrev pub word_of : Kind → List ℕ
word_of kind.Set = codes "SET"
word_of kind.Commodity = codes "COMMODITY"
word_of kind.Contract = codes "CONTRACT"
word_of kind.Tier = codes "TIER"
word_of kind.Intra = codes "INTRA"
word_of kind.Spot = codes "SPOT"
word_of kind.Inter = codes "INTER"

-- the record's first field is the word of a kind
abbrev pub has_kind : Kind → Fields → Bool
has_kind kind r = is_word (word_of kind) (text_at r 0)

by_test : (b : Bool) (j k : Kind) (rest : Option Kind) (P : Kind → Type 0) → (b ≡ true → P j)
    → (rest ≡ Some k → P k)
    → (if b then Some j else rest) ≡ Some k → P k
by_test true j k rest P here later e = let same : j ≡ k = cc in subst P same (here refl)
by_test false j k rest P here later e = later e

abbrev pub IsWord : List ℕ → Kind → Type 0
IsWord text kind = is_word (word_of kind) text ≡ true

-- a kind is named by its word
pub named_word : (text : List ℕ) (k : Kind) → kind_named text ≡ Some k → IsWord text k
named_word text k e =
    by_test (is_word (codes "SET") text) kind.Set k _ (IsWord text) (λ h. h)
    (by_test (is_word (codes "COMMODITY") text) kind.Commodity k _ (IsWord text) (λ h. h)
    (by_test (is_word (codes "CONTRACT") text) kind.Contract k _ (IsWord text) (λ h. h)
    (by_test (is_word (codes "TIER") text) kind.Tier k _ (IsWord text) (λ h. h)
    (by_test (is_word (codes "INTRA") text) kind.Intra k _ (IsWord text) (λ h. h)
    (by_test (is_word (codes "SPOT") text) kind.Spot k _ (IsWord text) (λ h. h)
    (by_test (is_word (codes "INTER") text) kind.Inter k _ (IsWord text) (λ h. h) (λ h. cc)))))))
    e

kind_of_word : (k : Kind) → kind_named (word_of k) ≡ Some k
kind_of_word kind.Set = refl
kind_of_word _ = refl

-- a record that has a kind's word is of the kind
pub word_named : (r : Fields) (k : Kind) → has_kind k r ≡ true → kind_of r ≡ Some k
word_named r k h = ap kind_named (same_name (text_at r 0) (word_of k) h) ∙ kind_of_word k

-- two kinds are the same if they have the same word
abbrev pub same_kind : Kind → Kind → Bool
same_kind j k = is_word (word_of k) (word_of j)

-- a record of a kind has the word of that kind and of no other
has_kind-same : (r : Fields) (j k : Kind) → kind_of r ≡ Some j → has_kind k r ≡ same_kind j k
has_kind-same r j k e = ap (is_word (word_of k)) (same_name (text_at r 0) (word_of j) (named_word (text_at r 0) j e))

-- the value of an option that is not `None`
pub some_of : {A : Type 0} (o : Option A) → is_none o ≡ false → (x : A) × (o ≡ Some x)
some_of None e = cc
some_of (Some x) e = (x, refl)

-- the kind of a record without a fault
pub clean_kind : (earlier : List Fields) (r : Fields) → IsClean earlier r → (k : Kind) × (kind_of r ≡ Some k)
clean_kind earlier r c = some_of (kind_of r) c.kind

-- the value of a record is of the record's kind
pub param_record-kind : (r : Fields) (k : Kind) → kind_of r ≡ Some k → param_record r ≡ record_of_kind k r
unfolding param_record
param_record-kind r k e = rw e refl

-- ---- counts

-- whether there is a value that passes a test
abbrev pub passes : {A : Type 0} → (A → Bool) → Option A → Bool
passes test o = option_map_or test o false

-- the value picked from a record passes a test exactly if the record is of this kind and passes a test of its fields
abbrev pub IsPicked : {A : Type 0} → Kind → (Record → Option A) → (A → Bool) → (Fields → Bool) → Type 0
IsPicked kind pick test of_fields =
    (k : Kind) (r : Fields) → passes test (pick (record_of_kind k r)) ≡ (same_kind k kind && of_fields r)

count_by-cons_option : {A : Type 0} (test : A → Bool) (o : Option A) (xs : List A)
    → count_by test (cons_option o xs) ≡ cond (passes test o) 1 0 + count_by test xs
count_by-cons_option test None xs = omega arith
count_by-cons_option test (Some x) xs = sum_by-cons (λ y. cond (test y) 1 0) x xs

-- the picked values that pass a test are as many as the records whose fields pass, if no record has a fault
pub count_picked : {A : Type 0} (kind : Kind) (pick : Record → Option A) (test : A → Bool) (of_fields : Fields → Bool)
    → IsPicked kind pick test of_fields
    → (before rows : List Fields) → IsFaultFree record_fault before rows
    → count_by test (filter_map pick (map param_record rows)) ≡ count_by (λ r. has_kind kind r && of_fields r) rows
count_picked kind pick test of_fields picked before [] free = refl
count_picked kind pick test of_fields picked before (r ∷ rows) free =
    let k = clean_kind before r (clean before r free.0) in
    let here : passes test (pick (param_record r)) ≡ (has_kind kind r && of_fields r) =
    ap (λ (x : Record). passes test (pick x)) (param_record-kind r k.0 k.1) ∙ picked k.0 r
    ∙ ap (λ b. b && of_fields r) (sym (has_kind-same r k.0 kind k.1)) in
    count_by-cons_option test (pick (param_record r)) (filter_map pick (map param_record rows))
    ∙ ap₂ (λ b n. cond b 1 0 + n) here (count_picked kind pick test of_fields picked (before ++ r ∷ []) rows free.1)
    ∙ sym (sum_by-cons (λ x. cond (has_kind kind x && of_fields x) 1 0) r rows)

count_push : (test : Fields → Bool) (rows : List Fields) (r : Fields) (most : ℕ) → count_by test rows ≤ most
    → (test r ≡ true → (count_by test rows == most) ≡ false)
    → count_by test (rows ++ r ∷ []) ≤ most
count_push test rows r most le room =
    elim (cases_Bool (test r)) [
      | inl counts ↦
          let apart = eqb-false (count_by test rows) most (room counts) in
          rw (sum_by_push (λ x. cond (test x) 1 0) rows r, counts) (omega (arith, apart))
      | inr other ↦ rw (sum_by_push (λ x. cond (test x) 1 0) rows r, other) (omega arith)
    ]

-- at most `most` records pass a test, if no record without a fault is one too many
pub never_more : (test : Fields → Bool) (most : ℕ)
    → ((earlier : List Fields) (r : Fields) → counted earlier ≡ earlier → IsClean earlier r → test r ≡ true
    → (count_by test earlier == most) ≡ false)
    → (before rows : List Fields) → counted before ≡ before → count_by test before ≤ most → IsFaultFree record_fault before rows
    → count_by test (before ++ rows) ≤ most
never_more test most room before [] all le free = rw (append-nil before) le
never_more test most room before (r ∷ rows) all le free =
    let here = count_push test before r most le (room before r all (clean before r free.0)) in
    let all_more : counted (before ++ r ∷ []) ≡ before ++ r ∷ [] =
    counted_more before r (free_formed before r free.0) ∙ ap (λ zs. zs ++ r ∷ []) all in
    rw (← append_assoc before (r ∷ []) rows) (never_more test most room (before ++ r ∷ []) rows all_more here free.1)
