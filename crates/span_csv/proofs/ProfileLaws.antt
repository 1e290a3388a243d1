-- The field that a profile adds to a contract is 0 under the profiles without that field.
use Rattle.std.proofs.Common.{◌≡◌, ◌∙◌, refl, ap, subst, arith, ℕ, ◌+◌, ◌<◌, ◌≤◌, true, false}
use Rattle.std.proofs.Common.{List, [], ◌∷◌, ◌++◌, length, length-append, map, Some, None, Ok}
use Rattle.std.specs.Prelude.{All}
use Rattle.std.specs.List.{AllByRecursion, cons_option}
use Rattle.std.proofs.lemmas.Bool.{not-false}
use Rattle.std.proofs.lemmas.List.Elements.{All-from_recursion}
use Rattle.span_tables.specs.Faults.{first_of}
use Rattle.span_tables.specs.Laws.{IsFaultFree}
use Rattle.span_tables.specs.Rules.{as_contract, contracts_in}
use Rattle.span_tables.specs.Profiles.{facts_of}
use Rattle.span_tables.specs.Tables.{profile_in}
use Rattle.span_tables.specs.declared.records.Contract.{Contract}
use Rattle.span_tables.specs.declared.records.ProductKind.{ProductKind}
use Rattle.span_tables.specs.declared.records.Record.{Record}
use Rattle.span_tables.proofs.FaultLaws.{first_fault_none, ok_parts}
use Rattle.span_csv.specs.ParamFaults.{faults_in, is_set, param_faults, params_of, profile_of, record_fault}
use Rattle.span_csv.specs.Records.{Fields, a_version, contract_back, contract_record, count_at, extras_place, is_in_range, kind_of}
use Rattle.span_csv.specs.Records.{param_record, product_at, record_of_kind, records_of, set_forms, text_at}
use Rattle.span_csv.proofs.CountLemmas.{IsClean, clean, clean_kind, param_record-kind, word_named}
use Rattle.span_csv.proofs.FormLemmas.{count_past, right_at}
use Rattle.span_csv.proofs.KindLemmas.{clean_right}
use Rattle.span_csv.specs.declared.grammar.Kind.{Kind}
use Rattle.span_csv.specs.declared.grammar.Kind.TheVariants as kind

-- after its risk array a contract of the profile has at most this many fields
abbrev EndsBy : ℕ → ℕ → Type 0
EndsBy few profile = (product : ProductKind) → length (contract_back profile product) ≤ few

-- one record after another: the first is the SET, which has the profile

profile_stays : (before : List Fields) (r : Fields) → 0 < length before → profile_of (before ++ r ∷ []) ≡ profile_of before
profile_stays [] r some = absurd (omega arith)
profile_stays (x ∷ before) r some = refl

first_kind : (r : Fields) → IsClean [] r → kind_of r ≡ Some kind.Set
first_kind r c = word_named r kind.Set (not-false (is_set r) c.first)

-- the first record has a version
version_there : (r : Fields) → IsClean [] r → is_in_range a_version (text_at r 2) ≡ true
version_there r c = right_at set_forms r 1 1 a_version (clean_right [] r c kind.Set (first_kind r c)).1 refl

set_profile : (r : Fields) (rows : List Fields) → IsClean [] r
    → profile_in (map param_record (r ∷ rows)) ≡ profile_of (r ∷ [])
set_profile r rows c =
    let set : is_set r ≡ true = not-false (is_set r) c.first in
    rw (param_record-kind r kind.Set (first_kind r c), set, version_there r c) refl

set_no_contract : (r : Fields) (rows : List Fields) → kind_of r ≡ Some kind.Set
    → contracts_in (map param_record (r ∷ rows)) ≡ contracts_in (map param_record rows)
set_no_contract r rows is = rw (param_record-kind r kind.Set is) refl

-- ---- the value of a contract's field at an index after its risk array

module _ (place : ℕ) (says : Contract → ℕ) (is_said : (r : Fields) → says (contract_record r) ≡ count_at r (extras_place + place)) where
  abbrev SaysNothing : Contract → Type 0
  SaysNothing x = says x ≡ 0

  clean_contract : (earlier : List Fields) (r : Fields) → IsClean earlier r → EndsBy place (profile_of earlier)
      → kind_of r ≡ Some kind.Contract → SaysNothing (contract_record r)
  clean_contract earlier r c short is =
      let size = (clean_right earlier r c kind.Contract is).0 in
      is_said r ∙ count_past r (extras_place + place) (omega (arith, size, short (product_at r 3)))

  -- one more record
  contract_more : (k : Kind) (r : Fields) (rest : List Contract) → (k ≡ kind.Contract → SaysNothing (contract_record r))
      → AllByRecursion SaysNothing rest → AllByRecursion SaysNothing (cons_option (as_contract (record_of_kind k r)) rest)
  contract_more kind.Contract r rest here others = (here refl, others)
  contract_more _ r rest here others = others

  none_behind : (before rows : List Fields) → 0 < length before → EndsBy place (profile_of before)
      → IsFaultFree record_fault before rows → AllByRecursion SaysNothing (contracts_in (map param_record rows))
  none_behind before [] some short free = tt
  none_behind before (r ∷ rows) some short free =
      let c = clean before r free.0 in
      let k = clean_kind before r c in
      let next : EndsBy place (profile_of (before ++ r ∷ [])) = rw (profile_stays before r some) short in
      let rest = none_behind (before ++ r ∷ []) rows (omega (arith, length-append before (r ∷ []))) next free.1 in
      rw (param_record-kind r k.0 k.1)
      (contract_more k.0 r (contracts_in (map param_record rows)) (λ e. clean_contract before r c short (k.1 ∙ ap Some e)) rest)

  free_rows : (r : Fields) (rows : List Fields) → IsFaultFree record_fault [] (r ∷ rows)
      → EndsBy place (profile_in (map param_record (r ∷ rows)))
      → All SaysNothing (contracts_in (map param_record (r ∷ rows)))
  free_rows r rows free short =
      let is = first_kind r (clean [] r free.0) in
      let apart = subst (EndsBy place) (set_profile r rows (clean [] r free.0)) short in
      rw (set_no_contract r rows is)
      (All-from_recursion SaysNothing (contracts_in (map param_record rows)) (none_behind (r ∷ []) rows (omega arith) apart free.1))

  rows_say : (rows : List Fields) → first_of (faults_in rows) ≡ None → EndsBy place (profile_in (map param_record rows))
      → All SaysNothing (contracts_in (map param_record rows))
  unfolding faults_in
  rows_say [] e short = cc
  rows_say (r ∷ rows) e short = free_rows r rows (first_fault_none record_fault [] (r ∷ rows) e) short

  -- in a parameter file without a fault the field is 0 under a profile whose contracts end before it
  says_nothing : (bytes : List ℕ) (records : List Record) → params_of bytes ≡ Ok records → EndsBy place (profile_in records)
      → All SaysNothing (contracts_in records)
  unfolding params_of param_faults
  says_nothing bytes records e =
      let parts = ok_parts (first_of (faults_in (records_of bytes))) (map param_record (records_of bytes)) records e in
      subst (λ rs. EndsBy place (profile_in rs) → All SaysNothing (contracts_in rs)) parts.1 (rows_say (records_of bytes) parts.0)

-- ---- each field: its index, and its value under a profile without it

-- the option value
pub params_values : (bytes : List ℕ) (records : List Record) → params_of bytes ≡ Ok records
    → (facts_of (profile_in records)).options_have_value ≡ false
    → All (λ x. x.extras.option_value ≡ 0) (contracts_in records)
params_values bytes records e other =
    says_nothing 0 (λ x. x.extras.option_value) (λ r. refl) bytes records e (λ product. rw other (omega arith))
