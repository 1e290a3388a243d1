-- What is known of accepted tables, of the records of a position file, and of the session that both files open: contract
-- ids and accounts are names, contract ids are distinct, and there are not too many accounts.
use Rattle.std.proofs.Common.{◌≡◌, ◌∙◌, ℕ, ◌≤◌, Bool, true, false, cond, not, ◌&&◌, ◌==◌, List, [], ◌∷◌, ◌++◌, length, map}
use Rattle.std.proofs.Common.{None, Result, Ok, Err, refl, sym, ap, subst, arith, append_assoc}
use Rattle.std.specs.Prelude.{MatchOption, bytes_eq, filter_map}
use Rattle.std.specs.List.{AllByRecursion}
use Rattle.std.proofs.lemmas.Bool.{and_parts, eq-eqb, not-false, true≢false}
use Rattle.std.proofs.lemmas.List.{append-nil, length-append, map-append}
use Rattle.std.proofs.lemmas.List.Elements.{recursion_from_All}
use Rattle.std.proofs.lemmas.Simd.{map-map}
use Rattle.span_csv.specs.PositionFaults.{exceeds_accounts, form_faults, position_faults, positions_of, record_fault}
use Rattle.span_csv.specs.Records.{Fields, all_have, has_word_form, position_forms, position_record, records_of, text_at}
use Rattle.span_csv.specs.declared.faults.PositionFault.TheVariants as position
use Rattle.span_csv.proofs.CountedLaws.{fault_where_all_count, free_where_all_count}
use Rattle.span_csv.proofs.ReadableLaws.{params_readable}
use Rattle.span_tables.specs.Faults.{first_of, first_that_holds}
use Rattle.span_tables.specs.Laws.{IsFaultFree}
use Rattle.span_tables.specs.Names.{distinct, has_repeat, is_among, is_name}
use Rattle.span_tables.specs.Rules.{as_contract}
use Rattle.span_tables.specs.Tables.{AcceptedTables, tables_of}
use Rattle.span_tables.specs.declared.limits.TheConstants.{MAX_ACCOUNTS}
use Rattle.span_tables.specs.declared.records.Contract.{Contract}
use Rattle.span_tables.specs.declared.records.PositionRecord.{PositionRecord}
use Rattle.span_tables.specs.declared.records.Record.{Record}
use Rattle.span_tables.specs.declared.records.Record.TheVariants as record_of
use Rattle.span_tables.specs.near.Limits.{contract_in_range, in_range}
use Rattle.span_tables.proofs.FaultLaws.{first_fault_none, ok_parts}
use Rattle.span_tables.proofs.KeptRules.{all_true, and_true, of_kind}
use Rattle.span_tables.proofs.NameLemmas.{distinct-push}
use Rattle.span_tables.proofs.Ranges.{by_recursion}
use Rattle.span_tables.proofs.WithinLimits.{kept, readable}
use Rattle.param_check.proofs.RuleLaws.{rules_kept}
use Rattle.statement_text.specs.Statement.{accepted_of, and_then, portfolios_under, same}
use Rattle.statement_text.specs.declared.faults.SpanFault.{SpanFault}
use Rattle.statement_text.specs.declared.faults.SpanFault.TheVariants as span
use Rattle.statement_text.proofs.AcceptedFiles.{accepted_are}
use Rattle.session.specs.Answers.{State, opened}

-- ---- accepted tables

-- contract ids are distinct, and each id is a name
pub record AreIds (contracts : List Contract) : Type 0 where
  pub apart : has_repeat (λ x y. bytes_eq x.id y.id) contracts ≡ false
  pub named : AllByRecursion (λ x. is_name x.id ≡ true) contracts

-- the first of the tests of a contract is the test of its id
id_named : (x : Contract) → contract_in_range x ≡ true → is_name x.id ≡ true
id_named x e =
    let last = all_true _ _ _ e in
    let middle = all_true _ _ _ last.0 in
    (all_true _ _ _ (and_true _ _ middle.0).0).0

contract_named : (r : Record) → in_range r ≡ true → MatchOption (as_contract r) (Unit {0}) (λ x. is_name x.id ≡ true)
contract_named (record_of.Contract x) e = id_named x e
contract_named r e = tt

pub accepted_ids : (params : List ℕ) (t : AcceptedTables) → accepted_of params ≡ Ok t → AreIds t.contracts
unfolding tables_of
accepted_ids params t e =
    let are = accepted_are params t e in
    let ranges = by_recursion in_range are.0 (readable are.0 (params_readable params are.0 are.1)).ranges in
    subst (λ (tables : AcceptedTables). AreIds tables.contracts) are.3 (record {
      apart = (kept are.0 (rules_kept are.0 are.2)).contracts_apart;
      named = recursion_from_All (λ (x : Contract). is_name x.id ≡ true) (filter_map as_contract are.0)
          (of_kind as_contract (λ (x : Contract). is_name x.id ≡ true) (λ r. in_range r ≡ true) contract_named are.0 ranges);
    })

-- ---- position records

-- the account of each record is a name, and there are not too many accounts
pub record AreRead (records : List PositionRecord) : Type 0 where
  pub named : AllByRecursion (λ p. is_name p.account ≡ true) records
  pub few : length (distinct (map (λ p. p.account) records)) ≤ MAX_ACCOUNTS

abbrev names_in : List Fields → List (List ℕ)
names_in rs = map (λ r. text_at r 0) rs

-- if no fault of a list applies, each of its tests fails
each_fails : {F : Type 0} (xs : List (Bool × F)) → first_that_holds xs ≡ None → AllByRecursion (λ x. x.0 ≡ false) xs
each_fails [] e = tt
each_fails ((true, f) ∷ xs) e = cc
each_fails ((false, f) ∷ xs) e = (refl, each_fails xs e)

account_named : (r : Fields) → not (length r == length position_forms) ≡ false → not (all_have has_word_form position_forms r) ≡ false
    → is_name (text_at r 0) ≡ true
account_named [] three words = cc
account_named (account ∷ r) three words = (and_parts (is_name account) _ (not-false _ words)).0

-- one more record without a fault is not one too many
one_more : (before : List Fields) (r : Fields) → exceeds_accounts before r ≡ false → length (distinct (names_in before)) ≤ MAX_ACCOUNTS
    → length (distinct (names_in (before ++ r ∷ []))) ≤ MAX_ACCOUNTS
one_more before r within few =
    subst (λ names. length names ≤ MAX_ACCOUNTS)
    (sym (ap distinct (map-append (λ (x : Fields). text_at x 0) before (r ∷ [])) ∙ distinct-push (names_in before) (text_at r 0)))
    (by (is_among (names_in before) (text_at r 0)) within)
  where
    by : (b : Bool) → (not b && (length (distinct (names_in before)) == MAX_ACCOUNTS)) ≡ false
        → length (cond b (distinct (names_in before)) (distinct (names_in before) ++ text_at r 0 ∷ [])) ≤ MAX_ACCOUNTS
    by true within = few
    by false within =
        let other : length (distinct (names_in before)) ≡ MAX_ACCOUNTS → ⊥ =
        λ e. true≢false (sym (eq-eqb (length (distinct (names_in before))) MAX_ACCOUNTS e) ∙ within) in
        let long = length-append (distinct (names_in before)) (text_at r 0 ∷ []) in
        omega (arith, few, other, long)

-- records without a fault have names as their accounts, and not too many
all_read : (before rs : List Fields) → IsFaultFree fault_where_all_count before rs → length (distinct (names_in before)) ≤ MAX_ACCOUNTS
    → AllByRecursion (λ (p : PositionRecord). is_name p.account ≡ true) (map position_record rs)
    × (length (distinct (names_in (before ++ rs))) ≤ MAX_ACCOUNTS)
unfolding position_record
all_read before [] free few = (tt, subst (λ zs. length (distinct (names_in zs)) ≤ MAX_ACCOUNTS) (sym (append-nil before)) few)
all_read before (r ∷ rs) free few =
    let fails = each_fails (form_faults r ++ (exceeds_accounts before r, position.TooManyAccounts) ∷ []) free.0 in
    let rest = all_read (before ++ r ∷ []) rs free.1 (one_more before r fails.1.1.1.1.0 few) in (
      (account_named r fails.0 fails.1.0, rest.0),
      subst (λ zs. length (distinct (names_in zs)) ≤ MAX_ACCOUNTS) (append_assoc before (r ∷ []) rs) rest.1,
    )

-- the same for the records of a position file
pub positions_read : (bytes : List ℕ) (records : List PositionRecord) → positions_of bytes ≡ Ok records → AreRead records
unfolding positions_of position_faults position_record
positions_read bytes records e =
    let parts = ok_parts (first_of (position_faults bytes)) (map position_record (records_of bytes)) records e in
    let free = free_where_all_count [] (records_of bytes) refl (first_fault_none record_fault [] (records_of bytes) parts.0) in
    let all = all_read [] (records_of bytes) free (omega arith) in
    subst AreRead parts.1 (record {
      named = all.0;
      few = subst (λ names. length (distinct names) ≤ MAX_ACCOUNTS)
          (sym (map-map (λ (p : PositionRecord). p.account) position_record (records_of bytes))) all.1;
    })

-- ---- an opened session

-- if two steps succeed, the first one does
then_ok : {A B F : Type 0} (named : F → SpanFault) (r : Result A F) (next : A → Result B SpanFault) (y : B)
    → and_then named r next ≡ Ok y → (x : A) × (r ≡ Ok x) × (next x ≡ Ok y)
then_ok named (Ok x) next y e = (x, refl, e)
then_ok named (Err f) next y e = cc

-- the state has the accepted tables and the accounts of the records
pub record IsOpened (params positions : List ℕ) (s : State) : Type 0 where
  pub records : List PositionRecord
  pub accepted : accepted_of params ≡ Ok s.tables
  pub read : positions_of positions ≡ Ok records
  pub bound : portfolios_under s.tables records ≡ Ok s.accounts

pub opened_is : (params positions : List ℕ) (s : State) → opened params positions ≡ Ok s → IsOpened params positions s
unfolding opened
opened_is params positions s e =
    let tables = then_ok same (accepted_of params) _ s e in
    let records = then_ok span.Positions (positions_of positions) _ s tables.2 in
    let accounts = then_ok same (portfolios_under tables.0 records.0) _ s records.2 in
    let last = accounts.2 in
    let state : record { tables = tables.0; accounts = accounts.0 } ≡ s = cc in
    subst (IsOpened params positions) state
    (record { records = records.0; accepted = tables.1; read = records.1; bound = accounts.1 })
