-- What accepted files provide: tables within their limits, portfolios that fit them, and names whose bytes are all
-- between a comma and the lower-case letters.
use Rattle.std.proofs.Common.{◌≡◌, ℕ, zero, suc, ◌≤◌, Bool, true, false, cond, not, ◌&&◌, List, [], ◌∷◌, ◌++◌, length, map}
use Rattle.std.proofs.Common.{filter, Option, Some, None, Ok, refl, ap, subst, arith}
use Rattle.std.specs.Prelude.{◌==◌, All, MatchOption, bytes_eq, filter_map, find, nat_le, option_map, slice_get, unwrap_or, ℤ}
use Rattle.std.specs.List.{AllByRecursion, cons_option, list_all, zip}
use Rattle.std.proofs.lemmas.Bool.{and_parts, not-false}
use Rattle.std.proofs.lemmas.Bool.Decides.{nat_tests}
use Rattle.std.proofs.lemmas.List.Elements.{All-filter, All-from_recursion, All-head, All-tail, recursion_from_All}
use Rattle.span_tables.specs.Accepted.{IsWithinLimits}
use Rattle.span_tables.specs.Faults.{first_of, ok_unless}
use Rattle.span_tables.specs.Holdings.{ArePortfolio}
use Rattle.span_tables.specs.Laws.{IsFaultFree}
use Rattle.span_tables.specs.Names.{distinct, is_name, is_name_byte}
use Rattle.span_tables.specs.Net.{AccountHoldings, HeldContract, accounts_of, held_contracts, held_of, holdings_of, portfolios_of}
use Rattle.span_tables.specs.Rules.{as_commodity, as_contract, as_set}
use Rattle.span_tables.specs.Tables.{AcceptedTables, tables_of}
use Rattle.span_tables.specs.near.Limits.{contract_in_range, in_range, is_readable}
use Rattle.span_tables.specs.declared.portfolios.Holding.{Holding}
use Rattle.span_tables.specs.declared.records.Commodity.{Commodity}
use Rattle.span_tables.specs.declared.records.Contract.{Contract}
use Rattle.span_tables.specs.declared.records.PositionRecord.{PositionRecord}
use Rattle.span_tables.specs.declared.records.Record.{Record}
use Rattle.span_tables.specs.declared.records.Record.TheVariants as record_of
use Rattle.span_tables.specs.declared.records.SetRecord.{SetRecord}
use Rattle.span_tables.proofs.FaultLaws.{first_fault_none}
use Rattle.span_tables.proofs.KeptRules.{all_true, of_kind}
use Rattle.span_tables.proofs.Ranges.{by_recursion}
use Rattle.span_tables.proofs.WithinLimits.{readable, within_limits}
use Rattle.span_csv.specs.PositionFaults.{position_faults, positions_of, record_fault}
use Rattle.span_csv.specs.Records.{Fields, a_quantity, all_have, has_word_form, position_forms, position_record, records_of}
use Rattle.span_csv.specs.declared.faults.PositionFault.{PositionFault}
use Rattle.span_csv.specs.declared.faults.PositionFault.TheVariants as position_fault
use Rattle.span_csv.specs.declared.grammar.FieldForm.{FieldForm}
use Rattle.span_csv.specs.declared.grammar.FieldForm.TheVariants as form
use Rattle.span_csv.proofs.ReadableLaws.{params_readable}
use Rattle.binding.specs.Binding.{bindings_of}
use Rattle.param_check.proofs.RuleLaws.{rules_kept}
use Rattle.statement_text.specs.Statement.{accepted_of, portfolios_under}
use Rattle.acceptance.proofs.FitLemmas.{bound_fits, portfolios_hold}
use Rattle.reasons.specs.Laws.{AreAccepted}
use Rattle.explanation.proofs.ReadLemmas.{IsBetween}
use Rattle.statement_text.proofs.AcceptedFiles.{accepted_are, bound_are}

-- ---- names

byte_between : (b : ℕ) → is_name_byte b ≡ true → (45 ≤ b) × (b ≤ 95)
byte_between b h = (grind (arith, nat_tests, h), grind (arith, nat_tests, h))

bytes_between : (bytes : List ℕ) → list_all is_name_byte bytes ≡ true → IsBetween bytes
bytes_between [] h = tt
bytes_between (b ∷ bs) h =
    let parts = and_parts (is_name_byte b) (list_all is_name_byte bs) h in (byte_between b parts.0, bytes_between bs parts.1)

-- the bytes of a name are between a comma and the lower-case letters
pub name_between : (bytes : List ℕ) → is_name bytes ≡ true → IsBetween bytes
name_between bytes h =
    bytes_between bytes (and_parts (nat_le 1 (length bytes) && nat_le (length bytes) 16) (list_all is_name_byte bytes) h).1

-- ---- tables

-- the bytes of all names in the tables are between a comma and the lower-case letters
pub record AreNamed (t : AcceptedTables) : Type 0 where
  pub set_id : IsBetween t.set_id
  pub commodities : All (λ c. IsBetween c.id) t.commodities
  pub contracts : All (λ x. IsBetween x.id) t.contracts

set_named : (r : Record) → in_range r ≡ true → MatchOption (as_set r) (Unit {0}) (λ s. IsBetween s.id)
set_named (record_of.Set s) e = name_between s.id (and_parts _ _ e).0
set_named r e = tt

commodity_named : (r : Record) → in_range r ≡ true → MatchOption (as_commodity r) (Unit {0}) (λ c. IsBetween c.id)
commodity_named (record_of.Commodity c) e = name_between c.id (and_parts _ _ e).0
commodity_named r e = tt

-- the id of a contract that passes its range checks has only bytes between a comma and the lower-case letters
contract_between : (x : Contract) → contract_in_range x ≡ true → IsBetween x.id
contract_between x e = let last = all_true _ _ _ e in
    let middle = all_true _ _ _ last.0 in
    let first = all_true _ _ _ (and_parts _ _ middle.0).0 in
    name_between x.id first.0

contract_named : (r : Record) → in_range r ≡ true → MatchOption (as_contract r) (Unit {0}) (λ x. IsBetween x.id)
contract_named (record_of.Contract x) e = contract_between x e
contract_named r e = tt

first_between : (ss : List SetRecord) → All (λ s. IsBetween s.id) ss
    → IsBetween (unwrap_or (option_map (λ s. s.id) (find (λ s. true) ss)) [])
first_between [] all = tt
first_between (s ∷ ss) all = All-head (λ (x : SetRecord). IsBetween x.id) s ss all

tables_named : (rs : List Record) → is_readable rs ≡ true → AreNamed (tables_of rs)
unfolding tables_of
tables_named rs e =
    let ranges = by_recursion in_range rs (readable rs e).ranges in
    record {
      set_id = first_between (filter_map as_set rs)
          (of_kind as_set (λ (s : SetRecord). IsBetween s.id) (λ r. in_range r ≡ true) set_named rs ranges);
      commodities = of_kind as_commodity (λ (c : Commodity). IsBetween c.id) (λ r. in_range r ≡ true) commodity_named rs ranges;
      contracts = of_kind as_contract (λ (x : Contract). IsBetween x.id) (λ r. in_range r ≡ true) contract_named rs ranges;
    }

-- what is known of accepted tables
pub record IsRead (t : AcceptedTables) : Type 0 where
  pub limits : IsWithinLimits t
  pub named : AreNamed t

pub tables_read : (params : List ℕ) (t : AcceptedTables) → accepted_of params ≡ Ok t → IsRead t
tables_read params t e =
    let are = accepted_are params t e in
    let read = params_readable params are.0 are.1 in
    subst IsRead are.3 (record { limits = within_limits are.0 read (rules_kept are.0 are.2); named = tables_named are.0 read })

-- ---- portfolios

-- each account of accepted files is accepted
pub portfolios_accepted : (params : List ℕ) (t : AcceptedTables) (positions : List PositionRecord) (portfolios : List AccountHoldings)
    → accepted_of params ≡ Ok t → portfolios_under t positions ≡ Ok portfolios → All (λ p. AreAccepted t p.holdings) portfolios
unfolding bindings_of
portfolios_accepted params t positions portfolios a b =
    let read = tables_read params t a in
    let bound = bound_are t positions portfolios b in
    let held : All (λ p. ArePortfolio p.holdings) portfolios =
    subst (All (λ (p : AccountHoldings). ArePortfolio p.holdings)) bound.1 (portfolios_hold t.contracts positions bound.0) in
    let bindings : bindings_of t.contracts positions ≡ Ok portfolios = rw bound.0 (ap Ok bound.1) in
    let fit = bound_fits t.contracts positions portfolios bindings in
    λ k d lt. record { limits = read.limits; portfolio = held k d lt; known = fit k d lt }

-- ---- accounts

-- if a chain of tests finds no fault, its second test is false
second_fails : {F : Type 0} (a b : Bool) (f g : F) (rest : Option F) → cond a (Some f) (cond b (Some g) rest) ≡ None → b ≡ false
second_fails true b f g rest e = cc
second_fails false true f g rest e = cc
second_fails false false f g rest e = refl

account_between : (earlier : List Fields) (r : Fields) → record_fault earlier r ≡ None → IsBetween (position_record r).account
unfolding position_record
account_between earlier [] e = tt
account_between earlier (name ∷ fields) e =
    let r = name ∷ fields in
    let fails : not (all_have has_word_form position_forms r) ≡ false =
    second_fails (not (length r == length position_forms)) (not (all_have has_word_form position_forms r)) position_fault.FieldCount
    position_fault.BadName _ e in
    let formed : all_have has_word_form position_forms r ≡ true = not-false (all_have has_word_form position_forms r) fails in
    let others = list_all (λ (x : FieldForm × List ℕ). has_word_form x.0 x.1) (zip (form.Name ∷ a_quantity ∷ []) fields) in
    name_between name (and_parts (is_name name) others formed).0

accounts_between : (earlier rows : List Fields) → IsFaultFree record_fault earlier rows
    → AllByRecursion (λ p. IsBetween p.account) (map position_record rows)
accounts_between earlier [] free = tt
accounts_between earlier (r ∷ rows) free = (account_between earlier r free.0, accounts_between (earlier ++ r ∷ []) rows free.1)

records_between : (bytes : List ℕ) (records : List PositionRecord) → positions_of bytes ≡ Ok records
    → AllByRecursion (λ p. IsBetween p.account) records
unfolding positions_of position_faults
records_between bytes records e = by (first_of (position_faults bytes)) refl e where
  by : (o : Option PositionFault) → first_of (position_faults bytes) ≡ o
      → ok_unless o (map position_record (records_of bytes)) ≡ Ok records → AllByRecursion (λ p. IsBetween p.account) records
  by (Some f) is e = cc
  by None is e =
      let same_records : map position_record (records_of bytes) ≡ records = cc in
      subst (AllByRecursion (λ (p : PositionRecord). IsBetween p.account)) same_records
      (accounts_between [] (records_of bytes) (first_fault_none record_fault [] (records_of bytes) is))

names_between : (ps : List PositionRecord) → AllByRecursion (λ p. IsBetween p.account) ps
    → AllByRecursion IsBetween (map (λ (p : PositionRecord). p.account) ps)
names_between [] h = tt
names_between (p ∷ ps) h = (h.0, names_between ps h.1)

-- what holds of each element holds of those that pass a test
pub filtered : {A : Type 0} (P : A → Type 0) (p : A → Bool) (xs : List A) → AllByRecursion P xs → AllByRecursion P (filter p xs)
filtered P p xs all = recursion_from_All P (filter p xs) (All-filter p P xs (All-from_recursion P xs all))

distinct_between : (names : List (List ℕ)) → AllByRecursion IsBetween names → AllByRecursion IsBetween (distinct names)
distinct_between [] h = tt
distinct_between (name ∷ rest) h =
    (h.0, filtered IsBetween (λ other. not (bytes_eq other name)) (distinct rest) (distinct_between rest h.1))

of_names : (contracts : List Contract) (positions : List PositionRecord) (names : List (List ℕ)) → AllByRecursion IsBetween names
    → AllByRecursion (λ (p : AccountHoldings). IsBetween p.account)
    (map (λ (name : List ℕ). record { account = name; holdings = holdings_of contracts positions name }) names)
of_names contracts positions [] h = tt
of_names contracts positions (name ∷ names) h = (h.0, of_names contracts positions names h.1)

-- the bytes of each account's name are between a comma and the lower-case letters
pub accounts_named : (t : AcceptedTables) (positions : List ℕ) (records : List PositionRecord) (portfolios : List AccountHoldings)
    → positions_of positions ≡ Ok records → portfolios_under t records ≡ Ok portfolios
    → AllByRecursion (λ p. IsBetween p.account) portfolios
unfolding portfolios_of
accounts_named t positions records portfolios q b =
    subst (AllByRecursion (λ (p : AccountHoldings). IsBetween p.account)) (bound_are t records portfolios b).1
    (of_names t.contracts records (accounts_of records)
    (distinct_between (map (λ (p : PositionRecord). p.account) records) (names_between records (records_between positions records q))))

-- ---- held contracts

pub found_between : (contracts : List Contract) (i : ℕ) (x : Contract) → slice_get contracts i ≡ Some x
    → All (λ y. IsBetween y.id) contracts → IsBetween x.id
found_between [] i x is all = cc
found_between (y ∷ ys) zero x is all =
    let same_one : y ≡ x = cc in subst (λ (z : Contract). IsBetween z.id) same_one (All-head (λ (z : Contract). IsBetween z.id) y ys all)
found_between (y ∷ ys) (suc i) x is all = found_between ys i x is (All-tail (λ (z : Contract). IsBetween z.id) y ys all)

-- a contract with a net quantity
abbrev with_net : ℤ → Contract → HeldContract
with_net net x = record { contract = x; net = net }

-- the held contracts are contracts of the tables, so the bytes of their ids are between a comma and the lower-case letters
contracts_between : (contracts : List Contract) (holdings : List Holding) → All (λ x. IsBetween x.id) contracts
    → AllByRecursion (λ h. IsBetween (h.contract).id) (held_contracts contracts holdings)
contracts_between contracts [] all = tt
contracts_between contracts (h ∷ hs) all =
    by (slice_get contracts h.contract) (found_between contracts h.contract) (contracts_between contracts hs all) where
      by : (o : Option Contract) → ((x : Contract) → o ≡ Some x → All (λ y. IsBetween y.id) contracts → IsBetween x.id)
          → AllByRecursion (λ x. IsBetween (x.contract).id) (held_contracts contracts hs)
          → AllByRecursion (λ x. IsBetween (x.contract).id)
          (cons_option (option_map (with_net h.net) o) (held_contracts contracts hs))
      by None found rest = rest
      by (Some x) found rest = (found x refl all, rest)

pub held_between : (contracts : List Contract) (holdings : List Holding) (id : List ℕ) → All (λ x. IsBetween x.id) contracts
    → AllByRecursion (λ h. IsBetween (h.contract).id) (held_of contracts holdings id)
unfolding held_of
held_between contracts holdings id all =
    filtered (λ h. IsBetween (h.contract).id) (λ h. bytes_eq (h.contract).commodity id) (held_contracts contracts holdings)
    (contracts_between contracts holdings all)
