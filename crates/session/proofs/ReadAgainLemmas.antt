-- The lines of position records are read as these records.
use Rattle.std.proofs.Common.{◌≡◌, ◌∙◌, ◌⊎◌, inl, inr, ℕ, zero, suc, ◌<◌, ◌≤◌, true, false, ◌==◌}
use Rattle.std.proofs.Common.{List, [], ◌∷◌, ◌++◌, length, map, Some, Ok, refl, sym, ap, subst, arith, slice_get, append_assoc}
use Rattle.std.specs.Prelude.{ℤ, All, nat_abs, nat_lt, negsuc, option_map, pos, unwrap_or}
use Rattle.std.specs.Fmt.{signed_decimal}
use Rattle.std.specs.List.{AllByRecursion, list_all}
use Rattle.std.proofs.lemmas.Bool.{and_parts, le-leb, ltb-true}
use Rattle.std.proofs.lemmas.Bool.Decides.{nat_tests}
use Rattle.std.proofs.lemmas.List.{append-nil, length-map}
use Rattle.std.proofs.lemmas.List.Elements.{All-head, All-tail}
use Rattle.csv.specs.Reading.{strip_bom}
use Rattle.span_csv.specs.PositionFaults.{is_formed, position_faults, positions_of, record_fault}
use Rattle.span_csv.specs.Records.{is_within, position_record, records_of}
use Rattle.span_csv.specs.near.Rows.{rows_in}
use Rattle.span_csv.proofs.CutLemmas.{records_are}
use Rattle.span_csv.proofs.PieceLaws.{AreFormed, free_behind}
use Rattle.span_csv.proofs.PlainLines.{fields_read}
use Rattle.span_money.specs.LineFields.{line}
use Rattle.span_money.specs.Numbers.{whole_number}
use Rattle.span_money.proofs.TextLaws.{read_back}
use Rattle.span_tables.specs.Faults.{all_faults, first_of, ok_unless}
use Rattle.span_tables.specs.Holdings.{fits}
use Rattle.span_tables.specs.Names.{is_name, is_name_byte}
use Rattle.span_tables.specs.Net.{AccountHoldings, accounts_of}
use Rattle.span_tables.specs.declared.limits.TheConstants.{MAX_ACCOUNTS, MAX_NET}
use Rattle.span_tables.specs.declared.portfolios.Holding.{Holding}
use Rattle.span_tables.specs.declared.records.Contract.{Contract}
use Rattle.span_tables.specs.declared.records.PositionRecord.{PositionRecord}
use Rattle.span_tables.proofs.FaultLaws.{first_fault_free}
use Rattle.statement_text.specs.Statement.{accepted_of, statement_of, statement_text}
use Rattle.session.specs.Accounts.{account_records, held_record, position_records}
use Rattle.session.specs.Answers.{State, opened}
use Rattle.session.specs.Conversations.{Turn, state_behind}
use Rattle.session.specs.Positions.{position_lines}
use Rattle.session.specs.near.KeptStates.{IsKeptAccount, IsKeptState}
use Rattle.session.proofs.BoundAgainLemmas.{account_shown, bound_again, names_back, state_bound, statement_again}
use Rattle.session.proofs.KeptStateLemmas.{kept_behind}

-- ---- position records

-- a record that can be written and read again: its account and contract are names, and its quantity is in range
record IsWritable (p : PositionRecord) : Type 0 where
  account : is_name p.account ≡ true
  contract : is_name p.contract ≡ true
  small : nat_abs p.quantity ≤ MAX_NET

-- the fields of its line
abbrev fields_of_record : PositionRecord → List (List ℕ)
fields_of_record p = p.account ∷ p.contract ∷ signed_decimal p.quantity ∷ []

-- the bytes of a line, field by field
line_parts : (account contract text rest : List ℕ)
    → line (record { word = account; fields = contract ∷ text ∷ [] }) ++ rest
    ≡ account ++ 44 ∷ (contract ++ 44 ∷ (text ++ 10 ∷ rest))
line_parts account contract text rest =
    append_assoc account (44 ∷ ((contract ++ 44 ∷ (text ++ [])) ++ 10 ∷ [])) rest
    ∙ ap (λ more. account ++ 44 ∷ more)
    (append_assoc (contract ++ 44 ∷ (text ++ [])) (10 ∷ []) rest
    ∙ append_assoc contract (44 ∷ (text ++ [])) (10 ∷ rest)
    ∙ ap (λ t. contract ++ 44 ∷ (t ++ 10 ∷ rest)) (append-nil text))

-- the quantity of such a record is read as a number
quantity_read : (p : PositionRecord) → IsWritable p → whole_number (signed_decimal p.quantity) ≡ Some p.quantity
quantity_read p good = let small = good.small in read_back p.quantity (omega (arith, small))

-- the lines of records are read as their fields
lines_read : (ps : List PositionRecord) → AllByRecursion IsWritable ps → rows_in (position_lines ps) ≡ map fields_of_record ps
lines_read [] good = refl
lines_read (p ∷ ps) good =
    let text = signed_decimal p.quantity in
    ap rows_in (line_parts p.account p.contract text (position_lines ps))
    ∙ fields_read p.account p.contract text (position_lines ps) p.quantity good.0.account good.0.contract (quantity_read p good.0)
    ∙ ap (λ rest. fields_of_record p ∷ rest) (lines_read ps good.1)

-- bytes that begin with a name do not begin with a byte order mark
unmarked : (name rest : List ℕ) → is_name name ≡ true → strip_bom (name ++ rest) ≡ name ++ rest
unfolding strip_bom
unmarked [] rest is = cc
unmarked (b ∷ name) rest is = by (name ++ rest)
  where
    other : (b == 0xEF) ≡ false
    other =
        let first = (and_parts (is_name_byte b) (list_all is_name_byte name) (and_parts _ (list_all is_name_byte (b ∷ name)) is).1).0 in
        grind (arith, nat_tests, first)

    by : (bytes : List ℕ) → strip_bom (b ∷ bytes) ≡ b ∷ bytes
    by [] = refl
    by (c ∷ []) = refl
    by (c ∷ d ∷ bytes) = rw other refl

-- the records of the lines
records_read : (ps : List PositionRecord) → AllByRecursion IsWritable ps → records_of (position_lines ps) ≡ map fields_of_record ps
unfolding strip_bom
records_read [] good = records_are []
records_read (p ∷ ps) good =
    records_are (position_lines (p ∷ ps))
    ∙ ap rows_in (marks_none)
    ∙ lines_read (p ∷ ps) good
  where
    marks_none : strip_bom (position_lines (p ∷ ps)) ≡ position_lines (p ∷ ps)
    marks_none =
        let rest = 44 ∷ (p.contract ++ 44 ∷ (signed_decimal p.quantity ++ 10 ∷ position_lines ps)) in
        let same = line_parts p.account p.contract (signed_decimal p.quantity) (position_lines ps) in
        ap strip_bom same ∙ unmarked p.account rest good.0.account ∙ sym same

-- ---- no fault

-- a number of at most this size is in range
within : (h : ℕ) (z : ℤ) → nat_abs z ≤ suc h → is_within (negsuc h) (pos (suc h)) (Some z) ≡ true
within h (pos n) le = le-leb n (suc h) le
within h (negsuc n) le = (let less : n ≤ h = omega (arith, le) in rw (le-leb n h less) refl)

-- the fields of a record have none of Q1 to Q4, and are read as the record
record_formed : (p : PositionRecord) → IsWritable p → is_formed (fields_of_record p) ≡ true
record_formed p good =
    let small = good.small in
    let read = quantity_read p good in
    let range : is_within (negsuc 999999) (pos 1000000) (Some p.quantity) ≡ true = within 999999 p.quantity (omega (arith, small)) in
    rw (good.account, good.contract, read, range) refl

record_back : (p : PositionRecord) → IsWritable p → position_record (fields_of_record p) ≡ p
unfolding position_record
record_back p good =
    let read = quantity_read p good in
    λ i. (let it : PositionRecord = record {
      account = p.account;
      contract = p.contract;
      quantity = unwrap_or (read i) (pos 0);
    } in it)

all_formed : (ps : List PositionRecord) → AllByRecursion IsWritable ps → AreFormed (map fields_of_record ps)
all_formed [] good = tt
all_formed (p ∷ ps) good = (record_formed p good.0, all_formed ps good.1)

all_back : (ps : List PositionRecord) → AllByRecursion IsWritable ps → map position_record (map fields_of_record ps) ≡ ps
all_back [] good = refl
all_back (p ∷ ps) good =
    let here = record_back p good.0 in
    let rest = all_back ps good.1 in
    λ i. here i ∷ rest i

-- the lines of records are read as these records
positions_again : (ps : List PositionRecord) → AllByRecursion IsWritable ps → length (accounts_of ps) ≤ MAX_ACCOUNTS
    → positions_of (position_lines ps) ≡ Ok ps
unfolding positions_of position_faults
positions_again ps good few =
    let rows = map fields_of_record ps in
    let back = all_back ps good in
    let free = free_behind [] rows refl (all_formed ps good) (subst (λ qs. length (accounts_of qs) ≤ MAX_ACCOUNTS) (sym back) few) in
    ap (λ rs. ok_unless (first_of (all_faults record_fault rs)) (map position_record rs)) (records_read ps good)
    ∙ ap (λ o. ok_unless o (map position_record rows)) (first_fault_free record_fault [] rows free)
    ∙ ap Ok back

-- ---- the records of a kept state

module _ (contracts : List Contract) (named : AllByRecursion (λ x. is_name x.id ≡ true) contracts) where
  -- the contract at each index has a name
  named_at : (xs : List Contract) → AllByRecursion (λ x. is_name x.id ≡ true) xs → (k : ℕ) → k < length xs
      → is_name (unwrap_or (option_map (λ (x : Contract). x.id) (slice_get xs k)) []) ≡ true
  named_at [] all k lt = absurd (omega (arith, lt))
  named_at (x ∷ xs) all zero lt = all.0
  named_at (x ∷ xs) all (suc k) lt = named_at xs all.1 k (omega (arith, lt))

  held_writable : (account : List ℕ) → is_name account ≡ true → (hs : List Holding) → fits (length contracts) hs ≡ true
      → All (λ h. nat_abs h.net ≤ MAX_NET) hs → AllByRecursion IsWritable (map (held_record contracts account) hs)
  held_writable account is [] fit nets = tt
  held_writable account is (h ∷ hs) fit nets =
      let parts = and_parts (nat_lt h.contract (length contracts)) (fits (length contracts) hs) fit in (
        record {
          account = is;
          contract = named_at contracts named h.contract (ltb-true h.contract (length contracts) parts.0);
          small = All-head (λ (x : Holding). nat_abs x.net ≤ MAX_NET) h hs nets;
        },
        held_writable account is hs parts.1 (All-tail (λ (x : Holding). nat_abs x.net ≤ MAX_NET) h hs nets),
      )

  both_writable : (ps qs : List PositionRecord) → AllByRecursion IsWritable ps → AllByRecursion IsWritable qs
      → AllByRecursion IsWritable (ps ++ qs)
  both_writable [] qs all others = others
  both_writable (p ∷ ps) qs all others = (all.0, both_writable ps qs all.1 others)

  -- all records of kept accounts can be written and read again
  all_writable : 0 < length contracts → (ps : List AccountHoldings) → AllByRecursion (IsKeptAccount contracts) ps
      → AllByRecursion IsWritable (position_records contracts ps)
  all_writable some [] kept = tt
  all_writable some (p ∷ ps) kept =
      let own = account_shown contracts p some kept.0 in
      both_writable (account_records contracts p) (position_records contracts ps)
      (subst (AllByRecursion IsWritable) (sym own.are)
      (held_writable p.account (kept.0).named (own.first ∷ own.others) own.fit own.small)) (all_writable some ps kept.1)

-- the answer to POSITIONS in a kept state is read as its records
pub records_again : (s : State) → IsKeptState s → (0 < length s.tables.contracts) ⊎ (s.accounts ≡ [])
    → positions_of (position_lines (position_records s.tables.contracts s.accounts))
    ≡ Ok (position_records s.tables.contracts s.accounts)
records_again s kept some =
    let records = position_records s.tables.contracts s.accounts in
    let names = names_back s.tables.contracts s.accounts records (state_bound s kept some) in
    positions_again records (by some)
    (subst (λ n. n ≤ MAX_ACCOUNTS) (sym (ap length names ∙ length-map s.accounts (λ p. p.account))) kept.few)
  where
    by : (0 < length s.tables.contracts) ⊎ (s.accounts ≡ [])
        → AllByRecursion IsWritable (position_records s.tables.contracts s.accounts)
    by (inl some) = all_writable s.tables.contracts kept.named some s.accounts kept.accounts
    by (inr none) = subst (λ ps. AllByRecursion IsWritable (position_records s.tables.contracts ps)) (sym none) tt

-- therefore a session over the answer to POSITIONS opens with the same state
pub opened_again : (params positions current : List ℕ) (s : State) (turns : List Turn) → opened params positions ≡ Ok s
    → accepted_of current ≡ Ok (state_behind s turns).tables
    → (0 < length (state_behind s turns).tables.contracts) ⊎ ((state_behind s turns).accounts ≡ [])
    → opened current (position_lines (position_records (state_behind s turns).tables.contracts (state_behind s turns).accounts))
    ≡ Ok (state_behind s turns)
unfolding opened
opened_again params positions current s turns begun accepted some =
    let next = state_behind s turns in
    let kept = kept_behind params positions s turns begun in
    rw (accepted, records_again next kept some, bound_again next kept some) refl

-- and the statement of the answer to POSITIONS is the answer to MARGIN
pub answers_again : (params positions current : List ℕ) (s : State) (turns : List Turn) → opened params positions ≡ Ok s
    → accepted_of current ≡ Ok (state_behind s turns).tables
    → (0 < length (state_behind s turns).tables.contracts) ⊎ ((state_behind s turns).accounts ≡ [])
    → statement_of current (position_lines (position_records (state_behind s turns).tables.contracts (state_behind s turns).accounts))
    ≡ Ok (statement_text (state_behind s turns).tables (state_behind s turns).accounts)
answers_again params positions current s turns begun accepted some =
    let next = state_behind s turns in
    statement_again params positions current (position_lines (position_records next.tables.contracts next.accounts)) s turns begun accepted
    some (records_again next (kept_behind params positions s turns begun) some)
