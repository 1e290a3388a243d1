-- Lemmas about the ledgers, record by record.
use Rattle.std.proofs.Common.{◌≡◌, ℕ, ◌+◌, ◌<◌, ◌≤◌, Bool, true, false, cond, List, [], ◌∷◌, ◌++◌, length, get_or}
use Rattle.std.proofs.Common.{map, replicate, set, take, Some, None, slice_get, refl, sym, ap, subst, ◌∙◌, arith}
use Rattle.std.specs.Prelude.{All, bytes_eq}
use Rattle.std.proofs.lemmas.List.{get_or-map, get_or_default, length-map, take_more, append-nil}
use Rattle.std.proofs.lemmas.List.Elements.{filter-append}
use Rattle.std.proofs.Math.Seq.{take-length}
use Rattle.std.proofs.lemmas.Bool.{not-false, not-true}
use Rattle.std.proofs.lemmas.Option.{slice_get-get_or}
use Rattle.span_tables.specs.Names.{has_repeat}
use Rattle.span_tables.specs.Net.{accounts_of}
use Rattle.span_tables.specs.near.Positions.{named_position, named_positions}
use Rattle.span_tables.specs.declared.records.NumberedPosition.{NumberedPosition}
use Rattle.span_tables.specs.declared.records.PositionRecord.{PositionRecord}
use Rattle.span_tables.proofs.NameLaws.{distinct_once}
use Rattle.binding.specs.near.Ledgers.{is_foreign, is_listed, known_entry, listed_records}
use Rattle.binding.specs.near.Nets.{entry_of, entries_of}
use Rattle.binding.specs.declared.ledgers.Entry.{Entry}
use Rattle.binding.proofs.AccountLaws.{entered, entries_push}

-- a record without an entry is of an unknown contract
pub foreign_from_none : (ids : List (List ℕ)) (p : PositionRecord) → None ≡ known_entry ids p.contract p.quantity
    → is_foreign ids p ≡ true
unfolding known_entry
foreign_from_none ids p h = by (is_foreign ids p) h
  where
    by : (b : Bool) → None ≡ cond b None (Some (entry_of ids p)) → b ≡ true
    by true e = refl
    by false e = cc

pub known_from_some : (ids : List (List ℕ)) (p : PositionRecord) (e : Entry) → Some e ≡ known_entry ids p.contract p.quantity
    → (is_foreign ids p ≡ false) × (e ≡ entry_of ids p)
unfolding known_entry
known_from_some ids p e h = by (is_foreign ids p) h
  where
    by : (b : Bool) → Some e ≡ cond b None (Some (entry_of ids p)) → (b ≡ false) × (e ≡ entry_of ids p)
    by true h = cc
    by false h = (refl, cc)

-- the record at index i of the positions, and the name of its account
pub record IsSeen (positions : List PositionRecord) (i : ℕ) (p : PositionRecord) (name : List ℕ) : Type 0 where
  pub within : i < length positions
  pub at : p ≡ get_or positions i p
  pub named : name ≡ p.account

-- one more record
listed_more : (ids : List (List ℕ)) (front : List PositionRecord) (p : PositionRecord) (b : Bool) → is_listed ids p ≡ b
    → listed_records ids (front ++ p ∷ []) ≡ listed_records ids front ++ cond b (p ∷ []) []
listed_more ids front p b e =
    filter-append (is_listed ids) front (p ∷ []) ∙ ap (λ (t : Bool). listed_records ids front ++ cond t (p ∷ []) []) e

-- accounts are distinct
pub apart : (positions : List PositionRecord) → has_repeat bytes_eq (accounts_of positions) ≡ false
apart positions = distinct_once (map (λ (p : PositionRecord). p.account) positions)

-- ---- records by the numbers of their accounts

module _ (positions : List PositionRecord) (records : List NumberedPosition)
    (named : named_positions (accounts_of positions) records ≡ positions)
    (known : All (λ (p : NumberedPosition). p.account < length (accounts_of positions)) records) where
  pub as_many : length records ≡ length positions
  as_many = sym (length-map records (named_position (accounts_of positions))) ∙ ap length named

  -- the position of a numbered record is at the same index
  pub record_at : (i : ℕ) (r : NumberedPosition) → i < length records → r ≡ get_or records i r
      → named_position (accounts_of positions) r ≡ get_or positions i (named_position (accounts_of positions) r)
  record_at i r lt at =
      let f = named_position (accounts_of positions) in
      ap f at ∙ sym (get_or-map f records i r (f r) lt) ∙ ap (λ ps. get_or ps i (f r)) named

  -- the account number of a numbered record is the number of one of the accounts
  pub number_within : (i : ℕ) (r : NumberedPosition) → i < length records → r ≡ get_or records i r
      → r.account < length (accounts_of positions)
  number_within i r lt at = subst (λ (p : NumberedPosition). p.account < length (accounts_of positions)) (sym at) (known i r lt)

  pub account_at : (i : ℕ) (r : NumberedPosition) → i < length records → r ≡ get_or records i r
      → slice_get (accounts_of positions) r.account ≡ Some (get_or (accounts_of positions) r.account [])
  account_at i r lt at = slice_get-get_or (accounts_of positions) r.account [] (number_within i r lt at)

  -- the name at an account's number is the name of the account
  pub account_is : (i : ℕ) (r : NumberedPosition) (names : List (List ℕ)) (name : List ℕ) → i < length records
      → r ≡ get_or records i r
      → names ≡ accounts_of positions → name ≡ get_or names r.account name → name ≡ get_or (accounts_of positions) r.account []
  account_is i r names name lt at are is =
      is ∙ ap (λ ns. get_or ns r.account name) are ∙ get_or_default (accounts_of positions) r.account name [] (number_within i r lt at)

  -- the copied account name of a numbered record is the name at the record's index
  pub seen : (i : ℕ) (r : NumberedPosition) (names : List (List ℕ)) (name copied : List ℕ) → i < length records
      → r ≡ get_or records i r → names ≡ accounts_of positions → name ≡ get_or names r.account name → copied ≡ name
      → IsSeen positions i (named_position (accounts_of positions) r) copied
  seen i r names name copied lt at are is same = record {
    within = omega (arith, lt, as_many);
    at = record_at i r lt at;
    named = same ∙ account_is i r names name lt at are is;
  }

  -- the record itself is at that index, under the name of its account
  pub record_seen : (i : ℕ) (r : NumberedPosition) → i < length records → r ≡ get_or records i r
      → IsSeen positions i (named_position (accounts_of positions) r) (get_or (accounts_of positions) r.account [])
  record_seen i r lt at = record { within = omega (arith, lt, as_many); at = record_at i r lt at; named = refl }

  -- after the last record there is no position
  pub all_seen : (i : ℕ) → length records ≤ i → length positions ≤ i
  all_seen i past = omega (arith, past, as_many)

  -- the records up to and including index i
  pub taken_next : (i : ℕ) (r : NumberedPosition) → i < length records → r ≡ get_or records i r
      → take (i + 1) positions ≡ take i positions ++ named_position (accounts_of positions) r ∷ []
  taken_next i r lt at =
      take_more positions i (named_position (accounts_of positions) r) (omega (arith, lt, as_many))
      ∙ ap (λ z. take i positions ++ z ∷ []) (sym (record_at i r lt at))

  -- the ledgers after the record at index i, whose contract is among the ids
  pub ledgers_step : (ids : List (List ℕ)) (i : ℕ) (r : NumberedPosition) (ledgers ledgers' : List (List Entry)) (e : Entry)
      → i < length records → r ≡ get_or records i r
      → ledgers ≡ map (entries_of ids (listed_records ids (take i positions))) (accounts_of positions)
      → is_foreign ids (named_position (accounts_of positions) r) ≡ false
      → e ≡ entry_of ids (named_position (accounts_of positions) r)
      → ledgers' ≡ set ledgers r.account (get_or ledgers r.account [] ++ e ∷ [])
      → ledgers' ≡ map (entries_of ids (listed_records ids (take (i + 1) positions))) (accounts_of positions)
  ledgers_step ids i r ledgers ledgers' e lt at was listed is more =
      let p = named_position (accounts_of positions) r in
      let before = listed_records ids (take i positions) in
      let next : listed_records ids (take (i + 1) positions) ≡ before ++ p ∷ [] = ap (listed_records ids) (taken_next i r lt at)
      ∙ listed_more ids (take i positions) p true (not-false (is_listed ids p) listed) in
      more
      ∙ ap (λ bs. set bs r.account (get_or bs r.account [] ++ e ∷ [])) was
      ∙ ap (λ x. set (map (entries_of ids before) (accounts_of positions)) r.account
      (get_or (map (entries_of ids before) (accounts_of positions)) r.account [] ++ x ∷ [])) is
      ∙ subst (λ ks. set (map (entries_of ids before) ks) r.account
      (get_or (map (entries_of ids before) ks) r.account [] ++ entry_of ids p ∷ []) ≡ map (entries_of ids (before ++ p ∷ [])) ks)
      (take-length (accounts_of positions))
      (entered (accounts_of positions) (apart positions) 0 (length (accounts_of positions)) (omega arith) (entries_of ids before)
      (entries_of ids (before ++ p ∷ [])) r.account (entry_of ids p) (number_within i r lt at) (entries_push ids before p) r.account
      (number_within i r lt at) (omega arith))
      ∙ ap (λ ps. map (entries_of ids ps) (accounts_of positions)) (sym next)

  -- a record whose contract is not among the ids does not change the ledgers
  pub foreign_step : (ids : List (List ℕ)) (i : ℕ) (r : NumberedPosition) (ledgers : List (List Entry)) → i < length records
      → r ≡ get_or records i r → ledgers ≡ map (entries_of ids (listed_records ids (take i positions))) (accounts_of positions)
      → is_foreign ids (named_position (accounts_of positions) r) ≡ true
      → ledgers ≡ map (entries_of ids (listed_records ids (take (i + 1) positions))) (accounts_of positions)
  foreign_step ids i r ledgers lt at was foreign =
      let p = named_position (accounts_of positions) r in
      was
      ∙ ap (λ ps. map (entries_of ids ps) (accounts_of positions)) (sym
      (ap (listed_records ids) (taken_next i r lt at)
      ∙ listed_more ids (take i positions) p false (not-true (is_listed ids p) foreign)
      ∙ append-nil (listed_records ids (take i positions))))

-- at first there are no entries
pub no_entries : (ids : List (List ℕ)) (accounts : List (List ℕ))
    → replicate (length accounts) [] ≡ map (entries_of ids []) accounts
no_entries ids [] = refl
no_entries ids (a ∷ accounts) = ap (λ ledgers. [] ∷ ledgers) (no_entries ids accounts)
