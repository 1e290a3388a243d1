-- A position file read in pieces: the records of each piece, and their numbers in the whole file.
use Rattle.std.specs.Prelude.{◌≡◌, ℕ, ◌<◌, ◌≤◌, All, true, List, flat_map, fold, length, nat_abs, bytes_eq, slice_index_or, Option}
use Rattle.std.specs.List.{position_or_len}
use Rattle.std.specs.Result.{result_ok}
use Rattle.span_tables.specs.Names.{is_among}
use Rattle.span_tables.specs.Net.{accounts_of}
use Rattle.span_tables.specs.near.Positions.{named_positions}
use Rattle.span_tables.specs.declared.records.NumberedPosition.{NumberedPosition}
use Rattle.span_tables.specs.declared.records.PositionRecord.{PositionRecord}
use Rattle.span_tables.specs.declared.limits.TheConstants.{MAX_ACCOUNTS, MAX_QUANTITY}
use Rattle.span_csv.specs.PositionFaults.{positions_of}
use Rattle.span_csv.specs.near.NumberedReading.{with_name}

-- the records of a piece by itself, or `None` if it has a fault
abbrev pub piece_of : List ℕ → Option (List PositionRecord)
piece_of bytes = result_ok (positions_of bytes)

-- the records of the pieces, one piece after the other
abbrev pub records_together : List (List PositionRecord) → List PositionRecord
records_together pieces = flat_map (λ piece. piece) pieces

-- the known names, with each new name appended
abbrev pub with_names : List (List ℕ) → List (List ℕ) → List (List ℕ)
with_names known names = fold with_name known names

-- these are the accounts of the pieces in the order of first appearance, and there are at most `MAX_ACCOUNTS`
pub record AreTogether (accounts : List (List ℕ)) (pieces : List (List PositionRecord)) : Type 0 where
  pub accounts_are : accounts ≡ accounts_of (records_together pieces)
  pub few : length accounts ≤ MAX_ACCOUNTS

-- the account of each record is among these
abbrev pub HasAccounts : List (List ℕ) → List PositionRecord → Type 0
HasAccounts accounts records = All (λ p. is_among accounts p.account ≡ true) records

-- the index of a name among these accounts, or their number if it is not among them
abbrev pub place_among : List (List ℕ) → List ℕ → ℕ
place_among accounts name = position_or_len (bytes_eq name) accounts

-- the record with its account number replaced by the entry at that index
abbrev pub renumbered : List ℕ → NumberedPosition → NumberedPosition
renumbered places p = record p { account = slice_index_or places p.account 0 }

-- the account number of each record is an index of these names, and its quantity is in its range
pub record AreOfAccounts (accounts : List (List ℕ)) (records : List NumberedPosition) : Type 0 where
  pub known : All (λ p. p.account < length accounts) records
  pub small : All (λ p. nat_abs p.quantity ≤ MAX_QUANTITY) records

-- the numbered records denote these records under these accounts
pub record StandFor (accounts : List (List ℕ)) (records : List PositionRecord) (numbered : List NumberedPosition) : Type 0 where
  pub named : named_positions accounts numbered ≡ records
  pub of : AreOfAccounts accounts numbered
