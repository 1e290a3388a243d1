-- The entries of each account, with the accounts in the order of first appearance.
use Rattle.std.specs.Prelude.{◌≡◌, ◌≤◌, ◌-◌, ◌&&◌, ℕ, ℤ, Bool, false, nat_le, nat_lt, not, if◌then◌else◌}
use Rattle.std.specs.Prelude.{List, drop, filter, length, map, take, Option, Some, None, bytes_eq}
use Rattle.std.specs.List.{list_any, position_or_len}
use Rattle.span_tables.specs.Names.{has_repeat}
use Rattle.span_tables.specs.Net.{accounts_of}
use Rattle.span_tables.specs.declared.limits.TheConstants.{MAX_CONTRACTS}
use Rattle.span_tables.specs.declared.portfolios.Holding.{Holding}
use Rattle.span_tables.specs.declared.records.NumberedPosition.{NumberedPosition}
use Rattle.span_tables.specs.declared.records.Contract.{Contract}
use Rattle.span_tables.specs.declared.records.PositionRecord.{PositionRecord}
use Rattle.binding.specs.Binding.{all_unfit}
use Rattle.binding.specs.declared.faults.BindFault.{BindFault}
use Rattle.binding.specs.declared.faults.BindFault.TheVariants as fault
use Rattle.binding.specs.declared.ledgers.Entry.{Entry}
use Rattle.binding.specs.near.Holdings.{ids_of}
use Rattle.binding.specs.near.Nets.{entries_of}
use Rattle.binding.specs.near.Sums.{kept_holdings}

-- the record is of a contract that is among the ids
abbrev pub is_listed : List (List ℕ) → PositionRecord → Bool
is_listed ids p = list_any (bytes_eq p.contract) ids

-- the record is of a contract that is not among the ids
abbrev pub is_foreign : List (List ℕ) → PositionRecord → Bool
is_foreign ids p = not (is_listed ids p)

-- the records of contracts that are among the ids
abbrev pub listed_records : List (List ℕ) → List PositionRecord → List PositionRecord
listed_records ids positions = filter (is_listed ids) positions

-- the index of a contract among the ids, or their number if it is not among them
abbrev pub contract_place : List (List ℕ) → List ℕ → ℕ
contract_place ids contract = position_or_len (bytes_eq contract) ids

-- the entry of a contract and a quantity, if the contract is among the ids
unfoldable pub known_entry : List (List ℕ) → List ℕ → ℤ → Option Entry
known_entry ids contract quantity =
    if not (list_any (bytes_eq contract) ids) then None
    else Some (record { contract = position_or_len (bytes_eq contract) ids; quantity = quantity })

-- a holding as an entry
abbrev pub held_entry : Holding → Entry
held_entry h = record { contract = h.contract; quantity = h.net }

abbrev pub held_entries : List Holding → List Entry
held_entries holdings = map held_entry holdings

-- the faults of the records whose contracts are not among the ids
unfoldable pub foreign_faults : List (List ℕ) → List PositionRecord → List BindFault
foreign_faults ids positions = all_unfit fault.UnknownContract (λ earlier p. is_foreign ids p) positions

-- these are distinct ids of contracts, by contract number
pub record AreNumbers (ids : List (List ℕ)) : Type 0 where
  pub apart : has_repeat bytes_eq ids ≡ false
  pub few : length ids ≤ MAX_CONTRACTS

-- the record is of one of `count` accounts from number `first` on
abbrev pub is_of : ℕ → ℕ → NumberedPosition → Bool
is_of first count p = nat_le first p.account && nat_lt (p.account - first) count

-- the stored nets of `count` accounts from number `first` on
unfoldable pub slice_nets : List (List ℕ) → List PositionRecord → ℕ → ℕ → List (List Holding)
slice_nets ids positions first count =
    map (kept_holdings (length ids)) (map (entries_of ids positions) (take count (drop first (accounts_of positions))))

-- the stored nets of each account of the positions, if all contracts are known
pub record AreNets (ids : List (List ℕ)) (positions : List PositionRecord) (nets : List (List Holding)) : Type 0 where
  pub contracts : List Contract
  pub ids_are : ids_of contracts ≡ ids
  pub all_known : list_any (is_foreign ids) positions ≡ false
  pub nets_are : nets ≡ slice_nets ids positions 0 (length (accounts_of positions))

-- the faults of the records of unknown contracts, and the stored nets of each account from the other records
pub record AreGathered (ids : List (List ℕ)) (positions : List PositionRecord) (unknown : List BindFault)
    (nets : List (List Holding)) : Type 0 where
  pub contracts : List Contract
  pub ids_are : ids_of contracts ≡ ids
  pub apart : has_repeat bytes_eq ids ≡ false
  pub unknown_are : unknown ≡ foreign_faults ids positions
  pub nets_are : nets ≡ map (kept_holdings (length ids)) (map (entries_of ids (listed_records ids positions)) (accounts_of positions))
