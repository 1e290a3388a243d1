-- Position records that give their accounts by number. For an order file, the names of its orders replace the accounts.
use Rattle.std.specs.Prelude.{◌≡◌, ◌<◌, ◌≤◌, ℕ, All, List, [], length, map, nat_abs, slice_index_or}
use Rattle.span_tables.specs.Net.{accounts_of}
use Rattle.span_tables.specs.declared.limits.TheConstants.{MAX_ORDERS, MAX_QUANTITY}
use Rattle.span_tables.specs.declared.records.NumberedPosition.{NumberedPosition}
use Rattle.span_tables.specs.declared.records.PositionRecord.{PositionRecord}

-- the position record that a numbered one represents, given the names of the accounts
abbrev pub named_position : List (List ℕ) → NumberedPosition → PositionRecord
named_position accounts p = record { account = slice_index_or accounts p.account []; contract = p.contract; quantity = p.quantity }

-- the position records that numbered ones represent
abbrev pub named_positions : List (List ℕ) → List NumberedPosition → List PositionRecord
named_positions accounts records = map (named_position accounts) records

-- The accounts are the accounts of the records in the order of first appearance, and no limit is exceeded. The limit on
-- accounts is the maximum number of orders of a file, which is larger than the maximum number of accounts.
pub record AreNumbered (accounts : List (List ℕ)) (records : List NumberedPosition) : Type 0 where
  pub accounts_are : accounts ≡ accounts_of (named_positions accounts records)
  pub few : length accounts ≤ MAX_ORDERS
  pub known : All (λ p. p.account < length accounts) records
  pub small : All (λ p. nat_abs p.quantity ≤ MAX_QUANTITY) records
