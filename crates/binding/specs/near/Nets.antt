-- Nets as the code of binding computes them: an account's entries, each with its contract's number, and their sums by
-- number.
use Rattle.std.specs.Prelude.{ℕ, ◌==◌, List, [], ◌∷◌, map, filter, slice_index_or, bytes_eq, ℤ, pos}
use Rattle.std.specs.List.{range_with_len, position_or_len}
use Rattle.span_money.specs.Numbers.{int_sum_by}
use Rattle.span_tables.specs.Net.{is_held}
use Rattle.span_tables.specs.declared.portfolios.Holding.{Holding}
use Rattle.span_tables.specs.declared.records.PositionRecord.{PositionRecord}
use Rattle.binding.specs.declared.ledgers.Entry.{Entry}

-- a record with the number of its contract; a contract that is not among the ids has the number of ids instead
abbrev pub entry_of : List (List ℕ) → PositionRecord → Entry
entry_of ids p = record { contract = position_or_len (bytes_eq p.contract) ids; quantity = p.quantity }

-- the entries of an account, in file order
abbrev pub entries_of : List (List ℕ) → List PositionRecord → List ℕ → List Entry
entries_of ids positions account = map (entry_of ids) (filter (λ p. bytes_eq p.account account) positions)

-- the net quantity in contract c
abbrev pub entry_net : List Entry → ℕ → ℤ
entry_net entries c = int_sum_by (λ e. e.quantity) (filter (λ e. e.contract == c) entries)

-- the net in contract c as a list, empty if the net is 0
abbrev pub held_part : ℕ → ℤ → List Holding
held_part c net = filter is_held (record { contract = c; net = net } ∷ [])

-- the holdings of a table of nets by contract number: the nets that are not 0
abbrev pub holding_at : List ℤ → ℕ → Holding
holding_at nets c = record { contract = c; net = slice_index_or nets c (pos 0) }

abbrev pub holdings_from : List ℤ → ℕ → List Holding
holdings_from nets n = filter is_held (map (holding_at nets) (range_with_len 0 n))

-- the holdings of an account with these entries, in the first n contracts
unfoldable pub entry_holdings : ℕ → List Entry → List Holding
entry_holdings n entries = filter is_held (map (λ c. record { contract = c; net = entry_net entries c }) (range_with_len 0 n))
