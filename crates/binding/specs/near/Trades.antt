-- Trades as entries.
use Rattle.std.specs.Prelude.{ℕ, Bool, not, List, bytes_eq}
use Rattle.std.specs.List.{list_any}
use Rattle.binding.specs.declared.ledgers.Entry.{Entry}
use Rattle.binding.specs.declared.trades.Trade.{Trade}
use Rattle.binding.specs.near.Ledgers.{contract_place}

-- the trade is in a contract that is not among the ids
abbrev pub is_unlisted : List (List ℕ) → Trade → Bool
is_unlisted ids trade = not (list_any (bytes_eq trade.contract) ids)

-- a trade as an entry
abbrev pub trade_entry : List (List ℕ) → Trade → Entry
trade_entry ids trade = record { contract = contract_place ids trade.contract; quantity = trade.quantity }
