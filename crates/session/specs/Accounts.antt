-- The accounts of a session: the account with a name, its holdings as position records, and the same holdings under
-- another parameter set.
use Rattle.std.specs.Prelude.{ℕ, ◌==◌, if◌then◌else◌, List, [], ◌∷◌, length, map, flat_map, find, slice_get, bytes_eq, pos}
use Rattle.std.specs.Prelude.{Option, option_map, unwrap_or}
use Rattle.span_tables.specs.Net.{AccountHoldings, holdings_of}
use Rattle.span_tables.specs.declared.portfolios.Holding.{Holding}
use Rattle.span_tables.specs.declared.records.Contract.{Contract}
use Rattle.span_tables.specs.declared.records.PositionRecord.{PositionRecord}
use Rattle.binding.specs.Binding.{is_unknown}

-- ---- one account

-- the account with this name, if there is one
abbrev pub account_named : List AccountHoldings → List ℕ → Option AccountHoldings
account_named accounts name = find (λ p. bytes_eq p.account name) accounts

-- the accounts after this portfolio replaces the account's earlier one, or is appended if the account is new
abbrev pub with_account : List AccountHoldings → AccountHoldings → List AccountHoldings
with_account [] p = p ∷ []
with_account (q ∷ rest) p = if bytes_eq p.account q.account then p ∷ rest else q ∷ with_account rest p

-- ---- position records

-- the id of the contract of a holding
abbrev pub contract_of : List Contract → Holding → List ℕ
contract_of contracts h = unwrap_or (option_map (λ x. x.id) (slice_get contracts h.contract)) []

-- a holding of an account, as a position record
abbrev pub held_record : List Contract → List ℕ → Holding → PositionRecord
held_record contracts account h = record { account = account; contract = contract_of contracts h; quantity = h.net }

-- the holdings of an account, one position record for each holding
abbrev pub held_records : List Contract → AccountHoldings → List PositionRecord
held_records contracts p = map (held_record contracts p.account) p.holdings

-- the record of an account that holds nothing: quantity 0 in the first contract of the parameter set, and no record if
-- it has no contract
abbrev pub flat_records : List Contract → List ℕ → List PositionRecord
flat_records [] account = []
flat_records (first ∷ rest) account = record { account = account; contract = first.id; quantity = pos 0 } ∷ []

-- the position records of an account, in the file order of the parameter set
abbrev pub account_records : List Contract → AccountHoldings → List PositionRecord
account_records contracts p = if length p.holdings == 0 then flat_records contracts p.account else held_records contracts p

-- the position records of all accounts
abbrev pub position_records : List Contract → List AccountHoldings → List PositionRecord
position_records contracts accounts = flat_map (account_records contracts) accounts

-- ---- another parameter set

-- the first holding whose contract another parameter set lacks: in the first account that has one, the first in the old
-- set's file order
abbrev pub lost_record : List Contract → List Contract → List AccountHoldings → Option PositionRecord
lost_record old new accounts = find (is_unknown new) (flat_map (held_records old) accounts)

-- an account under another parameter set: it holds the contracts with the same ids
abbrev pub under_contracts : List Contract → List Contract → AccountHoldings → AccountHoldings
under_contracts old new p = record { account = p.account; holdings = holdings_of new (held_records old p) p.account }
