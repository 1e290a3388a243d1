-- Net quantities, and the contracts that an account holds.
use Rattle.std.specs.Prelude.{ℕ, Bool, not, ◌&&◌, ◌==◌, List, map, filter, filter_map, Option, option_map, slice_get, bytes_eq, ℤ, nat_abs}
use Rattle.std.specs.List.{enumerate_from}
use Rattle.span_money.specs.Numbers.{int_sum_by}
use Rattle.span_tables.specs.Names.{distinct}
use Rattle.span_tables.specs.declared.records.Contract.{Contract}
use Rattle.span_tables.specs.declared.records.PositionRecord.{PositionRecord}
use Rattle.span_tables.specs.declared.portfolios.Holding.{Holding}

-- an account's name, and its net quantity in each contract that it holds, by rising contract number
pub record AccountHoldings : Type 0 where
  pub account : List ℕ
  pub holdings : List Holding

-- the accounts, in the order of first appearance
abbrev pub accounts_of : List PositionRecord → List (List ℕ)
accounts_of positions = distinct (map (λ p. p.account) positions)

-- the net quantity of an account in a contract: the sum of the quantities of its records
abbrev pub net_of : List PositionRecord → List ℕ → List ℕ → ℤ
net_of positions account contract =
    int_sum_by (λ p. p.quantity) (filter (λ p. bytes_eq p.account account && bytes_eq p.contract contract) positions)

-- the net is not 0
abbrev pub is_held : Holding → Bool
is_held h = not (nat_abs h.net == 0)

-- an account's net quantity in a numbered contract
abbrev pub holding_of : List PositionRecord → List ℕ → ℕ × Contract → Holding
holding_of positions account numbered = record { contract = numbered.0; net = net_of positions account (numbered.1).id }

-- the contracts that an account holds
abbrev pub holdings_of : List Contract → List PositionRecord → List ℕ → List Holding
holdings_of contracts positions account = filter is_held (map (holding_of positions account) (enumerate_from 0 contracts))

-- each account with its holdings, in the order of first appearance
unfoldable pub portfolios_of : List Contract → List PositionRecord → List AccountHoldings
portfolios_of contracts positions =
    map (λ account. record { account = account; holdings = holdings_of contracts positions account }) (accounts_of positions)

-- a contract that an account holds: its whole record, and the net quantity
pub record HeldContract : Type 0 where
  pub contract : Contract
  pub net : ℤ

-- a holding with its contract's whole record
abbrev pub held_contract : List Contract → Holding → Option HeldContract
held_contract contracts h = option_map (λ x. record { contract = x; net = h.net }) (slice_get contracts h.contract)

-- the holdings with their contracts' whole records
abbrev pub held_contracts : List Contract → List Holding → List HeldContract
held_contracts contracts holdings = filter_map (held_contract contracts) holdings

-- the held contracts of a commodity, by rising contract number
unfoldable pub held_of : List Contract → List Holding → List ℕ → List HeldContract
held_of contracts holdings commodity =
    filter (λ h. bytes_eq (h.contract).commodity commodity) (held_contracts contracts holdings)
