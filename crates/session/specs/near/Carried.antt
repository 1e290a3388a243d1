-- The holdings of accounts under another parameter set, by their contracts' numbers.
use Rattle.std.specs.Prelude.{◌≡◌, ℕ, List, ◌++◌, All, None, Option, bytes_eq, filter_map, find, length, map, option_map, position, take}
use Rattle.std.specs.Prelude.{true}
use Rattle.span_tables.specs.Holdings.{fits}
use Rattle.span_tables.specs.Net.{AccountHoldings}
use Rattle.span_tables.specs.declared.portfolios.Holding.{Holding}
use Rattle.span_tables.specs.declared.records.Contract.{Contract}
use Rattle.binding.specs.Binding.{is_unknown}
use Rattle.binding.specs.near.Holdings.{ids_of}
use Rattle.session.specs.Accounts.{contract_of, held_record, lost_record, under_contracts}

-- the number of the contract with an id, if there is one
abbrev pub number_of : List Contract → List ℕ → Option ℕ
number_of contracts id = position (bytes_eq id) (ids_of contracts)

-- for each contract its number in another parameter set, if the set has it
abbrev pub numbers_in : List Contract → List Contract → List (Option ℕ)
numbers_in old new = map (λ x. number_of new x.id) old

-- a holding with the number of its contract in another parameter set, if the set has the contract
abbrev pub renumbered : List Contract → List Contract → Holding → Option Holding
renumbered old new h = option_map (λ number. record { contract = number; net = h.net }) (number_of new (contract_of old h))

-- the holdings of an account before an index, with the numbers of their contracts, which the parameter set has
pub record AreMoved (old new : List Contract) (p : AccountHoldings) (i : ℕ) (holdings : List Holding) : Type 0 where
  pub moved : holdings ≡ filter_map (renumbered old new) (take i p.holdings)
  pub found : find (is_unknown new) (map (held_record old p.account) (take i p.holdings)) ≡ None

-- the accounts that were carried over to another parameter set, and the accounts that are left
pub record AreCarried (old new : List Contract) (all left carried : List AccountHoldings) : Type 0 where
  pub accounts : carried ++ map (under_contracts old new) left ≡ map (under_contracts old new) all
  pub fit : All (λ p. fits (length old) p.holdings ≡ true) left
  pub lost : lost_record old new all ≡ lost_record old new left
