-- The invariant of a session's state, by which its accounts can be written as position records and read again.
use Rattle.std.specs.Prelude.{◌≡◌, ◌≤◌, List, bytes_eq, false, filter, length, map, true}
use Rattle.std.specs.List.{AllByRecursion, enumerate_from}
use Rattle.span_tables.specs.Holdings.{ArePortfolio}
use Rattle.span_tables.specs.Names.{has_repeat, is_name}
use Rattle.span_tables.specs.Net.{AccountHoldings, is_held}
use Rattle.span_tables.specs.Orders.{net_among}
use Rattle.span_tables.specs.declared.limits.TheConstants.{MAX_ACCOUNTS}
use Rattle.span_tables.specs.declared.portfolios.Holding.{Holding}
use Rattle.span_tables.specs.declared.records.Contract.{Contract}
use Rattle.session.specs.Answers.{State}
use Rattle.session.specs.near.Kept.{AreOnce}

-- the nets of the contracts in the holdings that are not 0, by rising contract index
abbrev pub by_number : List Contract → List Holding → List Holding
by_number contracts holdings =
    filter is_held (map (λ n. record { contract = n.0; net = net_among holdings n.0 }) (enumerate_from 0 contracts))

-- the account's name is valid, and its portfolio has at most one holding of each contract
pub record IsKeptAccount (contracts : List Contract) (p : AccountHoldings) : Type 0 where
  pub named : is_name p.account ≡ true
  pub portfolio : ArePortfolio p.holdings
  pub numbered : by_number contracts p.holdings ≡ p.holdings

-- Contract ids are distinct, and each id is a name. Accounts are distinct, within the limit, and each is a kept
-- account.
pub record IsKeptState (s : State) : Type 0 where
  pub apart : has_repeat (λ x y. bytes_eq x.id y.id) s.tables.contracts ≡ false
  pub named : AllByRecursion (λ x. is_name x.id ≡ true) s.tables.contracts
  pub once : AreOnce s.accounts
  pub few : length s.accounts ≤ MAX_ACCOUNTS
  pub accounts : AllByRecursion (IsKeptAccount s.tables.contracts) s.accounts
