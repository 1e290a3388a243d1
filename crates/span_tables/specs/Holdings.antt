-- The properties of portfolios and held contracts.
use Rattle.std.specs.Prelude.{ℕ, ◌≢◌, ◌<◌, ◌≤◌, Bool, nat_lt, List, length, map, All, nat_abs}
use Rattle.std.specs.List.Sorted.{IsStrictlyIncreasing}
use Rattle.std.specs.List.{list_all}
use Rattle.span_tables.specs.Accepted.{IsContract}
use Rattle.span_tables.specs.Net.{HeldContract}
use Rattle.span_tables.specs.declared.limits.TheConstants.{MAX_HELD, MAX_NET}
use Rattle.span_tables.specs.declared.portfolios.Holding.{Holding}
use Rattle.span_tables.specs.declared.records.Contract.{Contract}

-- the holdings of an account: within their limit, by rising contract number, and each net is not 0 and within its limit
pub record ArePortfolio (holdings : List Holding) : Type 0 where
  pub few : length holdings ≤ MAX_HELD
  pub nets : All (λ h. nat_abs h.net ≤ MAX_NET) holdings
  pub held : All (λ h. nat_abs h.net ≢ 0) holdings
  pub rising : IsStrictlyIncreasing (map (λ h. h.contract) holdings)

-- each holding is of a contract number below `contracts`
abbrev pub fits : ℕ → List Holding → Bool
fits contracts holdings = list_all (λ h. nat_lt h.contract contracts) holdings

-- the holdings of a commodity: within their limit, each of a contract that exists, and each net and contract is in
-- range
pub record AreHoldings (contracts : List Contract) (holdings : List Holding) : Type 0 where
  pub few : length holdings ≤ MAX_HELD
  pub nets : All (λ h. nat_abs h.net ≤ MAX_NET) holdings
  pub known : All (λ h. h.contract < length contracts) holdings
  pub in_range : All IsContract contracts

-- the held contracts of a commodity: within their limit, and each net and contract is in range
pub record AreHeld (held : List HeldContract) : Type 0 where
  pub few : length held ≤ MAX_HELD
  pub nets : All (λ h. nat_abs h.net ≤ MAX_NET) held
  pub contracts : All (λ h. IsContract h.contract) held
