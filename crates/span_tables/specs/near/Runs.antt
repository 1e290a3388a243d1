-- An account's holdings in runs: the holdings of one commodity after another, by rising commodity number.
use Rattle.std.specs.Prelude.{◌≡◌, ◌<◌, ◌≤◌, ◌+◌, ℕ, [], All, List, length}
use Rattle.std.specs.List.Sorted.{IsNonDecreasingBy}
use Rattle.span_tables.specs.Tables.{AcceptedTables, commodity_id}
use Rattle.span_tables.specs.declared.portfolios.Holding.{Holding}
use Rattle.span_tables.specs.near.Gathered.{holdings_in, number_held}

-- the same holdings by rising commodity number, the holdings of one commodity in the same order
pub record AreByCommodity (t : AcceptedTables) (holdings sorted : List Holding) : Type 0 where
  pub known : All (λ h. h.contract < length t.contracts) sorted
  pub rise : IsNonDecreasingBy (number_held t) sorted
  pub same : (c : ℕ) → c < length t.commodities
      → holdings_in t.contracts sorted (commodity_id t c) ≡ holdings_in t.contracts holdings (commodity_id t c)

-- the holdings that are left after the holdings of the commodities below a number are removed
pub record AreLeft (t : AcceptedTables) (holdings : List Holding) (next : ℕ) (left : List Holding) : Type 0 where
  pub known : All (λ h. h.contract < length t.contracts) left
  pub rise : IsNonDecreasingBy (number_held t) left
  pub behind : All (λ h. next ≤ number_held t h) left
  pub same : (c : ℕ) → next ≤ c → c < length t.commodities
      → holdings_in t.contracts left (commodity_id t c) ≡ holdings_in t.contracts holdings (commodity_id t c)

-- the run has all holdings of commodity n, the first one from a number on that is held, and the others are left
pub record IsNextRun (t : AcceptedTables) (holdings : List Holding) (next n : ℕ) (run left : List Holding) : Type 0 where
  pub behind : next ≤ n
  pub none : (c : ℕ) → next ≤ c → c < n → holdings_in t.contracts holdings (commodity_id t c) ≡ []
  pub is : run ≡ holdings_in t.contracts holdings (commodity_id t n)
  pub after : AreLeft t holdings (n + 1) left
