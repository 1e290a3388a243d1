-- The outcomes of a batch for its accounts.
use Rattle.std.specs.Prelude.{◌≡◌, List}
use Rattle.std.specs.Arc.{arc_value}
use Rattle.std.specs.List.{AllZip}
use Rattle.span_tables.specs.Net.{AccountHoldings}
use Rattle.plan_compiler.specs.Compiled.{SetView}
use Rattle.worker_pool.specs.declared.outcomes.Outcome.{Outcome}
use Rattle.worker_pool.specs.declared.outcomes.Outcome.TheVariants.{Margined, NoMemory}

-- a row carries the parameter set and the account's portfolio; an out-of-memory outcome has the account's name
abbrev pub IsOutcome : SetView → AccountHoldings → Outcome → Type 0
IsOutcome set portfolio (Margined row) = arc_value row ≡ record { set = set; portfolio = portfolio }
IsOutcome set portfolio (NoMemory account) = account ≡ portfolio.account

-- as many outcomes as portfolios, each for the portfolio at the same index
abbrev pub AreOutcomes : SetView → List AccountHoldings → List Outcome → Type 0
AreOutcomes set portfolios outcomes = AllZip (IsOutcome set) portfolios outcomes
