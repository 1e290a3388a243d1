-- The parameter set that a session uses, and the state of a session.
use Rattle.std.specs.Prelude.{◌≡◌, ℕ, List}
use Rattle.binding.specs.near.Holdings.{ids_of}
use Rattle.plan_compiler.specs.Compiled.{SetView}
use Rattle.span_tables.specs.Net.{AccountHoldings}
use Rattle.session.specs.Answers.{State}

-- the runs are under the parameter set, and the trader has its contracts
pub record IsInUse (set runs : SetView) (trader : List (List ℕ)) : Type 0 where
  pub under : runs ≡ set
  pub contracts : trader ≡ ids_of set.tables.contracts

-- the state with a parameter set and accounts
abbrev pub state_of : SetView → List AccountHoldings → State
state_of set accounts = record { tables = set.tables; accounts = accounts }
