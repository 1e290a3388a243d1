-- The content of two accepted files.
use Rattle.std.specs.Prelude.{◌≡◌, ℕ, List, Ok, bytes_eq, map}
use Rattle.std.specs.Arc.{arc_value}
use Rattle.span_csv.specs.PositionFaults.{positions_of}
use Rattle.worker_pool.specs.Batches.{AllFit}
use Rattle.statement_text.specs.Statement.{accepted_of, portfolios_under}
use Rattle.acceptance.specs.declared.accepting.Accepted.{Accepted}
use Rattle.std.specs.List.{IsDistinct}
use Rattle.span_tables.specs.Net.{AccountHoldings}

-- the portfolios have distinct accounts
abbrev pub AreOnce : List AccountHoldings → Type 0
AreOnce portfolios = IsDistinct bytes_eq (map (λ p. p.account) portfolios)

-- the portfolios are those that the positions are bound to under the parameter set
pub record IsBound (accepted : Accepted) : Type 0 where
  pub portfolios : portfolios_under (arc_value accepted.set).tables accepted.positions ≡ Ok accepted.portfolios
  pub fits : AllFit (arc_value accepted.set) accepted.portfolios
  pub once : AreOnce accepted.portfolios

-- the parameter set and the positions are the content of two files, and the positions are bound to the portfolios
pub record IsAccepted (params positions : List ℕ) (accepted : Accepted) : Type 0 where
  pub tables : accepted_of params ≡ Ok (arc_value accepted.set).tables
  pub records : positions_of positions ≡ Ok accepted.positions
  pub bound : IsBound accepted
