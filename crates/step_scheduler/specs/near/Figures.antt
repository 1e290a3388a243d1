-- The figures that a complete board returns.
use Rattle.std.specs.Prelude.{◌≡◌, ◌==◌, ℕ, ◌+◌, ◌<◌, ◌≤◌, List, length, not, slice_index_or}
use Rattle.span_tables.specs.Tables.{AcceptedTables}
use Rattle.span_tables.specs.declared.limits.TheConstants.{MAX_COMMODITIES}
use Rattle.span_tables.specs.declared.portfolios.Holding.{Holding}
use Rattle.plan_ir.specs.Figures.{figures_of, is_commodity_held}
use Rattle.plan_ir.specs.Values.{no_figures}
use Rattle.plan_ir.specs.declared.figures.Figures.{Figures}
use Rattle.step_scheduler.specs.declared.held_figures.HeldFigures.{HeldFigures}

-- the index of a commodity's figures
abbrev pub place_of : HeldFigures → ℕ → ℕ
place_of held c = slice_index_or held.places c 0

-- a commodity has its figures, and has index 0 exactly if it is not held
pub record HasFigures (t : AcceptedTables) (holdings : List Holding) (held : HeldFigures) (c : ℕ) : Type 0 where
  pub placed : place_of held c < length held.figures.items
  pub right : (d : Figures) → slice_index_or held.figures.items (place_of held c) d ≡ figures_of t holdings c
  pub flag : not (place_of held c == 0) ≡ is_commodity_held t holdings c

-- all commodities have their figures
pub record AreHeldFigures (t : AcceptedTables) (holdings : List Holding) (held : HeldFigures) : Type 0 where
  pub few : length t.commodities ≤ MAX_COMMODITIES
  pub each : (c : ℕ) → c < length t.commodities → HasFigures t holdings held c

-- the first n commodities have their figures, and the others have index 0, where the figures of nothing held are
pub record AreFilled (t : AcceptedTables) (holdings : List Holding) (n : ℕ) (held : HeldFigures) : Type 0 where
  pub some : 0 < length held.figures.items
  pub few : length held.figures.items ≤ n + 1
  pub rest : (d : Figures) → slice_index_or held.figures.items 0 d ≡ no_figures
  pub long : length held.places ≡ MAX_COMMODITIES
  pub done : (c : ℕ) → c < n → HasFigures t holdings held c
  pub left : (c : ℕ) → n ≤ c → c < MAX_COMMODITIES → place_of held c ≡ 0
