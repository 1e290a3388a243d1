use Rattle.span_tables.specs.Tables.{commodity_id, tables_of}
use Rattle.spread_stage.specs.Spreads.{unspread}
use Rattle.plan_ir.specs.Figures.{deltas_at, intras_at}
use Rattle.reasons.proofs.SpreadLaws.{intra_stands}
use Rattle.reasons.proofs.TurnLaws.{intras_in_turn, intras_rising, intras_some}
use Rattle.reasons.proofs.laws.each_spread_between_months_has_its_lines.Goals as goal

pub returns-clause-stands : goal.returns-clause-stands
returns-clause-stands c t holdings n = intra_stands (intras_at t n) (unspread (deltas_at t holdings n))

pub returns-clause-in_turn : goal.returns-clause-in_turn
returns-clause-in_turn c t holdings n = intras_in_turn (intras_at t n) (unspread (deltas_at t holdings n))

pub returns-clause-some : goal.returns-clause-some
returns-clause-some c t holdings n = intras_some (intras_at t n) (unspread (deltas_at t holdings n))

pub returns-clause-rising : goal.returns-clause-rising
returns-clause-rising c records holdings n =
    intras_rising records (commodity_id (tables_of records) n) (unspread (deltas_at (tables_of records) holdings n))
