use Rattle.span_tables.specs.Tables.{inters_of, tables_of}
use Rattle.plan_ir.specs.Figures.{loaded_states}
use Rattle.reasons.proofs.SpreadLaws.{inter_stands}
use Rattle.reasons.proofs.TurnLaws.{inters_in_turn, inters_rising, inters_some}
use Rattle.reasons.proofs.laws.each_spread_between_commodities_has_its_lines.Goals as goal

pub returns-clause-stands : goal.returns-clause-stands
returns-clause-stands c t holdings n = inter_stands n (inters_of t) (loaded_states t holdings)

pub returns-clause-in_turn : goal.returns-clause-in_turn
returns-clause-in_turn c t holdings n = inters_in_turn n (inters_of t) (loaded_states t holdings)

pub returns-clause-some : goal.returns-clause-some
returns-clause-some c t holdings n = inters_some n (inters_of t) (loaded_states t holdings)

pub returns-clause-rising : goal.returns-clause-rising
returns-clause-rising c records holdings n = inters_rising records n (loaded_states (tables_of records) holdings)
