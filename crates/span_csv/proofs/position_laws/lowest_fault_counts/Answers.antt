use Rattle.span_csv.proofs.LowestLaws.{first_holds, none_holds}
use Rattle.span_csv.proofs.position_laws.lowest_fault_counts.Goals as goal

pub returns-clause-first : goal.returns-clause-first
returns-clause-first c = first_holds

pub returns-clause-none : goal.returns-clause-none
returns-clause-none c = none_holds
