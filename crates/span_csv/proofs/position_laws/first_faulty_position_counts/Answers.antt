use Rattle.std.proofs.Common.{[]}
use Rattle.span_tables.proofs.FaultLaws.{first_fault_some, first_fault_none, first_fault_free}
use Rattle.span_csv.proofs.position_laws.first_faulty_position_counts.Goals as goal

pub returns-clause-first : goal.returns-clause-first
returns-clause-first c = λ rs y. first_fault_some _ [] rs y

pub returns-clause-none : goal.returns-clause-none
returns-clause-none c = λ rs. first_fault_none _ [] rs

pub returns-clause-free : goal.returns-clause-free
returns-clause-free c = λ rs. first_fault_free _ [] rs
