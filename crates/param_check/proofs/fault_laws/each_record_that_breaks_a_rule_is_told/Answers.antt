use Rattle.std.proofs.Common.{[]}
use Rattle.span_tables.proofs.FaultLaws.{faults_are_of_some, faults_told}
use Rattle.param_check.proofs.fault_laws.each_record_that_breaks_a_rule_is_told.Goals as goal

pub returns-clause-rules : goal.returns-clause-rules
returns-clause-rules c = λ fault breaks all y. faults_told _ [] all y

pub returns-clause-no_other : goal.returns-clause-no_other
returns-clause-no_other c = λ fault breaks all. faults_are_of_some _ [] all

pub returns-clause-positions : goal.returns-clause-positions
returns-clause-positions c = λ fault unfit all y. faults_told _ [] all y

pub returns-clause-no_other_position : goal.returns-clause-no_other_position
returns-clause-no_other_position c = λ fault unfit all. faults_are_of_some _ [] all
