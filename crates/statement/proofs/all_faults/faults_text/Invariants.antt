use Rattle.std.proofs.Common.{◌≡◌, flat_map, take}
use Rattle.statement_text.specs.FaultLines.{fault_line}
use Rattle.statement.proofs.all_faults.faults_text.Given as goal

abbrev pub invariant-loop-fault : goal.invariant-loop-fault
invariant-loop-fault l = l.text.items ≡ flat_map fault_line (take l.fault-index l.faults)
