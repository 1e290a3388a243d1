use Rattle.std.proofs.Common.{◌≡◌, ap, arith, length}
use Rattle.span_csv.specs.PositionFaults.{position_faults}
use Rattle.span_csv.specs.Records.{records_of}
use Rattle.span_csv.proofs.SizeLemmas.{records_few}
use Rattle.span_csv.proofs.positions.position_faults.Goals as goal

pub faults_in-requires-clause-room : goal.faults_in-requires-clause-room
faults_in-requires-clause-room c =
    let few = records_few c.args.bytes.now in
    let read : length c.new-rows.result ≡ length (records_of c.args.bytes.now) = ap length c.new-rows.ensures in
    omega (arith, few, read)

pub returns : goal.returns
unfolding position_faults
returns c = rw (← c.new-rows.ensures) c.faults_in.ensures
