use Rattle.span_csv.proofs.ReadableLaws.{params_readable}
use Rattle.span_csv.proofs.params.read_params.Goals as goal

pub new-requires : goal.new-requires
new-requires c = params_readable c.args.bytes.now _ c.in_ok-read_records.ensures
