use Rattle.span_csv.proofs.ReadLemmas.{params_read}
use Rattle.span_csv.proofs.params.read_records.Goals as goal

pub returns : goal.returns
returns c = rw (params_read c.args.bytes.now, ← c.new-rows.ensures) c.params_in.ensures
