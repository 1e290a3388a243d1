use Rattle.span_cli.proofs.FileReadLemmas.{file_read}
use Rattle.span_cli.proofs.reading.read_file.Goals as goal

pub returns-clause-reads : goal.returns-clause-reads
returns-clause-reads g c =
    file_read g.R.Input.reads _ c.args.file _ _ c.read_within.result c.new-reader.ensures.input c.new-reader.ensures.left
    c.new-reader.ensures.failed c.read_within.ensures.made
