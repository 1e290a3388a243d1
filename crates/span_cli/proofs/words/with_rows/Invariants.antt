use Rattle.std.proofs.Common.{◌≡◌, drop, map}
use Rattle.clap.specs.Words.{app_of}
use Rattle.span_cli.specs.Words.{with_commands}
use Rattle.span_cli.specs.near.Rows.{row_app}
use Rattle.span_cli.proofs.words.with_rows.Given as goal

abbrev pub invariant-loop-row : goal.invariant-loop-row
invariant-loop-row l =
    with_commands (app_of l.program) (map row_app (drop l.row-index l.rows))
    ≡ with_commands (app_of l.fn.program) (map row_app l.rows)
