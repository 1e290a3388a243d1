use Rattle.std.proofs.Common.{◌≡◌, ◌+◌, ◌<◌, ◌∙◌, ℕ, List, length, get_or, drop, map, sym}
use Rattle.std.proofs.lemmas.List.{at_drop_more}
use Rattle.clap.specs.Words.{App, app_of, with_subcommand}
use Rattle.span_cli.specs.Words.{with_commands}
use Rattle.span_cli.specs.near.Rows.{row_app}
use Rattle.span_cli.specs.declared.words.CommandRow.{CommandRow}
use Rattle.span_cli.proofs.words.with_rows.Goals as goal

-- the command of the next row was added
added_row : (program next whole : App) (rows : List CommandRow) (i : ℕ) (none : CommandRow) (added : App) → i < length rows
    → added ≡ row_app (get_or rows i none) → next ≡ with_subcommand program added.top
    → with_commands program (map row_app (drop i rows)) ≡ whole
    → with_commands next (map row_app (drop (i + 1) rows)) ≡ whole
added_row program next whole rows i none added within row is held =
    let step = at_drop_more (λ rest. with_commands program (map row_app rest)) rows i none within in
    rw (is, row) (sym step ∙ held)

pub loop-row-preserved : goal.loop-row-preserved
loop-row-preserved c = added_row (app_of c.loop-row.program) (app_of c.in_ok-program.program) _ c.args.rows.now c.loop-row.row-index _
    (app_of c.in_ok-added.added) c.loop-row-test.true c.in_ok-added.ensures.shape c.in_ok-program.ensures c.loop-row.invariant
