use Rattle.std.proofs.Common.{◌≡◌, drop, map, false}
use Rattle.clap.specs.Words.{app_of, new_app}
use Rattle.clap.specs.declared.builder.command.Command.TheViews.{out-Command as fields_of}
use Rattle.span_cli.specs.Words.{with_rules}
use Rattle.span_cli.specs.near.Rows.{file_rule_of}
use Rattle.span_cli.proofs.words.with_files.Given as goal

abbrev pub invariant-loop-file : goal.invariant-loop-file
invariant-loop-file l = record {
  local : (fields_of l.command).has_globals ≡ false;
  shape : with_rules (app_of l.command) (map file_rule_of (drop l.file-index l.row.files.now))
      ≡ with_rules (new_app l.row.name.now) (map file_rule_of l.row.files.now);
}
