use Rattle.clap.specs.Words.{app_of}
use Rattle.span_cli.proofs.ParseLemmas.{mistaken_fails, subcommand_read}
use Rattle.span_cli.proofs.words.parse.Goals as goal

pub returns-clause-ok : goal.returns-clause-ok
returns-clause-ok g c = subcommand_read (app_of c.in_ok-command.command) _ c.try_get_matches_from.result c.in_ok-command.ensures.shape
    c.try_get_matches_from.ensures.matches

pub returns-clause-kinds : goal.returns-clause-kinds
returns-clause-kinds g c = mistaken_fails (app_of c.in_ok-command.command) _ c.try_get_matches_from.result c.in_ok-command.ensures.shape
    c.try_get_matches_from.ensures.kinds
