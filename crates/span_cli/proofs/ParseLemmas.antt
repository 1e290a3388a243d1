-- The contracts of `clap`, applied to the program's own command.
use Rattle.std.proofs.Common.{◌≡◌, subst, refl, List, true, Result, Ok, Err, IfOk}
use Rattle.clap.specs.Words.{App, FailsBy, HasMatchesOf, Text, fault_of, is_simple_and_free, subcommand_of, subcommand_rows_of}
use Rattle.clap.specs.declared.error.Error.{Error}
use Rattle.clap.specs.declared.parser.matches.ArgMatches.{ArgMatches}
use Rattle.span_cli.specs.Words.{form_kinds, span_app}

-- arguments are rejected only for a usage error of their form, or because memory ran out
pub mistaken_fails : {T : Type 0} (a : App) (words : List Text) (r : Result T Error) → a ≡ span_app
    → (is_simple_and_free a ≡ true → FailsBy (fault_of a words) r) → FailsBy (form_kinds words) r
unfolding form_kinds
mistaken_fails a words r same h = subst (λ (x : App). is_simple_and_free x ≡ true → FailsBy (fault_of x words) r) same h refl

-- arguments that were parsed name a command
pub subcommand_read : (a : App) (words : List Text) (r : Result ArgMatches Error) → a ≡ span_app
    → IfOk r (HasMatchesOf a words) → IfOk r (λ m. subcommand_rows_of m ≡ subcommand_of span_app words)
subcommand_read a words (Ok m) same h = (subst (λ (x : App). HasMatchesOf x words m) same h refl).1
subcommand_read a words (Err e) same h = tt
