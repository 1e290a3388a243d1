-- The `clap` definition of a row of the code's table, and the request for files that are given.
use Rattle.std.specs.Prelude.{List, [], ◌∷◌, Option, Some, None, map}
use Rattle.clap.specs.Words.{App, Row, Rule, new_app}
use Rattle.span_cli.specs.Serving.{Asked}
use Rattle.span_cli.specs.Words.{FileWord, account_rule, asked_by_words, file_rule, with_rules, words_of, workers_rule}
use Rattle.span_cli.specs.declared.requests.Service.{Service}
use Rattle.span_cli.specs.declared.words.CommandRow.{CommandRow}
use Rattle.span_cli.specs.declared.words.FileArg.{FileArg}
use Rattle.span_cli.specs.declared.words.OptionArg.{OptionArg}
use Rattle.span_cli.specs.declared.words.OptionArg.TheVariants.{Account, Workers}

-- the rule of a file
abbrev pub file_rule_of : FileArg → Rule
file_rule_of file = file_rule (record { id = file.id.now; required = file.required })

-- the rule of an option
abbrev pub option_rule : OptionArg → Rule
option_rule Workers = workers_rule
option_rule Account = account_rule

-- the rules of the options
abbrev pub option_rules : Option OptionArg → List Rule
option_rules None = []
option_rules (Some option) = option_rule option ∷ []

-- the command of a row
abbrev pub row_app : CommandRow → App
row_app row = with_rules (with_rules (new_app row.name.now) (map file_rule_of row.files.now)) (option_rules row.option)

-- the request for this service and these files, unless a required one is not given
abbrev pub asked_for : Service → List FileWord → List Row → Option Asked
asked_for service files rows = asked_by_words (words_of [] files [] (λ rows. Some service)) rows
