-- The request of a command line.
use Rattle.std.specs.Prelude.{ℕ, Bool, true, false, List, [], ◌∷◌, ◌++◌, ◌&&◌, ◌||◌, ◌==◌, Option, Some, None, codes, bytes_eq, nat_lt}
use Rattle.std.specs.Prelude.{if◌then◌else◌, is_some, map, option_map, option_and_then}
use Rattle.std.specs.Str.Parse.{digits_value, without_leading_plus}
use Rattle.clap.specs.Kinds.{or_else}
use Rattle.clap.specs.Lexer.{usize_max}
use Rattle.clap.specs.ValueTests.{is_unsigned_in}
use Rattle.clap.specs.Walk.{is_empty}
use Rattle.clap.specs.Words.{App, Kinds, Row, Rule, Text, first_of, new_app, new_rule, fault_of, subcommand_of, with_rule, with_subcommand}
use Rattle.clap.specs.declared.builder.value_parser.ValueParser.TheVariants as value_parser
use Rattle.clap.specs.declared.error.kind.ErrorKind.TheVariants as kind
use Rattle.span_tables.specs.Names.{name_of}
use Rattle.worker_pool.specs.declared.batch.TheConstants.{MAX_WORKERS}
use Rattle.span_cli.specs.Serving.{Asked}
use Rattle.span_cli.specs.declared.requests.Command.TheVariants.{Check, Explain, Faults, Margin, Plan, Roll, WhatIf}
use Rattle.span_cli.specs.declared.requests.Service.{Service}
use Rattle.span_cli.specs.declared.requests.Service.TheVariants.{Once, Session}

-- The arguments, with each `--account` and the argument after it, whatever that is, joined into one. A `--` and
-- everything after it stay as they are.
unfoldable pub joined : List Text → List Text
joined [] = []
joined (word ∷ []) = word ∷ []
joined (word ∷ next ∷ rest) =
    if bytes_eq word (codes "--account") then (codes "--account=" ++ next) ∷ joined rest
    else if bytes_eq word (codes "--") then word ∷ next ∷ rest
    else word ∷ joined (next ∷ rest)

-- a command line, whose first argument is the program's name, as it is parsed
abbrev pub joined_words : List Text → List Text
joined_words [] = []
joined_words (program ∷ words) = program ∷ joined words

-- the name of a file in usage texts, and whether the file is required
pub record FileWord : Type 0 where
  pub id : Text
  pub required : Bool

-- the argument for a file
abbrev pub file_rule : FileWord → Rule
file_rule file = record (new_rule file.id) { required = file.required }

-- required files
abbrev pub needed : List Text → List FileWord
needed ids = map (λ id. record { id = id; required = true }) ids

-- optional files
abbrev pub optional : List Text → List FileWord
optional ids = map (λ id. record { id = id; required = false }) ids

-- the number of workers, from 1 to the maximum; 1 by default
abbrev pub workers_rule : Rule
workers_rule = record (new_rule (codes "workers")) {
  long = Some (codes "workers");
  value_names = 1;
  defaults = codes "1" ∷ [];
  parser = Some (value_parser.Unsigned 1 MAX_WORKERS);
}

-- the account, which is optional
abbrev pub account_rule : Rule
account_rule = record (new_rule (codes "account")) { long = Some (codes "account"); value_names = 1 }

-- the number that a text spells, if a `usize` can contain it; it may begin with a plus
abbrev pub number_in : Text → Option ℕ
number_in text =
    if is_unsigned_in 0 usize_max text then Some (digits_value 10 (without_leading_plus text)) else None

-- the number, if it is a number of workers: 1 to 16
abbrev pub in_range : ℕ → Option ℕ
in_range n = if n == 0 || nat_lt MAX_WORKERS n then None else Some n

-- the number of workers in the arguments
abbrev pub workers_in : List Row → Option ℕ
workers_in rows = option_and_then in_range (option_and_then number_in (first_of (codes "workers") rows))

-- the account that a text names, if there is a text; nothing if the text is not a valid name
abbrev pub account_option : Option Text → Option (Option Text)
account_option None = Some None
account_option (Some text) = option_map (λ name. Some name) (name_of text)

-- the account in the arguments, if there is one
abbrev pub account_in : List Row → Option (Option Text)
account_in rows = account_option (first_of (codes "account") rows)

-- the name of a command, its files in their order, its options, and the service that their values ask for
pub record CommandWords : Type 0 where
  pub name : Text
  pub files : List FileWord
  pub options : List Rule
  pub asks : List Row → Option Service

-- services with a number of workers, and with an account
abbrev pub with_workers : (ℕ → Service) → List Row → Option Service
with_workers service rows = option_map service (workers_in rows)

abbrev pub with_account_option : (Option Text → Service) → List Row → Option Service
with_account_option service rows = option_map service (account_in rows)

-- the arguments of a command
abbrev pub words_of : Text → List FileWord → List Rule → (List Row → Option Service) → CommandWords
words_of name files options asks = record { name = name; files = files; options = options; asks = asks }

-- all commands, one on each line, in the order of the help text
abbrev pub commands : List CommandWords
commands =
    words_of (codes "margin") (needed (codes "PARAMS" ∷ codes "POSITIONS" ∷ [])) (workers_rule ∷ [])
    (with_workers (λ workers. Once (Margin workers)))
    ∷ words_of (codes "explain") (needed (codes "PARAMS" ∷ codes "POSITIONS" ∷ [])) (account_rule ∷ [])
    (with_account_option (λ account. Once (Explain account)))
    ∷ words_of (codes "whatif") (needed (codes "PARAMS" ∷ codes "POSITIONS" ∷ codes "ORDERS" ∷ [])) (workers_rule ∷ [])
    (with_workers (λ workers. Once (WhatIf workers)))
    ∷ words_of (codes "session") (needed (codes "PARAMS" ∷ codes "POSITIONS" ∷ [])) (workers_rule ∷ []) (with_workers Session)
    ∷ words_of (codes "roll") (needed (codes "PARAMS" ∷ codes "NEXT" ∷ codes "POSITIONS" ∷ [])) (workers_rule ∷ [])
    (with_workers (λ workers. Once (Roll workers)))
    ∷ words_of (codes "faults") (needed (codes "PARAMS" ∷ []) ++ optional (codes "POSITIONS" ∷ [])) [] (λ rows. Some (Once Faults))
    ∷ words_of (codes "check") (needed (codes "PARAMS" ∷ [])) [] (λ rows. Some (Once Check))
    ∷ words_of (codes "plan") (needed (codes "PARAMS" ∷ [])) [] (λ rows. Some (Once Plan))
    ∷ []

-- a command with these arguments after its own
abbrev pub with_rules : App → List Rule → App
with_rules app [] = app
with_rules app (rule ∷ rules) = with_rules (with_rule app rule) rules

-- a command with these files and options
abbrev pub command_app : CommandWords → App
command_app command = with_rules (with_rules (new_app command.name) (map file_rule command.files)) command.options

-- a program with these commands after its own
abbrev pub with_commands : App → List App → App
with_commands app [] = app
with_commands app (command ∷ others) = with_commands (with_subcommand app command.top) others

-- the program without its commands; it has a version, and a command is required
abbrev pub app_without_commands : App
app_without_commands =
    let a = new_app (codes "span") in record a { top = record a.top { subcommand_required = true; has_version = true } }

-- the program
abbrev pub span_app : App
span_app = with_commands app_without_commands (map command_app commands)

-- the names of the given files, in their order; nothing if a required one is missing
abbrev pub given_before : Option Text → Bool → Option (List Text) → Option (List Text)
given_before (Some name) required rest = option_map (λ names. name ∷ names) rest
given_before None true rest = None
given_before None false rest = rest

abbrev pub files_in : List FileWord → List Row → Option (List Text)
files_in [] rows = Some []
files_in (file ∷ files) rows = given_before (first_of file.id rows) file.required (files_in files rows)

-- the request of a command with these values
abbrev pub asked_by_words : CommandWords → List Row → Option Asked
asked_by_words command rows =
    option_and_then (λ files. option_map (λ asked. (asked, files)) (command.asks rows)) (files_in command.files rows)

-- the request of the first command with this name
abbrev pub asked_among : List CommandWords → Text → List Row → Option Asked
asked_among [] name rows = None
asked_among (command ∷ others) name rows =
    if bytes_eq name command.name then asked_by_words command rows else asked_among others name rows

-- the request of the arguments, if they make one
abbrev pub asked_in : List Text → Option Asked
asked_in words = option_and_then (λ p. asked_among commands p.0 p.1) (subcommand_of span_app words)

-- the kinds of error that the form of the arguments may have
unfoldable pub form_kinds : List Text → Kinds
form_kinds words = fault_of span_app words

-- whether the arguments are valid: their form has no error, and they make a request
unfoldable pub is_request : List Text → Bool
is_request words = is_empty (form_kinds words) && is_some (asked_in words)

-- the request of valid arguments, and nothing for others
abbrev pub request_in : List Text → Option Asked
request_in words = if is_request words then asked_in words else None

-- The kinds of error for which the arguments may be rejected. If their form has no error and they make no request, an
-- option has an invalid value, such as a malformed account name.
unfoldable pub kinds_of : List Text → Kinds
kinds_of words = or_else (form_kinds words) (if is_some (asked_in words) then [] else kind.ValueValidation ∷ [])
