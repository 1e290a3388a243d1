-- What is still to be joined, depending on what the next argument may be.
use Rattle.std.specs.Prelude.{List, ◌∷◌, codes}
use Rattle.clap.specs.Words.{Text}
use Rattle.span_cli.specs.Words.{joined, joined_words}
use Rattle.span_cli.specs.declared.joining.NextWord.{NextWord}
use Rattle.span_cli.specs.declared.joining.NextWord.TheVariants.{Program, Any, Value, Plain}

-- the joined form of these arguments, if this is what the first of them may be
abbrev pub rest_of : NextWord → List Text → List Text
rest_of Program words = joined_words words
rest_of Any words = joined words
rest_of Value words = joined (codes "--account" ∷ words)
rest_of Plain words = words
