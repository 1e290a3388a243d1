-- What happens for a command line.
use Rattle.std.specs.Prelude.{◌≡◌, ◌⊎◌, ℕ, Bool, true, List}
use Rattle.clap.specs.Words.{Text}
use Rattle.writers.specs.Streams.{Stream}
use Rattle.span_cli.specs.Reads.{ReadsAsked}
use Rattle.span_cli.specs.Serving.{memory}
use Rattle.span_cli.specs.Sessions.{Outside}
use Rattle.span_cli.specs.Telling.{AnswersWords, ServesAsked, Tells}
use Rattle.span_cli.specs.Words.{asked_in, is_request, kinds_of, request_in}

-- A command line with these arguments was answered. `reads` says how the sources are read. `before` and `after` are the
-- sources before and after.
pub record AnswersLine {S : Type 0} (outside : Outside) (reads : S → List ℕ → Bool → S → Type 0) (before after : S) (words : List Text)
    (given : ℕ) (old_out new_out old_err new_err : Stream) : Type 0 where
  -- if the arguments are valid, their request is answered
  pub taken : is_request words ≡ true → ServesAsked outside (asked_in words) given old_out new_out old_err new_err
  -- otherwise they are rejected for one of their kinds of error
  pub by_kinds : AnswersWords (kinds_of words) (ServesAsked outside (asked_in words) given old_out new_out old_err new_err)
      given old_out new_out old_err new_err
  -- exactly the files of the request were read, or nothing if memory ran out
  pub read : ReadsAsked reads before outside.turns (request_in words) after
      ⊎ ((after ≡ before) × Tells memory given old_out new_out old_err new_err)
