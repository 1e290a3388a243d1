-- The definitions that a proof unfolds to compute with literals.
use Rattle.std.specs.Prelude.{⊤}
use Rattle.std.specs.Char.{encode_utf8}
use Rattle.std.specs.Str.{chars}
use Rattle.clap.specs.Faults.{defaults_fault, flags_fault, walk_fault}
use Rattle.clap.specs.Walk.{bundle_met, walked}
use Rattle.plan_ir.specs.Listing.{plan_text}
use Rattle.session.specs.Answers.{opened}
use Rattle.session.specs.Conversations.{session_of}
use Rattle.plan_compiler.specs.Places.{plan_of}
use Rattle.statement.specs.Listing.{listing_of}
use Rattle.statement.specs.near.OnLiterals.{on_literals as statement_on_literals}
use Rattle.whatif.specs.near.OnLiterals.{on_literals as whatif_on_literals}
use Rattle.span_cli.specs.Words.{form_kinds, is_request, joined, kinds_of}

-- all definitions that computing with literals unfolds
unfoldable pub on_literals : ⊤
unfolding whatif_on_literals statement_on_literals defaults_fault flags_fault walk_fault bundle_met walked chars encode_utf8
    is_request kinds_of form_kinds joined plan_text plan_of listing_of opened session_of
on_literals = tt
