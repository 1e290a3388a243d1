-- Which files are read for a request.
use Rattle.std.specs.Prelude.{◌≡◌, ℕ, Bool, List, Option, Some, None}
use Rattle.session.specs.Conversations.{Turn, reads_of}
use Rattle.sources.specs.Reads.{ReadsAll, ReadsInOrder}
use Rattle.span_cli.specs.Serving.{Asked, takes_requests, turns_in}
use Rattle.span_cli.specs.Sessions.{reads_under}

-- Exactly these files were read: the files of the request, as `ReadsInOrder` says, and then the files that the requests
-- of a session name, as `ReadsAll` says. Without a request, nothing was read.
abbrev pub ReadsAsked : {S : Type 0} → (S → List ℕ → Bool → S → Type 0) → S → List Turn → Option Asked → S → Type 0
ReadsAsked reads old turns None new = new ≡ old
ReadsAsked {S} reads old turns (Some asked) new =
    (opened : S) × ReadsInOrder (reads_under (takes_requests asked.0) reads) old asked.1 opened
    × ReadsAll reads opened (reads_of (turns_in asked.0 turns)) new
