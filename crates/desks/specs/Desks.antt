-- What a desk over two streams does.
use Rattle.std.specs.Prelude.{◌≡◌, ℕ, List, Option}
use Rattle.sources.specs.declared.input.Input as inputs
use Rattle.std.specs.declared.io.traits.Read as reads
use Rattle.writers.specs.Streams.{Says, Stream}
use Rattle.desks.specs.Events.{Event, asked_in, told_in}
use Rattle.desks.specs.Takings.{Takes, coming}
use Rattle.desks.specs.declared.intake.Reach.{Reach}
use Rattle.desks.specs.declared.stream_desk.StreamDesk.{StreamDesk}

-- the state of a desk: how far its input was read, the bytes that are still to be taken from it, if they are known, and
-- what is known of its output
pub record Dealing : Type 0 where
  pub reach : Reach
  pub coming : Option (List ℕ)
  pub output : Stream

abbrev pub dealing : {R W : Type 0} {i : inputs.Ghosts R} {r : reads.Ghosts R} → StreamDesk R W i r → Dealing
dealing d =
    record { reach = d.requests.reach; coming = coming d.requests.block d.requests.reader; output = d.output.now }

-- Between two states of a desk, the requests of these events were taken from its input, and the output has grown by
-- exactly their answers, unless a write failed.
pub record Deals (old : Dealing) (events : List Event) (new : Dealing) : Type 0 where
  pub takes : Takes old.reach old.coming new.reach new.coming (asked_in events)
  pub says : Says old.output new.output (told_in events)

-- the same of two states of one desk, which keeps its output
abbrev pub DealsAt : {R W : Type 0} {i : inputs.Ghosts R} {r : reads.Ghosts R}
    → StreamDesk R W i r → List Event → StreamDesk R W i r → Type 0
DealsAt old events new = (new.output.ghost_name ≡ old.output.ghost_name) × Deals (dealing old) events (dealing new)
