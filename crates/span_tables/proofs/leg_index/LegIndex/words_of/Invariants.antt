use Rattle.std.proofs.Common.{◌≡◌, ℕ}
use Rattle.std.specs.Int.{bit_at}
use Rattle.std.specs.Prelude.{slice_index_or}
use Rattle.span_tables.specs.near.LegIndex.{HasMore, no_words}
use Rattle.span_tables.proofs.leg_index.LegIndex.words_of.Given as goal

abbrev pub invariant-loop-slot : goal.invariant-loop-slot
invariant-loop-slot l =
    (slot : ℕ) → bit_at l.numbers slot ≡ 1 → bit_at l.left slot ≡ 0 → HasMore l.found (slice_index_or l.self.slots slot no_words)

abbrev pub decreases-loop-slot : goal.decreases-loop-slot
decreases-loop-slot l = l.left
