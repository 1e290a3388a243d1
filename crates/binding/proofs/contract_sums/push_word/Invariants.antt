use Rattle.std.proofs.Common.{◌≡◌, ◌≤◌, ◌<◌, ◌+◌, ◌*◌, ◌-◌, ℕ, get_or}
use Rattle.std.specs.Int.{w64, bit_at, trailing_zeros}
use Rattle.binding.specs.near.Sums.{held_below}
use Rattle.binding.proofs.contract_sums.push_word.Given as goal

abbrev pub invariant-loop-left : goal.invariant-loop-left
invariant-loop-left l = record {
  so_far : l.held.items ≡ held_below l.marks l.places (64 * l.word + trailing_zeros w64 l.left);
  same : (i : ℕ) → trailing_zeros w64 l.left ≤ i → i < 64 → bit_at l.left i ≡ bit_at (get_or l.marks l.word 0) i;
}

abbrev pub decreases-loop-left : goal.decreases-loop-left
decreases-loop-left l = 64 - trailing_zeros w64 l.left
