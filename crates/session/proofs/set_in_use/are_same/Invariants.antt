use Rattle.std.proofs.Common.{◌≡◌, length, take}
use Rattle.session.proofs.set_in_use.are_same.Given as goal

abbrev pub invariant-loop-place : goal.invariant-loop-place
invariant-loop-place l = (length l.some ≡ length l.others) × (take l.place l.some ≡ take l.place l.others)
