use Rattle.std.proofs.Common.{◌≡◌, ◌++◌, map, take}
use Rattle.reasons.specs.Reasons.{held_reason}
use Rattle.reasons.specs.near.Fields.{reasons_text}
use Rattle.reasons.proofs.held.push_held.Given as goal

abbrev pub invariant-loop-place : goal.invariant-loop-place
invariant-loop-place l =
    l.out.items ≡ l.fn.out.items ++ reasons_text l.ids (map (held_reason l.tables) (take l.place l.held))
