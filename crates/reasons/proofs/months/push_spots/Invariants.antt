use Rattle.std.proofs.Common.{◌≡◌, ◌++◌, map, take}
use Rattle.reasons.specs.Reasons.{spot_reason}
use Rattle.reasons.specs.Shown.{spots_shown}
use Rattle.reasons.specs.near.Fields.{reasons_text}
use Rattle.reasons.proofs.months.push_spots.Given as goal

abbrev pub invariant-loop-spot : goal.invariant-loop-spot
invariant-loop-spot l =
    l.out.items
    ≡ l.fn.out.items ++ reasons_text l.ids (map spot_reason (spots_shown l.months l.tiers.rests (take l.spot-index l.spots)))
