use Rattle.std.proofs.Common.{◌≡◌, ◌++◌, map, take}
use Rattle.reasons.specs.Reasons.{month_reason}
use Rattle.reasons.specs.Shown.{months_shown}
use Rattle.reasons.specs.near.Fields.{reasons_text}
use Rattle.reasons.proofs.months.push_months.Given as goal

abbrev pub invariant-loop-place : goal.invariant-loop-place
invariant-loop-place l =
    l.out.items ≡ l.fn.out.items ++ reasons_text l.ids (map month_reason (take l.place (months_shown l.months l.tiers.rests)))
