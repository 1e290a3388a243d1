use Rattle.std.proofs.Common.{◌≡◌, ◌++◌, map, take}
use Rattle.reasons.specs.Reasons.{intra_reason}
use Rattle.reasons.specs.near.Fields.{reasons_text}
use Rattle.reasons.proofs.months.push_intras.Given as goal

abbrev pub invariant-loop-shown : goal.invariant-loop-shown
invariant-loop-shown l =
    l.out.items ≡ l.fn.out.items ++ reasons_text l.ids (map intra_reason (take l.shown-index l.intras))
