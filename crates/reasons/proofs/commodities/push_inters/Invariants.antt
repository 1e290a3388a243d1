use Rattle.std.proofs.Common.{◌≡◌, ◌++◌, flat_map, length, map, take}
use Rattle.std.specs.List.{zip}
use Rattle.reasons.specs.Reasons.{inter_reason}
use Rattle.reasons.specs.near.Fields.{reasons_text}
use Rattle.reasons.proofs.FormedLemmas.{ways_in}
use Rattle.reasons.proofs.commodities.push_inters.Given as goal

abbrev pub invariant-loop-inter : goal.invariant-loop-inter
invariant-loop-inter l =
    l.out.items
    ≡ l.fn.out.items ++ reasons_text l.ids (map inter_reason (flat_map (ways_in l.commodity)
    (take (length l.yielded) (zip l.inters l.formed))))
