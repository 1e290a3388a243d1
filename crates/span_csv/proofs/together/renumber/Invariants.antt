use Rattle.std.proofs.Common.{◌≡◌, ◌<◌, ◌++◌, All, drop, length, map, take}
use Rattle.span_csv.specs.near.Pieces.{renumbered}
use Rattle.span_csv.proofs.together.renumber.Given as goal

abbrev pub invariant-loop-record : goal.invariant-loop-record
invariant-loop-record l = record {
  all : take l.record-index l.records ++ map (renumbered l.places) (drop l.record-index l.records)
      ≡ map (renumbered l.places) l.fn.records;
  left : All (λ p. p.account < length l.places) (drop l.record-index l.records);
}
