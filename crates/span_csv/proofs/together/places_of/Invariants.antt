use Rattle.std.proofs.Common.{◌≡◌, map, take}
use Rattle.span_csv.specs.near.Pieces.{place_among}
use Rattle.span_csv.proofs.together.places_of.Given as goal

abbrev pub invariant-loop-name : goal.invariant-loop-name
invariant-loop-name l = l.places.items ≡ map (place_among l.fn.accounts.keys) (take l.name-index l.names)
