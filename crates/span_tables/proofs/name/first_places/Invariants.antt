use Rattle.std.proofs.Common.{◌≡◌, length, take}
use Rattle.span_tables.specs.near.NamePlaces.{name_places}
use Rattle.span_tables.proofs.name.first_places.Given as goal

abbrev pub invariant-loop-place : goal.invariant-loop-place
invariant-loop-place l = record {
  size : length l.places ≡ 16;
  done : take l.place l.places ≡ take l.place (name_places (take l.len l.text));
}
