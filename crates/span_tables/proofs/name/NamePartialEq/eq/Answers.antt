use Rattle.std.proofs.Common.{◌≡◌, ◌∙◌, refl, take, bytes_eq}
use Rattle.span_tables.specs.near.NamePlaces.{name_places}
use Rattle.span_tables.proofs.NamePlaces.{equal_by_places}
use Rattle.span_tables.proofs.name.NamePartialEq.eq.Goals as goal

pub returns : goal.returns
returns c =
    let a = take c.self.inside.len c.self.inside.places in
    let b = take c.other.inside.len c.other.inside.places in
    let places : bytes_eq c.self.inside.places c.other.inside.places ≡ bytes_eq (name_places a) (name_places b) =
    rw (c.self.invariant.blank, c.other.invariant.blank) refl in
    rw (← c.self.view_is, ← c.other.view_is)
    (c.eq.ensures ∙ places ∙ equal_by_places a b c.self.invariant.named c.other.invariant.named)
