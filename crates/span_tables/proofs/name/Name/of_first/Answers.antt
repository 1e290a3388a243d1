use Rattle.std.proofs.Common.{◌≡◌, arith, length, subst, sym, take}
use Rattle.std.proofs.lemmas.List.{length-take}
use Rattle.span_tables.specs.near.NamePlaces.{HoldsName}
use Rattle.span_tables.proofs.NamePlaces.{holds_places}
use Rattle.span_tables.proofs.name.Name.of_first.Goals as goal

pub invariant_of-result : goal.invariant_of-result
invariant_of-result c =
    let name = take c.args.len c.args.text.now in
    let long : length name ≡ c.args.len = omega (arith, length-take c.args.len c.args.text.now, c.requires.inside) in
    subst (λ n. HoldsName c.first_places.result n) long
    (subst (λ places. HoldsName places (length name)) (sym c.first_places.ensures) (holds_places name c.requires.name))
