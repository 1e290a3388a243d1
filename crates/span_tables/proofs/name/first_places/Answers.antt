use Rattle.std.proofs.Common.{◌≡◌, ◌∙◌, ◌+◌, ◌-◌, ◌<◌, ◌≤◌, ap, arith, get_or, inl, inr, length, sym, take}
use Rattle.std.specs.Prelude.{bit_and, slice_set}
use Rattle.std.proofs.lemmas.Bool.{cases_lt}
use Rattle.std.proofs.lemmas.List.{get_or-set_same, length-set, take-set-le, take_more_same}
use Rattle.span_tables.specs.near.NamePlaces.{name_places}
use Rattle.span_tables.specs.declared.name.TheConstants.{ONES_AND_ZEROS}
use Rattle.span_tables.proofs.NamePlaces.{and_ones, and_zero, ones_first, places_behind, places_front, places_long, zeros_last}
use Rattle.span_tables.proofs.name.first_places.Goals as goal

pub loop-place-preserved : goal.loop-place-preserved
loop-place-preserved c =
    let text = c.args.text.now in
    let len = c.args.len in
    let old = c.loop-place.places in
    let i = c.loop-place.place in
    let inv = c.loop-place.invariant in
    let lt = c.loop-place-test.true in
    let inside : len ≤ length text = omega (arith, c.requires.long, c.requires.few) in
    let at : i < length old = omega (arith, inv.size, lt) in
    let final = places_long text len inside c.requires.few in
    let within : i < length (name_places (take len text)) = omega (arith, final, lt) in
    let mask = get_or ONES_AND_ZEROS (16 - len + i) 0 in
    let small : get_or text i 0 < 256 = omega (arith, c.type_inv.text i) in
    let byte : bit_and (get_or text i 0) mask ≡ get_or (name_places (take len text)) i 0 =
    elim (cases_lt i len) [
      | inl front ↦
          ap (bit_and (get_or text i 0)) (ones_first (16 - len + i) (omega (arith, front, c.requires.few)))
          ∙ and_ones (get_or text i 0) small ∙ sym (places_front text len inside i front)
      | inr behind ↦
          ap (bit_and (get_or text i 0)) (zeros_last (16 - len + i) (omega (arith, behind, c.requires.few)) (omega (arith, lt)))
          ∙ and_zero (get_or text i 0) ∙ sym (places_behind text len inside i behind lt)
    ] in
    let value = bit_and (get_or text i 0) mask in
    record {
      size = length-set old i value ∙ inv.size;
      done = take_more_same (slice_set old i value) (name_places (take len text)) i 0 (omega (arith, length-set old i value, at)) within
          (take-set-le i old i value (omega arith) ∙ inv.done)
          (get_or-set_same old i value 0 at ∙ byte);
    }
