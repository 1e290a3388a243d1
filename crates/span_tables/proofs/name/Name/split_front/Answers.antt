use Rattle.std.proofs.Common.{arith, refl, ◌≡◌, ◌≤◌, length, take, true}
use Rattle.std.specs.List.{list_all}
use Rattle.std.proofs.lemmas.Bool.{le-leb}
use Rattle.std.proofs.lemmas.List.{length-take}
use Rattle.std.proofs.lemmas.List.Sums.{prefix_len-le-length}
use Rattle.span_tables.specs.Names.{is_name_byte}
use Rattle.span_tables.proofs.NameTexts.{all_taken}
use Rattle.span_tables.proofs.name.Name.split_front.Goals as goal

pub of_first-requires-clause-inside : goal.of_first-requires-clause-inside
of_first-requires-clause-inside c = omega (arith, prefix_len-le-length is_name_byte c.args.text.now, c.count_name_bytes-len.ensures)

pub of_first-requires-clause-name : goal.of_first-requires-clause-name
of_first-requires-clause-name c =
    let len = c.count_name_bytes-len.result in
    let front = take len c.args.text.now in
    let named : list_all is_name_byte front ≡ true = rw c.count_name_bytes-len.ensures (all_taken is_name_byte c.args.text.now) in
    let inside : len ≤ length c.args.text.now =
    omega (arith, prefix_len-le-length is_name_byte c.args.text.now, c.count_name_bytes-len.ensures) in
    let long : length front ≡ len = omega (arith, length-take len c.args.text.now, inside) in
    let some : 1 ≤ length front = omega (arith, long, c.if-len-eq0.false) in
    let few : length front ≤ 16 = omega (arith, long, c.if-len-gt16.false) in
    rw (le-leb 1 (length front) some, le-leb (length front) 16 few, named) refl
