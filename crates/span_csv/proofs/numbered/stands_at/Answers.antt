use Rattle.std.proofs.Common.{◌≡◌, ◌∙◌, ap, sym, refl, arith}
use Rattle.std.specs.Prelude.{bytes_eq, slice_get, Some}
use Rattle.std.proofs.lemmas.Option.{slice_get_within, slice_get-get_or}
use Rattle.std.proofs.lemmas.Slice.Eq.{bytes_eq-Decides}
use Rattle.span_tables.specs.Names.{is_name}
use Rattle.span_tables.proofs.NumberedLaws.{name_at}
use Rattle.span_csv.proofs.numbered.stands_at.Goals as goal

pub returns-in-Some-clause-at : goal.returns-in-Some-clause-at
returns-in-Some-clause-at c =
    let read = c.in-Some.ensures.lookup in
    let name = c.args.name.now in
    let known = c.in-Some.known.now in
    let equal = c.eq.ensures ∙ ap (λ k. bytes_eq k name) c.as_bytes.ensures.value in (
      (λ same. name_at c.args.known.now c.args.place known name (read.3).0 read.1 (sym equal ∙ same)),
      (λ found.
          let here : slice_get c.args.known.now c.args.place ≡ Some known =
          slice_get-get_or c.args.known.now c.args.place known (read.3).0 ∙ ap Some (sym read.1) in
          let is : known ≡ name = cc (here, found) in
          equal ∙ ap (λ k. bytes_eq k name) is ∙ (bytes_eq-Decides name name).1 refl),
    )

pub returns-in-Some-clause-is_name : goal.returns-in-Some-clause-is_name
returns-in-Some-clause-is_name c = λ same.
    let name = c.args.name.now in
    let known = c.in-Some.known.now in
    let equal = c.eq.ensures ∙ ap (λ k. bytes_eq k name) c.as_bytes.ensures.value in
    let is : known ≡ name = (bytes_eq-Decides known name).0 (sym equal ∙ same) in
    ap is_name (sym is) ∙ c.as_bytes.ensures.is_name

pub returns-in-None-clause-at : goal.returns-in-None-clause-at
returns-in-None-clause-at c = (
  (λ no. cc),
  (λ found. let within = slice_get_within c.args.known.now c.args.place c.args.name.now found in
      absurd (omega (arith, within, c.in-None.ensures.lookup))),
)

pub returns-in-None-clause-is_name : goal.returns-in-None-clause-is_name
returns-in-None-clause-is_name c = λ no. cc
