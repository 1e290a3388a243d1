use Rattle.std.proofs.Common.{◌≤◌, length, sym, rules, arith, SFits}
use Rattle.std.specs.Int.{w32}
use Rattle.std.proofs.lemmas.Int.{to_z-of_z}
use Rattle.std.proofs.lemmas.Result.{err_from_is_err_and}
use Rattle.span_tables.proofs.NumberedLaws.{named_more, numbered_more}
use Rattle.span_csv.specs.PositionFaults.{is_memory}
use Rattle.span_csv.proofs.NumberedLemmas.{next_full, next_read, next_refused, still_few, tested_names}
use Rattle.span_csv.proofs.RecordLemmas.{told, told_by}
use Rattle.span_csv.proofs.numbered.next_position.Goals as goal

pub quantity-requires-clause-tested : goal.quantity-requires-clause-tested
quantity-requires-clause-tested c =
    rw c.known_names.ensures (tested_names c.stands_at-stands.result c.args.row.now
    (λ there. rw c.text_at.ensures at (c.stands_at-stands.ensures.is_name there)))

pub returns-in_err-quantity-clause-found : goal.returns-in_err-quantity-clause-found
returns-in_err-quantity-clause-found c =
    let p = err_from_is_err_and c.from_residual.result c.from_residual.ensures.1 in
    let e = c.in_err-quantity.field-0.0 in
    rw (p.1, p.2)
    (told (is_memory e) (next_refused c.args.names c.args.most c.args.known.now.keys c.args.earlier.now c.args.row.now
    c.requires.numbered e (sym c.in_err-quantity.ensures.value)))

pub returns-in_err-account-clause-found : goal.returns-in_err-account-clause-found
returns-in_err-account-clause-found c =
    let p = err_from_is_err_and c.from_residual-in_err-account.result c.from_residual-in_err-account.ensures.1 in
    let e = c.in_err-account.field-0.0 in
    let full = next_full c.args.names c.args.most c.args.known.now.keys c.args.earlier.now c.args.row.now
    c.requires.numbered c.in_ok-quantity.quantity (sym c.in_ok-quantity.ensures.value) in
    rw (p.1, p.2) (told_by (is_memory e) (rw c.field.ensures at c.in_err-account.ensures.room) (λ h. rw (h.0) (full h.1)))

pub returns-clause-found : goal.returns-clause-found
returns-clause-found c =
    let q = c.in_ok-quantity.quantity in
    let fits : SFits w32 q = search rules in
    rw (c.position_at.ensures, to_z-of_z w32 q fits, c.field-2.ensures)
    (next_read c.args.names c.args.most c.args.known.now.keys c.args.earlier.now
    c.args.row.now c.requires.numbered c.place.new.known.keys c.in_ok-account.account q
    (sym c.in_ok-quantity.ensures.value) (rw c.field.ensures at c.in_ok-account.ensures.room)
    (rw c.field.ensures at c.in_ok-account.ensures.at))

pub returns-clause-named : goal.returns-clause-named
returns-clause-named c =
    rw c.position_at.ensures
    (named_more c.args.known.now.keys c.place.new.known.keys c.args.earlier.now _ c.field.result.now c.requires.numbered
    c.in_ok-account.ensures.taken c.in_ok-account.ensures.at)

pub returns-clause-numbered : goal.returns-clause-numbered
returns-clause-numbered c =
    let q = c.in_ok-quantity.quantity in
    let fits : SFits w32 q = search rules in
    let few : length c.place.new.known.keys ≤ c.args.most =
    rw (c.in_ok-account.ensures.taken)
    (still_few c.args.most c.args.known.now.keys c.field.result.now c.requires.few c.in_ok-account.ensures.room) in
    rw (c.position_at.ensures, to_z-of_z w32 q fits)
    (numbered_more c.args.known.now.keys c.place.new.known.keys c.args.earlier.now _ c.field.result.now c.requires.numbered
    c.in_ok-account.ensures.taken c.in_ok-account.ensures.at
    (omega (arith, few, c.requires.most)) c.in_ok-quantity.ensures.size)

pub returns-clause-few : goal.returns-clause-few
returns-clause-few c =
    rw (c.in_ok-account.ensures.taken)
    (still_few c.args.most c.args.known.now.keys c.field.result.now c.requires.few c.in_ok-account.ensures.room)
