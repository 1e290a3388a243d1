use Rattle.std.proofs.Common.{◌∙◌, ap, cond, sym, bytes_eq, Some}
use Rattle.indexmap.specs.IndexMap.{get}
use Rattle.binding.proofs.KeptOrderLaws.{placed_new, placed_old}
use Rattle.binding.proofs.orders.kept_orders.place_first.Goals as goal

pub returns-in-Some : goal.returns-in-Some
returns-in-Some c =
    placed_old (get bytes_eq c.args.places.now) c.args.account.now c.args.place c.in-Some.field-0.now (sym c.in-Some.ensures.value)

pub returns : goal.returns
returns c = λ name.
    let places = get bytes_eq c.args.places.now in
    c.in_ok-insert.ensures.updates.0 name
    ∙ ap (λ a. cond (bytes_eq a name) (Some c.args.place) (places name)) c.copied.ensures
    ∙ placed_new places c.args.account.now c.args.place (sym c.in_default.ensures.value) name
