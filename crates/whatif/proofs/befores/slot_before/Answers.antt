use Rattle.std.proofs.Common.{◌∙◌, Some, ap, subst, sym}
use Rattle.std.specs.Option.{option_eq}
use Rattle.std.specs.Prelude.{nat_eq}
use Rattle.whatif.proofs.BeforeLemmas.{inserted, same_place, slot_is}
use Rattle.whatif.specs.near.Befores.{AreKept}
use Rattle.whatif.proofs.befores.slot_before.Goals as goal

pub returns-clause-slot : goal.returns-clause-slot
returns-clause-slot c =
    let (key, at, same) = c.in_ok-slot.ensures.stored in
    slot_is c.args.orders.now c.args.order c.place.result _ c.in_ok-slot.slot c.requires c.place.ensures
    (at ∙ ap Some (sym (same_place c.place.result key same)))

pub returns-clause-kept : goal.returns-clause-kept
returns-clause-kept c =
    subst (AreKept _) (sym c.in_ok-slot.ensures.keys) (inserted (option_eq nat_eq) _ c.place.result)
