use Rattle.std.specs.Arc.{arc_value}
use Rattle.whatif.proofs.BeforeLemmas.{befores_are, places_fit}
use Rattle.whatif.proofs.befores.befores_of.Goals as goal

pub rows_of-requires-after_bounds : goal.rows_of-requires-after_bounds
rows_of-requires-after_bounds g c κs within =
    places_fit (arc_value c.args.lent.now.set.now) c.args.orders.now.portfolios c.requires c.slots_of.new.places.keys _
    (rw (c.portfolios.ensures, c.as_slice.ensures.keys) at c.in_ok-portfolios.ensures)

pub returns : goal.returns
returns g c =
    befores_are (arc_value c.args.lent.now.set.now) c.args.orders.now c.slots_of.new.places.keys c.in_ok-portfolios.portfolios.items
    (record { rows = c.in_ok-rows.rows; slots = c.in_ok-slots.slots }) c.in_ok-slots.ensures.every c.in_ok-slots.ensures.slots
    (rw (c.portfolios.ensures, c.as_slice.ensures.keys) at c.in_ok-portfolios.ensures) c.in_ok-rows.ensures
