-- The history and the invariant of a board in either form.
use Rattle.std.specs.Arc.{arc_value}
use Rattle.std.specs.Prelude.{List, vec_capacity}
use Rattle.step_scheduler.specs.Jobs.{JobView}
use Rattle.step_scheduler.specs.declared.boards.Form.{Form}
use Rattle.step_scheduler.specs.declared.boards.Form.TheVariants as form
use Rattle.step_scheduler.specs.declared.events.Event.{Event}
use Rattle.step_scheduler.specs.near.Stepped.{IsStepped}
use Rattle.step_scheduler.specs.near.Whole.{IsWhole}

-- the history of a board
abbrev pub history_of : Form → List Event
history_of (form.Stepped s) = s.history.items
history_of (form.Whole w) = (arc_value w.events).items

-- the invariant of a board of the job
abbrev pub IsBoard : JobView → Form → Type 0
IsBoard job (form.Stepped s) =
    IsStepped job s.steps.items s.slots.items s.history.items (vec_capacity s.history) s.missing.items s.ready.items
    (vec_capacity s.ready)
IsBoard job (form.Whole w) = IsWhole job w
