use Rattle.std.proofs.Common.{arith, rules}
use Rattle.std.specs.Arc.{arc_value}
use Rattle.step_scheduler.proofs.BoardLemmas.{start_has_room, ready_from_start}
use Rattle.step_scheduler.proofs.Slots.{can_be_given}
use Rattle.step_scheduler.proofs.Counted.{last_starts, none_starts, board_takes_last}
use Rattle.step_scheduler.proofs.WholeLemmas.{none_ready}
use Rattle.step_scheduler.proofs.boards.Board.take_ready.Goals as goal
use Rattle.step_scheduler.proofs.boards.Board.take_ready.Goals.{in-Stepped+in-Some+in_ok-task-in-Stepped, in-Whole}

pub push_reserved-requires : goal.push_reserved-requires
push_reserved-requires c =
    let b = rw c.in-Stepped.is at c.self.invariant in
    let last = rw c.as_slice.ensures.value at c.in-Some.ensures in
    let start = last_starts _ _ _ _ _ _ _ _ _ _ b last in
    let room = start_has_room _ _ _ _ _ b.board start in
    omega arith

pub task_of-requires : goal.task_of-requires
task_of-requires c =
    let b = rw c.in-Stepped.is at c.self.invariant in
    let last = rw c.as_slice.ensures.value at c.in-Some.ensures in
    let start = last_starts _ _ _ _ _ _ _ _ _ _ b last in
    rw c.as_slice-in-Stepped.ensures.value (can_be_given _ _ _ b.values _ start)

pub returns-in_default-clause-none : goal.returns-in_default-clause-none
returns-in_default-clause-none c =
    let b = rw c.in-Stepped.is at c.self.invariant in
    let empty = rw c.as_slice.ensures.value at c.in_default.ensures in
    λ live. rw (← c.self.view_is, c.in-Stepped.is) (none_starts _ _ _ _ _ _ _ _ b empty)

pub returns-clause-none : goal.returns-clause-none
returns-clause-none c =
    elim c.match-self.branch [
      | in-Stepped+in-Some+in_ok-task-in-Stepped w ↦ search rules
      | in-Whole w ↦
          let whole = rw w.in-Whole.is at c.self.invariant in
          rw w.result-is (λ live. rw (← c.self.view_is, w.in-Whole.is) (none_ready _ _ whole.course))
    ]

pub returns-clause-ready : goal.returns-clause-ready
returns-clause-ready c =
    elim c.match-self.branch [
      | in-Stepped+in-Some+in_ok-task-in-Stepped w ↦
          let b = rw w.in-Stepped.is at c.self.invariant in
          let last = rw w.as_slice.ensures.value at w.in-Some.ensures in
          let start = last_starts _ _ _ _ _ _ _ _ _ _ b last in
          rw (w.result-is, w.in_ok-task-in-Stepped.ensures, ← c.self.view_is, w.in-Stepped.is)
          (ready_from_start (arc_value c.self.inside.job) _ _ _ _ b.board start)
      | in-Whole w ↦ search rules
    ]

pub invariant_of-self-2 : goal.invariant_of-self-2
invariant_of-self-2 c =
    elim c.match-self.branch [
      | in-Stepped+in-Some+in_ok-task-in-Stepped w ↦
          let b = rw w.in-Stepped.is at c.self.invariant in
          let last = rw w.as_slice.ensures.value at w.in-Some.ensures in
          rw (
            w.self-inside-is,
            w.push_reserved.ensures.items,
            w.push_reserved.ensures.capacity,
            w.truncate.ensures.items,
            w.truncate.ensures.capacity,
            w.len.ensures,
            ← w.as_slice.ensures.len,
            w.as_slice.ensures.value,
          )
          (board_takes_last _ _ _ _ _ _ _ _ _ _ b last)
      | in-Whole w ↦ rw w.self-inside-is c.self.invariant
    ]
