use Rattle.std.proofs.Common.{◌∙◌, sym, arith}
use Rattle.step_scheduler.proofs.BoardLemmas.{has_room}
use Rattle.step_scheduler.proofs.Counted.{board_finishes_and_releases, users_can_be_released}
use Rattle.step_scheduler.proofs.boards.Board.store_value.Goals as goal

pub push_reserved-requires : goal.push_reserved-requires
push_reserved-requires c =
    let b = (rw c.in-Stepped.is at c.self.invariant).board in
    let way = rw (← c.self.view_is, c.in-Stepped.is) at c.requires.under_way in
    let range = rw (← c.self.view_is, ← b.long) at c.requires.in_range in
    let room = has_room _ _ _ _ _ b range (sym (b.finished _) ∙ way.unfinished) in
    omega arith

pub invariant_of-self : goal.invariant_of-self
invariant_of-self c =
    let b = rw c.in-Stepped.is at c.self.invariant in
    let way = rw (← c.self.view_is, c.in-Stepped.is) at c.requires.under_way in
    let range = rw (← c.self.view_is, ← b.board.long) at c.requires.in_range in
    let right = rw (← c.self.view_is) at c.requires.means in
    let released = rw (c.users.ensures, c.plan.ensures.plan, c.deref.ensures) at c.release.ensures in
    rw (c.push_reserved.ensures.items, c.push_reserved.ensures.capacity)
    (board_finishes_and_releases _ _ _ _ _ _ _ _ _ _ _ _ _ b range (sym (b.board.taken _) ∙ way.taken)
    (sym (b.board.finished _) ∙ way.unfinished) right released)

pub release-requires : goal.release-requires
release-requires c =
    let b = rw c.in-Stepped.is at c.self.invariant in
    let way = rw (← c.self.view_is, c.in-Stepped.is) at c.requires.under_way in
    let range = rw (← c.self.view_is, ← b.board.long) at c.requires.in_range in
    rw (c.users.ensures, c.plan.ensures.plan, c.deref.ensures)
    (users_can_be_released _ _ _ _ _ _ _ _ _ b range (sym (b.board.finished _) ∙ way.unfinished))
