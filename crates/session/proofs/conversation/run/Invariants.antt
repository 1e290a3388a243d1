use Rattle.std.proofs.Common.{◌≡◌, ℕ, ◌-◌, List, length}
use Rattle.desks.specs.Events.{Logs}
use Rattle.session.specs.Conversations.{AreFromSource, Turn, log_of, state_behind}
use Rattle.session.proofs.conversation.run.Given as goal

abbrev pub invariant-loop-number : goal.invariant-loop-number
invariant-loop-number g l =
    (turns : List Turn)
    × AreFromSource (g.S.Sources.file l.fn.sources) g.S.Sources.reads l.fn.sources turns l.sources
    × (l.opened.session ≡ state_behind l.fn.opened.session turns)
    × Logs g.D.Desk.log l.fn.desk (log_of l.fn.opened.session turns) l.desk
    × (length turns ≡ l.number)
    × ((n : List ℕ) → g.S.Sources.file l.sources n ≡ g.S.Sources.file l.fn.sources n)

abbrev pub decreases-loop-number : goal.decreases-loop-number
decreases-loop-number g l = 18446744073709551615 - l.number
