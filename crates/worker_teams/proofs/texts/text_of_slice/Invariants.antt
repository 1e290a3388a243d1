use Rattle.std.proofs.Common.{◌≡◌}
use Rattle.statement_text.specs.Statement.{statement_text}
use Rattle.worker_teams.proofs.texts.text_of_slice.Given as goal

abbrev pub invariant-loop-portfolio : goal.invariant-loop-portfolio
invariant-loop-portfolio g l = record {
  text : l.text.items ≡ statement_text l.course.set.tables l.yielded;
  set : l.runs ≡ l.course.set;
}
