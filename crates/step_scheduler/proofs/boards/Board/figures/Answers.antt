use Rattle.std.proofs.Common.{◌<◌, ◌∙◌, length, rules, sym}
use Rattle.step_scheduler.proofs.boards.Board.figures.Goals as goal
use Rattle.step_scheduler.proofs.boards.Board.figures.Goals.{in-Stepped, in-Whole}

pub returns-clause-value : goal.returns-clause-value
returns-clause-value c =
    let known : c.args.commodity < length c.args.self.now.job.set.tables.commodities = search rules in
    elim c.match-self.branch [
      | in-Stepped w ↦ search rules
      | in-Whole w ↦
          let here = rw (← c.self.view_is) at known in
          let results = (rw w.in-Whole.is at c.self.invariant).results in
          w.result-is ∙ rw (← c.self.view_is)
          (sym (w.of.ensures w.of.result.now) ∙ (results.figures_are.each c.args.commodity here).right w.of.result.now)
    ]
