use Rattle.std.proofs.Common.{rules, ◌∙◌}
use Rattle.worker_teams.proofs.TextLemmas.{no_text, text_more}
use Rattle.worker_teams.proofs.texts.text_of_slice.Goals as goal

pub loop-portfolio-init : goal.loop-portfolio-init
loop-portfolio-init g c =
    let none = no_text c.args.course.now.set.tables in
    record { text = search (rules, none); set = search rules }

pub loop-portfolio-preserved : goal.loop-portfolio-preserved
loop-portfolio-preserved g c =
    let so_far = c.loop-portfolio.invariant in
    let more = rw so_far.set at c.in_ok-push_text.ensures.text in
    record {
      text = text_more c.args.course.now.set.tables c.loop-portfolio.yielded _ _ _ so_far.text more;
      set = c.in_ok-push_text.ensures.same ∙ so_far.set;
    }
