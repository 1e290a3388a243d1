use Rattle.std.proofs.Common.{map, sym, ap, ◌∙◌}
use Rattle.plan_ir.specs.Figures.{commodity_at, figures_of}
use Rattle.reasons.specs.Lines.{figures_by_lines}
use Rattle.reasons.specs.Reasons.{reasons_of}
use Rattle.reasons.proofs.AcceptedLaws.{figures_are_small}
use Rattle.statement_text.specs.Statement.{figures_line}
use Rattle.explanation.specs.Explanation.{reason_line}
use Rattle.explanation.proofs.LineSums.{figures_read, figures_word, held_commodity_lines, ids_dropped}
use Rattle.explanation.proofs.laws.an_r_line_follows_from_the_lines_in_front.Goals as goal

pub returns : goal.returns
returns c t p n ok lt held =
    let id = (commodity_at t n).id in
    let figures = figures_of t p.holdings n in
    let lines = reasons_of t p.holdings n in (
      map (reason_line p.account t.set_id id) lines,
      (
        figures_line p.account t.set_id id figures,
        held_commodity_lines t p n held,
        figures_word p.account t.set_id id figures,
        figures_read p.account t.set_id id figures (figures_are_small t p.holdings ok n lt)
            ∙ c.figures_follow_from_the_lines.ensures t p.holdings n ok lt
            ∙ ap figures_by_lines (sym (ids_dropped p.account t.set_id id lines)),
      ),
    )
