use Rattle.std.proofs.Common.{[], ◌∷◌, ◌∙◌}
use Rattle.std.specs.Prelude.{pos}
use Rattle.inter_credit.specs.Requirement.{requirement_of}
use Rattle.reasons.proofs.FigureLaws.{requirement_shown}
use Rattle.reasons.proofs.line_laws.figures_follow_from_the_lines.Goals as goal

pub returns : goal.returns
returns c t holdings n ok lt =
    let scan = c.scan_follows_from_the_sums_line.ensures.risk t holdings n ok in
    let active = c.scan_follows_from_the_sums_line.ensures.active t holdings n ok in
    let intra = c.intracommodity_charge_follows_from_the_intra_lines.ensures.charge t holdings n ok in
    let delivery = c.delivery_charge_follows_from_the_spot_lines.ensures.charge t holdings n ok in
    let credit = c.credit_follows_from_the_lines.ensures.credit t holdings n ok in
    let minimum = c.minimum_follows_from_the_short_line.ensures t holdings n ok lt in
    let requirement = requirement_shown t holdings n
    ∙ (λ k. requirement_of (scan k) (intra k) (delivery k) (credit k) (minimum k)) in
    λ k. scan k ∷ pos (active k) ∷ intra k ∷ delivery k ∷ credit k ∷ minimum k ∷ requirement k ∷ []
