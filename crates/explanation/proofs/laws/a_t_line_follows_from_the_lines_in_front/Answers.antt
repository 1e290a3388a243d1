use Rattle.std.proofs.Common.{refl}
use Rattle.explanation.proofs.LineSums.{due_told, excess_told, in_front, t_line, t_word, total_told, value_summed}
use Rattle.explanation.proofs.laws.a_t_line_follows_from_the_lines_in_front.Goals as goal

pub returns-clause-total : goal.returns-clause-total
returns-clause-total c t p ok = (in_front t p, (t_line t p, refl, t_word t p, total_told t p ok))

pub returns-clause-value : goal.returns-clause-value
returns-clause-value c t p ok has =
    let told = value_summed t p has ok (λ n. c.held_lines_have_each_held_contract.ensures.values t p.holdings n ok has) in
    (in_front t p, (t_line t p, refl, t_word t p, told))

pub returns-clause-due : goal.returns-clause-due
returns-clause-due c t p ok has = (in_front t p, (t_line t p, refl, t_word t p, due_told t p has ok))

pub returns-clause-excess : goal.returns-clause-excess
returns-clause-excess c t p ok has = (in_front t p, (t_line t p, refl, t_word t p, excess_told t p has ok))
