use Rattle.statement_text.proofs.FrontLemmas.{figures_behind}
use Rattle.statement_text.proofs.lines.push_behind.Goals as goal

pub returns : goal.returns
returns c account set_id is =
    rw (
      c.in_ok-push_rest_of_numbers.ensures,
      c.in_ok-extend_from_slice.ensures.items,
      c.as_bytes.ensures.value,
      c.numbers.ensures,
    ) (figures_behind c.args.out.now.items c.args.front.now account set_id c.args.commodity.now c.args.figures.now is)
