use Rattle.span_csv.proofs.CheckLemmas.{form_told}
use Rattle.span_csv.proofs.checks.check_form.Goals as goal

pub returns : goal.returns
returns c =
    form_told c.args.first c.args.profile c.args.at c.args.row.now c.in_ok-kind.kind c.in_ok-kind.ensures.0 c.in_ok-kind.ensures.1
    c.check_fields.result c.check_fields.ensures
