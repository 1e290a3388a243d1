use Rattle.session.proofs.FormLemmas.{by_fields}
use Rattle.session.proofs.requests.word_request.Goals as goal

pub returns-in_default : goal.returns-in_default
returns-in_default c =
    rw (by_fields c.args.word c.args.line.now c.in_default.not-Set, ← c.requires.fields) c.fields_request.ensures
