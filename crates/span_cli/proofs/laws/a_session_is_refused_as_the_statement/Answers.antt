use Rattle.span_cli.proofs.RefusalLemmas.{refused_as_statement}
use Rattle.span_cli.proofs.laws.a_session_is_refused_as_the_statement.Goals as goal

pub returns : goal.returns
returns c =
    λ params positions turns workers e some within refused. refused_as_statement params positions turns workers e some within refused
