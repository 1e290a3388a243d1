use Rattle.std.proofs.Common.{refl}
use Rattle.span_csv.proofs.position_laws.accounts_are_limited.Goals as goal

pub returns-clause-refused : goal.returns-clause-refused
returns-clause-refused c =
    λ earlier account contract named_account named_contract new full. rw (named_account, named_contract, new, full) refl

pub returns-clause-taken : goal.returns-clause-taken
returns-clause-taken c = λ earlier account contract named_account named_contract room. rw (named_account, named_contract, room) refl
