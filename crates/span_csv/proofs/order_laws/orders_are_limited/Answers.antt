use Rattle.std.proofs.Common.{refl}
use Rattle.span_csv.proofs.order_laws.orders_are_limited.Goals as goal

pub returns-clause-refused : goal.returns-clause-refused
returns-clause-refused c =
    λ earlier order account contract named_order named_account named_contract new full.
    rw (named_order, named_account, named_contract, new, full) refl

pub returns-clause-taken : goal.returns-clause-taken
returns-clause-taken c =
    λ earlier order account contract named_order named_account named_contract room same.
    rw (named_order, named_account, named_contract, room, same) refl
