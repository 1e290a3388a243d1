use Rattle.std.proofs.Common.{◌≤◌, ◌<◌, length, nat_abs, arith}
use Rattle.std.proofs.lemmas.List.Elements.{All-nil}
use Rattle.span_tables.specs.declared.limits.TheConstants.{MAX_NET}
use Rattle.span_tables.proofs.held.OwnedHeld.none.Goals as goal

pub new-requires-2 : goal.new-requires-2
new-requires-2 c = rw (c.new.ensures.items, c.in_ok-share_contracts.ensures.value) (record {
  few = omega arith;
  nets = All-nil (λ h. nat_abs h.net ≤ MAX_NET);
  known = All-nil (λ h. h.contract < length c.args.tables.now.contracts);
  in_range = c.in_ok-share_contracts.ensures.limits.contracts_in_range;
})
