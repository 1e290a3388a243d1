use Rattle.std.proofs.Common.{◌≡◌, map, take}
use Rattle.span_tables.specs.near.Terms.{terms_of}
use Rattle.span_tables.proofs.contracts.all_terms.Given as goal

abbrev pub invariant-loop-contract : goal.invariant-loop-contract
invariant-loop-contract l = l.terms.items ≡ map (terms_of l.commodities) (take l.contract-index l.contracts)
