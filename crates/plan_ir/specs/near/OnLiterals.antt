-- The definitions that proofs about literals unfold.
use Rattle.std.specs.Prelude.{⊤}
use Rattle.std.specs.Fmt.{digits}
use Rattle.spread_stage.specs.Charges.{intra_charge}
use Rattle.inter_credit.specs.Credits.{credit_of}
use Rattle.inter_credit.specs.Requirement.{requirement_of}
use Rattle.plan_ir.specs.Listing.{plan_text}

-- all definitions that a computation on literals unfolds
unfoldable pub on_literals : ⊤
unfolding digits intra_charge credit_of requirement_of plan_text
on_literals = tt
