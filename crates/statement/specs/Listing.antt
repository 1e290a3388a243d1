-- The steps of the plan of a parameter file.
use Rattle.std.specs.Prelude.{ℕ, List, Result, Ok}
use Rattle.plan_ir.specs.Listing.{plan_text}
use Rattle.plan_compiler.specs.Places.{plan_of}
use Rattle.statement_text.specs.Statement.{accepted_of, and_then, same}
use Rattle.statement_text.specs.declared.faults.SpanFault.{SpanFault}

-- the text of the plan of a parameter file, or its first fault in reading, then in checking
unfoldable pub listing_of : List ℕ → Result (List ℕ) SpanFault
listing_of params = and_then same (accepted_of params) (λ tables. Ok (plan_text (plan_of tables)))
