-- The definitions that proofs about plans of literal records unfold.
use Rattle.std.specs.Prelude.{⊤}
use Rattle.span_tables.specs.Tables.{inters_of, intras_of, tables_of}
use Rattle.plan_compiler.specs.Places.{plan_of}

-- all definitions that the computation of a plan unfolds
unfoldable pub plans_on_literals : ⊤
unfolding tables_of intras_of inters_of plan_of
plans_on_literals = tt
