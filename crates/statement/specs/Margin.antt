-- The statement of two files on a number of workers.
use Rattle.std.specs.Prelude.{ℕ, List, Result, Err, if◌then◌else◌, ◌==◌, ◌||◌, nat_lt}
use Rattle.statement_text.specs.declared.faults.SpanFault.{SpanFault}
use Rattle.statement_text.specs.declared.faults.SpanFault.TheVariants as fault
use Rattle.worker_pool.specs.declared.batch.TheConstants.{MAX_WORKERS}
use Rattle.statement_text.specs.Statement.{statement_of}

-- The statement of two files on a number of workers. It is the same for each valid number. A number of workers that is
-- 0 or over the maximum is rejected before anything else.
unfoldable pub margin_of : ℕ → List ℕ → List ℕ → Result (List ℕ) SpanFault
margin_of workers params positions =
    if workers == 0 || nat_lt MAX_WORKERS workers then Err fault.Workers else statement_of params positions
