-- The faults of the stages as faults of the whole program.
use Rattle.std.specs.Prelude.{Bool, if◌then◌else◌}
use Rattle.plan_shelf.specs.declared.faults.ShelfFault.{ShelfFault}
use Rattle.plan_shelf.specs.declared.faults.ShelfFault.TheVariants as shelf
use Rattle.result_book.specs.declared.books.BookFault.{BookFault}
use Rattle.result_book.specs.BookFaults as book
use Rattle.statement_text.specs.declared.faults.SpanFault.{SpanFault}
use Rattle.statement_text.specs.declared.faults.SpanFault.TheVariants as fault

-- a fault of a stage, under its name in the whole program; out of memory is `Memory`, in every stage
abbrev pub of_stage : {F : Type 0} → (F → Bool) → (F → SpanFault) → F → SpanFault
of_stage is_memory named e = if is_memory e then fault.Memory else named e

-- the fault of a book
abbrev pub of_book : BookFault → SpanFault
of_book e = of_stage book.is_memory fault.Book e

-- the fault of a shelf
abbrev pub of_shelf : ShelfFault → SpanFault
of_shelf shelf.OutOfMemory = fault.Memory
of_shelf shelf.Readers = fault.Shelf
of_shelf shelf.Last = fault.Shelf
