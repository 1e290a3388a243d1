-- The faults of a result store (book).
use Rattle.std.specs.Prelude.{ℕ, Bool, List, codes, false, true}
use Rattle.result_book.specs.declared.books.BookFault.{BookFault}
use Rattle.result_book.specs.declared.books.BookFault.TheVariants as fault

-- the fault is out of memory
abbrev pub is_memory : BookFault → Bool
is_memory fault.NoSuchBatch = false
is_memory fault.AlreadyThere = false
is_memory fault.OutOfMemory = true
is_memory fault.NoMoreBatches = false

-- the text of a fault: its number and name
abbrev pub book_text : BookFault → List ℕ
book_text fault.NoSuchBatch = codes "K1 NoSuchBatch"
book_text fault.AlreadyThere = codes "K2 AlreadyThere"
book_text fault.OutOfMemory = codes "memory"
book_text fault.NoMoreBatches = codes "K4 NoMoreBatches"
