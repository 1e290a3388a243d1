use Rattle.std.proofs.Common.{arith}
use Rattle.result_book.proofs.BookLemmas.{book-without_rows}
use Rattle.result_book.proofs.books.ResultBook.new.Goals as goal

pub invariant_of-result : goal.invariant_of-result
invariant_of-result c = rw c.new.ensures.empty (book-without_rows _ (omega arith))
