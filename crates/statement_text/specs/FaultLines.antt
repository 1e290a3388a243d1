-- The text of each fault, its line, and its exit status.
use Rattle.std.specs.Prelude.{ℕ, Bool, if◌then◌else◌, false, true, List, ◌++◌, codes}
use Rattle.span_csv.specs.FaultTexts.{order_text, param_text, position_text}
use Rattle.span_csv.specs.ParamFaults as param_fault
use Rattle.span_csv.specs.PositionFaults as position_fault
use Rattle.span_csv.specs.OrderFaults as order_fault
use Rattle.param_check.specs.CheckFaults as check_fault
use Rattle.param_check.specs.CheckFaults.{check_text}
use Rattle.binding.specs.Binding as bind_fault
use Rattle.binding.specs.BindTexts.{bind_text, order_bind_text}
use Rattle.binding.specs.OrderBinding as order_bind_fault
use Rattle.result_book.specs.BookFaults as book_fault
use Rattle.result_book.specs.BookFaults.{book_text}
use Rattle.statement_text.specs.declared.faults.SpanFault.{SpanFault}
use Rattle.statement_text.specs.declared.faults.SpanFault.TheVariants as fault
use Rattle.statement_text.specs.declared.statuses.TheConstants.{BOOK_REFUSED, OUT_OF_MEMORY, PARAMETERS_REFUSED, POSITIONS_REFUSED, USAGE}

-- memory ran out, in any stage
abbrev pub is_memory : SpanFault → Bool
is_memory (fault.Params e) = param_fault.is_memory e
is_memory (fault.Check e) = check_fault.is_memory e
is_memory (fault.Positions e) = position_fault.is_memory e
is_memory (fault.Bind e) = bind_fault.is_memory e
is_memory (fault.Orders e) = order_fault.is_memory e
is_memory (fault.BindOrders e) = order_bind_fault.is_memory e
is_memory (fault.NextParams e) = param_fault.is_memory e
is_memory (fault.NextCheck e) = check_fault.is_memory e
is_memory (fault.NextBind e) = bind_fault.is_memory e
is_memory (fault.Book e) = book_fault.is_memory e
is_memory fault.Memory = true
is_memory _ = false

-- the text of a fault: the name of the file, and the fault's own text
abbrev pub fault_text : SpanFault → List ℕ
fault_text (fault.Params e) = codes "parameters: " ++ param_text e
fault_text (fault.Check e) = codes "parameters: " ++ check_text e
fault_text (fault.Positions e) = codes "positions: " ++ position_text e
fault_text (fault.Bind e) = codes "positions: " ++ bind_text e
fault_text (fault.Orders e) = codes "orders: " ++ order_text e
fault_text (fault.BindOrders e) = codes "orders: " ++ order_bind_text e
fault_text (fault.NextParams e) = codes "next parameters: " ++ param_text e
fault_text (fault.NextCheck e) = codes "next parameters: " ++ check_text e
fault_text (fault.NextBind e) = codes "next positions: " ++ bind_text e
fault_text (fault.UnknownAccount account) = codes "positions: E1 UnknownAccount account " ++ account
fault_text fault.Workers = codes "workers: L1 Workers"
fault_text (fault.Book e) = codes "book: " ++ book_text e
fault_text fault.Shelf = codes "shelf"
fault_text fault.Memory = codes "memory"

-- the line for out of memory
abbrev pub memory_line : List ℕ
memory_line = codes "memory\n"

-- the line of a fault
abbrev pub fault_line : SpanFault → List ℕ
fault_line e = if is_memory e then memory_line else fault_text e ++ codes "\n"

-- the exit status of a fault other than out of memory: rejected parameters, rejected positions or orders, a usage
-- error, or an error of a book or shelf
abbrev pub refused_status : SpanFault → ℕ
refused_status (fault.Params e) = PARAMETERS_REFUSED
refused_status (fault.Check e) = PARAMETERS_REFUSED
refused_status (fault.Positions e) = POSITIONS_REFUSED
refused_status (fault.Bind e) = POSITIONS_REFUSED
refused_status (fault.Orders e) = POSITIONS_REFUSED
refused_status (fault.BindOrders e) = POSITIONS_REFUSED
refused_status (fault.NextParams e) = PARAMETERS_REFUSED
refused_status (fault.NextCheck e) = PARAMETERS_REFUSED
refused_status (fault.NextBind e) = POSITIONS_REFUSED
refused_status (fault.UnknownAccount account) = POSITIONS_REFUSED
refused_status fault.Workers = USAGE
refused_status (fault.Book e) = BOOK_REFUSED
refused_status fault.Shelf = BOOK_REFUSED
refused_status fault.Memory = OUT_OF_MEMORY

-- the exit status of a fault
abbrev pub fault_status : SpanFault → ℕ
fault_status e = if is_memory e then OUT_OF_MEMORY else refused_status e
