-- The result of a call, for a definition that may have a fault of its files.
use Rattle.std.specs.Prelude.{◌≡◌, ◌⊎◌, Bool, true, false, Result, Ok, Err}
use Rattle.span_csv.specs.ParamFaults as param
use Rattle.span_csv.specs.PositionFaults as position
use Rattle.param_check.specs.CheckFaults as check
use Rattle.binding.specs.Binding as bind
use Rattle.span_csv.specs.OrderFaults as order
use Rattle.binding.specs.OrderBinding as bind_order
use Rattle.result_book.specs.BookFaults as book
use Rattle.statement_text.specs.declared.faults.SpanFault.{SpanFault}
use Rattle.statement_text.specs.declared.faults.SpanFault.TheVariants as fault

-- the fault means that memory ran out
abbrev pub is_memory : SpanFault → Bool
is_memory (fault.Params e) = param.is_memory e
is_memory (fault.Check e) = check.is_memory e
is_memory (fault.Positions e) = position.is_memory e
is_memory (fault.Bind e) = bind.is_memory e
is_memory (fault.Orders e) = order.is_memory e
is_memory (fault.BindOrders e) = bind_order.is_memory e
is_memory (fault.NextParams e) = param.is_memory e
is_memory (fault.NextCheck e) = check.is_memory e
is_memory (fault.NextBind e) = bind.is_memory e
is_memory (fault.UnknownAccount account) = false
is_memory fault.Workers = false
is_memory (fault.Book e) = book.is_memory e
is_memory fault.Shelf = false
is_memory fault.Memory = true

-- The call returns the value of the definition, or its fault, or `Memory`, which says nothing about the definition. Out
-- of memory is always returned as `Memory`. Contracts see the view `said` of a returned value.
abbrev pub Gives : {Y Z : Type 0} → (Y → Z) → Result Y SpanFault → Result Z SpanFault → Type 0
Gives said (Ok y) answer = answer ≡ Ok (said y)
Gives said (Err e) answer = (e ≡ fault.Memory) ⊎ ((is_memory e ≡ false) × (answer ≡ Err e))
