-- The text of each fault of binding: its number and name, the number of its record, and the record's account or order.
use Rattle.std.specs.Prelude.{ℕ, List, ◌++◌, codes, decimal}
use Rattle.binding.specs.declared.faults.BindFault.{BindFault}
use Rattle.binding.specs.declared.faults.BindFault.TheVariants as bind
use Rattle.binding.specs.declared.faults.OrderBindFault.{OrderBindFault}
use Rattle.binding.specs.declared.faults.OrderBindFault.TheVariants as order

abbrev pub bind_text : BindFault → List ℕ
bind_text (bind.UnknownContract at account) = codes "B1 UnknownContract at record " ++ (decimal at ++ (codes " account " ++ account))
bind_text (bind.NetOutOfRange at account) = codes "B2 NetOutOfRange at record " ++ (decimal at ++ (codes " account " ++ account))
bind_text (bind.TooManyHeld at account) = codes "B3 TooManyHeld at record " ++ (decimal at ++ (codes " account " ++ account))
bind_text bind.OutOfMemory = codes "memory"

abbrev pub order_bind_text : OrderBindFault → List ℕ
order_bind_text (order.UnknownContract at name) = codes "B1 UnknownContract at record " ++ (decimal at ++ (codes " order " ++ name))
order_bind_text (order.NetOutOfRange at name) = codes "B2 NetOutOfRange at record " ++ (decimal at ++ (codes " order " ++ name))
order_bind_text (order.TooManyHeld at name) = codes "B3 TooManyHeld at record " ++ (decimal at ++ (codes " order " ++ name))
order_bind_text order.OutOfMemory = codes "memory"
