-- The definitions that proofs about literals unfold.
use Rattle.std.specs.Prelude.{⊤}
use Rattle.binding.specs.Binding.{bind_fault, bind_faults}
use Rattle.binding.specs.OrderBinding.{order_bind_fault, orders_bound}

-- all definitions that a computation on literals unfolds
unfoldable pub on_literals : ⊤
unfolding bind_fault bind_faults order_bind_fault orders_bound
on_literals = tt
