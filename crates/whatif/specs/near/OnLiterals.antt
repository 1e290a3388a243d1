-- The definitions that a proof unfolds to compute on literals.
use Rattle.std.specs.Prelude.{⊤}
use Rattle.binding.specs.OrderBinding.{order_bind_fault, orders_bound}
use Rattle.statement_text.specs.near.OnLiterals.{on_literals as statement_on_literals}
use Rattle.whatif.specs.Whatif.{change_line, order_line, order_text, tried_of, tried_on, whatif_of, whatif_text}

-- all definitions that computing on literals unfolds
unfoldable pub on_literals : ⊤
unfolding statement_on_literals order_bind_fault orders_bound change_line order_line order_text whatif_text tried_on tried_of whatif_of
on_literals = tt
