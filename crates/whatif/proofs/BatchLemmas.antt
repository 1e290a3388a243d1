-- The orders of a batch, and the rows after these orders.
use Rattle.std.proofs.Common.{◌≡◌, ◌∙◌, ℕ, ◌+◌, ◌≤◌, ◌<◌, Global, List, drop, get_or, length, map, refl, sym, ap, subst, take, arith}
use Rattle.std.specs.Prelude.{All}
use Rattle.std.specs.Arc.{arc_value}
use Rattle.std.specs.declared.sync.Arc.{Arc}
use Rattle.std.proofs.lemmas.List.{get_or-drop, get_or-map, get_or-take, length-drop, length-map, length-take}
use Rattle.std.proofs.lemmas.List.Elements.{All-drop, All-map, All-take}
use Rattle.span_tables.specs.Net.{AccountHoldings}
use Rattle.span_tables.specs.Tables.{AcceptedTables}
use Rattle.binding.specs.OrderBinding.{TriedOrder, TriedOrders}
use Rattle.plan_compiler.specs.Compiled.{SetView}
use Rattle.step_scheduler.specs.Rows.{RowView}
use Rattle.worker_teams.specs.near.OutcomeRows.{rows_of_accounts}
use Rattle.whatif.specs.Whatif.{order_text, whatif_text}
use Rattle.whatif.specs.near.Orders.{no_order, order_at, orders_text}
use Rattle.whatif.proofs.TextLemmas.{by_number}

-- the orders of a batch
abbrev pub batch_of : TriedOrders → ℕ → ℕ → List TriedOrder
batch_of tried first n = take n (drop first tried.orders)

-- if P is true of all portfolios after their orders, it is true of the portfolios of a batch
pub batch_holds : (P : AccountHoldings → Type 0) (tried : TriedOrders) (first n : ℕ) (portfolios : List AccountHoldings)
    → portfolios ≡ map (λ o. o.after) (batch_of tried first n) → All (λ o. P o.after) tried.orders → All P portfolios
batch_holds P tried first n portfolios are all =
    subst (All P) (sym are) (All-map P (λ (o : TriedOrder). o.after) (batch_of tried first n)
    (All-take (λ (o : TriedOrder). P o.after) n (drop first tried.orders)
    (All-drop (λ (o : TriedOrder). P o.after) first tried.orders all)))

module _ (set : SetView) (tried : TriedOrders) (first n k j : ℕ)
    (within : first + n ≤ length tried.orders) (lt : k < n) (at : first + k ≡ j) where
  count : length (batch_of tried first n) ≡ n
  count =
      let taken = length-take n (drop first tried.orders) in
      let left = length-drop first tried.orders in
      omega (arith, taken, left, within)

  counted : length (map (λ o. o.after) (batch_of tried first n)) ≡ n
  counted = length-map (batch_of tried first n) (λ (o : TriedOrder). o.after) ∙ count

  order_there : get_or (batch_of tried first n) k no_order ≡ order_at tried j
  order_there =
      get_or-take n (drop first tried.orders) k no_order lt ∙ get_or-drop first tried.orders k no_order
      ∙ ap (λ i. get_or tried.orders i no_order) at

  -- the row of an order of a batch
  pub row_there : (rows : List (Arc RowView Global)) (item : Arc RowView Global)
      → map arc_value rows ≡ rows_of_accounts set (map (λ o. o.after) (batch_of tried first n))
      → arc_value (get_or rows k item) ≡ record { set = set; portfolio = (order_at tried j).after }
  row_there rows item are =
      let row : AccountHoldings → RowView = λ p. record { set = set; portfolio = p } in
      let after : TriedOrder → AccountHoldings = λ o. o.after in
      let batch = batch_of tried first n in
      let all = length-map rows arc_value in
      let all_rows = length-map (map after batch) row in
      let as_many = ap length are in
      let sized = count in
      let sized_after = counted in
      sym (get_or-map arc_value rows k item (arc_value item) (omega (arith, all, all_rows, as_many, sized_after, lt)))
      ∙ ap (λ views. get_or views k (arc_value item)) are
      ∙ get_or-map row (map after batch) k no_order.after (arc_value item) (omega (arith, sized_after, lt))
      ∙ ap row (get_or-map after batch k no_order no_order.after (omega (arith, sized, lt)) ∙ ap after order_there)

-- the lines of all orders, by their numbers
pub all_orders : (t : AcceptedTables) (tried : TriedOrders)
    → orders_text t tried 0 (length tried.orders) ≡ whatif_text t tried.orders
unfolding whatif_text
all_orders t tried = by_number (order_text t) no_order tried.orders tried.orders 0 refl
