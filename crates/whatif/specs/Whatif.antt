-- The text that says how orders would change the margins of their accounts, from the bytes of three files.
use Rattle.std.specs.Prelude.{ℕ, Bool, not, ◌==◌, ◌||◌, nat_lt, if◌then◌else◌, List, [], ◌∷◌, ◌++◌, flat_map, map, filter, codes, length}
use Rattle.std.specs.Prelude.{Result, Ok, Err, ℤ, pos, ◌-ℤ◌}
use Rattle.std.specs.List.{range_with_len}
use Rattle.std.specs.Ordering.{int_eq}
use Rattle.std.specs.Fmt.{signed_decimal}
use Rattle.span_money.specs.LineFields.{Line, line}
use Rattle.span_csv.specs.PositionFaults.{positions_of}
use Rattle.span_csv.specs.OrderFaults.{orders_of}
use Rattle.span_tables.specs.Net.{AccountHoldings}
use Rattle.span_tables.specs.Tables.{AcceptedTables, facts_in}
use Rattle.binding.specs.OrderBinding.{TriedOrder, orders_bound}
use Rattle.inter_credit.specs.OptionValue.{due_of}
use Rattle.plan_ir.specs.Figures.{commodity_at, figures_of, option_value_of}
use Rattle.statement_text.specs.Statement.{accepted_of, and_then, portfolios_under, same, total_of}
use Rattle.statement_text.specs.declared.faults.SpanFault.{SpanFault}
use Rattle.statement_text.specs.declared.faults.SpanFault.TheVariants as fault
use Rattle.worker_pool.specs.declared.batch.TheConstants.{MAX_WORKERS}

-- ---- the lines of an order

-- the fields of a line for an amount: before, after, and after minus before
abbrev pub change_of : ℤ → ℤ → List ℤ
change_of before after = before ∷ after ∷ (after -ℤ before) ∷ []

-- the requirement of a portfolio in the commodity of number c, which is 0 if it holds no contract in it
abbrev pub requirement_at : AcceptedTables → AccountHoldings → ℕ → ℤ
requirement_at t p c = (figures_of t p.holdings c).requirement

-- the amount due from the account of a portfolio, after its option value
abbrev pub due_at : AcceptedTables → AccountHoldings → ℤ
due_at t p = pos (due_of (total_of t p) (option_value_of t p.holdings))

-- the order changes the requirement in the commodity of number c
abbrev pub changes : AcceptedTables → TriedOrder → ℕ → Bool
changes t o c = not (int_eq (requirement_at t o.before c) (requirement_at t o.after c))

-- the commodities whose requirement the order changes, in file order
abbrev pub changed_by : AcceptedTables → TriedOrder → List ℕ
changed_by t o = filter (changes t o) (range_with_len 0 (length t.commodities))

-- the line of a commodity whose requirement an order changes, with the ids of the order, its account, the parameter set
-- and the commodity
unfoldable pub change_line : AcceptedTables → TriedOrder → ℕ → Line
change_line t o c = record {
  word = codes "CHANGE";
  fields = o.order ∷ o.after.account ∷ t.set_id ∷ (commodity_at t c).id
      ∷ map signed_decimal (change_of (requirement_at t o.before c) (requirement_at t o.after c));
}

-- The numbers of an order's last line: the change of the account's total and, if options have a value, the change of
-- the amount due.
abbrev pub order_numbers : AcceptedTables → TriedOrder → List ℤ
order_numbers t o =
    change_of (total_of t o.before) (total_of t o.after)
    ++ (if (facts_in t).options_have_value then change_of (due_at t o.before) (due_at t o.after) else [])

-- the last line of an order, with the ids of the order, its account and the parameter set
unfoldable pub order_line : AcceptedTables → TriedOrder → Line
order_line t o = record {
  word = codes "ORDER";
  fields = o.order ∷ o.after.account ∷ t.set_id ∷ map signed_decimal (order_numbers t o);
}

-- the lines of an order: one for each commodity whose requirement it changes, and one for the totals
unfoldable pub order_text : AcceptedTables → TriedOrder → List ℕ
order_text t o = flat_map (λ c. line (change_line t o c)) (changed_by t o) ++ line (order_line t o)

-- the text of a list of orders, each evaluated by itself, in their order
unfoldable pub whatif_text : AcceptedTables → List TriedOrder → List ℕ
whatif_text t orders = flat_map (order_text t) orders

-- ---- from bytes to bytes

-- how the orders of a file would change the margins of these portfolios, or the first fault in reading and then in
-- binding the orders
unfoldable pub tried_on : AcceptedTables → List AccountHoldings → List ℕ → Result (List ℕ) SpanFault
tried_on tables portfolios orders =
    and_then fault.Orders (orders_of orders) (λ records.
    and_then fault.BindOrders (orders_bound tables.contracts portfolios records) (λ tried. Ok (whatif_text tables tried.orders)))

-- How the orders of a file would change the margins of the accounts of two other files, or the first fault. Faults come
-- in this order: reading the parameters, checking them, reading the positions, binding them, reading the orders,
-- binding them.
unfoldable pub tried_of : List ℕ → List ℕ → List ℕ → Result (List ℕ) SpanFault
tried_of params positions orders =
    and_then same (accepted_of params) (λ tables.
    and_then fault.Positions (positions_of positions) (λ records.
    and_then same (portfolios_under tables records) (λ portfolios. tried_on tables portfolios orders)))

-- The same text with any number of workers. A number of workers that is 0 or over the maximum is rejected before
-- anything else.
unfoldable pub whatif_of : ℕ → List ℕ → List ℕ → List ℕ → Result (List ℕ) SpanFault
whatif_of workers params positions orders =
    if workers == 0 || nat_lt MAX_WORKERS workers then Err fault.Workers else tried_of params positions orders
