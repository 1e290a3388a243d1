-- The contents of three files, and their faults.
use Rattle.std.proofs.Common.{◌≡◌, ℕ, List, Bool, true, false, length, map, Option, Some, None, Ok}
use Rattle.std.proofs.Common.{Err, Result, refl, sym, ap, subst, inl, inr, ◌∙◌, ◌<◌, arith, get_or}
use Rattle.std.specs.Prelude.{All, if◌then◌else◌, ◌==◌, ◌||◌, ◌⊎◌, nat_lt}
use Rattle.std.proofs.lemmas.Bool.Decides.{nat_tests}
use Rattle.std.proofs.lemmas.List.Elements.{All-map}
use Rattle.span_csv.specs.OrderFaults.{orders_of}
use Rattle.span_csv.specs.PositionFaults.{positions_of}
use Rattle.span_tables.proofs.MergedLaws.{holdings_with_fits}
use Rattle.span_tables.specs.Faults.{ok_unless}
use Rattle.span_tables.specs.Holdings.{fits}
use Rattle.span_tables.specs.Net.{AccountHoldings}
use Rattle.span_tables.specs.Orders.{account_of_order, orders_in, positions_of_order}
use Rattle.span_tables.specs.Tables.{AcceptedTables}
use Rattle.span_tables.specs.declared.records.Contract.{Contract}
use Rattle.span_tables.specs.declared.records.OrderRecord.{OrderRecord}
use Rattle.span_tables.specs.declared.records.PositionRecord.{PositionRecord}
use Rattle.binding.specs.OrderBinding.{TriedOrder, TriedOrders, holdings_before, order_bind_fault, orders_bound, tried_order}
use Rattle.binding.specs.declared.faults.OrderBindFault.{OrderBindFault}
use Rattle.worker_pool.specs.declared.batch.TheConstants.{MAX_WORKERS}
use Rattle.statement_text.specs.Gives.{Gives, is_memory}
use Rattle.statement_text.specs.Statement.{accepted_of, and_then, portfolios_under, same, statement_bound, statement_of, statement_under}
use Rattle.statement_text.specs.declared.faults.SpanFault.{SpanFault}
use Rattle.statement_text.specs.declared.faults.SpanFault.TheVariants as fault
use Rattle.statement_text.proofs.FaultLemmas.{fault_stays}
use Rattle.whatif.specs.Whatif.{tried_of, tried_on, whatif_of}

-- ---- orders that are bound

bound_is : (contracts : List Contract) (portfolios : List AccountHoldings) (all : List OrderRecord) (tried : TriedOrders)
    → orders_bound contracts portfolios all ≡ Ok tried
    → record { portfolios = portfolios; orders = map (tried_order contracts portfolios all) (orders_in all) } ≡ tried
unfolding orders_bound
bound_is contracts portfolios all tried e = by_fault (order_bind_fault contracts portfolios all) e where
  by_fault : (o : Option OrderBindFault)
      → ok_unless o (record { portfolios = portfolios; orders = map (tried_order contracts portfolios all) (orders_in all) }) ≡ Ok tried
      → record { portfolios = portfolios; orders = map (tried_order contracts portfolios all) (orders_in all) } ≡ tried
  by_fault (Some f) e = cc
  by_fault None e = cc

-- the orders are evaluated on these portfolios
pub bound_portfolios : (contracts : List Contract) (portfolios : List AccountHoldings) (all : List OrderRecord) (tried : TriedOrders)
    → orders_bound contracts portfolios all ≡ Ok tried → tried.portfolios ≡ portfolios
bound_portfolios contracts portfolios all tried e =
    ap (λ (found : TriedOrders). found.portfolios) (sym (bound_is contracts portfolios all tried e))

-- the holdings of the accounts after their orders are in contracts that exist
pub bound_orders_fit : (contracts : List Contract) (portfolios : List AccountHoldings) (all : List OrderRecord) (tried : TriedOrders)
    → orders_bound contracts portfolios all ≡ Ok tried → All (λ o. fits (length contracts) o.after.holdings ≡ true) tried.orders
bound_orders_fit contracts portfolios all tried e =
    let Fits : TriedOrder → Type 0 = λ o. fits (length contracts) o.after.holdings ≡ true in
    let each : All (λ order. Fits (tried_order contracts portfolios all order)) (orders_in all) =
    λ k d lt.
    let order = get_or (orders_in all) k d in
    holdings_with_fits contracts (holdings_before portfolios all order) (positions_of_order all order) (account_of_order all order) in
    subst (λ (found : TriedOrders). All Fits found.orders) (bound_is contracts portfolios all tried e)
    (All-map Fits (tried_order contracts portfolios all) (orders_in all) each)

-- ---- three files

module _ (params positions orders : List ℕ) where
  -- for accepted files, the result is the result for their tables and portfolios
  pub accepted_tried : (t : AcceptedTables) (records : List PositionRecord) (portfolios : List AccountHoldings)
      → accepted_of params ≡ Ok t → positions_of positions ≡ Ok records → portfolios_under t records ≡ Ok portfolios
      → tried_of params positions orders ≡ tried_on t portfolios orders
  unfolding tried_of
  accepted_tried t records portfolios a q b = rw (a, q, b) refl

  -- if the statement has a fault, the orders have the same fault
  pub faults_tried : (e : SpanFault) → statement_of params positions ≡ Err e → tried_of params positions orders ≡ Err e
  unfolding statement_of statement_under statement_bound tried_of
  faults_tried e is =
      fault_stays same (accepted_of params) _ _ e (λ t.
      fault_stays fault.Positions (positions_of positions) _ _ e (λ records.
      fault_stays same (portfolios_under t records) _ _ e (λ portfolios h. cc))) is

-- ---- with a number of workers

if_allowed : {A : Type 0} (none many : Bool) (answer : Result A SpanFault) → none ≡ false → many ≡ false
    → (if none || many then Err fault.Workers else answer) ≡ answer
if_allowed true many answer h k = cc
if_allowed false true answer h k = cc
if_allowed false false answer h k = refl

module _ (workers : ℕ) (params positions orders : List ℕ) (some : 0 < workers) (few : workers < 17) where
  -- with 1 to 16 workers, the result does not depend on the number of workers
  pub allowed : whatif_of workers params positions orders ≡ tried_of params positions orders
  unfolding whatif_of
  allowed =
      let one : (workers == 0) ≡ false = grind (arith, nat_tests, some) in
      let other : nat_lt MAX_WORKERS workers ≡ false = grind (arith, nat_tests, few) in
      if_allowed (workers == 0) (nat_lt MAX_WORKERS workers) (tried_of params positions orders) one other

  -- a fault of the statement is a fault of the result
  pub first_refuses : (e : SpanFault) → (e ≡ fault.Memory) ⊎ ((is_memory e ≡ false) × (statement_of params positions ≡ Err e))
      → (e ≡ fault.Memory) ⊎ ((is_memory e ≡ false) × (whatif_of workers params positions orders ≡ Err e))
  first_refuses e (inl memory) = inl memory
  first_refuses e (inr named) = inr (named.0, allowed ∙ faults_tried params positions orders e named.1)

  module _ (t : AcceptedTables) (records : List PositionRecord) (portfolios : List AccountHoldings)
      (accepted : accepted_of params ≡ Ok t) (read : positions_of positions ≡ Ok records)
      (bound : portfolios_under t records ≡ Ok portfolios) where
    pub on_accepted : whatif_of workers params positions orders ≡ tried_on t portfolios orders
    on_accepted = allowed ∙ accepted_tried params positions orders t records portfolios accepted read bound

    -- a fault of the orders is a fault of the result
    pub orders_refuse : (e : SpanFault) → (e ≡ fault.Memory) ⊎ ((is_memory e ≡ false) × (tried_on t portfolios orders ≡ Err e))
        → (e ≡ fault.Memory) ⊎ ((is_memory e ≡ false) × (whatif_of workers params positions orders ≡ Err e))
    orders_refuse e (inl memory) = inl memory
    orders_refuse e (inr named) = inr (named.0, on_accepted ∙ named.1)

-- ---- no fault of files is the fault of too many workers

-- a chain of outcomes never has a fault that neither its first outcome nor the rest has
never : {A B F : Type 0} (bad : SpanFault) (named : F → SpanFault) (r : Result A F) (next : A → Result B SpanFault)
    → ((f : F) → r ≡ Err f → named f ≡ bad → ⊥) → ((x : A) → next x ≡ Err bad → ⊥) → and_then named r next ≡ Err bad → ⊥
never bad named (Ok x) next first rest is = rest x is
never bad named (Err f) next first rest is = let named_bad : named f ≡ bad = cc in first f refl named_bad

pub on_never_workers : (t : AcceptedTables) (portfolios : List AccountHoldings) (orders : List ℕ)
    → tried_on t portfolios orders ≡ Err fault.Workers → ⊥
unfolding tried_on
on_never_workers t portfolios orders is =
    never fault.Workers fault.Orders (orders_of orders) _ (λ f h e. cc) (λ records.
    never fault.Workers fault.BindOrders (orders_bound t.contracts portfolios records) _ (λ f h e. cc) (λ tried h. cc)) is

-- a call with the result of a definition never has the fault `Workers` if the definition never has it
pub gives_no_workers : {Y Z : Type 0} (said : Y → Z) (r : Result Y SpanFault) (answer : Result Z SpanFault) → Gives said r answer
    → (answer ≡ Err fault.Workers → ⊥) → r ≡ Err fault.Workers → ⊥
gives_no_workers said (Ok y) answer gives none e = cc
gives_no_workers said (Err x) answer (inl memory) none e = cc
gives_no_workers said (Err x) answer (inr named) none e =
    let is : x ≡ fault.Workers = cc in
    none (subst (λ (f : SpanFault). answer ≡ Err f) is named.1)
