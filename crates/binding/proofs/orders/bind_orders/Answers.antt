use Rattle.std.proofs.Common.{◌≡◌, ◌∙◌, subst, sym, Err}
use Rattle.std.specs.Prelude.{MatchBool, ⊤}
use Rattle.std.proofs.lemmas.List.Elements.{All-same}
use Rattle.binding.specs.OrderBinding.{is_memory, orders_bound}
use Rattle.binding.specs.near.Orders.{all_kept_as, HasPlace}
use Rattle.binding.specs.declared.faults.OrderBindFault.{OrderBindFault}
use Rattle.binding.specs.declared.orders.kept_orders.KeptOrder.{KeptOrder}
use Rattle.binding.proofs.IdLaws.{apart_by_ids, contracts_of, contracts_of_are}
use Rattle.binding.proofs.KeptOrderLaws.{all_have_places}
use Rattle.binding.proofs.OrderBindLaws.{as_many_accounts, first_given, orders_fit, orders_given, orders_kept}
use Rattle.binding.proofs.orders.bind_orders.Goals as goal

pub kept_orders-requires-clause-accounts : goal.kept_orders-requires-clause-accounts
kept_orders-requires-clause-accounts c =
    as_many_accounts (contracts_of c.in_ok-numbers.numbers.keys) c.args.portfolios c.args.records.now _ _ _
    c.in_ok-gathered.gathered.ledgers.items c.by_order-positions.ensures c.accounts-2.ensures.value c.in_ok-gathered.ensures.ledgers

pub faults_of-requires-clause-places : goal.faults_of-requires-clause-places
faults_of-requires-clause-places c =
    let held = c.as_slice-held.result.now in
    let names = c.accounts.result.now in
    let accounts = c.accounts-2.result.now in
    All-same (λ (o : KeptOrder). HasPlace held o.account) _ (all_kept_as held names accounts c.in_ok-gathered.gathered.ledgers.items)
    (c.deref.ensures.value ∙ c.in_ok-orders.ensures)
    (all_have_places held names accounts c.in_ok-gathered.gathered.ledgers.items)

pub returns-in-Some : goal.returns-in-Some
returns-in-Some c =
    let contracts = c.args.tables.now.contracts in
    let is = sym c.in_ok-numbers.ensures.value in
    let ids = c.in_ok-numbers.numbers.keys in
    let portfolios = c.args.portfolios in
    let records = c.args.records.now in
    let kept = orders_kept contracts portfolios records _ _ _ _ _ _ _ (sym is) c.by_order-positions.ensures
    c.as_slice-held.ensures c.accounts.ensures.value c.accounts-2.ensures.value c.in_ok-gathered.ensures.ledgers c.in_ok-orders.ensures in
    subst (λ (e : OrderBindFault). MatchBool (is_memory e) ⊤ (orders_bound contracts portfolios records ≡ Err e))
    (sym c.order_fault.ensures)
    (first_given contracts portfolios records _ _ _ _ _ _ _ (apart_by_ids contracts ids is c.in_ok-numbers.ensures.known.apart)
    c.accounts-2.ensures.one (sym is) c.by_order-positions.ensures c.as_slice-held.ensures kept
    c.deref.ensures.value c.in_ok-gathered.ensures.unknown c.in_ok-faults.ensures.faults c.in-Some.fault c.in-Some.ensures)

pub invariant_of-result : goal.invariant_of-result
invariant_of-result c =
    let ids = c.in_ok-numbers.numbers.keys in
    let portfolios = c.args.portfolios in
    let records = c.args.records.now in
    let contracts = contracts_of ids in
    let is = contracts_of_are ids in
    let kept = orders_kept contracts portfolios records _ _ _ _ _ _ _ (sym is) c.by_order-positions.ensures
    c.as_slice-held.ensures c.accounts.ensures.value c.accounts-2.ensures.value c.in_ok-gathered.ensures.ledgers c.in_ok-orders.ensures in
    orders_fit contracts portfolios records _ _ _ _ _ _ _ (apart_by_ids contracts ids is c.in_ok-numbers.ensures.known.apart)
    c.accounts-2.ensures.one (sym is) c.by_order-positions.ensures c.as_slice-held.ensures kept
    c.deref.ensures.value c.in_ok-gathered.ensures.unknown c.in_ok-faults.ensures.faults _ c.len.ensures.len
    c.in-None.ensures c.in_ok-faults.ensures.before

pub returns-in-None : goal.returns-in-None
returns-in-None c =
    let contracts = c.args.tables.now.contracts in
    let is = sym c.in_ok-numbers.ensures.value in
    let ids = c.in_ok-numbers.numbers.keys in
    let portfolios = c.args.portfolios in
    let records = c.args.records.now in
    let kept = orders_kept contracts portfolios records _ _ _ _ _ _ _ (sym is) c.by_order-positions.ensures
    c.as_slice-held.ensures c.accounts.ensures.value c.accounts-2.ensures.value c.in_ok-gathered.ensures.ledgers c.in_ok-orders.ensures in
    orders_given contracts portfolios records _ _ _ _ _ _ _ (apart_by_ids contracts ids is c.in_ok-numbers.ensures.known.apart)
    c.accounts-2.ensures.one (sym is) c.by_order-positions.ensures c.as_slice-held.ensures kept
    c.deref.ensures.value c.in_ok-gathered.ensures.unknown c.in_ok-faults.ensures.faults _ c.len.ensures.len
    c.in-None.ensures c.in_ok-faults.ensures.before
