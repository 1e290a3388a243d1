-- Trades on an account are bound as an order file of one order.
use Rattle.std.proofs.Common.{◌≡◌, ◌∙◌, ◌<◌, ℕ, List, [], ◌∷◌, ap, arith, bytes_eq, cond, filter, length, map, not, refl, sym}
use Rattle.std.proofs.Common.{Option, Some, None, Ok}
use Rattle.std.specs.Prelude.{find, nat_lt, option_map, unwrap_or}
use Rattle.span_tables.specs.Faults.{first_of, ok_unless}
use Rattle.span_tables.specs.Names.{distinct}
use Rattle.span_tables.specs.Net.{AccountHoldings}
use Rattle.span_tables.specs.Orders.{account_of_order, as_position, holdings_among, holdings_with, orders_in, positions_of_order}
use Rattle.span_tables.specs.declared.limits.TheConstants.{MAX_HELD}
use Rattle.span_tables.specs.declared.portfolios.Holding.{Holding}
use Rattle.span_tables.specs.declared.records.Contract.{Contract}
use Rattle.span_tables.specs.declared.records.OrderRecord.{OrderRecord}
use Rattle.binding.specs.Binding.{owner_faults}
use Rattle.binding.specs.OrderBinding.{TriedOrder, TriedOrders, holdings_after, net_exceeds_with, order_bind_fault}
use Rattle.binding.specs.OrderBinding.{orders_bound, tried_order}
use Rattle.binding.specs.Trades.{as_order, booked, held_after, order_fault_of, order_trade, trade_fault, traded}
use Rattle.binding.specs.declared.faults.BindFault.{BindFault}
use Rattle.binding.specs.declared.faults.BindFault.TheVariants as bind
use Rattle.binding.specs.declared.faults.OrderBindFault.TheVariants as fault
use Rattle.binding.specs.declared.trades.Trade.{Trade}
use Rattle.binding.proofs.AccountLaws.{bytes_eq-refl}
use Rattle.binding.proofs.MergedFit.{is_over_in}
use Rattle.binding.proofs.OrderTransfer.{first_of-map, owner_renamed, owners_mapped, owners_told}

module _ (name account : List ℕ) where
  -- the records of the order are its trades
  pub mine : (trades : List Trade) → positions_of_order (map (order_trade name account) trades) name ≡ map (booked account) trades
  mine [] = refl
  mine (t ∷ trades) =
      let others = filter (λ (r : OrderRecord). bytes_eq r.order name) (map (order_trade name account) trades) in
      ap (λ b. map as_position (cond b (order_trade name account t ∷ others) others)) (bytes_eq-refl name)
      ∙ ap (λ ps. booked account t ∷ ps) (mine trades)

  pub account_is : (t : Trade) (trades : List Trade) → account_of_order (map (order_trade name account) (t ∷ trades)) name ≡ account
  account_is t trades =
      ap (λ b. unwrap_or (option_map (λ (r : OrderRecord). r.account) (cond b (Some (order_trade name account t))
      (find (λ r. bytes_eq r.order name) (map (order_trade name account) trades)))) []) (bytes_eq-refl name)

  no_other : (trades : List Trade)
      → filter (λ other. not (bytes_eq other name)) (distinct (map (λ r. r.order) (map (order_trade name account) trades))) ≡ []
  no_other [] = refl
  no_other (t ∷ trades) =
      let others = filter (λ other. not (bytes_eq other name))
      (filter (λ other. not (bytes_eq other name))
      (distinct (map (λ (r : OrderRecord). r.order) (map (order_trade name account) trades)))) in
      ap (λ b. cond (not b) (name ∷ others) others) (bytes_eq-refl name)
      ∙ ap (filter (λ other. not (bytes_eq other name))) (no_other trades)

  module _ (contracts : List Contract) (portfolios : List AccountHoldings) (t : Trade) (trades : List Trade) where
    abbrev all : List Trade
    all = t ∷ trades

    abbrev records : List OrderRecord
    records = map (order_trade name account) all

    abbrev held : List Holding
    held = holdings_among portfolios account

    abbrev after : List Holding
    after = held_after contracts held account all

    pub one_order : orders_in (map (order_trade name account) (t ∷ trades)) ≡ name ∷ []
    one_order = ap (λ others. name ∷ others) (no_other trades)

    after_is : holdings_after contracts portfolios records name ≡ after
    after_is =
        let owner = account_is t trades in
        let positions = mine all in
        λ i. holdings_with contracts (holdings_among portfolios (owner i)) (positions i) (owner i)

    fault_is : order_bind_fault contracts portfolios records
        ≡ option_map (order_fault_of name) (trade_fault contracts held account all)
    unfolding order_bind_fault trade_fault
    fault_is =
        let over = λ (owner contract : List ℕ). is_over_in contracts after contract in
        let many = λ (owner : List ℕ). nat_lt MAX_HELD (length after) in
        let order_over = net_exceeds_with contracts portfolios records in
        let order_many = λ (order : List ℕ). nat_lt MAX_HELD (length (holdings_after contracts portfolios records order)) in
        ap first_of (owners_mapped (order_trade name account) (λ r. r.order) (λ r. r.contract) fault.UnknownContract fault.NetOutOfRange
        fault.TooManyHeld contracts order_over order_many all
        ∙ sym (owners_told (order_fault_of name) (λ (u : Trade). account) (λ u. u.contract) bind.UnknownContract bind.NetOutOfRange
        bind.TooManyHeld contracts over many all
        ∙ owner_renamed (λ (u : Trade). u.contract) (λ at. fault.UnknownContract at name) (λ at. fault.NetOutOfRange at name)
        (λ at. fault.TooManyHeld at name) contracts over many account name order_over order_many all
        (λ c. ap (λ hs. is_over_in contracts hs c) (sym after_is)) (ap (λ hs. nat_lt MAX_HELD (length hs)) (sym after_is))))
        ∙ first_of-map (order_fault_of name) (owner_faults (λ (u : Trade). account) (λ u. u.contract) bind.UnknownContract
        bind.NetOutOfRange bind.TooManyHeld contracts over many all)

    one_tried : map (tried_order contracts portfolios records) (orders_in records) ≡ record {
      order = name;
      before = record { account = account; holdings = held };
      after = record { account = account; holdings = after };
    } ∷ []
    one_tried =
        let owner = account_is t trades in
        ap (map (tried_order contracts portfolios records)) one_order
        ∙ (λ i. (let it : TriedOrder = record {
          order = name;
          before = record { account = owner i; holdings = holdings_among portfolios (owner i) };
          after = record { account = owner i; holdings = after_is i };
        } in it) ∷ [])

    bound : (o : Option BindFault) → ok_unless (option_map (order_fault_of name) o)
        (let it : TriedOrders = record {
          portfolios = portfolios;
          orders = map (tried_order contracts portfolios records) (orders_in records);
        } in it)
        ≡ as_order portfolios name held (ok_unless o (record { account = account; holdings = after }))
    bound None = λ i. Ok (let it : TriedOrders = record { portfolios = portfolios; orders = one_tried i } in it)
    bound (Some e) = refl

    bound_as_order : orders_bound contracts portfolios records
        ≡ as_order portfolios name held (traded contracts held account all)
    unfolding orders_bound traded
    bound_as_order =
        ap (λ o. ok_unless o (let it : TriedOrders = record {
          portfolios = portfolios;
          orders = map (tried_order contracts portfolios records) (orders_in records);
        } in it)) fault_is
        ∙ bound (trade_fault contracts held account all)

  pub bound_as_an_order : (contracts : List Contract) (portfolios : List AccountHoldings) (trades : List Trade) → 0 < length trades
      → orders_bound contracts portfolios (map (order_trade name account) trades)
      ≡ as_order portfolios name (holdings_among portfolios account) (traded contracts (holdings_among portfolios account) account trades)
  bound_as_an_order contracts portfolios [] some = absurd (omega (arith, some))
  bound_as_an_order contracts portfolios (t ∷ trades) some = bound_as_order contracts portfolios t trades
