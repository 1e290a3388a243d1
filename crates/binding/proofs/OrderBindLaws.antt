-- The result of binding orders.
use Rattle.std.proofs.Common.{◌≡◌, ℕ, suc, ◌<◌, Bool, true, false, cond, ◌&&◌, List, [], ◌∷◌, ◌++◌, length, map, filter, get_or}
use Rattle.std.proofs.Common.{Some, None, Ok, Err, refl, sym, ap, subst, ◌∙◌, arith}
use Rattle.std.specs.Prelude.{All, bytes_eq, MatchBool, nat_lt, option_map, ⊤}
use Rattle.std.specs.List.{list_any}
use Rattle.std.proofs.lemmas.Bool.{or_from, or_parts}
use Rattle.std.proofs.lemmas.List.{get_or-map, length-map}
use Rattle.std.proofs.lemmas.List.Elements.{All-map, All-same}
use Rattle.std.proofs.lemmas.List.Folds.{list_any_at}
use Rattle.std.proofs.lemmas.Simd.{map-map}
use Rattle.span_tables.specs.Faults.{first_of, ok_unless}
use Rattle.span_tables.specs.Holdings.{ArePortfolio}
use Rattle.span_tables.specs.Names.{distinct, has_repeat, is_among}
use Rattle.span_tables.specs.Net.{AccountHoldings, accounts_of}
use Rattle.span_tables.specs.Orders.{account_of_order, as_position, orders_in, positions_of_order}
use Rattle.span_tables.specs.near.Orders.{under_order}
use Rattle.span_tables.specs.declared.limits.TheConstants.{MAX_HELD}
use Rattle.span_tables.specs.declared.portfolios.Holding.{Holding}
use Rattle.span_tables.specs.declared.records.Contract.{Contract}
use Rattle.span_tables.specs.declared.records.OrderRecord.{OrderRecord}
use Rattle.span_tables.specs.declared.records.PositionRecord.{PositionRecord}
use Rattle.span_tables.proofs.NameLaws.{distinct_same}
use Rattle.span_tables.proofs.NameLemmas.{same_name}
use Rattle.binding.specs.Binding.{known_records, owner_faults}
use Rattle.binding.specs.OrderBinding.{TriedOrders, exceeds_held_with, exceeds_net_with, first_unfit_order}
use Rattle.binding.specs.OrderBinding.{holdings_after, holdings_before, is_first_of_leg, is_first_of_order, is_memory}
use Rattle.binding.specs.OrderBinding.{is_of_unknown, net_exceeds_with, order_bind_fault, orders_bound, tried_order}
use Rattle.binding.specs.near.Holdings.{are_many, excess_of, found_faults, ids_of}
use Rattle.binding.specs.near.Ledgers.{foreign_faults, held_entries, listed_records}
use Rattle.binding.specs.near.Nets.{entries_of}
use Rattle.binding.specs.near.Orders.{all_kept_as, kept_after, kept_as, kept_order, order_fault, portfolio_before, IsKept}
use Rattle.binding.specs.near.Sums.{kept_holding, kept_holdings}
use Rattle.binding.specs.declared.ledgers.Entry.{Entry}
use Rattle.binding.specs.declared.over_limits.Excess.{Excess}
use Rattle.binding.specs.declared.faults.BindFault.{BindFault}
use Rattle.binding.specs.declared.faults.BindFault.TheVariants as bind
use Rattle.binding.specs.declared.faults.OrderBindFault.{OrderBindFault}
use Rattle.binding.specs.declared.faults.OrderBindFault.TheVariants as fault
use Rattle.binding.specs.declared.orders.kept_orders.KeptOrder.{KeptOrder}
use Rattle.binding.proofs.AccountLaws.{bytes_eq-refl}
use Rattle.binding.proofs.BindLaws.{unless}
use Rattle.binding.proofs.FilterMaps.{list_any-map}
use Rattle.binding.proofs.FoundLaws.{found_are}
use Rattle.binding.proofs.KeptLaws.{each_same}
use Rattle.binding.proofs.KeptOrderLaws.{before_is, kept_of_names, place_there}
use Rattle.binding.proofs.MergedFit.{merged_holds, over_by_name}
use Rattle.binding.proofs.OrderNets.{after_under, known_count, merged_are}
use Rattle.binding.proofs.OrderTransfer.{first_of-map, transferred}
use Rattle.binding.proofs.OwnerLaws.{first_is_held, first_is_net, first_is_unknown, fit_from}
use Rattle.binding.proofs.PlaceLaws.{listed_is}
use Rattle.binding.proofs.PortfolioLaws.{few_among}

-- ---- names

names_under : (records : List OrderRecord) → map (λ p. p.account) (map under_order records) ≡ map (λ r. r.order) records
names_under [] = refl
names_under (r ∷ records) = ap (λ ns. r.order ∷ ns) (names_under records)

-- the orders are the accounts of their records, read under the orders' names
pub orders_under : (records : List OrderRecord) → accounts_of (map under_order records) ≡ orders_in records
orders_under records = ap distinct (names_under records)

-- ---- faults

module _ (contracts : List Contract) (portfolios : List AccountHoldings) (records : List OrderRecord) where
  -- the holdings of the orders' accounts without and with the orders, by order name
  abbrev before : List ℕ → List Holding
  before order = holdings_before portfolios records order

  abbrev with_order : List ℕ → List Holding
  with_order order = holdings_after contracts portfolios records order

  abbrev over : List ℕ → List ℕ → Bool
  over order contract = net_exceeds_with contracts portfolios records order contract

  abbrev many : List ℕ → Bool
  many order = nat_lt MAX_HELD (length (with_order order))

  pub unknown_first : (y : OrderBindFault)
      → first_unfit_order fault.UnknownContract (λ earlier r. is_of_unknown contracts r) records ≡ Some y
      → order_bind_fault contracts portfolios records ≡ Some y
  unfolding order_bind_fault
  unknown_first y e =
      first_is_unknown (λ (r : OrderRecord). r.order) (λ r. r.contract) fault.UnknownContract fault.NetOutOfRange fault.TooManyHeld
      contracts over many records y e

  pub net_second : (y : OrderBindFault) → list_any (is_of_unknown contracts) records ≡ false
      → first_unfit_order fault.NetOutOfRange (λ earlier r. is_first_of_leg earlier r && exceeds_net_with contracts portfolios records r)
      records ≡ Some y
      → order_bind_fault contracts portfolios records ≡ Some y
  unfolding order_bind_fault
  net_second y known e =
      first_is_net (λ (r : OrderRecord). r.order) (λ r. r.contract) fault.UnknownContract fault.NetOutOfRange fault.TooManyHeld
      contracts over many records known y e

  pub held_last : (y : OrderBindFault) → list_any (is_of_unknown contracts) records ≡ false
      → list_any (exceeds_net_with contracts portfolios records) records ≡ false
      → first_unfit_order fault.TooManyHeld (λ earlier r. is_first_of_order earlier r && exceeds_held_with contracts portfolios records r)
      records ≡ Some y
      → order_bind_fault contracts portfolios records ≡ Some y
  unfolding order_bind_fault
  held_last y known within e =
      first_is_held (λ (r : OrderRecord). r.order) (λ r. r.contract) fault.UnknownContract fault.NetOutOfRange fault.TooManyHeld
      contracts over many records known within ∙ e

  -- accepted orders are of known contracts and within the limits
  fit : order_bind_fault contracts portfolios records ≡ None → (list_any (is_of_unknown contracts) records ≡ false)
      × (list_any (exceeds_net_with contracts portfolios records) records ≡ false)
      × (list_any (exceeds_held_with contracts portfolios records) records ≡ false)
  unfolding order_bind_fault
  fit none =
      fit_from (λ (r : OrderRecord). r.order) (λ r. r.contract) fault.UnknownContract fault.NetOutOfRange fault.TooManyHeld
      contracts over many records none

  pub accepted_known : order_bind_fault contracts portfolios records ≡ None → list_any (is_of_unknown contracts) records ≡ false
  accepted_known none = (fit none).0

  -- if no record is over the limit, no record of one order is
  within_order : (over : List ℕ → List ℕ → Bool) (order : List ℕ) (xs : List OrderRecord)
      → list_any (λ r. over r.order r.contract) xs ≡ false
      → list_any (λ p. over order p.contract) (positions_of_order xs order) ≡ false
  within_order over order [] h = refl
  within_order over order (r ∷ xs) h = by (bytes_eq r.order order) refl (within_order over order xs parts.1)
    where
      parts : (over r.order r.contract ≡ false) × (list_any (λ q. over q.order q.contract) xs ≡ false)
      parts = or_parts (over r.order r.contract) (list_any (λ q. over q.order q.contract) xs) h

      mine : List OrderRecord
      mine = filter (λ q. bytes_eq q.order order) xs

      by : (b : Bool) → bytes_eq r.order order ≡ b → list_any (λ p. over order p.contract) (map as_position mine) ≡ false
          → list_any (λ p. over order p.contract) (map as_position (cond b (r ∷ mine) mine)) ≡ false
      by true e more =
          or_from (over order r.contract) (list_any (λ p. over order p.contract) (map as_position mine))
          (ap (λ o. over o r.contract) (sym (same_name r.order order e)) ∙ parts.0) more
      by false e more = more

  -- the account of an accepted order has a portfolio with it
  pub accepted_fits : has_repeat (λ x y. bytes_eq x.id y.id) contracts ≡ false → order_bind_fault contracts portfolios records ≡ None
      → (order : List ℕ) → ArePortfolio (holdings_before portfolios records order) → is_among (orders_in records) order ≡ true
      → ArePortfolio (holdings_after contracts portfolios records order)
  accepted_fits apart none order portfolio among =
      merged_holds contracts (before order) (positions_of_order records order) (account_of_order records order) apart portfolio
      (within_order over order records (fit none).1)
      (few_among with_order order (map (λ (r : OrderRecord). r.order) records)
      (sym (distinct_same (map (λ (r : OrderRecord). r.order) records) order) ∙ among)
      (list_any-map (λ n. are_many (with_order n)) (λ (r : OrderRecord). r.order) records ∙ (fit none).2))

  -- ---- stored orders

  abbrev positions : List PositionRecord
  positions = map under_order records

  abbrev pub kept : List ℕ → KeptOrder
  kept order =
      kept_as portfolios (
        (order, account_of_order records order),
        entries_of (ids_of contracts) (listed_records (ids_of contracts) positions) order,
      )

  before_kept : (order : List ℕ) → portfolio_before portfolios (kept order).account
      ≡ record { account = account_of_order records order; holdings = before order }
  before_kept order = before_is portfolios (account_of_order records order)

  module _ (apart : has_repeat (λ x y. bytes_eq x.id y.id) contracts ≡ false)
      (one : All (λ r. r.account ≡ account_of_order records r.order) records) where
    after_kept : (order : List ℕ) → kept_after (length contracts) portfolios (kept order) ≡ map kept_holding (with_order order)
    after_kept order =
        ap (λ (p : AccountHoldings). kept_holdings (length contracts)
        (held_entries p.holdings ++ entries_of (ids_of contracts) (listed_records (ids_of contracts) positions) order)) (before_kept order)
        ∙ (λ k. kept_holdings (length contracts)
        (held_entries (before order) ++ entries_of (ids_of contracts) (filter (λ p. listed_is contracts p k) positions) order))
        ∙ ap (map kept_holding) (sym (after_under records order contracts (before order) one
        ∙ sym (known_count contracts (before order) positions order)
        ∙ merged_are contracts (before order) (known_records contracts positions) order apart))

    module _ (orders : List KeptOrder) (orders_are : orders ≡ map kept (orders_in records)) where
      -- the first fault found is the fault of the definition
      pub found_first : (unknown : List BindFault) (excesses : List Excess) → unknown ≡ foreign_faults (ids_of contracts) positions
          → excesses ≡ map (λ o. excess_of (kept_after (length contracts) portfolios o)) orders
          → option_map order_fault (first_of (found_faults (ids_of contracts) unknown excesses positions))
          ≡ order_bind_fault contracts portfolios records
      unfolding order_bind_fault
      found_first unknown excesses are excesses_are =
          let of_kept = λ (o : KeptOrder). excess_of (kept_after (length contracts) portfolios o) in
          let by_name = excesses_are ∙ ap (map of_kept) orders_are ∙ map-map of_kept kept (orders_in records)
          ∙ (λ k. map (λ order. excess_of (after_kept order k)) (orders_in records))
          ∙ ap (map (λ order. excess_of (map kept_holding (with_order order)))) (sym (orders_under records)) in
          sym (first_of-map order_fault (found_faults (ids_of contracts) unknown excesses positions))
          ∙ ap (λ fs. first_of (map order_fault fs)) (found_are contracts positions with_order excesses by_name unknown are)
          ∙ (λ k. first_of (map order_fault (owner_faults (λ (p : PositionRecord). p.account) (λ p. p.contract)
          bind.UnknownContract bind.NetOutOfRange bind.TooManyHeld contracts
          (λ order contract. over_by_name contracts (before order) (positions_of_order records order) (account_of_order records order)
          contract k) many positions)))
          ∙ ap first_of (transferred contracts over many records)

      module _ (portfolio : All (λ (o : KeptOrder). ArePortfolio (portfolio_before portfolios o.account).holdings) orders)
          (none : order_bind_fault contracts portfolios records ≡ None) where
        before_at : (k : ℕ) (d : List ℕ) → k < length (orders_in records) → ArePortfolio (before (get_or (orders_in records) k d))
        before_at k d lt =
            let order = get_or (orders_in records) k d in
            let is : get_or orders k (kept order) ≡ kept order = ap (λ os. get_or os k (kept order)) orders_are
            ∙ get_or-map kept (orders_in records) k d (kept order) lt in
            let within : k < length orders = omega (arith, lt, ap length orders_are, length-map (orders_in records) kept) in
            subst (λ (p : AccountHoldings). ArePortfolio p.holdings)
            (ap (λ (o : KeptOrder). portfolio_before portfolios o.account) is ∙ before_kept order)
            (portfolio k (kept order) within)

        with_at : (k : ℕ) (d : List ℕ) → k < length (orders_in records) → ArePortfolio (with_order (get_or (orders_in records) k d))
        with_at k d lt =
            let name = get_or (orders_in records) k d in
            accepted_fits apart none name (before_at k d lt)
            (list_any_at (bytes_eq name) (orders_in records) k d lt (bytes_eq-refl name))

        same_after : (order : List ℕ) → ArePortfolio (with_order order)
            → kept_after (length contracts) portfolios (kept order) ≡ with_order order
        same_after order fits = after_kept order ∙ each_same (with_order order) fits.nets

        -- the portfolio of each order's account with the order can be made
        pub all_fit : All (IsKept (length contracts) portfolios) orders
        all_fit =
            All-same (IsKept (length contracts) portfolios) orders (map kept (orders_in records)) orders_are
            (All-map (IsKept (length contracts) portfolios) kept (orders_in records) (λ k d lt.
            let order = get_or (orders_in records) k d in
            let fits = with_at k d lt in
            record {
              place = place_there portfolios (account_of_order records order);
              fits = subst ArePortfolio (sym (same_after order fits)) fits;
            }))

        order_is : (order : List ℕ) → ArePortfolio (with_order order)
            → kept_order (length contracts) portfolios (kept order) ≡ tried_order contracts portfolios records order
        order_is order fits =
            let held = same_after order fits in
            let was = before_kept order in
            λ i. record {
              order = order;
              before = was i;
              after = record { account = (was i).account; holdings = held i };
            }

        orders_from : (ks : List (List ℕ)) → ((k : ℕ) (d : List ℕ) → k < length ks → ArePortfolio (with_order (get_or ks k d)))
            → map (kept_order (length contracts) portfolios) (map kept ks) ≡ map (tried_order contracts portfolios records) ks
        orders_from [] fits = refl
        orders_from (k ∷ ks) fits =
            let here = order_is k (fits 0 k (omega arith)) in
            let rest = orders_from ks (λ n d lt. fits (suc n) d (omega (arith, lt))) in
            λ i. here i ∷ rest i

        pub tried_are : map (kept_order (length contracts) portfolios) orders
            ≡ map (tried_order contracts portfolios records) (orders_in records)
        tried_are = ap (map (kept_order (length contracts) portfolios)) orders_are ∙ orders_from (orders_in records) with_at

-- ---- the result

module _ (contracts : List Contract) (portfolios : List AccountHoldings) (records : List OrderRecord) where
  -- the orders stored for the names, accounts and entries of a file
  pub orders_kept : (ids names accounts : List (List ℕ)) (ps : List PositionRecord) (qs : List AccountHoldings)
      (ledgers : List (List Entry)) (orders : List KeptOrder) → ids ≡ ids_of contracts → ps ≡ map under_order records
      → qs ≡ portfolios → names ≡ accounts_of ps
      → accounts ≡ map (account_of_order records) (orders_in records)
      → ledgers ≡ map (entries_of ids (listed_records ids ps)) (accounts_of ps)
      → orders ≡ all_kept_as qs names accounts ledgers
      → orders ≡ map (kept contracts portfolios records) (orders_in records)
  orders_kept ids names accounts ps qs ledgers orders ids_are ps_are qs_are names_are accounts_are ledgers_are orders_are =
      let ns = names_are ∙ ap accounts_of ps_are ∙ orders_under records in
      let of_order = entries_of (ids_of contracts) (listed_records (ids_of contracts) (map under_order records)) in
      let ls = ledgers_are ∙ (λ i. map (entries_of (ids_are i) (listed_records (ids_are i) (ps_are i))) (accounts_of (ps_are i)))
      ∙ ap (map of_order) (orders_under records) in
      orders_are ∙ (λ i. all_kept_as (qs_are i) (ns i) (accounts_are i) (ls i))
      ∙ kept_of_names portfolios (account_of_order records) of_order (orders_in records)

  -- there are as many ledgers as accounts
  pub as_many_accounts : (entries : List ℕ → List Entry) (accounts : List (List ℕ)) (ps : List PositionRecord)
      (ledgers : List (List Entry)) → ps ≡ map under_order records → accounts ≡ map (account_of_order records) (orders_in records)
      → ledgers ≡ map entries (accounts_of ps) → length ledgers ≡ length accounts
  as_many_accounts entries accounts ps ledgers ps_are accounts_are ledgers_are =
      ap length ledgers_are ∙ length-map (accounts_of ps) entries ∙ ap (λ xs. length (accounts_of xs)) ps_are
      ∙ ap length (orders_under records) ∙ sym (length-map (orders_in records) (account_of_order records)) ∙ ap length (sym accounts_are)

  module _ (ids : List (List ℕ)) (ps : List PositionRecord) (qs : List AccountHoldings) (unknown faults : List BindFault)
      (orders found : List KeptOrder)
      (apart : has_repeat (λ x y. bytes_eq x.id y.id) contracts ≡ false)
      (one : All (λ r. r.account ≡ account_of_order records r.order) records)
      (ids_are : ids ≡ ids_of contracts) (ps_are : ps ≡ map under_order records) (qs_are : qs ≡ portfolios)
      (orders_are : orders ≡ map (kept contracts portfolios records) (orders_in records)) (found_is : found ≡ orders)
      (unknown_are : unknown ≡ foreign_faults ids ps)
      (faults_are : faults ≡ found_faults ids unknown (map (λ o. excess_of (kept_after (length ids) qs o)) found) ps) where
    abbrev excesses : List Excess
    excesses = map (λ o. excess_of (kept_after (length ids) qs o)) found

    counted : length ids ≡ length contracts
    counted = ap length ids_are ∙ length-map contracts (λ x. x.id)

    first_is : option_map order_fault (first_of faults) ≡ order_bind_fault contracts portfolios records
    first_is =
        (λ k. option_map order_fault (first_of ((faults_are ∙ (λ i. found_faults (ids_are i) unknown excesses (ps_are i))) k)))
        ∙ found_first contracts portfolios records apart one orders orders_are unknown excesses
        (unknown_are ∙ (λ i. foreign_faults (ids_are i) (ps_are i)))
        (λ i. map (λ o. excess_of (kept_after (counted i) (qs_are i) o)) (found_is i))

    pub first_given : (f : BindFault) → Some f ≡ first_of faults
        → MatchBool (is_memory (order_fault f)) ⊤ (orders_bound contracts portfolios records ≡ Err (order_fault f))
    unfolding orders_bound
    first_given f some =
        unless (is_memory (order_fault f)) (ap (λ o. ok_unless o (let it : TriedOrders = record {
          portfolios = portfolios;
          orders = map (tried_order contracts portfolios records) (orders_in records);
        } in it)) (sym first_is ∙ ap (option_map order_fault) (sym some)))

    module _ (n : ℕ) (many : n ≡ length ids) (none : None ≡ first_of faults)
        (before : All (λ (o : KeptOrder). ArePortfolio (portfolio_before qs o.account).holdings) found) where
      portfolio : All (λ (o : KeptOrder). ArePortfolio (portfolio_before portfolios o.account).holdings) orders
      portfolio =
          subst (All (λ (o : KeptOrder). ArePortfolio (portfolio_before portfolios o.account).holdings)) found_is
          (subst (λ rs. All (λ (o : KeptOrder). ArePortfolio (portfolio_before rs o.account).holdings) found) qs_are before)

      no_fault : order_bind_fault contracts portfolios records ≡ None
      no_fault = sym first_is ∙ ap (option_map order_fault) (sym none)

      all : n ≡ length contracts
      all = many ∙ counted

      pub orders_fit : All (IsKept n portfolios) orders
      orders_fit =
          subst (λ m. All (IsKept m portfolios) orders) (sym all)
          (all_fit contracts portfolios records apart one orders orders_are portfolio no_fault)

      pub orders_given : orders_bound contracts portfolios records
          ≡ Ok (record { portfolios = portfolios; orders = map (kept_order n portfolios) orders })
      unfolding orders_bound
      orders_given =
          let tried = ap (λ m. map (kept_order m portfolios) orders) all
          ∙ tried_are contracts portfolios records apart one orders orders_are portfolio no_fault in
          λ k. ok_unless (no_fault k) (let it : TriedOrders = record { portfolios = portfolios; orders = sym tried k } in it)
