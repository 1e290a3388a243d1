-- The records of an order appended to the position records: they are accepted, and the order's account is among their
-- portfolios.
use Rattle.std.proofs.Common.{◌≡◌, ◌∙◌, ℕ, zero, suc, ◌≤◌, Bool, true, false, cond, ◌&&◌, ◌||◌, List, [], ◌∷◌, ◌++◌}
use Rattle.std.proofs.Common.{filter, get_or, length, map, Option, Some, None, Ok, refl, sym, ap, subst, arith}
use Rattle.std.specs.Prelude.{All, bytes_eq, find, nat_abs, nat_lt, option_map, pos, slice_get, unwrap_or}
use Rattle.std.specs.List.{enumerate_from, list_any}
use Rattle.std.proofs.lemmas.Bool.{false_from_ne_true, false≢true, le-ltb, not-false, or_from, or_right, true≢false}
use Rattle.std.proofs.lemmas.Int.{ints}
use Rattle.std.proofs.lemmas.List.{map-append}
use Rattle.std.proofs.lemmas.List.Elements.{All-append, All-filter, All-map, All-weaker, filter_passes}
use Rattle.std.proofs.lemmas.List.Folds.{list_any-append, list_any_at, list_any_none}
use Rattle.span_money.specs.Numbers.{int_sum_by}
use Rattle.span_tables.specs.Faults.{ok_unless}
use Rattle.span_tables.specs.Holdings.{ArePortfolio}
use Rattle.span_tables.specs.Names.{has_repeat, is_among}
use Rattle.span_tables.specs.Net.{AccountHoldings, accounts_of, holdings_of, is_held, net_of, portfolios_of}
use Rattle.span_tables.specs.Orders.{account_of_order, as_position, net_among, orders_in, positions_of_order}
use Rattle.span_tables.specs.Tables.{AcceptedTables, tables_of}
use Rattle.span_tables.specs.declared.limits.TheConstants.{MAX_HELD, MAX_NET}
use Rattle.span_tables.specs.declared.portfolios.Holding.{Holding}
use Rattle.span_tables.specs.declared.records.Contract.{Contract}
use Rattle.span_tables.specs.declared.records.OrderRecord.{OrderRecord}
use Rattle.span_tables.specs.declared.records.PositionRecord.{PositionRecord}
use Rattle.span_tables.proofs.MergedLaws.{net_among_all, net_of-append}
use Rattle.span_tables.proofs.NameLemmas.{is_among-distinct, same_name}
use Rattle.span_tables.proofs.WithinLimits.{kept}
use Rattle.binding.specs.Binding.{bind_fault, bindings_of, exceeds_held, exceeds_net, is_unknown}
use Rattle.binding.specs.OrderBinding.{TriedOrders, holdings_after, is_of_unknown, order_bind_fault, orders_bound, tried_order}
use Rattle.binding.specs.declared.faults.OrderBindFault.{OrderBindFault}
use Rattle.binding.proofs.AcceptedLaws.{fit_of_none, nets_within, none_of_fit}
use Rattle.binding.proofs.AccountLaws.{bytes_eq-flip, bytes_eq-refl}
use Rattle.binding.proofs.OrderBindLaws.{accepted_known}
use Rattle.binding.proofs.OrderLaws.{among_within}
use Rattle.param_check.proofs.RuleLaws.{rules_kept}
use Rattle.binding.proofs.TriedLaws.{accepted_holds, after_by_positions}
use Rattle.statement_text.specs.Statement.{accepted_of, portfolios_under}
use Rattle.whatif.proofs.AccountLaws.{same_nets}
use Rattle.acceptance.proofs.FitLemmas.{portfolios_hold}
use Rattle.statement_text.proofs.AcceptedFiles.{accepted_are, bound_are}

-- ---- what outcomes without a fault imply

-- no two contracts have the same id in accepted tables
ids_apart : (params : List ℕ) (t : AcceptedTables) → accepted_of params ≡ Ok t
    → has_repeat (λ x y. bytes_eq x.id y.id) t.contracts ≡ false
unfolding tables_of
ids_apart params t e =
    let are = accepted_are params t e in
    subst (λ (tables : AcceptedTables). has_repeat (λ x y. bytes_eq x.id y.id) tables.contracts ≡ false) are.3
    (kept are.0 (rules_kept are.0 are.2)).contracts_apart

-- positions without a fault have portfolios
are_bound : (t : AcceptedTables) (positions : List PositionRecord) → bind_fault t.contracts positions ≡ None
    → portfolios_under t positions ≡ Ok (portfolios_of t.contracts positions)
unfolding portfolios_under bindings_of
are_bound t positions none = rw none refl

-- orders that are bound have no fault
orders_fit : (contracts : List Contract) (portfolios : List AccountHoldings) (records : List OrderRecord) (tried : TriedOrders)
    → orders_bound contracts portfolios records ≡ Ok tried → order_bind_fault contracts portfolios records ≡ None
unfolding orders_bound
orders_fit contracts portfolios records tried e = by (order_bind_fault contracts portfolios records) e where
  by : (o : Option OrderBindFault)
      → ok_unless o (record { portfolios = portfolios; orders = map (tried_order contracts portfolios records) (orders_in records) })
      ≡ Ok tried → o ≡ None
  by (Some f) e = cc
  by None e = refl

-- if no element passes a test, each element fails it
none_of_any : {X : Type 0} (test : X → Bool) (xs : List X) → list_any test xs ≡ false → All (λ x. test x ≡ false) xs
none_of_any test xs e = λ k d lt.
    false_from_ne_true (test (get_or xs k d)) (λ found. true≢false (sym (list_any_at test xs k d lt found) ∙ e))

-- ---- records of one account appended to others

-- records of one account add nothing to the nets of other accounts
nothing_of_others : (more : List PositionRecord) (account name contract : List ℕ) → All (λ p. p.account ≡ account) more
    → bytes_eq account name ≡ false → net_of more name contract ≡ pos 0
nothing_of_others [] account name contract one apart = refl
nothing_of_others (p ∷ more) account name contract one apart =
    let rest = filter (λ (q : PositionRecord). bytes_eq q.account name && bytes_eq q.contract contract) more in
    let here : bytes_eq p.account name ≡ false = ap (λ a. bytes_eq a name) (one 0 p (omega arith)) ∙ apart in
    ap (λ b. int_sum_by (λ (q : PositionRecord). q.quantity) (cond (b && bytes_eq p.contract contract) (p ∷ rest) rest)) here
    ∙ nothing_of_others more account name contract (λ k d lt. one (suc k) d (omega (arith, lt))) apart

-- the index of a contract that exists
place_of : (name : List ℕ) (contracts : List Contract) → list_any (λ x. bytes_eq x.id name) contracts ≡ true
    → (k : ℕ) × (x : Contract) × (slice_get contracts k ≡ Some x) × (x.id ≡ name)
place_of name [] e = absurd (false≢true e)
place_of name (x ∷ contracts) e = by (bytes_eq x.id name) refl e (place_of name contracts) where
  by : (b : Bool) → bytes_eq x.id name ≡ b → (b || list_any (λ y. bytes_eq y.id name) contracts) ≡ true
      → (list_any (λ y. bytes_eq y.id name) contracts ≡ true
      → (k : ℕ) × (y : Contract) × (slice_get contracts k ≡ Some y) × (y.id ≡ name))
      → (k : ℕ) × (y : Contract) × (slice_get (x ∷ contracts) k ≡ Some y) × (y.id ≡ name)
  by true is e more = (zero, x, refl, same_name x.id name is)
  by false is e more = let found = more e in (suc found.0, found.1, found.2, found.3)

module _ (contracts : List Contract) (positions more : List PositionRecord) (account : List ℕ)
    (one : All (λ p. p.account ≡ account) more) where
  -- the nets of other accounts do not change
  other_net : (name contract : List ℕ) → bytes_eq name account ≡ false
      → net_of (positions ++ more) name contract ≡ net_of positions name contract
  other_net name contract apart =
      let sum = net_of-append positions more name contract in
      let nothing = nothing_of_others more account name contract one (bytes_eq-flip account name ∙ apart) in
      omega (arith, ints, sum, nothing)

  -- the holdings of other accounts do not change
  other_holdings : (name : List ℕ) → bytes_eq name account ≡ false
      → holdings_of contracts (positions ++ more) name ≡ holdings_of contracts positions name
  other_holdings name apart =
      ap (filter is_held) (same_nets (positions ++ more) positions name (λ contract. other_net name contract apart)
      (enumerate_from 0 contracts))

  module _ (holds : ArePortfolio (holdings_of contracts (positions ++ more) account)) where
    -- the account's net in a contract that exists is within its limit
    account_within : (name : List ℕ) → list_any (λ x. bytes_eq x.id name) contracts ≡ true
        → nat_abs (net_of (positions ++ more) account name) ≤ MAX_NET
    account_within name known =
        let place = place_of name contracts known in
        let net : net_among (holdings_of contracts (positions ++ more) account) place.0 ≡ net_of (positions ++ more) account name =
        net_among_all (λ k x. net_of (positions ++ more) account x.id) 0 place.0 place.0 place.1 contracts place.2 (omega arith)
        ∙ ap (net_of (positions ++ more) account) place.3 in
        subst (λ n. nat_abs n ≤ MAX_NET) net (among_within (holdings_of contracts (positions ++ more) account) holds place.0)

    -- no net is out of range
    within_at : bind_fault contracts positions ≡ None → (p : PositionRecord) → is_unknown contracts p ≡ false
        → exceeds_net (positions ++ more) p ≡ false
    within_at none p known = le-ltb MAX_NET (nat_abs (net_of (positions ++ more) p.account p.contract))
        (by (bytes_eq p.account account) refl) where
          by : (b : Bool) → bytes_eq p.account account ≡ b → nat_abs (net_of (positions ++ more) p.account p.contract) ≤ MAX_NET
          by true is =
              subst (λ name. nat_abs (net_of (positions ++ more) name p.contract) ≤ MAX_NET) (sym (same_name p.account account is))
              (account_within p.contract (not-false (list_any (λ x. bytes_eq x.id p.contract) contracts) known))
          by false is =
              subst (λ n. nat_abs n ≤ MAX_NET) (sym (other_net p.account p.contract is))
              (nets_within contracts positions none p.account p.contract)

    -- the account holds no more contracts than allowed
    few_of : (p : PositionRecord) → p.account ≡ account → exceeds_held contracts (positions ++ more) p ≡ false
    few_of p is =
        ap (λ name. nat_lt MAX_HELD (length (holdings_of contracts (positions ++ more) name))) is
        ∙ le-ltb MAX_HELD (length (holdings_of contracts (positions ++ more) account)) holds.few

    -- an account within the limit of held contracts stays within it
    few_at : (p : PositionRecord) → exceeds_held contracts positions p ≡ false
        → exceeds_held contracts (positions ++ more) p ≡ false
    few_at p few = by (bytes_eq p.account account) refl where
      by : (b : Bool) → bytes_eq p.account account ≡ b → exceeds_held contracts (positions ++ more) p ≡ false
      by true is = few_of p (same_name p.account account is)
      by false is = ap (λ holdings. nat_lt MAX_HELD (length holdings)) (other_holdings p.account is) ∙ few

    -- records of an account whose holdings with them are a portfolio have no fault after positions without a fault
    none_behind : bind_fault contracts positions ≡ None → list_any (is_unknown contracts) more ≡ false
        → bind_fault contracts (positions ++ more) ≡ None
    none_behind none known =
        let all = positions ++ more in
        let fit = fit_of_none contracts positions none in
        let known_all : list_any (is_unknown contracts) all ≡ false =
        list_any-append (is_unknown contracts) positions more ∙ or_from _ _ fit.known known in
        let Few : PositionRecord → Type 0 = λ p. exceeds_held contracts all p ≡ false in
        none_of_fit contracts all (record {
          known = known_all;
          within = list_any_none (exceeds_net all) all
              (All-weaker (λ p. is_unknown contracts p ≡ false) (λ p. exceeds_net all p ≡ false) (within_at none) all
              (none_of_any (is_unknown contracts) all known_all));
          few = list_any_none (exceeds_held contracts all) all
              (All-append Few positions more
              (All-weaker (λ p. exceeds_held contracts positions p ≡ false) Few few_at positions
              (none_of_any (exceeds_held contracts positions) positions fit.few))
              (All-weaker (λ p. p.account ≡ account) Few few_of more one));
        })

-- ---- the records of an order appended to the position records

module _ (records : List OrderRecord) (order : List ℕ) where
  abbrev mine : List OrderRecord
  mine = filter (λ r. bytes_eq r.order order) records

  -- the records of an order are of its account
  of_account : All (λ r. r.account ≡ account_of_order records r.order) records
      → All (λ p. p.account ≡ account_of_order records order) (positions_of_order records order)
  of_account one =
      let kept_of = All-filter (λ (r : OrderRecord). bytes_eq r.order order)
      (λ (r : OrderRecord). r.account ≡ account_of_order records r.order) records one in
      let named = filter_passes (λ (r : OrderRecord). bytes_eq r.order order) records in
      All-map (λ (p : PositionRecord). p.account ≡ account_of_order records order) as_position mine (λ k d lt.
      kept_of k d lt ∙ ap (account_of_order records) (same_name (get_or mine k d).order order (named k d lt)))

  -- the records of an order are in contracts that exist
  of_known : (contracts : List Contract) → list_any (is_of_unknown contracts) records ≡ false
      → list_any (is_unknown contracts) (positions_of_order records order) ≡ false
  of_known contracts known =
      list_any_none (is_unknown contracts) (positions_of_order records order)
      (All-map (λ (p : PositionRecord). is_unknown contracts p ≡ false) as_position mine
      (All-filter (λ (r : OrderRecord). bytes_eq r.order order) (λ (r : OrderRecord). is_of_unknown contracts r ≡ false) records
      (none_of_any (is_of_unknown contracts) records known)))

-- the records of an accepted order have no fault when appended to the position records
order_behind : (contracts : List Contract) (positions : List PositionRecord) (records : List OrderRecord) (order : List ℕ)
    → has_repeat (λ x y. bytes_eq x.id y.id) contracts ≡ false → bind_fault contracts positions ≡ None
    → All (λ r. r.account ≡ account_of_order records r.order) records
    → order_bind_fault contracts (portfolios_of contracts positions) records ≡ None → is_among (orders_in records) order ≡ true
    → bind_fault contracts (positions ++ positions_of_order records order) ≡ None
order_behind contracts positions records order apart none one fits among =
    let portfolios = portfolios_of contracts positions in
    let holds : ArePortfolio (holdings_of contracts (positions ++ positions_of_order records order) (account_of_order records order)) =
    subst ArePortfolio (after_by_positions contracts positions records order)
    (accepted_holds contracts portfolios records apart (portfolios_hold contracts positions none) fits order among) in
    none_behind contracts positions (positions_of_order records order) (account_of_order records order)
    (of_account records order one) holds none
    (of_known records order contracts (accepted_known contracts portfolios records fits))

-- the records of an accepted order are accepted when appended to the position records
pub accepted_behind : (params : List ℕ) (t : AcceptedTables) (positions : List PositionRecord) (portfolios : List AccountHoldings)
    (records : List OrderRecord) (tried : TriedOrders) (order : List ℕ) → accepted_of params ≡ Ok t
    → portfolios_under t positions ≡ Ok portfolios → All (λ r. r.account ≡ account_of_order records r.order) records
    → orders_bound t.contracts portfolios records ≡ Ok tried → is_among (orders_in records) order ≡ true
    → portfolios_under t (positions ++ positions_of_order records order)
    ≡ Ok (portfolios_of t.contracts (positions ++ positions_of_order records order))
accepted_behind params t positions portfolios records tried order accepted bound one fits among =
    let are = bound_are t positions portfolios bound in
    are_bound t (positions ++ positions_of_order records order)
    (order_behind t.contracts positions records order (ids_apart params t accepted) are.0 one
    (ap (λ ps. order_bind_fault t.contracts ps records) are.1 ∙ orders_fit t.contracts portfolios records tried fits) among)

-- ---- the portfolio of an order's account

-- an account among some names has its portfolio among the portfolios of these names
found_among : (held : List ℕ → List Holding) (account : List ℕ) (names : List (List ℕ)) → is_among names account ≡ true
    → find (λ (q : AccountHoldings). bytes_eq q.account account) (map (λ name. record { account = name; holdings = held name }) names)
    ≡ Some (record { account = account; holdings = held account })
found_among held account [] among = absurd (false≢true among)
found_among held account (x ∷ names) among = by (bytes_eq account x) refl among (found_among held account names) where
  portfolio : List ℕ → AccountHoldings
  portfolio name = record { account = name; holdings = held name }

  others : Option AccountHoldings
  others = find (λ (q : AccountHoldings). bytes_eq q.account account) (map portfolio names)

  by : (b : Bool) → bytes_eq account x ≡ b → (b || is_among names account) ≡ true
      → (is_among names account ≡ true → others ≡ Some (portfolio account))
      → cond (bytes_eq x account) (Some (portfolio x)) others ≡ Some (portfolio account)
  by true is among more =
      ap (λ b. cond b (Some (portfolio x)) others) (bytes_eq-flip x account ∙ is)
      ∙ ap (λ name. Some (portfolio name)) (sym (same_name account x is))
  by false is among more = ap (λ b. cond b (Some (portfolio x)) others) (bytes_eq-flip x account ∙ is) ∙ more among

-- an account of the positions has its portfolio among the portfolios of the positions
portfolio_found : (contracts : List Contract) (positions : List PositionRecord) (account : List ℕ)
    → is_among (map (λ p. p.account) positions) account ≡ true
    → find (λ q. bytes_eq q.account account) (portfolios_of contracts positions)
    ≡ Some (record { account = account; holdings = holdings_of contracts positions account })
unfolding portfolios_of
portfolio_found contracts positions account among =
    found_among (holdings_of contracts positions) account (accounts_of positions)
    (is_among-distinct (map (λ (p : PositionRecord). p.account) positions) account ∙ among)

-- the account of an order is the account of one of its records
account_among : (records : List OrderRecord) (order : List ℕ) → is_among (map (λ r. r.order) records) order ≡ true
    → is_among (map (λ p. p.account) (positions_of_order records order)) (account_of_order records order) ≡ true
account_among [] order among = absurd (false≢true among)
account_among (r ∷ records) order among = by (bytes_eq r.order order) refl among (account_among records order) where
  rest : List OrderRecord
  rest = filter (λ q. bytes_eq q.order order) records

  first : Option OrderRecord
  first = find (λ q. bytes_eq q.order order) records

  by : (b : Bool) → bytes_eq r.order order ≡ b → (bytes_eq order r.order || is_among (map (λ q. q.order) records) order) ≡ true
      → (is_among (map (λ q. q.order) records) order ≡ true
      → is_among (map (λ p. p.account) (map as_position rest)) (unwrap_or (option_map (λ (q : OrderRecord). q.account) first) [])
      ≡ true)
      → is_among (map (λ p. p.account) (map as_position (cond b (r ∷ rest) rest)))
      (unwrap_or (option_map (λ (q : OrderRecord). q.account) (cond b (Some r) first)) []) ≡ true
  by true is among more =
      ap (λ b. b || is_among (map (λ (p : PositionRecord). p.account) (map as_position rest)) r.account) (bytes_eq-refl r.account)
  by false is among more =
      more (sym (ap (λ b. b || is_among (map (λ (q : OrderRecord). q.order) records) order) (bytes_eq-flip order r.order ∙ is))
      ∙ among)

-- the portfolio after an order is the account's portfolio from the position records with the order's records appended
pub after_found : (t : AcceptedTables) (positions : List PositionRecord) (portfolios : List AccountHoldings)
    (records : List OrderRecord) (order : List ℕ) → portfolios_under t positions ≡ Ok portfolios
    → is_among (orders_in records) order ≡ true
    → find (λ q. bytes_eq q.account (account_of_order records order))
    (portfolios_of t.contracts (positions ++ positions_of_order records order))
    ≡ Some (tried_order t.contracts portfolios records order).after
after_found t positions portfolios records order bound among =
    let account = account_of_order records order in
    let more = positions_of_order records order in
    let of_position = λ (p : PositionRecord). p.account in
    let mine_among = account_among records order
    (sym (is_among-distinct (map (λ (r : OrderRecord). r.order) records) order) ∙ among) in
    let all_among : is_among (map of_position (positions ++ more)) account ≡ true =
    ap (λ names. is_among names account) (map-append of_position positions more)
    ∙ list_any-append (bytes_eq account) (map of_position positions) (map of_position more)
    ∙ or_right (is_among (map of_position positions) account) (is_among (map of_position more) account) mine_among in
    let held : holdings_of t.contracts (positions ++ more) account ≡ holdings_after t.contracts portfolios records order =
    sym (after_by_positions t.contracts positions records order)
    ∙ ap (λ ps. holdings_after t.contracts ps records order) (bound_are t positions portfolios bound).1 in
    portfolio_found t.contracts (positions ++ more) account all_among
    ∙ ap (λ holdings. Some (let it : AccountHoldings = record { account = account; holdings = holdings } in it)) held
