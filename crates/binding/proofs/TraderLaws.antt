-- The result of trades on an account, from the entries of its holdings and of the trades.
use Rattle.std.proofs.Common.{◌≡◌, ℕ, ◌+◌, ◌<◌, ◌≤◌, Bool, true, false, cond, not, List, [], ◌∷◌, ◌++◌, length, map, filter}
use Rattle.std.proofs.Common.{Option, Some, None, Ok, Err, refl, sym, subst, ap, ◌∙◌, arith}
use Rattle.std.specs.Prelude.{MatchBool, bytes_eq, option_map, position, ⊤}
use Rattle.std.specs.Option.{option_or}
use Rattle.std.specs.List.{list_any}
use Rattle.std.proofs.lemmas.Bool.{ltb-false, or_parts}
use Rattle.std.proofs.lemmas.Iterator.Adapters.{position_from-zero}
use Rattle.std.proofs.lemmas.List.{length-map}
use Rattle.span_tables.specs.Faults.{ok_unless}
use Rattle.span_tables.specs.Holdings.{ArePortfolio}
use Rattle.span_tables.specs.Names.{has_repeat}
use Rattle.span_tables.specs.Net.{AccountHoldings}
use Rattle.span_tables.specs.declared.limits.TheConstants.{MAX_HELD}
use Rattle.span_tables.specs.declared.portfolios.Holding.{Holding}
use Rattle.span_tables.specs.declared.records.Contract.{Contract}
use Rattle.span_tables.specs.declared.records.PositionRecord.{PositionRecord}
use Rattle.binding.specs.Binding.{first_unfit_by, is_memory, is_of_known}
use Rattle.binding.specs.Trades.{booked, held_after, trade_fault, traded}
use Rattle.binding.specs.near.Holdings.{are_many, ids_of, is_over_at}
use Rattle.binding.specs.near.Ledgers.{contract_place, held_entries}
use Rattle.binding.specs.near.Nets.{entries_of, entry_of}
use Rattle.binding.specs.near.Sums.{kept_holding, kept_holdings}
use Rattle.binding.specs.near.Trades.{is_unlisted, trade_entry}
use Rattle.binding.specs.declared.ledgers.Entry.{Entry}
use Rattle.binding.specs.declared.faults.BindFault.{BindFault}
use Rattle.binding.specs.declared.faults.BindFault.TheVariants as bind
use Rattle.binding.specs.declared.trades.Trade.{Trade}
use Rattle.binding.proofs.AccountLaws.{bytes_eq-refl}
use Rattle.binding.proofs.BindLaws.{unless}
use Rattle.binding.proofs.FilterMaps.{list_any-map}
use Rattle.binding.proofs.IdLaws.{apart_by_ids}
use Rattle.binding.proofs.KeptLaws.{each_same, many_kept, over_at_kept}
use Rattle.binding.proofs.MergedFit.{is_over_in, merged_holds, over_by_name}
use Rattle.binding.proofs.OrderNets.{merged_are}
use Rattle.binding.proofs.OwnerLaws.{first_is_unknown, first_limit, fit_from}
use Rattle.binding.proofs.PlaceLaws.{listed_is}
use Rattle.binding.proofs.UnfitLaws.{first_by_index, position_nowhere}

-- all trades are of their account
own_entries : (ids : List (List ℕ)) (account : List ℕ) (trades : List Trade)
    → entries_of ids (map (booked account) trades) account ≡ map (trade_entry ids) trades
own_entries ids account [] = refl
own_entries ids account (t ∷ trades) =
    let mine = filter (λ (p : PositionRecord). bytes_eq p.account account) (map (booked account) trades) in
    ap (λ b. map (entry_of ids) (cond b (booked account t ∷ mine) mine)) (bytes_eq-refl account)
    ∙ ap (λ es. trade_entry ids t ∷ es) (own_entries ids account trades)

-- a fault that does not depend on the trade, is found at the first trade
always : (b : Bool) (f : ℕ → BindFault) (t : Trade) (trades : List Trade)
    → option_map (λ i. f (i + 1)) (position (λ (u : Trade). b) (t ∷ trades)) ≡ cond b (Some (f 1)) None
always true f t trades = ap (option_map (λ i. f (i + 1))) (position_from-zero (λ (u : Trade). true) (t ∷ trades))
always false f t trades = ap (option_map (λ i. f (i + 1))) (position_nowhere (λ (u : Trade). false) (λ u. refl) (t ∷ trades))

module _ (contracts : List Contract) (held : List Holding) (account : List ℕ) (trades : List Trade) where
  abbrev after : List Holding
  after = held_after contracts held account trades

  abbrev over : List ℕ → List ℕ → Bool
  over owner contract = is_over_in contracts after contract

  abbrev many : List ℕ → Bool
  many owner = are_many after

  -- holdings without a fault of the trades are a portfolio
  pub after_holds : has_repeat (λ x y. bytes_eq x.id y.id) contracts ≡ false → ArePortfolio held → 0 < length trades
      → trade_fault contracts held account trades ≡ None → ArePortfolio (held_after contracts held account trades)
  unfolding trade_fault
  after_holds apart portfolio some none =
      let fit = fit_from (λ (t : Trade). account) (λ t. t.contract) bind.UnknownContract bind.NetOutOfRange bind.TooManyHeld
      contracts over many trades none in
      merged_holds contracts held (map (booked account) trades) account apart portfolio
      (list_any-map (λ p. is_over_in contracts after p.contract) (booked account) trades ∙ fit.1) (few trades some fit.2)
    where
      few : (ts : List Trade) → 0 < length ts → list_any (λ (t : Trade). many account) ts ≡ false → length after ≤ MAX_HELD
      few [] some none = absurd (omega (arith, some))
      few (t ∷ ts) some none =
          ltb-false MAX_HELD (length after) (or_parts (many account) (list_any (λ (u : Trade). many account) ts) none).0

  module _ (ids : List (List ℕ)) (is : ids_of contracts ≡ ids) where
    unlisted_is : (t : Trade) → is_unlisted ids t ≡ not (is_of_known (λ (x : Trade). x.contract) contracts t)
    unlisted_is t = ap (λ ks. is_unlisted ks t) (sym is) ∙ ap not (listed_is contracts (booked account t))

    over_is : (t : Trade) → is_over_at (contract_place ids t.contract) (map kept_holding after) ≡ over account t.contract
    over_is t =
        ap (λ ks. is_over_at (contract_place ks t.contract) (map kept_holding after)) (sym is)
        ∙ over_at_kept (contract_place (ids_of contracts) t.contract) after
        ∙ over_by_name contracts held (map (booked account) trades) account t.contract

    unknown_is : option_map (λ i. bind.UnknownContract (i + 1) account) (position (is_unlisted ids) trades)
        ≡ first_unfit_by (λ (t : Trade). account) bind.UnknownContract
        (λ earlier t. not (is_of_known (λ x. x.contract) contracts t)) trades
    unknown_is =
        (λ i. option_map (λ k. bind.UnknownContract (k + 1) account) (position (λ t. unlisted_is t i) trades))
        ∙ sym (first_by_index account bind.UnknownContract (λ t. not (is_of_known (λ (x : Trade). x.contract) contracts t)) trades)

    -- a trade in an unknown contract
    pub unknown_first : (e : BindFault)
        → MatchBool (is_memory e) ⊤ (option_map (λ i. bind.UnknownContract (i + 1) account) (position (is_unlisted ids) trades) ≡ Some e)
        → MatchBool (is_memory e) ⊤ (traded contracts held account trades ≡ Err e)
    unfolding traded trade_fault
    unknown_first e given = by (is_memory e) given
      where
        by : (b : Bool)
            → MatchBool b ⊤ (option_map (λ i. bind.UnknownContract (i + 1) account) (position (is_unlisted ids) trades) ≡ Some e)
            → MatchBool b ⊤ (traded contracts held account trades ≡ Err e)
        by true given = given
        by false given = ap (λ o. ok_unless o (let it : AccountHoldings = record { account = account; holdings = after } in it))
            (first_is_unknown (λ (t : Trade). account) (λ t. t.contract) bind.UnknownContract bind.NetOutOfRange bind.TooManyHeld
            contracts over many trades e (sym unknown_is ∙ given))

    module _ (n : ℕ) (ledger : List Entry) (nets : List Holding) (apart : has_repeat bytes_eq ids ≡ false) (few : n ≡ length ids)
        (entries : ledger ≡ held_entries held ++ map (trade_entry ids) trades) (kept : nets ≡ kept_holdings n ledger)
        (some : 0 < length trades) (known : list_any (is_unlisted ids) trades ≡ false) where
      distinct_ids : has_repeat (λ x y. bytes_eq x.id y.id) contracts ≡ false
      distinct_ids = apart_by_ids contracts ids is apart

      -- the stored nets are the nets after the trades
      nets_are : nets ≡ map kept_holding after
      nets_are =
          kept ∙ (λ i. kept_holdings (few i) (entries i))
          ∙ ap (λ ks. kept_holdings (length ks) (held_entries held ++ map (trade_entry ks) trades)) (sym is)
          ∙ ap (λ k. kept_holdings k (held_entries held ++ map (trade_entry (ids_of contracts)) trades)) (length-map contracts (λ x. x.id))
          ∙ ap (λ es. kept_holdings (length contracts) (held_entries held ++ es)) (sym (own_entries (ids_of contracts) account trades))
          ∙ ap (map kept_holding) (sym (merged_are contracts held (map (booked account) trades) account distinct_ids))

      known_all : list_any (λ t. not (is_of_known (λ (x : Trade). x.contract) contracts t)) trades ≡ false
      known_all = (λ i. list_any (λ t. sym (unlisted_is t) i) trades) ∙ known

      held_is : (ts : List Trade) → 0 < length ts → cond (are_many after) (Some (bind.TooManyHeld 1 account)) None
          ≡ first_unfit_by (λ (t : Trade). account) bind.TooManyHeld (λ earlier t. many account) ts
      held_is [] some = absurd (omega (arith, some))
      held_is (t ∷ ts) some =
          sym (always (are_many after) (λ at. bind.TooManyHeld at account) t ts)
          ∙ sym (first_by_index account bind.TooManyHeld (λ (u : Trade). are_many after) (t ∷ ts))

      -- the fault of the nets is the fault of the trades
      limit_is : option_or (option_map (λ i. bind.NetOutOfRange (i + 1) account)
          (position (λ t. is_over_at (contract_place ids t.contract) nets) trades))
          (cond (are_many nets) (Some (bind.TooManyHeld 1 account)) None)
          ≡ trade_fault contracts held account trades
      unfolding trade_fault
      limit_is =
          (λ i. option_or (option_map (λ k. bind.NetOutOfRange (k + 1) account)
          (position (λ t. is_over_at (contract_place ids t.contract) (nets_are i)) trades))
          (cond (are_many (nets_are i)) (Some (bind.TooManyHeld 1 account)) None))
          ∙ (λ i. option_or (option_map (λ k. bind.NetOutOfRange (k + 1) account) (position (λ t. over_is t i) trades))
          (cond (many_kept after i) (Some (bind.TooManyHeld 1 account)) None))
          ∙ (λ i. option_or (sym (first_by_index account bind.NetOutOfRange (λ (t : Trade). over account t.contract) trades) i)
          (held_is trades some i))
          ∙ sym (first_limit (λ (t : Trade). account) (λ t. t.contract) bind.UnknownContract bind.NetOutOfRange bind.TooManyHeld
          contracts over many trades known_all)

      module _ (fault : Option BindFault) (found : fault ≡ option_or (option_map (λ i. bind.NetOutOfRange (i + 1) account)
          (position (λ t. is_over_at (contract_place ids t.contract) nets) trades))
          (cond (are_many nets) (Some (bind.TooManyHeld 1 account)) None)) where
        fault_is : fault ≡ trade_fault contracts held account trades
        fault_is = found ∙ limit_is

        pub limit_given : (e : BindFault) → Some e ≡ fault → MatchBool (is_memory e) ⊤ (traded contracts held account trades ≡ Err e)
        unfolding traded
        limit_given e given =
            unless (is_memory e) (ap (λ o. ok_unless o (let it : AccountHoldings = record { account = account; holdings = after } in it))
            (sym fault_is ∙ sym given))

        module _ (portfolio : ArePortfolio held) (given : None ≡ fault) where
          none : trade_fault contracts held account trades ≡ None
          none = sym fault_is ∙ sym given

          holds : ArePortfolio after
          holds = after_holds distinct_ids portfolio some none

          nets_same : nets ≡ after
          nets_same = nets_are ∙ each_same after holds.nets

          pub nets_hold : ArePortfolio nets
          nets_hold = subst ArePortfolio (sym nets_same) holds

          pub traded_ok : traded contracts held account trades ≡ Ok (record { account = account; holdings = nets })
          unfolding traded
          traded_ok = λ i. ok_unless (none i) (let it : AccountHoldings = record { account = account; holdings = sym nets_same i } in it)
