-- Lemmas about portfolios without a fault.
use Rattle.std.proofs.Common.{◌≡◌, ◌≢◌, ℕ, zero, suc, ◌+◌, ◌<◌, ◌≤◌, ◌⊎◌, inl}
use Rattle.std.proofs.Common.{inr, Bool, true, false, cond, ◌||◌, ◌&&◌, List, [], ◌∷◌, ◌++◌}
use Rattle.std.proofs.Common.{length, get_or, take, filter, map, refl, sym, ap, subst, ◌∙◌, arith}
use Rattle.std.specs.Prelude.{ℤ, nat_abs, bytes_eq, ◌==◌, nat_lt, slice_get, All, Some}
use Rattle.std.specs.List.{list_any, enumerate_from, range_with_len}
use Rattle.std.specs.List.Sorted.{IsStrictlyIncreasing}
use Rattle.std.proofs.lemmas.Bool.{true≢false, false≢true, or_parts, ltb-false, eq-eqb, not_from_true}
use Rattle.std.proofs.lemmas.List.{length-append, take_more, length-take-le}
use Rattle.std.proofs.lemmas.List.Elements.{All-cons, All-filter, All-map, All-weaker, All-same, filter_passes}
use Rattle.std.proofs.lemmas.List.Folds.{list_any_at}
use Rattle.span_money.specs.Numbers.{int_sum_by}
use Rattle.span_tables.specs.Holdings.{ArePortfolio}
use Rattle.span_tables.specs.Net.{AccountHoldings, accounts_of, net_of, is_held, holdings_of, portfolios_of}
use Rattle.span_tables.specs.declared.limits.TheConstants.{MAX_NET, MAX_HELD}
use Rattle.span_tables.specs.declared.portfolios.Holding.{Holding}
use Rattle.span_tables.specs.declared.records.Contract.{Contract}
use Rattle.span_tables.specs.declared.records.PositionRecord.{PositionRecord}
use Rattle.span_tables.proofs.MergedLaws.{held_of_all, numbered}
use Rattle.span_tables.proofs.NameLaws.{distinct_same}
use Rattle.span_tables.proofs.NameLemmas.{same_name}
use Rattle.binding.specs.Binding.{exceeds_net, exceeds_held}
use Rattle.binding.specs.near.Holdings.{are_many, portfolios_from}
use Rattle.binding.proofs.AccountLaws.{bytes_eq-refl}
use Rattle.binding.proofs.FilterMaps.{list_any-map}
use Rattle.binding.proofs.OrderLaws.{held_rise}

-- if no record is over the limit of its account and contract, then no pair of account and contract with a record is
pub within_from : (over : List ℕ → List ℕ → Bool) (account name : List ℕ) (xs : List PositionRecord)
    → list_any (λ p. over p.account p.contract) xs ≡ false
    → (filter (λ p. bytes_eq p.account account && bytes_eq p.contract name) xs ≡ []) ⊎ (over account name ≡ false)
within_from over account name [] h = inl refl
within_from over account name (p ∷ xs) h =
    by (bytes_eq p.account account) (bytes_eq p.contract name) refl refl (within_from over account name xs parts.1)
  where
    parts : (over p.account p.contract ≡ false) × (list_any (λ q. over q.account q.contract) xs ≡ false)
    parts = or_parts (over p.account p.contract) (list_any (λ q. over q.account q.contract) xs) h

    rest : List PositionRecord
    rest = filter (λ q. bytes_eq q.account account && bytes_eq q.contract name) xs

    by : (a c : Bool) → bytes_eq p.account account ≡ a → bytes_eq p.contract name ≡ c → (rest ≡ []) ⊎ (over account name ≡ false)
        → (cond (a && c) (p ∷ rest) rest ≡ []) ⊎ (over account name ≡ false)
    by true true a c more =
        inr (ap (λ z. over z name) (sym (same_name p.account account a))
        ∙ ap (over p.account) (sym (same_name p.contract name c)) ∙ parts.0)
    by true false a c more = more
    by false c a d more = more

module _ (positions : List PositionRecord) (account name : List ℕ) where
  pub net_within : list_any (exceeds_net positions) positions ≡ false → nat_abs (net_of positions account name) ≤ MAX_NET
  net_within h = by (within_from (λ a c. nat_lt MAX_NET (nat_abs (net_of positions a c))) account name positions h)
    where
      by : (filter (λ p. bytes_eq p.account account && bytes_eq p.contract name) positions ≡ [])
          ⊎ (nat_lt MAX_NET (nat_abs (net_of positions account name)) ≡ false) → nat_abs (net_of positions account name) ≤ MAX_NET
      by (inl none) =
          let zero_net : nat_abs (net_of positions account name) ≡ 0 =
          ap (λ xs. nat_abs (int_sum_by (λ (p : PositionRecord). p.quantity) xs)) none in omega (arith, zero_net)
      by (inr e) = ltb-false MAX_NET (nat_abs (net_of positions account name)) e

-- if none of the names holds too many contracts, then a name among them does not
pub few_among : (held : List ℕ → List Holding) (account : List ℕ) (names : List (List ℕ))
    → list_any (bytes_eq account) names ≡ true → list_any (λ n. are_many (held n)) names ≡ false → length (held account) ≤ MAX_HELD
few_among held account [] there h = absurd (false≢true there)
few_among held account (name ∷ names) there h =
    by (bytes_eq account name) refl there (λ e. few_among held account names e parts.1)
  where
    parts : (are_many (held name) ≡ false) × (list_any (λ n. are_many (held n)) names ≡ false)
    parts = or_parts (are_many (held name)) (list_any (λ n. are_many (held n)) names) h

    by : (b : Bool) → bytes_eq account name ≡ b → (b || list_any (bytes_eq account) names) ≡ true
        → (list_any (bytes_eq account) names ≡ true → length (held account) ≤ MAX_HELD) → length (held account) ≤ MAX_HELD
    by true e there more =
        let few : length (held name) ≤ MAX_HELD = ltb-false MAX_HELD (length (held name)) parts.0 in
        subst (λ a. length (held a) ≤ MAX_HELD) (sym (same_name account name e)) few
    by false e there more = more there

pub few_from : (contracts : List Contract) (positions : List PositionRecord) (account : List ℕ) (xs : List PositionRecord)
    → list_any (bytes_eq account) (map (λ p. p.account) xs) ≡ true
    → list_any (exceeds_held contracts positions) xs ≡ false → length (holdings_of contracts positions account) ≤ MAX_HELD
few_from contracts positions account xs among h =
    few_among (holdings_of contracts positions) account (map (λ p. p.account) xs) among
    (list_any-map (λ n. are_many (holdings_of contracts positions n)) (λ (p : PositionRecord). p.account) xs ∙ h)

module _ (net : ℕ → Contract → ℤ) (contracts : List Contract) where
  numbers_from : (a : ℕ) (xs : List Contract)
      → map (λ h. h.contract) (map (numbered net) (enumerate_from a xs)) ≡ range_with_len a (length xs)
  numbers_from a [] = refl
  numbers_from a (x ∷ xs) = ap (λ ns. a ∷ ns) (numbers_from (a + 1) xs)

  all : List Holding
  all = map (numbered net) (enumerate_from 0 contracts)

  pub all_rise : IsStrictlyIncreasing (map (λ h. h.contract) (held_of_all net 0 contracts))
  unfolding all
  all_rise = held_rise all (length contracts) (numbers_from 0 contracts)

  not_zero : (h : Holding) → is_held h ≡ true → nat_abs h.net ≢ 0
  not_zero h e = λ z. true≢false (sym e ∙ not_from_true (nat_abs h.net == 0) (eq-eqb (nat_abs h.net) 0 z))

  each_within : (a : ℕ) (xs : List Contract)
      → ((k : ℕ) (x : Contract) → slice_get xs k ≡ Some x → nat_abs (net (a + k) x) ≤ MAX_NET)
      → All (λ h. nat_abs h.net ≤ MAX_NET) (map (numbered net) (enumerate_from a xs))
  each_within a [] h = λ k d lt. absurd (omega (arith, lt))
  each_within a (x ∷ xs) h =
      let zero_more : a + 0 ≡ a = omega arith in
      All-cons (λ (y : Holding). nat_abs y.net ≤ MAX_NET) (numbered net (a, x)) (map (numbered net) (enumerate_from (a + 1) xs))
      (subst (λ n. nat_abs (net n x) ≤ MAX_NET) zero_more (h 0 x refl))
      (each_within (a + 1) xs (λ k y e.
      let up : a + suc k ≡ a + 1 + k = omega arith in subst (λ n. nat_abs (net n y) ≤ MAX_NET) up (h (suc k) y e)))

  -- holdings within the limits are a portfolio
  pub held_holds : ((k : ℕ) (x : Contract) → slice_get contracts k ≡ Some x → nat_abs (net k x) ≤ MAX_NET)
      → length (held_of_all net 0 contracts) ≤ MAX_HELD → ArePortfolio (held_of_all net 0 contracts)
  unfolding all
  held_holds within few = record {
    few = few;
    nets = All-filter is_held (λ (x : Holding). nat_abs x.net ≤ MAX_NET) all
        (each_within 0 contracts (λ k x e.
        let same : k ≡ 0 + k = omega arith in subst (λ n. nat_abs (net n x) ≤ MAX_NET) same (within k x e)));
    held =
        All-weaker (λ (x : Holding). is_held x ≡ true) (λ (x : Holding). nat_abs x.net ≢ 0) not_zero (filter is_held all)
        (filter_passes is_held all);
    rising = all_rise;
  }

-- the holdings of an account, if there is no fault
pub portfolio_holds : (contracts : List Contract) (positions : List PositionRecord) (account : List ℕ)
    → list_any (exceeds_net positions) positions ≡ false
    → length (holdings_of contracts positions account) ≤ MAX_HELD → ArePortfolio (holdings_of contracts positions account)
portfolio_holds contracts positions account h few =
    held_holds (λ k x. net_of positions account x.id) contracts (λ k x e. net_within positions account x.id h) few

module _ (contracts : List Contract) (positions : List PositionRecord) (accounts : List (List ℕ)) where
  -- the holdings of all accounts, if there is no fault
  pub portfolios_hold : (nets : List (List Holding)) → accounts ≡ accounts_of positions
      → nets ≡ map (holdings_of contracts positions) accounts
      → list_any (exceeds_net positions) positions ≡ false → list_any (exceeds_held contracts positions) positions ≡ false
      → All ArePortfolio nets
  portfolios_hold nets are nets_are within few =
      All-same ArePortfolio nets (map (holdings_of contracts positions) accounts) nets_are
      (All-map ArePortfolio (holdings_of contracts positions) accounts
      (λ k d lt.
      let name = get_or accounts k d in
      let among : list_any (bytes_eq name) (map (λ p. p.account) positions) ≡ true =
      sym (distinct_same (map (λ (p : PositionRecord). p.account) positions) name) ∙ ap (list_any (bytes_eq name)) (sym are)
      ∙ list_any_at (bytes_eq name) accounts k d lt (bytes_eq-refl name) in
      portfolio_holds contracts positions name within (few_from contracts positions name positions among few)))

  paired_map : (ks : List (List ℕ)) → portfolios_from ks (map (holdings_of contracts positions) ks)
      ≡ map (λ account. record { account = account; holdings = holdings_of contracts positions account }) ks
  paired_map [] = refl
  paired_map (k ∷ ks) =
      let rest = paired_map ks in λ i. (let it : AccountHoldings = record { account = k; holdings = holdings_of contracts positions k } in
      it) ∷ rest i

  -- the portfolios are the portfolios of the definition
  pub paired_is : (nets : List (List Holding)) → accounts ≡ accounts_of positions
      → nets ≡ map (holdings_of contracts positions) accounts → portfolios_from accounts nets ≡ portfolios_of contracts positions
  unfolding portfolios_of
  paired_is nets are nets_are =
      ap (portfolios_from accounts) nets_are ∙ paired_map accounts
      ∙ ap (map (λ account. (let it : AccountHoldings = record {
        account = account;
        holdings = holdings_of contracts positions account;
      } in it))) are

-- one more account with its nets
pub paired_more : (accounts : List (List ℕ)) (nets : List (List Holding)) (i : ℕ) (name : List ℕ) (held : List Holding)
    → i < length accounts → i ≡ length nets
    → name ≡ get_or accounts i name → (all : List AccountHoldings) → all ≡ portfolios_from (take (length nets) accounts) nets
    → all ++ record { account = name; holdings = held } ∷ []
    ≡ portfolios_from (take (length (nets ++ held ∷ [])) accounts) (nets ++ held ∷ [])
paired_more accounts nets i name held lt many at all are =
    ap (λ xs. xs ++ (let it : AccountHoldings = record { account = name; holdings = held } in it) ∷ [])
    (are ∙ ap (λ n. portfolios_from (take n accounts) nets) (sym many))
    ∙ sym (pairs_push (take i accounts) nets name held (length-take-le i accounts (omega (arith, lt)) ∙ many))
    ∙ ap (λ xs. portfolios_from xs (nets ++ held ∷ []))
    (sym (take_more accounts i name lt ∙ ap (λ z. take i accounts ++ z ∷ []) (sym at)))
    ∙ ap (λ n. portfolios_from (take n accounts) (nets ++ held ∷ []))
    (ap (λ n. n + 1) many ∙ sym (length-append nets (held ∷ [])))
  where
    pairs_push : (ks : List (List ℕ)) (vs : List (List Holding)) (k : List ℕ) (v : List Holding) → length ks ≡ length vs
        → portfolios_from (ks ++ k ∷ []) (vs ++ v ∷ []) ≡ portfolios_from ks vs ++ record { account = k; holdings = v } ∷ []
    pairs_push [] [] k v e = refl
    pairs_push [] (w ∷ vs) k v e = absurd (let f : zero ≡ suc (length vs) = e in omega (arith, f))
    pairs_push (j ∷ ks) [] k v e = absurd (let f : suc (length ks) ≡ zero = e in omega (arith, f))
    pairs_push (j ∷ ks) (w ∷ vs) k v e =
        ap (λ xs. (let it : AccountHoldings = record { account = j; holdings = w } in it) ∷ xs) (pairs_push ks vs k v (omega (arith, e)))
