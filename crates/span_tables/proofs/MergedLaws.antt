-- The holdings of an account by contract number, and its holdings after more positions are added.
use Rattle.std.proofs.Common.{◌≡◌, ℕ, suc, zero, ◌+◌, ◌<◌, ◌≤◌, Bool, true, false, cond, ◌&&◌, ◌||◌, List, [], ◌∷◌}
use Rattle.std.proofs.Common.{◌++◌, length, Some, refl, sym, ap, ◌∙◌, arith, filter, map}
use Rattle.std.specs.Prelude.{ℤ, pos, ◌+ℤ◌, ◌==◌, bytes_eq, find, option_map, slice_get, unwrap_or}
use Rattle.std.specs.List.{enumerate_from}
use Rattle.std.proofs.lemmas.Bool.{eq-eqb, lt-ltb, ne_eqb, or_parts}
use Rattle.std.proofs.lemmas.Int.{ints}
use Rattle.std.proofs.lemmas.List.Elements.{filter-append}
use Rattle.span_money.specs.Numbers.{int_sum_by}
use Rattle.span_tables.specs.Holdings.{fits}
use Rattle.span_tables.specs.Names.{is_among}
use Rattle.span_tables.specs.Net.{AccountHoldings, accounts_of, holdings_of, is_held, net_of, portfolios_of}
use Rattle.span_tables.specs.Orders.{holdings_among, holdings_with, net_among}
use Rattle.span_tables.specs.declared.portfolios.Holding.{Holding}
use Rattle.span_tables.specs.declared.records.Contract.{Contract}
use Rattle.span_tables.specs.declared.records.PositionRecord.{PositionRecord}
use Rattle.span_tables.proofs.GroupLemmas.{name_sym}
use Rattle.span_tables.proofs.NameLemmas.{is_among-distinct, same_name}
use Rattle.span_tables.proofs.NetLaws.{size_zero}
use Rattle.span_tables.proofs.SumLaws.{int_sum_by-cons, int_sum_by-if}

-- ---- sums

pub int_sum_by-append : {X : Type 0} (f : X → ℤ) (xs ys : List X) → int_sum_by f (xs ++ ys) ≡ int_sum_by f xs +ℤ int_sum_by f ys
int_sum_by-append f [] ys = omega (arith, ints)
int_sum_by-append f (x ∷ xs) ys =
    let whole = int_sum_by-cons f x (xs ++ ys) in
    let front = int_sum_by-cons f x xs in
    let rest = int_sum_by-append f xs ys in
    omega (arith, ints, whole, front, rest)

-- the nets of two files add up
pub net_of-append : (positions more : List PositionRecord) (account contract : List ℕ)
    → net_of (positions ++ more) account contract ≡ net_of positions account contract +ℤ net_of more account contract
net_of-append positions more account contract =
    let test = λ (p : PositionRecord). bytes_eq p.account account && bytes_eq p.contract contract in
    ap (int_sum_by (λ (p : PositionRecord). p.quantity)) (filter-append test positions more)
    ∙ int_sum_by-append (λ (p : PositionRecord). p.quantity) (filter test positions) (filter test more)

-- ---- nets by contract number

-- the net of the contract with a number
abbrev pub numbered : (ℕ → Contract → ℤ) → ℕ × Contract → Holding
numbered net n = record { contract = n.0; net = net n.0 n.1 }

-- the holdings of contracts that are numbered from a
abbrev pub held_of_all : (ℕ → Contract → ℤ) → ℕ → List Contract → List Holding
held_of_all net a xs = filter is_held (map (numbered net) (enumerate_from a xs))

-- one more holding in front, if it is held
among_push : (b : Bool) (h : Holding) (hs : List Holding) (c : ℕ) → is_held h ≡ b
    → net_among (cond b (h ∷ hs) hs) c ≡ cond (h.contract == c) h.net (pos 0) +ℤ net_among hs c
among_push true h hs c e = int_sum_by-if (λ (x : Holding). x.net) (h.contract == c) h (filter (λ (x : Holding). x.contract == c) hs)
among_push false h hs c e =
    let none = size_zero h.net e in
    let nothing : cond (h.contract == c) h.net (pos 0) ≡ pos 0 = by (h.contract == c) none in
    omega (arith, ints, nothing)
  where
    by : (b : Bool) → h.net ≡ pos 0 → cond b h.net (pos 0) ≡ pos 0
    by true none = none
    by false none = refl

module _ (net : ℕ → Contract → ℤ) where
  -- the net of a number below a is 0
  none_below : (a c : ℕ) (xs : List Contract) → c < a → net_among (held_of_all net a xs) c ≡ pos 0
  none_below a c [] lt = refl
  none_below a c (x ∷ xs) lt =
      let first = numbered net (a, x) in
      among_push (is_held first) first (held_of_all net (a + 1) xs) c refl
      ∙ ap (λ b. cond b first.net (pos 0) +ℤ net_among (held_of_all net (a + 1) xs) c) (ne_eqb a c (λ e. omega (arith, e, lt)))
      ∙ ap (λ z. pos 0 +ℤ z) (none_below (a + 1) c xs (omega (arith, lt)))

  -- the net of a number among the holdings is the net of its contract
  pub net_among_all : (a k c : ℕ) (x : Contract) (xs : List Contract) → slice_get xs k ≡ Some x → c ≡ a + k
      → net_among (held_of_all net a xs) c ≡ net c x
  net_among_all a k c x [] e at = cc
  net_among_all a zero c x (y ∷ xs) e at =
      let same : y ≡ x = cc in
      let here : a ≡ c = omega (arith, at) in
      let first = numbered net (a, y) in
      let rest = none_below (a + 1) c xs (omega (arith, at)) in
      among_push (is_held first) first (held_of_all net (a + 1) xs) c refl
      ∙ ap (λ b. cond b first.net (pos 0) +ℤ net_among (held_of_all net (a + 1) xs) c) (eq-eqb a c here)
      ∙ ap (λ z. first.net +ℤ z) rest
      ∙ (let whole : net a y +ℤ pos 0 ≡ net a y = omega (arith, ints) in whole)
      ∙ ap (λ n. net n y) here ∙ ap (net c) same
  net_among_all a (suc k) c x (y ∷ xs) e at =
      let first = numbered net (a, y) in
      let rest = net_among_all (a + 1) k c x xs e (omega (arith, at)) in
      among_push (is_held first) first (held_of_all net (a + 1) xs) c refl
      ∙ ap (λ b. cond b first.net (pos 0) +ℤ net_among (held_of_all net (a + 1) xs) c) (ne_eqb a c (λ z. omega (arith, z, at)))
      ∙ (let sum : pos 0 +ℤ net_among (held_of_all net (a + 1) xs) c ≡ net_among (held_of_all net (a + 1) xs) c = omega (arith, ints) in
      sum)
      ∙ rest

  -- all holdings are of contracts that exist
  pub held_fit : (a n : ℕ) (xs : List Contract) → a + length xs ≤ n → fits n (held_of_all net a xs) ≡ true
  held_fit a n [] le = refl
  held_fit a n (x ∷ xs) le = by (is_held (numbered net (a, x))) (held_fit (a + 1) n xs (omega (arith, le)))
    where
      by : (b : Bool) → fits n (held_of_all net (a + 1) xs) ≡ true
          → fits n (cond b (numbered net (a, x) ∷ held_of_all net (a + 1) xs) (held_of_all net (a + 1) xs)) ≡ true
      by true more =
          ap (λ t. t && fits n (held_of_all net (a + 1) xs)) (lt-ltb a n (omega (arith, le))) ∙ more
      by false more = more

-- two net functions that agree for each contract give the same holdings
pub same_numbered : (these those : ℕ → Contract → ℤ) (a : ℕ) (xs : List Contract)
    → ((k : ℕ) (x : Contract) → slice_get xs k ≡ Some x → these (a + k) x ≡ those (a + k) x)
    → map (numbered these) (enumerate_from a xs) ≡ map (numbered those) (enumerate_from a xs)
same_numbered these those a [] h = refl
same_numbered these those a (x ∷ xs) h =
    let zero_more : a + 0 ≡ a = omega arith in
    let here : these a x ≡ those a x = ap (λ n. these n x) (sym zero_more) ∙ h 0 x refl ∙ ap (λ n. those n x) zero_more in
    let rest = same_numbered these those (a + 1) xs (λ k y e.
    let up : a + 1 + k ≡ a + suc k = omega arith in
    ap (λ n. these n y) up ∙ h (suc k) y e ∙ ap (λ n. those n y) (sym up)) in
    λ i. (let it : Holding = record { contract = a; net = here i } in it) ∷ rest i

-- ---- the holdings of an account after positions are added

-- each contract of a portfolio exists in the tables
pub holdings_with_fits : (contracts : List Contract) (holdings : List Holding) (positions : List PositionRecord) (account : List ℕ)
    → fits (length contracts) (holdings_with contracts holdings positions account) ≡ true
holdings_with_fits contracts holdings positions account =
    held_fit (λ k x. net_among holdings k +ℤ net_of positions account x.id) 0 (length contracts) contracts (omega arith)

module _ (contracts : List Contract) (positions : List PositionRecord) where
  -- adding positions to an account's holdings equals appending them to the positions that the holdings come from
  pub holdings_with_more : (more : List PositionRecord) (account : List ℕ)
      → holdings_with contracts (holdings_of contracts positions account) more account
      ≡ holdings_of contracts (positions ++ more) account
  holdings_with_more more account =
      let before = holdings_of contracts positions account in
      ap (filter is_held) (same_numbered (λ k x. net_among before k +ℤ net_of more account x.id)
      (λ k x. net_of (positions ++ more) account x.id) 0 contracts
      (λ k x e.
      ap (λ z. z +ℤ net_of more account x.id) (net_among_all (λ n y. net_of positions account y.id) 0 k (0 + k) x contracts e refl)
      ∙ sym (net_of-append positions more account x.id)))

  -- an account without a record has no record in any contract, and holds nothing
  none_of : (account contract : List ℕ) (xs : List PositionRecord) → is_among (map (λ p. p.account) xs) account ≡ false
      → filter (λ p. bytes_eq p.account account && bytes_eq p.contract contract) xs ≡ []
  none_of account contract [] h = refl
  none_of account contract (p ∷ xs) h =
      let parts = or_parts (bytes_eq account p.account) (is_among (map (λ (q : PositionRecord). q.account) xs) account) h in
      let rest = filter (λ (q : PositionRecord). bytes_eq q.account account && bytes_eq q.contract contract) xs in
      ap (λ b. cond (b && bytes_eq p.contract contract) (p ∷ rest) rest) (name_sym p.account account ∙ parts.0)
      ∙ none_of account contract xs parts.1

  nothing_held : (account : List ℕ) → is_among (map (λ p. p.account) positions) account ≡ false
      → (a : ℕ) (xs : List Contract) → held_of_all (λ k x. net_of positions account x.id) a xs ≡ []
  nothing_held account h a [] = refl
  nothing_held account h a (x ∷ xs) =
      let none : net_of positions account x.id ≡ pos 0 =
      ap (int_sum_by (λ (p : PositionRecord). p.quantity)) (none_of account x.id positions h) in
      ap (λ z. (let rest = held_of_all (λ k y. net_of positions account y.id) (a + 1) xs in
      let it : Holding = record { contract = a; net = z } in cond (is_held it) (it ∷ rest) rest)) none
      ∙ nothing_held account h (a + 1) xs

  -- the holdings of an account among the portfolios of accounts
  held_among : (held : List ℕ → List Holding) (account : List ℕ) (ks : List (List ℕ))
      → holdings_among (map (λ k. record { account = k; holdings = held k }) ks) account
      ≡ cond (is_among ks account) (held account) []
  held_among held account [] = refl
  held_among held account (k ∷ ks) = by (bytes_eq account k) refl (held_among held account ks)
    where
      others : List AccountHoldings
      others = map (λ j. record { account = j; holdings = held j }) ks

      first : AccountHoldings
      first = record { account = k; holdings = held k }

      found : Bool → List Holding
      found b =
          unwrap_or (option_map (λ (p : AccountHoldings). p.holdings)
          (cond b (Some first) (find (λ p. bytes_eq p.account account) others))) []

      by : (b : Bool) → bytes_eq account k ≡ b → holdings_among others account ≡ cond (is_among ks account) (held account) []
          → found (bytes_eq k account) ≡ cond (b || is_among ks account) (held account) []
      by true e more = ap found (name_sym k account ∙ e) ∙ ap held (sym (same_name account k e))
      by false e more = ap found (name_sym k account ∙ e) ∙ more

  -- the holdings of an account in the portfolios of positions are its holdings by the positions
  pub holdings_among_all : (account : List ℕ)
      → holdings_among (portfolios_of contracts positions) account ≡ holdings_of contracts positions account
  unfolding portfolios_of
  holdings_among_all account =
      let names = map (λ (p : PositionRecord). p.account) positions in
      held_among (holdings_of contracts positions) account (accounts_of positions)
      ∙ ap (λ b. cond b (holdings_of contracts positions account) []) (is_among-distinct names account)
      ∙ by (is_among names account) refl
    where
      by : (b : Bool) → is_among (map (λ p. p.account) positions) account ≡ b
          → cond b (holdings_of contracts positions account) [] ≡ holdings_of contracts positions account
      by true e = refl
      by false e = sym (nothing_held account e 0 contracts)
