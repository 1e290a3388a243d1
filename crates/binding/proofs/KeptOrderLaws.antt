-- Stored orders: the indexes of their accounts, and the holdings of their accounts with them.
use Rattle.std.proofs.Common.{◌≡◌, ℕ, suc, zero, ◌+◌, ◌<◌, ◌≤◌, ◌⊎◌, inl, inr, Bool, true, false, cond, not, List, [], ◌∷◌, ◌++◌, length}
use Rattle.std.proofs.Common.{get_or, drop, map, take, Option, Some, None, position, refl, sym, ap, subst, ◌∙◌, arith}
use Rattle.std.specs.Prelude.{bytes_eq, nat_lt, option_map, unwrap_or, zip, All}
use Rattle.std.specs.List.{position_or_len}
use Rattle.std.specs.Option.{option_or}
use Rattle.std.proofs.lemmas.Bool.{cases_lt, le-ltb, lt-ltb}
use Rattle.std.proofs.lemmas.List.{drop-map, length-append, length-take-le, map-append, take-map, take_more}
use Rattle.std.proofs.lemmas.List.Elements.{All-cons}
use Rattle.std.proofs.lemmas.List.Folds.{find_at}
use Rattle.std.proofs.lemmas.List.Quantifiers.{position-Some}
use Rattle.std.proofs.lemmas.Option.{slice_get-get_or, slice_get_past}
use Rattle.std.proofs.lemmas.Simd.{map-map}
use Rattle.span_tables.specs.Net.{AccountHoldings}
use Rattle.span_tables.specs.Orders.{holdings_among}
use Rattle.span_tables.proofs.NameLemmas.{same_name}
use Rattle.binding.specs.OrderBinding.{TriedOrder}
use Rattle.binding.specs.near.Orders.{account_at, all_kept_as, holding_nothing, kept_as, kept_order, place_among}
use Rattle.binding.specs.near.Orders.{portfolio_before, HasPlace}
use Rattle.binding.specs.declared.ledgers.Entry.{Entry}
use Rattle.binding.specs.declared.orders.kept_orders.KeptOrder.{KeptOrder}

-- ---- indexes

-- after a first element that fails the test, the index is one more
position_behind : {X : Type 0} (test : X → Bool) (x : X) (xs : List X) → test x ≡ false
    → position test (x ∷ xs) ≡ option_map (λ n. 1 + n) (position test xs)
position_behind test x xs e = by (cases_lt (position_or_len test xs) (length xs))
  where
    n : ℕ
    n = position_or_len test xs

    at : ℕ → Option ℕ
    at m = cond (nat_lt m (suc (length xs))) (Some m) None

    first : position test (x ∷ xs) ≡ at (1 + n)
    first = ap (λ b. at (cond (not b) (1 + n) 0)) e

    by : (n < length xs) ⊎ (length xs ≤ n) → position test (x ∷ xs) ≡ option_map (λ m. 1 + m) (position test xs)
    by (inl lt) =
        first ∙ ap (λ b. cond b (Some (1 + n)) None) (lt-ltb (1 + n) (suc (length xs)) (omega (arith, lt)))
        ∙ ap (λ b. option_map (λ m. 1 + m) (cond b (Some n) None)) (sym (lt-ltb n (length xs) lt))
    by (inr ge) =
        first ∙ ap (λ b. cond b (Some (1 + n)) None) (le-ltb (1 + n) (suc (length xs)) (omega (arith, ge)))
        ∙ ap (λ b. option_map (λ m. 1 + m) (cond b (Some n) None)) (sym (le-ltb n (length xs) ge))

position_here : {X : Type 0} (test : X → Bool) (x : X) (xs : List X) → test x ≡ true → position test (x ∷ xs) ≡ Some 0
position_here test x xs e =
    ap (λ b. (let m = cond (not b) (1 + position_or_len test xs) 0 in cond (nat_lt m (suc (length xs))) (Some m) None)) e
    ∙ ap (λ b. cond b (Some 0) None) (lt-ltb 0 (suc (length xs)) (omega arith))

-- an index stays the same when an element is appended; the appended element has the next index
position_push : {X : Type 0} (test : X → Bool) (xs : List X) (y : X)
    → position test (xs ++ y ∷ []) ≡ option_or (position test xs) (cond (test y) (Some (length xs)) None)
position_push test [] y = by (test y) refl
  where
    by : (b : Bool) → test y ≡ b → position test (y ∷ []) ≡ cond (test y) (Some 0) None
    by true e = position_here test y [] e ∙ ap (λ b. cond b (Some 0) None) (sym e)
    by false e = position_behind test y [] e ∙ ap (λ b. cond b (Some 0) None) (sym e)
position_push test (x ∷ xs) y = by (test x) refl (position_push test xs y)
  where
    up : (o : Option ℕ) (b : Bool) → option_map (λ n. 1 + n) (option_or o (cond b (Some (length xs)) None))
        ≡ option_or (option_map (λ n. 1 + n) o) (cond b (Some (suc (length xs))) None)
    up (Some n) b = refl
    up None true = let same : 1 + length xs ≡ suc (length xs) = omega arith in ap Some same
    up None false = refl

    by : (b : Bool) → test x ≡ b → position test (xs ++ y ∷ []) ≡ option_or (position test xs) (cond (test y) (Some (length xs)) None)
        → position test (x ∷ xs ++ y ∷ []) ≡ option_or (position test (x ∷ xs)) (cond (test y) (Some (suc (length xs))) None)
    by true e more =
        position_here test x (xs ++ y ∷ []) e
        ∙ ap (λ o. option_or o (cond (test y) (Some (suc (length xs))) None)) (sym (position_here test x xs e))
    by false e more =
        position_behind test x (xs ++ y ∷ []) e ∙ ap (option_map (λ n. 1 + n)) more ∙ up (position test xs) (test y)
        ∙ ap (λ o. option_or o (cond (test y) (Some (suc (length xs))) None)) (sym (position_behind test x xs e))

-- the indexes of accounts with one more account, which is new or already has an index
module _ (place_of : List ℕ → Option ℕ) (account : List ℕ) (i : ℕ) where
  none_behind : (o : Option ℕ) → o ≡ option_or o None
  none_behind (Some n) = refl
  none_behind None = refl

  pub placed_new : place_of account ≡ None → (name : List ℕ)
      → cond (bytes_eq account name) (Some i) (place_of name) ≡ option_or (place_of name) (cond (bytes_eq account name) (Some i) None)
  placed_new none name = by (bytes_eq account name) refl
    where
      by : (b : Bool) → bytes_eq account name ≡ b → cond b (Some i) (place_of name) ≡ option_or (place_of name) (cond b (Some i) None)
      by true e =
          let nowhere : place_of name ≡ None = ap place_of (sym (same_name account name e)) ∙ none in
          ap (λ o. option_or o (Some i)) (sym nowhere)
      by false e = none_behind (place_of name)

  pub placed_old : (n : ℕ) → place_of account ≡ Some n → (name : List ℕ)
      → place_of name ≡ option_or (place_of name) (cond (bytes_eq account name) (Some i) None)
  placed_old n some name = by (bytes_eq account name) refl
    where
      by : (b : Bool) → bytes_eq account name ≡ b → place_of name ≡ option_or (place_of name) (cond b (Some i) None)
      by true e =
          let there : place_of name ≡ Some n = ap place_of (sym (same_name account name e)) ∙ some in
          there ∙ ap (λ o. option_or o (Some i)) (sym there)
      by false e = none_behind (place_of name)

-- the indexes of accounts after the next portfolio
pub place_push : (portfolios : List AccountHoldings) (i : ℕ) (p : AccountHoldings) → i < length portfolios → p ≡ get_or portfolios i p
    → (name : List ℕ) → place_among (take (i + 1) portfolios) name
    ≡ option_or (place_among (take i portfolios) name) (cond (bytes_eq p.account name) (Some i) None)
place_push portfolios i p lt at name =
    ap (λ ps. place_among ps name) (take_more portfolios i p lt ∙ ap (λ q. take i portfolios ++ q ∷ []) (sym at))
    ∙ position_push (λ q. bytes_eq q.account name) (take i portfolios) p
    ∙ ap (λ n. option_or (place_among (take i portfolios) name) (cond (bytes_eq p.account name) (Some n) None))
    (length-take-le i portfolios (omega (arith, lt)))

-- ---- the account of an order

module _ (portfolios : List AccountHoldings) (name : List ℕ) where
  test : AccountHoldings → Bool
  test p = bytes_eq p.account name

  n : ℕ
  n = position_or_len test portfolios

  found : n < length portfolios → place_among portfolios name ≡ Some n
  unfolding n test
  found lt = ap (λ b. cond b (Some n) None) (lt-ltb n (length portfolios) lt)

  not_found : length portfolios ≤ n → place_among portfolios name ≡ None
  unfolding n test
  not_found ge = ap (λ b. cond b (Some n) None) (le-ltb n (length portfolios) ge)

  -- its index, if it has one, is the index of a portfolio
  pub place_there : HasPlace portfolios (account_at (place_among portfolios name) name)
  place_there = by (cases_lt n (length portfolios))
    where
      by : (n < length portfolios) ⊎ (length portfolios ≤ n) → HasPlace portfolios (account_at (place_among portfolios name) name)
      by (inl lt) = subst (λ o. HasPlace portfolios (account_at o name)) (sym (found lt)) lt
      by (inr ge) = subst (λ o. HasPlace portfolios (account_at o name)) (sym (not_found ge)) tt

  -- without the order the account has its holdings among the portfolios
  pub before_is : portfolio_before portfolios (account_at (place_among portfolios name) name)
      ≡ record { account = name; holdings = holdings_among portfolios name }
  unfolding n test
  before_is = by (cases_lt n (length portfolios))
    where
      held : Option AccountHoldings → AccountHoldings
      held o = record { account = name; holdings = unwrap_or (option_map (λ (p : AccountHoldings). p.holdings) o) [] }

      by : (n < length portfolios) ⊎ (length portfolios ≤ n) → portfolio_before portfolios (account_at (place_among portfolios name) name)
          ≡ record { account = name; holdings = holdings_among portfolios name }
      by (inl lt) =
          let q = get_or portfolios n (holding_nothing []) in
          let is = position-Some test portfolios n (holding_nothing []) (found lt) in
          let named : q.account ≡ name = same_name q.account name is.1 in
          ap (λ o. portfolio_before portfolios (account_at o name)) (found lt)
          ∙ ap (λ a. (let it : AccountHoldings = record { account = a; holdings = q.holdings } in it)) named
          ∙ ap held (sym (find_at test portfolios ∙ slice_get-get_or portfolios n (holding_nothing []) lt))
      by (inr ge) =
          ap (λ o. portfolio_before portfolios (account_at o name)) (not_found ge)
          ∙ ap held (sym (find_at test portfolios ∙ slice_get_past portfolios n ge))

-- ---- all orders

zip_push : {A B : Type 0} (xs : List A) (ys : List B) (x : A) (y : B) → length xs ≡ length ys
    → zip (xs ++ x ∷ []) (ys ++ y ∷ []) ≡ zip xs ys ++ (x, y) ∷ []
zip_push [] [] x y e = refl
zip_push [] (z ∷ ys) x y e = absurd (let f : zero ≡ suc (length ys) = e in omega (arith, f))
zip_push (w ∷ xs) [] x y e = absurd (let f : suc (length xs) ≡ zero = e in omega (arith, f))
zip_push (w ∷ xs) (z ∷ ys) x y e = ap (λ ps. (w, z) ∷ ps) (zip_push xs ys x y (omega (arith, e)))

zip_long : {A B : Type 0} (xs : List A) (ys : List B) → length xs ≡ length ys → length (zip xs ys) ≡ length ys
zip_long [] [] e = refl
zip_long [] (z ∷ ys) e = absurd (let f : zero ≡ suc (length ys) = e in omega (arith, f))
zip_long (w ∷ xs) [] e = absurd (let f : suc (length xs) ≡ zero = e in omega (arith, f))
zip_long (w ∷ xs) (z ∷ ys) e = ap suc (zip_long xs ys (omega (arith, e)))

taken : (names : List (List ℕ)) (i : ℕ) (name : List ℕ) → i < length names → name ≡ get_or names i name
    → take (i + 1) names ≡ take i names ++ name ∷ []
taken names i name lt at = take_more names i name lt ∙ ap (λ z. take i names ++ z ∷ []) (sym at)

-- one more order, with its name, its account and its entries
pub kept_more : (portfolios : List AccountHoldings) (names accounts : List (List ℕ)) (ledgers : List (List Entry)) (i : ℕ)
    (name account : List ℕ) (entries : List Entry) → i < length names → i < length accounts → i ≡ length ledgers
    → name ≡ get_or names i name → account ≡ get_or accounts i account → (orders : List KeptOrder)
    → orders ≡ all_kept_as portfolios (take (length ledgers) names) (take (length ledgers) accounts) ledgers
    → orders ++ kept_as portfolios ((name, account), entries) ∷ []
    ≡ all_kept_as portfolios (take (length (ledgers ++ entries ∷ [])) names) (take (length (ledgers ++ entries ∷ [])) accounts)
    (ledgers ++ entries ∷ [])
kept_more portfolios names accounts ledgers i name account entries lt lt' many at at' orders are =
    let ns = take i names in
    let cs = take i accounts in
    let short = length-take-le i names (omega (arith, lt)) in
    let short' = length-take-le i accounts (omega (arith, lt')) in
    let pairs = zip ns cs in
    let long = zip_long ns cs (short ∙ sym short') in
    let count : i + 1 ≡ length (ledgers ++ entries ∷ []) = ap (λ n. n + 1) many ∙ sym (length-append ledgers (entries ∷ [])) in
    ap (λ xs. xs ++ kept_as portfolios ((name, account), entries) ∷ [])
    (are ∙ ap (λ n. all_kept_as portfolios (take n names) (take n accounts) ledgers) (sym many))
    ∙ sym (map-append (kept_as portfolios) (zip pairs ledgers) (((name, account), entries) ∷ []))
    ∙ ap (map (kept_as portfolios)) (sym (zip_push pairs ledgers (name, account) entries (long ∙ short' ∙ many)))
    ∙ ap (λ ps. map (kept_as portfolios) (zip ps (ledgers ++ entries ∷ []))) (sym (zip_push ns cs name account (short ∙ sym short')))
    ∙ ap (λ xs. all_kept_as portfolios xs (cs ++ account ∷ []) (ledgers ++ entries ∷ [])) (sym (taken names i name lt at))
    ∙ ap (λ xs. all_kept_as portfolios (take (i + 1) names) xs (ledgers ++ entries ∷ [])) (sym (taken accounts i account lt' at'))
    ∙ ap (λ n. all_kept_as portfolios (take n names) (take n accounts) (ledgers ++ entries ∷ [])) count

-- stored orders whose account and entries are functions of the order's name
pub kept_of_names : (portfolios : List AccountHoldings) (account : List ℕ → List ℕ) (entries : List ℕ → List Entry) (names : List (List ℕ))
    → all_kept_as portfolios names (map account names) (map entries names)
    ≡ map (λ name. kept_as portfolios ((name, account name), entries name)) names
kept_of_names portfolios account entries [] = refl
kept_of_names portfolios account entries (name ∷ names) =
    ap (λ os. kept_as portfolios ((name, account name), entries name) ∷ os) (kept_of_names portfolios account entries names)

each_place : (portfolios : List AccountHoldings) (os : List ((List ℕ × List ℕ) × List Entry))
    → All (λ (o : KeptOrder). HasPlace portfolios o.account) (map (kept_as portfolios) os)
each_place portfolios [] = λ k d lt. absurd (omega (arith, lt))
each_place portfolios (o ∷ os) =
    All-cons (λ (x : KeptOrder). HasPlace portfolios x.account) (kept_as portfolios o) (map (kept_as portfolios) os)
    (place_there portfolios o.0.1) (each_place portfolios os)

-- the account of each order has a valid index
pub all_have_places : (portfolios : List AccountHoldings) (names accounts : List (List ℕ)) (ledgers : List (List Entry))
    → All (λ (o : KeptOrder). HasPlace portfolios o.account) (all_kept_as portfolios names accounts ledgers)
all_have_places portfolios names accounts ledgers = each_place portfolios (zip (zip names accounts) ledgers)

-- the holdings with each order of a range
pub afters_are : (contracts : ℕ) (portfolios : List AccountHoldings) (orders : List KeptOrder) (first count : ℕ)
    → map (λ o. (kept_order contracts portfolios o).after) (take count (drop first orders))
    ≡ map (λ o. o.after) (take count (drop first (map (kept_order contracts portfolios) orders)))
afters_are contracts portfolios orders first count =
    let of_order = kept_order contracts portfolios in
    let after = λ (o : TriedOrder). o.after in
    sym (map-map after of_order (take count (drop first orders)))
    ∙ ap (map after) (sym (take-map of_order count (drop first orders)) ∙ ap (take count) (sym (drop-map of_order first orders)))
