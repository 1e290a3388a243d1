-- The holdings of a commodity among an account's holdings, and runs of holdings of one commodity.
use Rattle.std.proofs.Common.{◌≡◌, ◌≢◌, ℕ, ◌+◌, ◌<◌, ◌≤◌, Bool, true, false, cond, eqb, List, [], ◌∷◌}
use Rattle.std.proofs.Common.{◌++◌, length, length-append, length-drop, drop, filter, get_or, take, refl, sym, ap, ◌∙◌}
use Rattle.std.proofs.Common.{subst, arith, inl, inr}
use Rattle.std.specs.Prelude.{All, bytes_eq}
use Rattle.std.specs.List.{AllWithin, slice_range}
use Rattle.std.proofs.lemmas.Bool.{cases_eq, cases_lt}
use Rattle.std.proofs.lemmas.Bool.Decides.{nat_tests}
use Rattle.std.proofs.lemmas.List.{append-nil, get_or-append-add, get_or_append_left, get_or-drop, get_or_default, take_more}
use Rattle.std.proofs.lemmas.List.Folds.{drop_split}
use Rattle.std.proofs.lemmas.List.Edits.{get_or-between, length-between}
use Rattle.std.proofs.lemmas.List.Elements.{All-cons, All-head, All-nil, All-tail, filter-append}
use Rattle.span_tables.specs.Accepted.{IsWithinLimits, commodity_number}
use Rattle.span_tables.specs.Tables.{AcceptedTables, commodity_id}
use Rattle.span_tables.specs.declared.portfolios.Holding.{Holding}
use Rattle.span_tables.specs.declared.records.Commodity.{Commodity}
use Rattle.span_tables.specs.near.Gathered.{commodity_held, holdings_in, number_held}
use Rattle.span_tables.specs.near.Runs.{AreByCommodity, AreLeft, IsNextRun}
use Rattle.span_tables.proofs.HeldLemmas.{there}
use Rattle.span_tables.proofs.Places.{place_names}

-- a filter keeps all elements of a run, or none
filter_alike : {X : Type 0} (p : X → Bool) (b : Bool) (xs : List X) → All (λ x. p x ≡ b) xs → filter p xs ≡ cond b xs []
filter_alike p true [] all = refl
filter_alike p false [] all = refl
filter_alike p true (x ∷ xs) all =
    rw (All-head (λ y. p y ≡ true) x xs all)
    (ap (λ ys. x ∷ ys) (filter_alike p true xs (All-tail (λ y. p y ≡ true) x xs all)))
filter_alike p false (x ∷ xs) all =
    rw (All-head (λ y. p y ≡ false) x xs all) (filter_alike p false xs (All-tail (λ y. p y ≡ false) x xs all))

-- two tests that agree at each element of a list keep the same elements of it
pub filter_same : {X : Type 0} (p q : X → Bool) (xs : List X) → All (λ x. p x ≡ q x) xs → filter p xs ≡ filter q xs
filter_same p q [] all = refl
filter_same p q (x ∷ xs) all =
    rw (All-head (λ y. p y ≡ q y) x xs all)
    (ap (λ ys. cond (q x) (x ∷ ys) ys) (filter_same p q xs (All-tail (λ y. p y ≡ q y) x xs all)))

-- a property of the element at an index and of the elements up to another index is a property of the range
pub all_between : {X : Type 0} (P : X → Type 0) (xs : List X) (start end : ℕ) → end ≤ length xs → ((d : X) → P (get_or xs start d))
    → AllWithin P xs (start + 1) end → All P (slice_range xs start end)
all_between P xs start end le first more k d lt =
    let inside : start + k < end = omega (arith, lt, length-between xs start end le) in
    subst P (sym (get_or-between xs start end k d inside))
    (elim (cases_eq k 0) [
      | inl none ↦ let here : start + k ≡ start = omega (arith, none) in subst (λ (j : ℕ). P (get_or xs j d)) (sym here) (first d)
      | inr some ↦ more (start + k) d (omega (arith, some)) inside
    ])

-- the commodity number of the holding at an index, as it is read
pub number_here : (t : AcceptedTables) (hs : List Holding) (k n r : ℕ) (d e : Holding) → k < length hs
    → r ≡ number_held t (get_or hs k d) → r ≡ n → number_held t (get_or hs k e) ≡ n
number_here t hs k n r d e lt told is = ap (number_held t) (get_or_default hs k e d lt) ∙ sym told ∙ is

module _ (t : AcceptedTables) (limits : IsWithinLimits t) where
  pub number_by_id : (h : Holding) → h.contract < length t.contracts
      → number_held t h ≡ commodity_number t.commodities (commodity_held t.contracts h)
  number_by_id h lt = let x = there t.contracts h.contract lt in rw x.1 refl

  -- whether a holding is of a commodity, by number
  pub is_of : (h : Holding) (c : ℕ) → h.contract < length t.contracts → c < length t.commodities
      → bytes_eq (commodity_held t.contracts h) (commodity_id t c) ≡ eqb (number_held t h) c
  is_of h c lt below =
      sym (ap (λ m. eqb m c) (number_by_id h lt)
      ∙ place_names (λ (x : Commodity). x.id) t.commodities (commodity_held t.contracts h) c limits.commodities_apart below)

  -- one more holding, of commodity number n; b says whether n is c
  pub one_more : (gs : List Holding) (i n : ℕ) (d : Holding) → i < length gs → (get_or gs i d).contract < length t.contracts
      → n ≡ number_held t (get_or gs i d) → (c : ℕ) (b : Bool) → c < length t.commodities → eqb n c ≡ b
      → holdings_in t.contracts (take (i + 1) gs) (commodity_id t c)
      ≡ holdings_in t.contracts (take i gs) (commodity_id t c) ++ cond b (get_or gs i d ∷ []) []
  one_more gs i n d lt known told c b below is =
      let h = get_or gs i d in
      let test : Holding → Bool = λ x. bytes_eq (commodity_held t.contracts x) (commodity_id t c) in
      let here : test h ≡ b = is_of h c known below ∙ ap (λ m. eqb m c) (sym told) ∙ is in
      ap (filter test) (take_more gs i d lt) ∙ filter-append test (take i gs) (h ∷ [])
      ∙ ap (λ hs. filter test (take i gs) ++ hs)
      (filter_alike test b (h ∷ []) (All-cons (λ x. test x ≡ b) h [] here (All-nil (λ x. test x ≡ b))))

  -- holdings that are all of commodity c, or none of them
  alike : (c : ℕ) (b : Bool) (hs : List Holding) → c < length t.commodities → All (λ h. h.contract < length t.contracts) hs
      → All (λ h. eqb (number_held t h) c ≡ b) hs → holdings_in t.contracts hs (commodity_id t c) ≡ cond b hs []
  alike c b hs below known all =
      filter_alike (λ h. bytes_eq (commodity_held t.contracts h) (commodity_id t c)) b hs
      (λ k d lt. is_of (get_or hs k d) c (known k d lt) below ∙ all k d lt)

  -- the holdings of a commodity are the holdings with its number
  pub by_number : (c : ℕ) (hs : List Holding) → c < length t.commodities → All (λ h. h.contract < length t.contracts) hs
      → holdings_in t.contracts hs (commodity_id t c) ≡ filter (λ h. eqb (number_held t h) c) hs
  by_number c hs below known =
      filter_same (λ h. bytes_eq (commodity_held t.contracts h) (commodity_id t c)) (λ h. eqb (number_held t h) c) hs
      (λ k d lt. is_of (get_or hs k d) c (known k d lt) below)

  module _ (holdings : List Holding) where
    pub all_left : (sorted : List Holding) → AreByCommodity t holdings sorted → AreLeft t holdings 0 sorted
    all_left sorted are = record {
      known = are.known;
      rise = are.rise;
      behind = λ k d lt. omega arith;
      same = λ c le lt. are.same c lt;
    }

    -- at the end nothing more is held
    pub none_left : (next : ℕ) → AreLeft t holdings next [] → (c : ℕ) → next ≤ c → c < length t.commodities
        → holdings_in t.contracts holdings (commodity_id t c) ≡ []
    none_left next left c le lt = sym (left.same c le lt)

    -- a run of holdings of commodity n, before holdings whose first is of another commodity
    module _ (next n : ℕ) (x : Holding) (xs more : List Holding) (left : AreLeft t holdings next ((x ∷ xs) ++ more))
        (of : All (λ h. number_held t h ≡ n) (x ∷ xs)) (ends : (d : Holding) → 0 < length more → number_held t (get_or more 0 d) ≢ n)
        (below : n < length t.commodities) where
      abbrev run : List Holding
      run = x ∷ xs

      first : number_held t x ≡ n
      first = All-head (λ h. number_held t h ≡ n) x xs of

      abbrev whole : List Holding
      whole = run ++ more

      -- numbers from the front on, and behind the run
      up : (k : ℕ) (d : Holding) → k < length whole → n ≤ number_held t (get_or whole k d)
      up k d lt =
          let rise : number_held t x ≤ number_held t (get_or whole k d) = left.rise 0 k d (omega arith) lt in omega (arith, rise, first)

      later : (i j : ℕ) (d : Holding) → i ≤ j → j < length more → number_held t (get_or more i d) ≤ number_held t (get_or more j d)
      later i j d le lt =
          let long = length-append run more in
          let rise = left.rise (length run + i) (length run + j) d (omega arith) (omega (arith, lt, long)) in
          let at_i = ap (number_held t) (get_or-append-add run more i d) in
          let at_j = ap (number_held t) (get_or-append-add run more j d) in
          omega (arith, rise, at_i, at_j)

      above : All (λ h. n < number_held t h) more
      above k d lt =
          let long = length-append run more in
          let most = up (length run + 0) d (omega (arith, lt, long)) in
          let at = ap (number_held t) (get_or-append-add run more 0 d) in
          let other = ends d (omega (arith, lt)) in
          let rise = later 0 k d (omega arith) lt in
          omega (arith, most, at, other, rise)

      known_run : All (λ h. h.contract < length t.contracts) run
      known_run k d lt =
          let long = length-append run more in
          subst (λ (h : Holding). h.contract < length t.contracts) (get_or_append_left run more d k lt)
          (left.known k d (omega (arith, lt, long)))

      known_more : All (λ h. h.contract < length t.contracts) more
      known_more k d lt =
          let long = length-append run more in
          subst (λ (h : Holding). h.contract < length t.contracts) (get_or-append-add run more k d)
          (left.known (length run + k) d (omega (arith, lt, long)))

      apart : (c : ℕ) → c ≢ n → All (λ h. eqb (number_held t h) c ≡ false) run
      apart c other k d lt = let is = of k d lt in grind (arith, nat_tests)

      split : (c : ℕ) → holdings_in t.contracts whole (commodity_id t c)
          ≡ holdings_in t.contracts run (commodity_id t c) ++ holdings_in t.contracts more (commodity_id t c)
      split c = filter-append (λ h. bytes_eq (commodity_held t.contracts h) (commodity_id t c)) run more

      none_before : (c : ℕ) → next ≤ c → c < n → holdings_in t.contracts holdings (commodity_id t c) ≡ []
      none_before c le lt =
          let inside : c < length t.commodities = omega (arith, lt, below) in
          sym (left.same c le inside)
          ∙ alike c false whole inside left.known (λ k d at. let most = up k d at in grind (arith, nat_tests))

      all_of_it : run ≡ holdings_in t.contracts holdings (commodity_id t n)
      all_of_it =
          let behind : next ≤ n = let b = All-head (λ h. next ≤ number_held t h) x (xs ++ more) left.behind in omega (arith, b, first) in
          let mine = alike n true run below known_run (λ k d lt. let is = of k d lt in grind (arith, nat_tests)) in
          let others = alike n false more below known_more (λ k d lt. let over = above k d lt in grind (arith, nat_tests)) in
          sym (append-nil run) ∙ ap (λ hs. run ++ hs) (sym others) ∙ ap (λ hs. hs ++ holdings_in t.contracts more (commodity_id t n))
          (sym mine)
          ∙ sym (split n) ∙ left.same n behind below

      pub next_run : IsNextRun t holdings next n run more
      next_run = record {
        behind = let b = All-head (λ h. next ≤ number_held t h) x (xs ++ more) left.behind in omega (arith, b, first);
        none = none_before;
        is = all_of_it;
        after = record {
          known = known_more;
          rise = later;
          behind = λ k d lt. let over = above k d lt in omega (arith, over);
          same = λ c le lt.
              let other : c ≢ n = omega (arith, le) in
              let none = alike c false run lt known_run (apart c other) in
              ap (λ hs. hs ++ holdings_in t.contracts more (commodity_id t c)) (sym none) ∙ sym (split c)
              ∙ left.same c (let b = All-head (λ h. next ≤ number_held t h) x (xs ++ more) left.behind in omega (arith, b, first, le)) lt;
        };
      }

  -- a run in a list of holdings that are left from an index on
  module _ (holdings sorted : List Holding) (next done : ℕ) (left : AreLeft t holdings next (drop done sorted))
      (at : done < length sorted) where
    first_left : (d : Holding) → get_or (drop done sorted) 0 d ≡ get_or sorted done d
    first_left d = let same : done + 0 ≡ done = omega arith in get_or-drop done sorted 0 d ∙ ap (λ k. get_or sorted k d) same

    -- the first holding that is left is of a contract that exists
    pub first_known : (d : Holding) → (get_or sorted done d).contract < length t.contracts
    first_known d =
        let long = length-drop done sorted in
        subst (λ (h : Holding). h.contract < length t.contracts) (first_left d) (left.known 0 d (omega (arith, at, long)))

    next_of : (n : ℕ) (run more : List Holding) → 0 < length run → AreLeft t holdings next (run ++ more)
        → All (λ h. number_held t h ≡ n) run → ((d : Holding) → 0 < length more → number_held t (get_or more 0 d) ≢ n)
        → n < length t.commodities → IsNextRun t holdings next n run more
    next_of n [] more some here of ends below = absurd (omega arith)
    next_of n (x ∷ xs) more some here of ends below = next_run holdings next n x xs more here of ends below

    pub run_at : (n end : ℕ) → done + 1 ≤ end → end ≤ length sorted → ((d : Holding) → number_held t (get_or sorted done d) ≡ n)
        → AllWithin (λ h. number_held t h ≡ n) sorted (done + 1) end
        → ((d : Holding) → end < length sorted → number_held t (get_or sorted end d) ≢ n) → n < length t.commodities
        → IsNextRun t holdings next n (slice_range sorted done end) (drop end sorted)
    run_at n end begins inside first same ends below =
        let long = length-between sorted done end inside in
        next_of n (slice_range sorted done end) (drop end sorted) (omega (arith, long, begins))
        (subst (AreLeft t holdings next) (drop_split sorted done end (omega (arith, begins))) left)
        (all_between (λ h. number_held t h ≡ n) sorted done end inside first same)
        (λ d some same_number.
        let behind : end + 0 ≡ end = omega arith in
        let rest = length-drop end sorted in
        ends d (omega (arith, some, rest))
        (sym (ap (number_held t) (get_or-drop end sorted 0 d ∙ ap (λ k. get_or sorted k d) behind)) ∙ same_number))
        below

-- the numbers before an index rise up to the latest one
pub record RiseTo {X : Type 0} (n : X → ℕ) (xs : List X) (i latest : ℕ) : Type 0 where
  pub rise : (j k : ℕ) (d : X) → j ≤ k → k < i → n (get_or xs j d) ≤ n (get_or xs k d)
  pub below : (k : ℕ) (d : X) → k < i → n (get_or xs k d) ≤ latest

-- one more holding whose commodity number is at least all before
module _ {X : Type 0} (n : X → ℕ) (xs : List X) where
  pub rise_more : (i latest next : ℕ) (e : X) → i < length xs → RiseTo n xs i latest → latest ≤ next → next ≡ n (get_or xs i e)
      → RiseTo n xs (i + 1) next
  rise_more i latest next e lt so_far le is =
      let here : (d : X) → n (get_or xs i d) ≡ next = λ d. ap n (get_or_default xs i d e lt) ∙ sym is in
      record {
        rise = λ j k d before inside. elim (cases_lt k i) [
          | inl less ↦ so_far.rise j k d before less
          | inr most ↦ let last : k ≡ i = omega (arith, most, inside) in
              elim (cases_eq j k) [
                | inl same ↦ let alike = ap (λ (m : ℕ). n (get_or xs m d)) same in omega (arith, alike)
                | inr other ↦ let b = so_far.below j d (omega (arith, before, other, last)) in
                    let at = ap (λ (m : ℕ). n (get_or xs m d)) last in
                    let h = here d in
                    omega (arith, b, at, h, le)
              ]
        ];
        below = λ k d inside. elim (cases_lt k i) [
          | inl less ↦ let b = so_far.below k d less in omega (arith, b, le)
          | inr most ↦ let last : k ≡ i = omega (arith, most, inside) in
              let at = ap (λ (m : ℕ). n (get_or xs m d)) last in
              let h = here d in
              omega (arith, at, h)
        ];
      }
