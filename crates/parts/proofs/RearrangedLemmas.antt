-- Position records in another order: nets, accounts, faults and lines.
use Rattle.std.proofs.Common.{◌≡◌, ◌∙◌, ℕ, inl, inr, Bool, true, false, cond, not, ◌||◌, ◌&&◌}
use Rattle.std.proofs.Common.{List, [], ◌∷◌, map, filter, Ok, Err, Result, refl, sym, ap, subst, arith}
use Rattle.std.specs.Prelude.{ℤ, pos, negsuc, ◌+ℤ◌, IsPermutation, bytes_eq, flat_map, is_ok, length, nat_abs, nat_lt, sum_by}
use Rattle.std.specs.List.{enumerate_from, list_any}
use Rattle.std.specs.Cmp.{both_ways}
use Rattle.std.proofs.lemmas.Bool.{cases_Bool, not_from_true, or_parts, true≢false}
use Rattle.std.proofs.lemmas.Int.{ints}
use Rattle.std.proofs.lemmas.List.Folds.{flat_map-map}
use Rattle.std.proofs.lemmas.List.Sorted.{IsPermutation-cons, IsPermutation-map, IsPermutation-middle, IsPermutation-refl}
use Rattle.std.proofs.lemmas.List.Sorted.{IsPermutation-sym, IsPermutation-trans, list_any-IsPermutation, sum_by-IsPermutation}
use Rattle.std.proofs.lemmas.List.Sums.{sum_by-cons}
use Rattle.span_money.specs.Numbers.{int_sum_by, negative_part, positive_part}
use Rattle.span_tables.specs.Names.{distinct, has_repeat, is_among}
use Rattle.span_tables.specs.Net.{accounts_of, holding_of, holdings_of, is_held, net_of, portfolios_of}
use Rattle.span_tables.specs.Tables.{AcceptedTables}
use Rattle.span_tables.specs.declared.limits.TheConstants.{MAX_HELD, MAX_NET}
use Rattle.span_tables.specs.declared.portfolios.Holding.{Holding}
use Rattle.span_tables.specs.declared.records.Contract.{Contract}
use Rattle.span_tables.specs.declared.records.PositionRecord.{PositionRecord}
use Rattle.span_tables.proofs.NameLaws.{distinct_once}
use Rattle.span_tables.proofs.NameLemmas.{is_among-distinct, same_name, among_others}
use Rattle.span_tables.proofs.SumLaws.{int_sum_by-cons, int_sum_by-if}
use Rattle.binding.specs.Binding.{exceeds_held, exceeds_net, is_unknown}
use Rattle.binding.proofs.AcceptedLaws.{IsFit}
use Rattle.binding.proofs.AccountLaws.{bytes_eq-flip, bytes_eq-refl}
use Rattle.parts.specs.Parts.{lines_of}
use Rattle.statement_text.specs.Statement.{row_text, statement_bound, statement_text}
use Rattle.statement_text.specs.declared.faults.SpanFault.{SpanFault}
use Rattle.parts.proofs.PartLemmas.{first_among, fit_of_text, none_taken, portfolio, text_of_fit}

-- ---- sums of whole numbers

-- a number plus its negative part is its positive part
in_parts : (z : ℤ) → z +ℤ pos (negative_part z) ≡ pos (positive_part z)
in_parts (pos n) = omega (arith, ints)
in_parts (negsuc n) = omega (arith, ints)

module _ {X : Type 0} (f : X → ℤ) where
  -- a sum plus the negative parts of its terms is the positive parts of its terms
  sum_in_parts : (xs : List X) → int_sum_by f xs +ℤ pos (sum_by (λ x. negative_part (f x)) xs)
      ≡ pos (sum_by (λ x. positive_part (f x)) xs)
  sum_in_parts [] = refl
  sum_in_parts (x ∷ xs) =
      let whole = int_sum_by-cons f x xs in
      let below = sum_by-cons (λ y. negative_part (f y)) x xs in
      let above = sum_by-cons (λ y. positive_part (f y)) x xs in
      let first = in_parts (f x) in
      let rest = sum_in_parts xs in
      omega (arith, ints, whole, below, above, first, rest)

  -- a sum does not depend on the order of its terms
  pub sum_rearranged : (xs ys : List X) → IsPermutation xs ys → int_sum_by f xs ≡ int_sum_by f ys
  sum_rearranged xs ys same =
      let below = sum_by-IsPermutation (λ x. negative_part (f x)) xs ys same in
      let above = sum_by-IsPermutation (λ x. positive_part (f x)) xs ys same in
      let one = sum_in_parts xs in
      let other = sum_in_parts ys in
      omega (arith, ints, below, above, one, other)

  -- the sum over the elements that pass a test is the sum over all elements, with 0 for the others
  sum_of_kept : (test : X → Bool) (xs : List X) → int_sum_by f (filter test xs) ≡ int_sum_by (λ x. cond (test x) (f x) (pos 0)) xs
  sum_of_kept test [] = refl
  sum_of_kept test (x ∷ xs) =
      int_sum_by-if f (test x) x (filter test xs)
      ∙ ap (λ z. cond (test x) (f x) (pos 0) +ℤ z) (sum_of_kept test xs)
      ∙ sym (int_sum_by-cons (λ y. cond (test y) (f y) (pos 0)) x xs)

-- ---- names

-- distinct names are a permutation with any one of them at the front
brought_front : (x : List ℕ) (ys : List (List ℕ)) → has_repeat bytes_eq ys ≡ false → is_among ys x ≡ true
    → IsPermutation ys (x ∷ filter (λ other. not (bytes_eq other x)) ys)
brought_front x [] once among = absurd (true≢false (sym among))
brought_front x (y ∷ ys) once among =
    let parts = or_parts (is_among ys y) (has_repeat bytes_eq ys) once in
    by (bytes_eq x y) refl among parts.0 (brought_front x ys parts.1)
  where
    by : (b : Bool) → bytes_eq x y ≡ b → (b || is_among ys x) ≡ true → is_among ys y ≡ false
        → (is_among ys x ≡ true → IsPermutation ys (x ∷ filter (λ other. not (bytes_eq other x)) ys))
        → IsPermutation (y ∷ ys) (x ∷ filter (λ other. not (bytes_eq other x)) (y ∷ ys))
    by true e found alone behind =
        let same : y ≡ x = sym (same_name x y e) in
        let here : not (bytes_eq y x) ≡ false = not_from_true (bytes_eq y x) (bytes_eq-flip y x ∙ e) in
        let new : is_among ys x ≡ false = ap (is_among ys) (sym same) ∙ alone in
        let gone : filter (λ other. not (bytes_eq other x)) (y ∷ ys) ≡ ys =
        ap (λ b. cond b (y ∷ filter (λ other. not (bytes_eq other x)) ys) (filter (λ other. not (bytes_eq other x)) ys)) here
        ∙ none_taken x ys new in
        let whole : y ∷ ys ≡ x ∷ filter (λ other. not (bytes_eq other x)) (y ∷ ys) = λ i. same i ∷ sym gone i in
        subst (IsPermutation (y ∷ ys)) whole (IsPermutation-refl (y ∷ ys))
    by false e found alone behind =
        let more = behind found in
        let kept : y ∷ filter (λ other. not (bytes_eq other x)) ys ≡ filter (λ other. not (bytes_eq other x)) (y ∷ ys) =
        ap (λ b. cond (not b) (y ∷ filter (λ other. not (bytes_eq other x)) ys) (filter (λ other. not (bytes_eq other x)) ys))
        (sym (bytes_eq-flip y x ∙ e)) in
        subst (λ l. IsPermutation (y ∷ ys) (x ∷ l)) kept
        (IsPermutation-trans _ _ _ (IsPermutation-cons y ys (x ∷ filter (λ other. not (bytes_eq other x)) ys) more)
        (IsPermutation-middle (y ∷ []) x (filter (λ other. not (bytes_eq other x)) ys)))

-- a name that is not in a list is not in the filtered list
none_kept : (test : List ℕ → Bool) (name : List ℕ) (names : List (List ℕ)) → is_among names name ≡ false
    → is_among (filter test names) name ≡ false
none_kept test name [] none = refl
none_kept test name (x ∷ names) none =
    let parts = or_parts (bytes_eq name x) (is_among names name) none in
    by (test x) (none_kept test name names parts.1) parts.0
  where
    by : (b : Bool) → is_among (filter test names) name ≡ false → bytes_eq name x ≡ false
        → is_among (cond b (x ∷ filter test names) (filter test names)) name ≡ false
    by true rest apart = rw (apart, rest) refl
    by false rest apart = rest

-- filtering keeps names distinct
once_kept : (test : List ℕ → Bool) (names : List (List ℕ)) → has_repeat bytes_eq names ≡ false
    → has_repeat bytes_eq (filter test names) ≡ false
once_kept test [] once = refl
once_kept test (x ∷ names) once =
    let parts = or_parts (is_among names x) (has_repeat bytes_eq names) once in
    by (test x) (once_kept test names parts.1) (none_kept test x names parts.0)
  where
    by : (b : Bool) → has_repeat bytes_eq (filter test names) ≡ false → is_among (filter test names) x ≡ false
        → has_repeat bytes_eq (cond b (x ∷ filter test names) (filter test names)) ≡ false
    by true rest new = rw (new, rest) refl
    by false rest new = rest

-- the removed name is not in the list
gone_is_none : (gone : List ℕ) (names : List (List ℕ)) → is_among (filter (λ other. not (bytes_eq other gone)) names) gone ≡ false
gone_is_none gone [] = refl
gone_is_none gone (x ∷ names) =
    elim (cases_Bool (bytes_eq x gone)) [
      | inl same ↦ rw same (gone_is_none gone names)
      | inr kept ↦ let apart : bytes_eq gone x ≡ false = bytes_eq-flip gone x ∙ kept in rw (kept, apart) (gone_is_none gone names)
    ]

-- two lists of distinct names that contain the same names are permutations of each other
pub same_names : (xs ys : List (List ℕ)) → has_repeat bytes_eq xs ≡ false → has_repeat bytes_eq ys ≡ false
    → ((name : List ℕ) → is_among xs name ≡ is_among ys name) → IsPermutation xs ys
same_names [] [] once other_once same = IsPermutation-refl []
same_names [] (y ∷ ys) once other_once same = absurd (true≢false (sym (same y ∙ first_among y ys)))
same_names (x ∷ xs) ys once other_once same =
    let there : is_among ys x ≡ true = sym (same x) ∙ first_among x xs in
    let parts = or_parts (is_among xs x) (has_repeat bytes_eq xs) once in
    let others = filter (λ other. not (bytes_eq other x)) ys in
    let rest = same_names xs others parts.1 (once_kept (λ other. not (bytes_eq other x)) ys other_once)
    (λ name. by name parts.0 (bytes_eq name x) refl) in
    IsPermutation-trans _ _ _ (IsPermutation-cons x xs others rest) (IsPermutation-sym _ _ (brought_front x ys other_once there))
  where
    by : (name : List ℕ) → is_among xs x ≡ false → (b : Bool) → bytes_eq name x ≡ b
        → is_among xs name ≡ is_among (filter (λ other. not (bytes_eq other x)) ys) name
    by name new true e =
        let it : name ≡ x = same_name name x e in
        ap (is_among xs) it ∙ new
        ∙ sym (ap (is_among (filter (λ other. not (bytes_eq other x)) ys)) it ∙ gone_is_none x ys)
    by name new false e =
        ap (λ b. b || is_among xs name) (sym e) ∙ same name ∙ sym (among_others x name ys e)

-- names in another order have the same distinct names
pub names_rearranged : (names others : List (List ℕ)) → IsPermutation names others
    → IsPermutation (distinct names) (distinct others)
names_rearranged names others same =
    same_names (distinct names) (distinct others) (distinct_once names) (distinct_once others)
    (λ name. is_among-distinct names name ∙ list_any-IsPermutation (bytes_eq name) names others same
    ∙ sym (is_among-distinct others name))

-- ---- nets and accounts

-- the net of a single record, for its account and contract, is its quantity
pub net_of_one : (p : PositionRecord) → net_of (p ∷ []) p.account p.contract ≡ p.quantity
net_of_one p =
    let account = bytes_eq-refl p.account in
    let contract = bytes_eq-refl p.contract in
    let both : (bytes_eq p.account p.account && bytes_eq p.contract p.contract) ≡ true = λ i. account i && contract i in
    let sum : pos 0 +ℤ p.quantity ≡ p.quantity = omega (arith, ints) in
    ap (λ b. int_sum_by (λ (x : PositionRecord). x.quantity) (cond b (p ∷ []) [])) both ∙ sum

-- for any other account or contract, its net is 0
pub net_of_other : (p : PositionRecord) (account contract : List ℕ)
    → (bytes_eq p.account account && bytes_eq p.contract contract) ≡ false → net_of (p ∷ []) account contract ≡ pos 0
net_of_other p account contract other = ap (λ b. int_sum_by (λ (x : PositionRecord). x.quantity) (cond b (p ∷ []) [])) other

module _ (ps qs : List PositionRecord) (same : IsPermutation ps qs) where
  -- a net does not depend on the order of the records
  pub net_rearranged : (account contract : List ℕ) → net_of ps account contract ≡ net_of qs account contract
  net_rearranged account contract =
      let test = λ (p : PositionRecord). bytes_eq p.account account && bytes_eq p.contract contract in
      let quantity = λ (p : PositionRecord). p.quantity in
      sum_of_kept quantity test ps
      ∙ sum_rearranged (λ p. cond (test p) (quantity p) (pos 0)) ps qs same
      ∙ sym (sum_of_kept quantity test qs)

  pub holdings_rearranged : (contracts : List Contract) (account : List ℕ)
      → holdings_of contracts ps account ≡ holdings_of contracts qs account
  holdings_rearranged contracts account =
      ap (λ one. filter is_held (map one (enumerate_from 0 contracts))) alike
    where
      alike : holding_of ps account ≡ holding_of qs account
      alike = λ i numbered. (let it : Holding = record {
        contract = numbered.0;
        net = net_rearranged account (numbered.1).id i;
      } in it)

  -- records in another order have the same accounts
  pub accounts_rearranged : IsPermutation (accounts_of ps) (accounts_of qs)
  accounts_rearranged = names_rearranged _ _ (IsPermutation-map (λ (p : PositionRecord). p.account) ps qs same)

  -- ---- faults

  pub fit_rearranged : (contracts : List Contract) → IsFit contracts ps → IsFit contracts qs
  fit_rearranged contracts fit = record {
    known = sym (list_any-IsPermutation (is_unknown contracts) ps qs same) ∙ fit.known;
    within = ap (λ test. list_any test qs) (sym nets) ∙ sym (list_any-IsPermutation (exceeds_net ps) ps qs same) ∙ fit.within;
    few = ap (λ test. list_any test qs) (sym held) ∙ sym (list_any-IsPermutation (exceeds_held contracts ps) ps qs same) ∙ fit.few;
  } where
    nets : exceeds_net ps ≡ exceeds_net qs
    nets = λ i p. nat_lt MAX_NET (nat_abs (net_rearranged p.account p.contract i))

    held : exceeds_held contracts ps ≡ exceeds_held contracts qs
    held = λ i p. nat_lt MAX_HELD (length (holdings_rearranged contracts p.account i))

-- ---- statements

-- records that have a statement are fit
fit_of_ok : (t : AcceptedTables) (ps : List PositionRecord) → is_ok (statement_bound t ps) ≡ true → IsFit t.contracts ps
fit_of_ok t ps ok = by (statement_bound t ps) refl ok where
  by : (r : Result (List ℕ) SpanFault) → statement_bound t ps ≡ r → is_ok r ≡ true → IsFit t.contracts ps
  by (Ok text) e ok = (fit_of_text t ps text e).0
  by (Err f) e ok = absurd (true≢false (sym ok))

module _ (t : AcceptedTables) where
  -- records in another order have a statement if these have one
  pub still_ok : (ps qs : List PositionRecord) → IsPermutation ps qs → is_ok (statement_bound t ps) ≡ true
      → is_ok (statement_bound t qs) ≡ true
  still_ok ps qs same ok = ap is_ok (text_of_fit t qs (fit_rearranged ps qs same t.contracts (fit_of_ok t ps ok)))

  pub accepted_rearranged : (ps qs : List PositionRecord) → IsPermutation ps qs
      → is_ok (statement_bound t ps) ≡ is_ok (statement_bound t qs)
  accepted_rearranged ps qs same =
      both_ways _ _ (still_ok ps qs same) (still_ok qs ps (IsPermutation-sym ps qs same))

  -- an account has the same lines by records in another order
  pub lines_rearranged : (ps qs : List PositionRecord) → IsPermutation ps qs → lines_of t ps ≡ lines_of t qs
  lines_rearranged ps qs same = λ i account. row_text t (record {
    account = account;
    holdings = holdings_rearranged ps qs same t.contracts account i;
  })

  -- a statement consists of the lines of its accounts
  pub statement_by_lines : (ps : List PositionRecord) (text : List ℕ) → statement_bound t ps ≡ Ok text
      → text ≡ flat_map (lines_of t ps) (accounts_of ps)
  unfolding statement_text portfolios_of
  statement_by_lines ps text is =
      (fit_of_text t ps text is).1 ∙ flat_map-map (row_text t) (portfolio t.contracts ps) (accounts_of ps)
