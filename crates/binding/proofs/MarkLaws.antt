-- Lemmas about sums by contract number. A mark (a bit) for each number records whether anything was added.
use Rattle.std.proofs.Common.{◌≡◌, ℕ, zero, suc, ◌+◌, ◌-◌, ◌*◌, ◌/◌, ◌%◌, ◌^◌, ◌<◌}
use Rattle.std.proofs.Common.{◌≤◌, ◌⊎◌, Bool, true, false, cond, ◌||◌, ◌==◌, List, [], ◌∷◌}
use Rattle.std.proofs.Common.{◌++◌, length, get_or, set, map, bit_and, bit_or, refl, sym, ap, ◌∙◌, inl, inr, arith}
use Rattle.std.specs.Prelude.{ℤ, pos, replicate}
use Rattle.std.specs.Int.{w64, bit_at, bit_not, trailing_zeros}
use lib.Count.{count_trailing_zeros}
use Rattle.std.specs.List.{range_with_len}
use Rattle.std.proofs.Math.Bool.{or-false}
use Rattle.std.proofs.lemmas.Bool.{cases_eq, cases_lt, eq-eqb, ne_eqb}
use Rattle.std.proofs.lemmas.List.{append-nil, map-append, length-set, get_or_past, get_or-set_same, get_or-set_other, same_lists}
use Rattle.std.proofs.lemmas.List.FromFn.{get_or-map-range_with_len, length-map-range_with_len, filter_of_map_range_with_len_more}
use Rattle.std.proofs.lemmas.Nat.Bits.{bit_at-zero, bit_at_set_same, bit_at_set_other}
use Rattle.std.proofs.lemmas.Nat.Bits.{bit_at_clear_same, bit_at_clear_other, bit_at-trailing_zeros}
use Rattle.span_tables.specs.Net.{is_held}
use Rattle.binding.specs.near.Nets.{holding_at, holdings_from, held_part}
use Rattle.binding.specs.near.Sums.{is_marked, sum_at, sums_of, AreMarks, held_below, kept_holding}
use Rattle.span_tables.specs.declared.portfolios.Holding.{Holding}
use Rattle.binding.proofs.NetLaws.{is_held-eq}

-- a word without marks
nothing : ℕ
nothing = 0

zeros : (m j : ℕ) → get_or (replicate m nothing) j nothing ≡ nothing
unfolding nothing
zeros zero j = refl
zeros (suc m) zero = refl
zeros (suc m) (suc j) = zeros m j

pub none_marked : (m k : ℕ) → is_marked (replicate m 0) k ≡ false
unfolding nothing
none_marked m k = ap (λ n. bit_at n (k % 64) == 1) (zeros m (k / 64)) ∙ ap (λ n. n == 1) (bit_at-zero (k % 64))

module _ (marks : List ℕ) (places : List ℤ) where
  -- the number of sums
  pub sums_long : length (sums_of marks places) ≡ length places
  unfolding sums_of
  sums_long = length-map-range_with_len (sum_at marks places) 0 (length places)

  pub sums_at : (k : ℕ) (d : ℤ) → k < length places → get_or (sums_of marks places) k d ≡ sum_at marks places k
  unfolding sums_of
  sums_at k d h = get_or-map-range_with_len (sum_at marks places) 0 (length places) k k d h (omega arith)

-- there are as many sums as slots
pub long_as : (marks : List ℕ) (places : List ℤ) {sums : List ℤ} → sums_of marks places ≡ sums → length sums ≡ length places
long_as marks places is = sym (ap length is) ∙ sums_long marks places

-- without marks each sum is 0
pub sums_clear : (m : ℕ) (places : List ℤ) → sums_of (replicate m 0) places ≡ replicate (length places) (pos 0)
unfolding sums_of
sums_clear m places = by (length places) 0
  where
    by : (n a : ℕ) → map (sum_at (replicate m 0) places) (range_with_len a n) ≡ replicate n (pos 0)
    by zero a = refl
    by (suc n) a =
        let here : sum_at (replicate m 0) places a ≡ pos 0 = ap (λ b. cond b (get_or places a (pos 0)) (pos 0)) (none_marked m a) in
        let rest = by n (a + 1) in
        λ i. here i ∷ rest i

or_true : (b : Bool) → (b || true) ≡ true
or_true true = refl
or_true false = refl

-- the sums after one sum is written and marked
pub sums_set : (marks next : List ℕ) (places : List ℤ) (c : ℕ) (z : ℤ) → c < length places
    → ((k : ℕ) → is_marked next k ≡ (is_marked marks k || (k == c)))
    → sums_of next (set places c z) ≡ set (sums_of marks places) c z
sums_set marks next places c z lt marked = same_lists _ _ size (λ k d h. by k d (omega (arith, h, long)) (cases_eq k c))
  where
    long : length (sums_of next (set places c z)) ≡ length places
    long = sums_long next (set places c z) ∙ length-set places c z

    size : length (sums_of next (set places c z)) ≡ length (set (sums_of marks places) c z)
    size = long ∙ sym (length-set (sums_of marks places) c z ∙ sums_long marks places)

    with_mark : (k : ℕ) (b : Bool) → is_marked next k ≡ b
        → sum_at next (set places c z) k ≡ cond b (get_or (set places c z) k (pos 0)) (pos 0)
    with_mark k b e = ap (λ t. cond t (get_or (set places c z) k (pos 0)) (pos 0)) e

    by : (k : ℕ) (d : ℤ) → k < length places → (k ≡ c) ⊎ (k ≡ c → ⊥)
        → get_or (sums_of next (set places c z)) k d ≡ get_or (set (sums_of marks places) c z) k d
    by k d h (inl same) =
        let at_new : k < length (set places c z) = omega (arith, h, length-set places c z) in
        let at_old : c < length (sums_of marks places) = omega (arith, lt, sums_long marks places) in
        sums_at next (set places c z) k d at_new
        ∙ with_mark k true (marked k ∙ ap (λ b. is_marked marks k || b) (eq-eqb k c same) ∙ or_true (is_marked marks k))
        ∙ ap (λ j. get_or (set places c z) j (pos 0)) same
        ∙ get_or-set_same places c z (pos 0) lt
        ∙ sym (get_or-set_same (sums_of marks places) c z d at_old)
        ∙ ap (λ j. get_or (set (sums_of marks places) c z) j d) (sym same)
    by k d h (inr other) =
        let at_new : k < length (set places c z) = omega (arith, h, length-set places c z) in
        sums_at next (set places c z) k d at_new
        ∙ with_mark k (is_marked marks k) (marked k ∙ ap (λ b. is_marked marks k || b) (ne_eqb k c other)
        ∙ or-false (is_marked marks k))
        ∙ ap (λ x. cond (is_marked marks k) x (pos 0)) (get_or-set_other places c k z (pos 0) other)
        ∙ sym (sums_at marks places k d h)
        ∙ sym (get_or-set_other (sums_of marks places) c k z d other)

-- the marks after one more is set
pub mark_set : (marks : List ℕ) (c w : ℕ) → c / 64 < length marks → w ≡ get_or marks (c / 64) 0
    → (k : ℕ) → is_marked (set marks (c / 64) (bit_or w (1 * 2 ^ (c % 64) % 2 ^ 64))) k ≡ (is_marked marks k || (k == c))
mark_set marks c w lt is k = by (cases_eq (k / 64) (c / 64)) (cases_eq (k % 64) (c % 64))
  where
    new : ℕ
    new = bit_or w (1 * 2 ^ (c % 64) % 2 ^ 64)

    same_number : k / 64 ≡ c / 64 → k % 64 ≡ c % 64 → k ≡ c
    same_number x y = omega (arith, x, y)

    by : (k / 64 ≡ c / 64) ⊎ (k / 64 ≡ c / 64 → ⊥) → (k % 64 ≡ c % 64) ⊎ (k % 64 ≡ c % 64 → ⊥)
        → is_marked (set marks (c / 64) new) k ≡ (is_marked marks k || (k == c))
    by (inl x) (inl y) =
        let here : get_or (set marks (c / 64) new) (k / 64) 0 ≡ new = ap (λ j. get_or (set marks (c / 64) new) j 0) x
        ∙ get_or-set_same marks (c / 64) new 0 lt in
        let is_set : bit_at new (k % 64) ≡ 1 = ap (bit_at new) y ∙ bit_at_set_same w64 w (c % 64) (omega arith) in
        ap (λ n. bit_at n (k % 64) == 1) here ∙ ap (λ b. b == 1) is_set
        ∙ sym (ap (λ b. is_marked marks k || b) (eq-eqb k c (same_number x y)) ∙ or_true (is_marked marks k))
    by (inl x) (inr n) =
        let here : get_or (set marks (c / 64) new) (k / 64) 0 ≡ new = ap (λ j. get_or (set marks (c / 64) new) j 0) x
        ∙ get_or-set_same marks (c / 64) new 0 lt in
        let other : bit_at new (k % 64) ≡ bit_at w (k % 64) = bit_at_set_other w64 w (c % 64) (omega arith) (k % 64) n in
        ap (λ m. bit_at m (k % 64) == 1) here ∙ ap (λ b. b == 1) other
        ∙ ap (λ m. bit_at m (k % 64) == 1) (is ∙ ap (λ j. get_or marks j 0) (sym x))
        ∙ sym (or-false (is_marked marks k))
        ∙ sym (ap (λ b. is_marked marks k || b) (ne_eqb k c (λ e. n (ap (λ j. j % 64) e))))
    by (inr n) y =
        ap (λ m. bit_at m (k % 64) == 1) (get_or-set_other marks (c / 64) (k / 64) new 0 n)
        ∙ sym (or-false (is_marked marks k))
        ∙ sym (ap (λ b. is_marked marks k || b) (ne_eqb k c (λ e. n (ap (λ j. j / 64) e))))

-- setting one more mark keeps the marks valid
pub marks_more : (marks : List ℕ) (c w n : ℕ) → c < n → c / 64 < length marks → w ≡ get_or marks (c / 64) 0 → AreMarks marks n
    → AreMarks (set marks (c / 64) (bit_or w (1 * 2 ^ (c % 64) % 2 ^ 64))) n
marks_more marks c w n lt word is are = record {
  room = omega (arith, are.room, length-set marks (c / 64) (bit_or w (1 * 2 ^ (c % 64) % 2 ^ 64)));
  within = λ k e. by k (cases_eq k c) (sym (mark_set marks c w word is k) ∙ e);
  few = are.few;
}
  where
    by : (k : ℕ) → (k ≡ c) ⊎ (k ≡ c → ⊥) → (is_marked marks k || (k == c)) ≡ true → k < n
    by k (inl same) e = omega (arith, same, lt)
    by k (inr other) e = are.within k (sym (or-false (is_marked marks k)) ∙ ap (λ b. is_marked marks k || b) (sym (ne_eqb k c other)) ∙ e)

-- sums of 0 give no holdings
pub holdings_skip : (sums : List ℤ) (a d : ℕ) → ((k : ℕ) → a ≤ k → k < a + d → get_or sums k (pos 0) ≡ pos 0)
    → holdings_from sums (a + d) ≡ holdings_from sums a
holdings_skip sums a zero h = let same : a + 0 ≡ a = omega arith in ap (holdings_from sums) same
holdings_skip sums a (suc d) h =
    let here : is_held (holding_at sums (a + d)) ≡ false = is_held-eq (holding_at sums (a + d)) (h (a + d) (omega arith) (omega arith)) in
    let next : a + suc d ≡ a + d + 1 = omega arith in
    ap (holdings_from sums) next
    ∙ filter_of_map_range_with_len_more is_held (holding_at sums) 0 (a + d) (a + d) (omega arith)
    ∙ ap (λ b. holdings_from sums (a + d) ++ cond b (holding_at sums (a + d) ∷ []) []) here
    ∙ append-nil (holdings_from sums (a + d))
    ∙ holdings_skip sums a d (λ k x y. h k x (omega (arith, y)))

-- ---- the numbers of a word, from its lowest mark up

tz_zero : trailing_zeros w64 0 ≡ 64
unfolding count_trailing_zeros
tz_zero = refl

no_one : {P : Type 0} → nothing ≡ 1 → P
unfolding nothing
no_one e = cc

-- no bit below the lowest mark is set, and the lowest mark is at most 64
pub below_lowest : (n : ℕ) → n < 2 ^ 64 → (i : ℕ) → i < trailing_zeros w64 n → bit_at n i ≡ 0
below_lowest n fits i h = by (cases_eq n 0)
  where
    by : (n ≡ 0) ⊎ (n ≡ 0 → ⊥) → bit_at n i ≡ 0
    by (inl e) = ap (λ m. bit_at m i) e ∙ bit_at-zero i
    by (inr ne) = (bit_at-trailing_zeros w64 n (omega (arith, ne)) fits).2 i h

pub lowest_le : (n : ℕ) → n < 2 ^ 64 → trailing_zeros w64 n ≤ 64
lowest_le n fits = by (cases_eq n 0)
  where
    by : (n ≡ 0) ⊎ (n ≡ 0 → ⊥) → trailing_zeros w64 n ≤ 64
    by (inl e) = let z : trailing_zeros w64 n ≡ 64 = ap (trailing_zeros w64) e ∙ tz_zero in omega (arith, z)
    by (inr ne) = let z = (bit_at-trailing_zeros w64 n (omega (arith, ne)) fits).0 in omega (arith, z)

-- after a word's lowest mark is cleared, the lowest mark is higher
pub next_lowest : (n m : ℕ) → 0 < n → n < 2 ^ 64 → m < 2 ^ 64
    → m ≡ bit_and n (bit_not w64 (1 * 2 ^ trailing_zeros w64 n % 2 ^ 64)) → trailing_zeros w64 n < trailing_zeros w64 m
unfolding nothing
next_lowest n m some fits small is = by (cases_eq m 0)
  where
    t : ℕ
    t = trailing_zeros w64 n

    low : (t < 64) × (bit_at n t ≡ 1) × ((i : ℕ) → i < t → bit_at n i ≡ 0)
    low = bit_at-trailing_zeros w64 n some fits

    same : (i : ℕ) → i < 64 → (i ≡ t → ⊥) → bit_at m i ≡ bit_at n i
    same i h ne = ap (λ x. bit_at x i) is ∙ bit_at_clear_other w64 n t low.0 i h ne

    gone : bit_at m t ≡ 0
    gone = ap (λ x. bit_at x t) is ∙ bit_at_clear_same w64 n t low.0

    by : (m ≡ 0) ⊎ (m ≡ 0 → ⊥) → t < trailing_zeros w64 m
    by (inl e) = let z : trailing_zeros w64 m ≡ 64 = ap (trailing_zeros w64) e ∙ tz_zero in let lt = low.0 in omega (arith, z, lt)
    by (inr ne) = or_less (cases_lt t (trailing_zeros w64 m))
      where
        high : (trailing_zeros w64 m < 64) × (bit_at m (trailing_zeros w64 m) ≡ 1)
            × ((i : ℕ) → i < trailing_zeros w64 m → bit_at m i ≡ 0)
        high = bit_at-trailing_zeros w64 m (omega (arith, ne)) small

        at : (u : ℕ) → u ≡ trailing_zeros w64 m → u ≤ t → (u ≡ t) ⊎ (u ≡ t → ⊥) → ⊥
        at u e le (inl here) = no_one (sym gone ∙ ap (bit_at m) (sym here ∙ e) ∙ high.1)
        at u e le (inr other) =
            let lt : u < t = omega (arith, le, other) in
            let within : u < 64 = let z = low.0 in omega (arith, lt, z) in
            no_one (sym (low.2 u lt) ∙ sym (same u within other) ∙ ap (bit_at m) e ∙ high.1)

        or_less : (t < trailing_zeros w64 m) ⊎ (trailing_zeros w64 m ≤ t) → t < trailing_zeros w64 m
        or_less (inl h) = h
        or_less (inr h) = absurd (at (trailing_zeros w64 m) refl h (cases_eq (trailing_zeros w64 m) t))

-- the other marks do not change
pub cleared_same : (n m t i : ℕ) → t < 64 → m ≡ bit_and n (bit_not w64 (1 * 2 ^ t % 2 ^ 64)) → i < 64 → t < i
    → bit_at m i ≡ bit_at n i
cleared_same n m t i within is h lt =
    ap (λ x. bit_at x i) is ∙ bit_at_clear_other w64 n t within i h (λ e. let z : t < t = omega (arith, lt, e) in omega (arith, z))

module _ (marks : List ℕ) (places : List ℤ) where
  mark_at : (w i : ℕ) → i < 64 → is_marked marks (64 * w + i) ≡ (bit_at (get_or marks w 0) i == 1)
  mark_at w i h =
      let word : (64 * w + i) / 64 ≡ w = omega (arith, h) in
      let place : (64 * w + i) % 64 ≡ i = omega (arith, h) in
      ap (λ j. bit_at (get_or marks j 0) ((64 * w + i) % 64) == 1) word ∙ ap (λ j. bit_at (get_or marks w 0) j == 1) place

  pub marked_within : (w i : ℕ) → i < 64 → AreMarks marks (length places) → bit_at (get_or marks w 0) i ≡ 1
      → 64 * w + i < length places
  marked_within w i h are e = are.within (64 * w + i) (mark_at w i h ∙ ap (λ b. b == 1) e)

  unmarked : (k : ℕ) → is_marked marks k ≡ false → get_or (sums_of marks places) k (pos 0) ≡ pos 0
  unmarked k e = by (cases_lt k (length places))
    where
      by : (k < length places) ⊎ (length places ≤ k) → get_or (sums_of marks places) k (pos 0) ≡ pos 0
      by (inl h) = sums_at marks places k (pos 0) h ∙ ap (λ b. cond b (get_or places k (pos 0)) (pos 0)) e
      by (inr h) = get_or_past (sums_of marks places) k (pos 0) (omega (arith, h, sums_long marks places))

  marked : (k : ℕ) → k < length places → is_marked marks k ≡ true
      → get_or (sums_of marks places) k (pos 0) ≡ get_or places k (pos 0)
  marked k h e = sums_at marks places k (pos 0) h ∙ ap (λ b. cond b (get_or places k (pos 0)) (pos 0)) e

  -- numbers of a word without a mark give no holdings
  skip : (w a u : ℕ) → a ≤ u → u ≤ 64 → ((i : ℕ) → a ≤ i → i < u → bit_at (get_or marks w 0) i ≡ 0)
      → holdings_from (sums_of marks places) (64 * w + u) ≡ holdings_from (sums_of marks places) (64 * w + a)
  skip w a u le short none =
      let up : 64 * w + u ≡ 64 * w + a + (u - a) = omega (arith, le) in
      ap (holdings_from (sums_of marks places)) up
      ∙ holdings_skip (sums_of marks places) (64 * w + a) (u - a)
      (λ k x y. zero_at k (k - 64 * w) (omega (arith, x)) (omega (arith, x)) (omega (arith, x, y, le)))
    where
      zero_at : (k i : ℕ) → k ≡ 64 * w + i → a ≤ i → i < u → get_or (sums_of marks places) k (pos 0) ≡ pos 0
      zero_at k i is x y =
          let h : i < 64 = omega (arith, y, short) in
          unmarked k (ap (is_marked marks) is ∙ mark_at w i h ∙ ap (λ b. b == 1) (none i x y))

  -- the numbers below a word's lowest mark give no holdings
  pub word_begun : (w u : ℕ) → u ≤ 64 → ((i : ℕ) → i < u → bit_at (get_or marks w 0) i ≡ 0)
      → held_below marks places (64 * w + u) ≡ held_below marks places (64 * w)
  word_begun w u short none =
      let same : 64 * w + 0 ≡ 64 * w = omega arith in
      ap (map kept_holding) (skip w 0 u (omega arith) short (λ i x y. none i y) ∙ ap (holdings_from (sums_of marks places)) same)

  -- from one mark to the next
  pub word_step : (w t u : ℕ) → t < u → u ≤ 64 → AreMarks marks (length places) → bit_at (get_or marks w 0) t ≡ 1
      → ((i : ℕ) → t < i → i < u → bit_at (get_or marks w 0) i ≡ 0)
      → held_below marks places (64 * w + u) ≡ held_below marks places (64 * w + t)
      ++ map kept_holding (held_part (64 * w + t) (get_or places (64 * w + t) (pos 0)))
  word_step w t u lt short are is none =
      let h : t < 64 = omega (arith, lt, short) in
      let within : 64 * w + t < length places = marked_within w t h are is in
      let up : 64 * w + (t + 1) ≡ 64 * w + t + 1 = omega arith in
      let net : get_or (sums_of marks places) (64 * w + t) (pos 0) ≡ get_or places (64 * w + t) (pos 0) =
      marked (64 * w + t) within (mark_at w t h ∙ ap (λ b. b == 1) is) in
      ap (map kept_holding)
      (skip w (t + 1) u (omega (arith, lt)) short (λ i x y. none i (omega (arith, x)) y)
      ∙ ap (holdings_from (sums_of marks places)) up
      ∙ filter_of_map_range_with_len_more is_held (holding_at (sums_of marks places)) 0 (64 * w + t) (64 * w + t) (omega arith)
      ∙ ap (λ z. holdings_from (sums_of marks places) (64 * w + t) ++ held_part (64 * w + t) z) net)
      ∙ map-append kept_holding (holdings_from (sums_of marks places) (64 * w + t))
      (held_part (64 * w + t) (get_or places (64 * w + t) (pos 0)))

  module _ (w n : ℕ) (are : AreMarks marks (length places)) (fits : n < 2 ^ 64) (some : 0 < n)
      (same : (i : ℕ) → trailing_zeros w64 n ≤ i → i < 64 → bit_at n i ≡ bit_at (get_or marks w 0) i) where
    t : ℕ
    t = trailing_zeros w64 n

    low : t < 64
    unfolding t
    low = (bit_at-trailing_zeros w64 n some fits).0

    mark_is : bit_at (get_or marks w 0) t ≡ 1
    unfolding t
    mark_is = sym (same t (omega arith) low) ∙ (bit_at-trailing_zeros w64 n some fits).1

    -- the lowest remaining mark is the mark of an existing number
    pub lowest_marked : 64 * w + trailing_zeros w64 n < length places
    unfolding t
    lowest_marked = marked_within w t low are mark_is

    module _ (m : ℕ) (small : m < 2 ^ 64) (is : m ≡ bit_and n (bit_not w64 (1 * 2 ^ trailing_zeros w64 n % 2 ^ 64))) where
      up : t < trailing_zeros w64 m
      unfolding t
      up = next_lowest n m some fits small is

      stays : (i : ℕ) → t < i → i < 64 → bit_at m i ≡ bit_at (get_or marks w 0) i
      unfolding t
      stays i x y = cleared_same n m t i low is y x ∙ same i (omega (arith, x)) y

      pub marks_left : (i : ℕ) → trailing_zeros w64 m ≤ i → i < 64 → bit_at m i ≡ bit_at (get_or marks w 0) i
      marks_left i x y = stays i (omega (arith, up, x)) y

      pub held_more : (held next : List Holding) → held ≡ held_below marks places (64 * w + trailing_zeros w64 n)
          → next ≡ held ++ map kept_holding
          (held_part (64 * w + trailing_zeros w64 n) (get_or places (64 * w + trailing_zeros w64 n) (pos 0)))
          → next ≡ held_below marks places (64 * w + trailing_zeros w64 m)
      unfolding t
      held_more held next before pushed =
          pushed ∙ ap (λ hs. hs ++ map kept_holding (held_part (64 * w + t) (get_or places (64 * w + t) (pos 0)))) before
          ∙ sym (word_step w t (trailing_zeros w64 m) up (lowest_le m small) are mark_is
          (λ i x y. let h : i < 64 = (let z = lowest_le m small in omega (arith, y, z)) in sym (stays i x h) ∙ below_lowest m small i y))

  -- no mark remains
  pub word_done : (w n : ℕ) (held : List Holding) → n ≡ 0 → held ≡ held_below marks places (64 * w + trailing_zeros w64 n)
      → held ≡ held_below marks places (64 * w + 64)
  word_done w n held none is = is ∙ ap (λ j. held_below marks places (64 * w + j)) (ap (trailing_zeros w64) none ∙ tz_zero)

  -- the sum of a number, marked or not, from the word with its mark
  pub sum_marked : (k word : ℕ) (n : ℤ) → k < length places → word ≡ get_or marks (k / 64) 0
      → (bit_at word (k % 64) == 1) ≡ true → n ≡ get_or places k (pos 0)
      → n ≡ get_or (sums_of marks places) k (pos 0)
  sum_marked k word n h is e at = at ∙ sym (marked k h (ap (λ w. bit_at w (k % 64) == 1) (sym is) ∙ e))

  pub sum_unmarked : (k word : ℕ) → word ≡ get_or marks (k / 64) 0 → (bit_at word (k % 64) == 1) ≡ false
      → pos 0 ≡ get_or (sums_of marks places) k (pos 0)
  sum_unmarked k word is e = sym (unmarked k (ap (λ w. bit_at w (k % 64) == 1) (sym is) ∙ e))

  -- all numbers
  pub all_below : (n : ℕ) → length places ≤ n
      → held_below marks places n ≡ map kept_holding (holdings_from (sums_of marks places) (length (sums_of marks places)))
  all_below n h =
      let long = sums_long marks places in
      let up : n ≡ length (sums_of marks places) + (n - length (sums_of marks places)) = omega (arith, h, long) in
      ap (λ m. map kept_holding (holdings_from (sums_of marks places) m)) up
      ∙ ap (map kept_holding) (holdings_skip (sums_of marks places) (length (sums_of marks places)) (n - length (sums_of marks places))
      (λ k x y. get_or_past (sums_of marks places) k (pos 0) x))
