-- A leg uses exactly what it needs of its tier's side.
use Rattle.std.proofs.Common.{◌≡◌, ℕ, ◌+◌, ◌-◌, ◌<◌, ◌≤◌, min, Bool, true, false, cond, List, [], ◌∷◌}
use Rattle.std.proofs.Common.{◌++◌, refl, sym, ap, ◌∙◌, arith, filter, sum_by}
use Rattle.std.specs.Prelude.{nat_lt, ◌&&◌}
use Rattle.std.specs.List.{AllByRecursion}
use Rattle.std.proofs.lemmas.Bool.Decides.{nat_tests}
use Rattle.std.proofs.lemmas.List.{append_assoc}
use Rattle.std.proofs.lemmas.List.Elements.{filter-append}
use Rattle.std.proofs.lemmas.List.Sums.{sum_by-append, sum_by-cons}
use Rattle.span_tables.specs.Sides.{part_on}
use Rattle.span_tables.specs.declared.sides.MarketSide.{MarketSide}
use Rattle.spread_stage.specs.Spreads.{is_in_tier, tier_side, side_before, used_of_month}
use Rattle.spread_stage.specs.Months.{MonthsRise}
use Rattle.spread_stage.specs.declared.months.MonthUnits.{MonthUnits}
use Rattle.span_tables.specs.declared.legs.MonthLeg.{MonthLeg}
use Rattle.std.proofs.lemmas.Bool.{and_right}

module _ (on : MarketSide) (leg : MonthLeg) where
  -- what a month contributes to the side
  unfoldable pub weight : MonthUnits → ℕ
  weight m = cond (is_in_tier leg m) (part_on on m.units) 0

  sum_if : (f : MonthUnits → ℕ) (b : Bool) (m : MonthUnits) (xs : List MonthUnits)
      → sum_by f (cond b (m ∷ xs) xs) ≡ cond b (f m) 0 + sum_by f xs
  sum_if f true m xs = sum_by-cons f m xs
  sum_if f false m xs = omega arith

  pub side-cons : (m : MonthUnits) (ms : List MonthUnits) → tier_side (m ∷ ms) on leg ≡ weight m + tier_side ms on leg
  unfolding weight
  side-cons m ms = sum_if (λ x. part_on on x.units) (is_in_tier leg m) m (filter (is_in_tier leg) ms)

  -- the side is the sum of what all months contribute
  pub side_is_sum : (ms : List MonthUnits) → sum_by (λ m. cond (is_in_tier leg m) (part_on on m.units) 0) ms ≡ tier_side ms on leg
  unfolding weight
  side_is_sum [] = refl
  side_is_sum (m ∷ ms) =
      let a = sum_by-cons weight m ms in let b = side-cons m ms in let d = side_is_sum ms in omega (arith, a, b, d)

  pub side-append : (xs ys : List MonthUnits) → tier_side (xs ++ ys) on leg ≡ tier_side xs on leg + tier_side ys on leg
  side-append xs ys =
      ap (sum_by (λ m. part_on on m.units)) (filter-append (is_in_tier leg) xs ys)
      ∙ sum_by-append (λ m. part_on on m.units) (filter (is_in_tier leg) xs) (filter (is_in_tier leg) ys)

  before-append : (xs ys : List MonthUnits) (p : ℕ)
      → side_before (xs ++ ys) on leg p ≡ side_before xs on leg p + side_before ys on leg p
  before-append xs ys p =
      let early : MonthUnits → Bool = λ m. is_in_tier leg m && nat_lt m.month p in
      ap (sum_by (λ m. part_on on m.units)) (filter-append early xs ys)
      ∙ sum_by-append (λ m. part_on on m.units) (filter early xs) (filter early ys)

  and_true : (a b : Bool) → b ≡ true → (a && b) ≡ a
  and_true true b e = e
  and_true false b e = refl

  -- if all months are earlier than p, the side before p is the whole side
  before_all : (xs : List MonthUnits) (p : ℕ) → AllByRecursion (λ x. x.month < p) xs
      → side_before xs on leg p ≡ tier_side xs on leg
  before_all [] p h = refl
  before_all (x ∷ xs) p h =
      let early : MonthUnits → Bool = λ m. is_in_tier leg m && nat_lt m.month p in
      let lt : x.month < p = h.0 in
      let t : nat_lt x.month p ≡ true = grind (arith, nat_tests, lt) in
      sum_if (λ m. part_on on m.units) (is_in_tier leg x && nat_lt x.month p) x (filter early xs)
      ∙ ap (λ b. cond b (part_on on x.units) 0 + side_before xs on leg p) (and_true (is_in_tier leg x) (nat_lt x.month p) t)
      ∙ ap (λ n. cond (is_in_tier leg x) (part_on on x.units) 0 + n) (before_all xs p h.1)
      ∙ sym (sum_if (λ m. part_on on m.units) (is_in_tier leg x) x (filter (is_in_tier leg) xs))

  -- if no month is earlier than p, the side before p is 0
  before_none : (xs : List MonthUnits) (p : ℕ) → AllByRecursion (λ x. p ≤ x.month) xs → side_before xs on leg p ≡ 0
  before_none [] p h = refl
  before_none (x ∷ xs) p h =
      let early : MonthUnits → Bool = λ m. is_in_tier leg m && nat_lt m.month p in
      let ge : p ≤ x.month = h.0 in
      let t : nat_lt x.month p ≡ false = grind (arith, nat_tests, ge) in
      sum_if (λ m. part_on on m.units) (is_in_tier leg x && nat_lt x.month p) x (filter early xs)
      ∙ ap (λ b. cond b (part_on on x.units) 0 + side_before xs on leg p) (and_right (is_in_tier leg x) (nat_lt x.month p) t)
      ∙ (let rest = before_none xs p h.1 in omega (arith, rest))

  later_or_same : (m : MonthUnits) (ms : List MonthUnits) → AllByRecursion (λ n. m.month < n.month) ms
      → AllByRecursion (λ n. m.month ≤ n.month) ms
  later_or_same m [] h = tt
  later_or_same m (x ∷ xs) h = (let lt : m.month < x.month = h.0 in omega arith, later_or_same m xs h.1)

  -- each month of the front is earlier than each month of the back
  Below : List MonthUnits → List MonthUnits → Type 0
  Below front back = AllByRecursion (λ m. AllByRecursion (λ x. x.month < m.month) front) back

  earlier_push : (front : List MonthUnits) (m n : MonthUnits) → AllByRecursion (λ x. x.month < n.month) front → m.month < n.month
      → AllByRecursion (λ x. x.month < n.month) (front ++ m ∷ [])
  earlier_push [] m n h lt = (lt, tt)
  earlier_push (x ∷ xs) m n h lt = (h.0, earlier_push xs m n h.1 lt)

  below_push : (front : List MonthUnits) (m : MonthUnits) (back : List MonthUnits) → Below front back
      → AllByRecursion (λ n. m.month < n.month) back → Below (front ++ m ∷ []) back
  unfolding Below
  below_push front m [] h later = tt
  below_push front m (n ∷ ns) h later = (earlier_push front m n h.0 later.0, below_push front m ns h.1 later.1)

  used_step : (b : Bool) (part needed side : ℕ)
      → cond b (min part (needed - side)) 0 + min needed side ≡ min needed (side + cond b part 0)
  used_step true part needed side = omega arith
  used_step false part needed side = omega arith

  -- what the months of the front and of the back use together
  used_rest : (needed : ℕ) (front back : List MonthUnits) → Below front back → MonthsRise back
      → sum_by (used_of_month (front ++ back) on leg needed) back + min needed (tier_side front on leg)
      ≡ min needed (tier_side front on leg + tier_side back on leg)
  unfolding Below weight
  used_rest needed front [] below rise = omega arith
  used_rest needed front (m ∷ ms) below rise =
      let rests = front ++ m ∷ ms in
      let used : MonthUnits → ℕ = used_of_month rests on leg needed in
      let side = tier_side front on leg in
      let before : side_before rests on leg m.month ≡ side =
      (let e = before-append front (m ∷ ms) m.month in
      let none = before_none (m ∷ ms) m.month (omega arith, later_or_same m ms rise.0) in
      let whole = before_all front m.month below.0 in omega (arith, e, none, whole)) in
      let all = sum_by-cons used m ms in
      let first : used m ≡ cond (is_in_tier leg m) (min (part_on on m.units) (needed - side)) 0 =
      ap (λ n. cond (is_in_tier leg m) (min (part_on on m.units) (needed - n)) 0) before in
      let step = used_step (is_in_tier leg m) (part_on on m.units) needed side in
      let ih = used_rest needed (front ++ m ∷ []) ms (below_push front m ms below.1 rise.0) rise.1 in
      let regrouped : sum_by (used_of_month ((front ++ m ∷ []) ++ ms) on leg needed) ms ≡ sum_by used ms =
      ap (λ xs. sum_by (used_of_month xs on leg needed) ms) (append_assoc front (m ∷ []) ms) in
      let front_side = side-append front (m ∷ []) in
      let last = side-cons m [] in
      let back_side = side-cons m ms in
      omega (arith, all, first, step, ih, regrouped, front_side, last, back_side)

  below_empty : (back : List MonthUnits) → Below [] back
  unfolding Below
  below_empty [] = tt
  below_empty (m ∷ ms) = (tt, below_empty ms)

  -- a leg uses what it needs, or all of its side if that is less
  pub used_all : (rests : List MonthUnits) (needed : ℕ) → MonthsRise rests
      → sum_by (used_of_month rests on leg needed) rests ≡ min needed (tier_side rests on leg)
  used_all rests needed rise =
      let all = used_rest needed [] rests (below_empty rests) rise in
      omega (arith, all)

  -- a leg uses exactly what it needs if its side has that much
  pub used_total : (rests : List MonthUnits) (needed : ℕ) → MonthsRise rests → needed ≤ tier_side rests on leg
      → sum_by (used_of_month rests on leg needed) rests ≡ needed
  used_total rests needed rise enough = let all = used_all rests needed rise in omega (arith, all, enough)

  all_back : (x : MonthUnits) (front back : List MonthUnits) → AllByRecursion (λ (n : MonthUnits). x.month < n.month) (front ++ back)
      → AllByRecursion (λ (n : MonthUnits). x.month < n.month) back
  all_back x [] back h = h
  all_back x (y ∷ front) back h = all_back x front back h.1

  below_cons : (x : MonthUnits) (front back : List MonthUnits) → AllByRecursion (λ (n : MonthUnits). x.month < n.month) back
      → Below front back → Below (x ∷ front) back
  unfolding Below
  below_cons x front [] h below = tt
  below_cons x front (m ∷ ms) h below = ((h.0, below.0), below_cons x front ms h.1 below.1)

  rise_below : (front back : List MonthUnits) → MonthsRise (front ++ back) → Below front back × MonthsRise back
  unfolding Below
  rise_below [] back rise = (below_empty back, rise)
  rise_below (x ∷ front) back rise =
      let more = rise_below front back rise.1 in
      (below_cons x front back (all_back x front back rise.0) more.0, more.1)

  -- the side before a month is the side of the months in front of it, for code that loops over the months
  pub side_before_is : (front : List MonthUnits) (m : MonthUnits) (back : List MonthUnits) → MonthsRise (front ++ m ∷ back)
      → side_before (front ++ m ∷ back) on leg m.month ≡ tier_side front on leg
  unfolding Below
  side_before_is front m back rise =
      let h = rise_below front (m ∷ back) rise in
      let e = before-append front (m ∷ back) m.month in
      let none = before_none (m ∷ back) m.month (omega arith, later_or_same m back (h.1).0) in
      let whole = before_all front m.month (h.0).0 in
      omega (arith, e, none, whole)
