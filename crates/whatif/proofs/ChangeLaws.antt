-- The sum of the changes of an order, and when there are no changes.
use Rattle.std.proofs.Common.{◌≡◌, ◌∙◌, ℕ, Bool, true, false, cond, List, [], ◌∷◌, ◌++◌, filter, flat_map, length, refl, sym, ap, arith}
use Rattle.std.specs.Prelude.{not, ℤ, pos, ◌-ℤ◌}
use Rattle.std.specs.List.{range_with_len}
use Rattle.std.specs.Ordering.{int_eq}
use Rattle.std.proofs.lemmas.Bool.Decides.{Decides-int_eq}
use Rattle.std.proofs.lemmas.Int.{ints}
use Rattle.span_money.specs.Numbers.{int_sum_by}
use Rattle.span_tables.proofs.SumLaws.{int_sum_by-cons, int_sum_by-if}
use Rattle.span_money.specs.LineFields.{line}
use Rattle.span_tables.specs.Tables.{AcceptedTables}
use Rattle.inter_credit.specs.OptionValue.{due_of}
use Rattle.binding.specs.OrderBinding.{TriedOrder}
use Rattle.plan_ir.specs.Figures.{figures_of, option_value_of, total_to}
use Rattle.statement_text.specs.Statement.{total_of}
use Rattle.whatif.specs.Whatif.{change_line, changed_by, due_at, order_line, order_text, requirement_at}

int_eq_refl : (x : ℤ) → int_eq x x ≡ true
int_eq_refl x = (Decides-int_eq x x).1 refl

same_if : (x y : ℤ) → not (int_eq x y) ≡ false → x ≡ y
same_if x y e = (Decides-int_eq x y).0 (not_false (int_eq x y) e) where
  not_false : (b : Bool) → not b ≡ false → b ≡ true
  not_false true e = refl
  not_false false e = cc

module _ (f g : ℕ → ℤ) where
  abbrev apart : ℕ → Bool
  apart c = not (int_eq (f c) (g c))

  abbrev difference : ℕ → ℤ
  difference c = g c -ℤ f c

  difference_if : (b : Bool) (c : ℕ) → apart c ≡ b → difference c ≡ cond b (difference c) (pos 0)
  difference_if true c e = refl
  difference_if false c e = let same = same_if (f c) (g c) e in omega (arith, ints, same)

  -- the sum of the differences where two values differ is the difference of the sums
  sum_of_differences : (xs : List ℕ)
      → int_sum_by difference (filter apart xs) ≡ int_sum_by g xs -ℤ int_sum_by f xs
  sum_of_differences [] = refl
  sum_of_differences (c ∷ xs) =
      let split = int_sum_by-if difference (apart c) c (filter apart xs) in
      let here = difference_if (apart c) c refl in
      let rest = sum_of_differences xs in
      let all_before = int_sum_by-cons f c xs in
      let all_after = int_sum_by-cons g c xs in
      omega (arith, ints, split, here, rest, all_before, all_after)

  none_differ : ((c : ℕ) → f c ≡ g c) → (xs : List ℕ) → filter apart xs ≡ []
  none_differ same [] = refl
  none_differ same (c ∷ xs) =
      let equal : int_eq (f c) (g c) ≡ true = ap (int_eq (f c)) (sym (same c)) ∙ int_eq_refl (f c) in
      ap (λ b. cond (not b) (c ∷ filter apart xs) (filter apart xs)) equal ∙ none_differ same xs

module _ (t : AcceptedTables) (o : TriedOrder) where
  pub changes_add_up : int_sum_by (λ c. requirement_at t o.after c -ℤ requirement_at t o.before c) (changed_by t o)
      ≡ total_of t o.after -ℤ total_of t o.before
  unfolding total_to
  changes_add_up = sum_of_differences (requirement_at t o.before) (requirement_at t o.after) (range_with_len 0 (length t.commodities))

  pub nothing_changes : o.after.holdings ≡ o.before.holdings → changed_by t o ≡ []
  nothing_changes same =
      none_differ (requirement_at t o.before) (requirement_at t o.after)
      (λ c. ap (λ holdings. (figures_of t holdings c).requirement) (sym same)) (range_with_len 0 (length t.commodities))

  -- an order that changes no holding has only its last line
  pub line_alone : o.after.holdings ≡ o.before.holdings → order_text t o ≡ line (order_line t o)
  unfolding order_text
  line_alone same = ap (λ cs. flat_map (λ c. line (change_line t o c)) cs ++ line (order_line t o)) (nothing_changes same)

  same_total : o.after.holdings ≡ o.before.holdings → total_of t o.after ≡ total_of t o.before
  same_total same = ap (λ holdings. total_to t holdings (length t.commodities)) same

  no_more : (x y : ℤ) → x ≡ y → x -ℤ y ≡ pos 0
  no_more x y e = omega (arith, ints, e)

  pub total_stays : o.after.holdings ≡ o.before.holdings → total_of t o.after -ℤ total_of t o.before ≡ pos 0
  total_stays same = no_more (total_of t o.after) (total_of t o.before) (same_total same)

  pub due_stays : o.after.holdings ≡ o.before.holdings → due_at t o.after -ℤ due_at t o.before ≡ pos 0
  due_stays same =
      no_more (due_at t o.after) (due_at t o.before) (λ k. pos (due_of (same_total same k) (option_value_of t (same k))))
