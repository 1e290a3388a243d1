-- An account that holds nothing.
use Rattle.std.proofs.Common.{◌≡◌, ◌∙◌, ℕ, zero, suc, ◌+◌, ◌<◌, Bool, true, false, cond, List, [], ◌∷◌, length, refl, sym, ap, arith}
use Rattle.std.specs.Prelude.{◌==◌, not, ℤ, pos}
use Rattle.std.specs.List.{range_with_len}
use Rattle.std.proofs.lemmas.Int.{ints}
use Rattle.std.proofs.lemmas.Bool.Decides.{nat_tests}
use Rattle.span_money.specs.Numbers.{int_sum_by}
use Rattle.span_tables.proofs.SumLaws.{int_sum_by-cons}
use Rattle.span_tables.specs.Net.{AccountHoldings, HeldContract, held_of}
use Rattle.span_tables.specs.Tables.{AcceptedTables, facts_in}
use Rattle.inter_credit.specs.OptionValue.{due_of}
use Rattle.plan_ir.specs.Figures.{figures_of, held_at, is_commodity_held, net_value_at, option_value_of, total_to, value_to}
use Rattle.step_scheduler.proofs.NothingLemmas.{figures_of_nothing, no_value}
use Rattle.statement_text.specs.Statement.{total_of}
use Rattle.whatif.specs.Whatif.{due_at, requirement_at}

-- a sum of zeros is 0
sum_of_none : (f : ℕ → ℤ) (end : ℕ) → ((c : ℕ) → c < end → f c ≡ pos 0) → (a n : ℕ) → end ≡ a + n
    → int_sum_by f (range_with_len a n) ≡ pos 0
sum_of_none f end none a zero to = refl
sum_of_none f end none a (suc n) to =
    let all = int_sum_by-cons f a (range_with_len (a + 1) n) in
    let here = none a (omega (arith, to)) in
    let rest = sum_of_none f end none (a + 1) n (omega (arith, to)) in
    omega (arith, ints, all, here, rest)

none_held : (held : List HeldContract) → not (length held == 0) ≡ false → held ≡ []
none_held [] e = refl
none_held (h ∷ held) e =
    let some : (length (h ∷ held) == 0) ≡ false = grind (arith, nat_tests) in
    let apart : true ≡ false = sym (ap not some) ∙ e in
    cc

module _ (t : AcceptedTables) where
  -- a commodity without held contracts has no requirement
  pub unheld_requires_nothing : (p : AccountHoldings) (c : ℕ) → c < length t.commodities → is_commodity_held t p.holdings c ≡ false
      → requirement_at t p c ≡ pos 0
  unheld_requires_nothing p c lt unheld =
      ap (λ figures. figures.requirement) (figures_of_nothing t p.holdings c (none_held (held_at t p.holdings c) unheld) lt)

  nothing_at : (c : ℕ) → held_at t [] c ≡ []
  unfolding held_of
  nothing_at c = refl

  pub nothing_requires_nothing : (p : AccountHoldings) → p.holdings ≡ [] → (c : ℕ) → c < length t.commodities
      → requirement_at t p c ≡ pos 0
  nothing_requires_nothing p none c lt =
      ap (λ holdings. (figures_of t holdings c).requirement) none
      ∙ ap (λ figures. figures.requirement) (figures_of_nothing t [] c (nothing_at c) lt)

  total_of_nothing : total_to t [] (length t.commodities) ≡ pos 0
  unfolding total_to
  total_of_nothing =
      sum_of_none (λ c. (figures_of t [] c).requirement) (length t.commodities)
      (λ c lt. ap (λ figures. figures.requirement) (figures_of_nothing t [] c (nothing_at c) lt)) 0 (length t.commodities) (omega arith)

  pub nothing_totals_nothing : (p : AccountHoldings) → p.holdings ≡ [] → total_of t p ≡ pos 0
  nothing_totals_nothing p none = ap (λ holdings. total_to t holdings (length t.commodities)) none ∙ total_of_nothing

  value_of_nothing : option_value_of t [] ≡ pos 0
  unfolding value_to
  value_of_nothing = by_profile ((facts_in t).options_have_value) where
    by_profile : (b : Bool) → cond b (value_to t [] (length t.commodities)) (pos 0) ≡ pos 0
    by_profile true =
        sum_of_none (net_value_at t []) (length t.commodities) (λ c lt. no_value t [] c (nothing_at c)) 0 (length t.commodities)
        (omega arith)
    by_profile false = refl

  pub nothing_owes_nothing : (p : AccountHoldings) → p.holdings ≡ [] → due_at t p ≡ pos 0
  nothing_owes_nothing p none =
      (λ k. pos (due_of (nothing_totals_nothing p none k) (option_value_of t (none k))))
      ∙ ap (λ value. pos (due_of (pos 0) value)) value_of_nothing
