-- On the meanings of the operations that it requires, each operation gives its own meaning.
use Rattle.std.proofs.Common.{◌≡◌, ℕ, zero, suc, ◌+◌, ◌-◌, ◌<◌, List, [], ◌∷◌, ◌++◌, length, map}
use Rattle.std.proofs.Common.{slice_set, refl, sym, ap, ◌∙◌, arith, pos, ℤ, ◌+ℤ◌, add-one}
use Rattle.std.specs.Prelude.{replicate}
use Rattle.std.specs.List.{range_with_len}
use Rattle.std.proofs.lemmas.List.{append_assoc, map-id, take_all}
use Rattle.std.proofs.lemmas.List.FromFn.{length-map-range_with_len, map-range_with_len_more}
use Rattle.std.proofs.lemmas.List.Sums.{fold-append, fold_more}
use Rattle.std.proofs.Math.Nat.{sub-zero}
use Rattle.std.proofs.Math.Seq.{set-append_seam}
use Rattle.span_money.specs.Numbers.{int_sum_by}
use Rattle.span_tables.specs.Tables.{AcceptedTables, inters_of}
use Rattle.span_tables.specs.declared.portfolios.Holding.{Holding}
use Rattle.spread_stage.specs.Spreads.{after_spreads, spread_both_ways, unspread}
use Rattle.inter_credit.specs.Credits.{after_inter_spreads, inter_both_ways, unspread_state}
use Rattle.plan_ir.specs.Apply.{IsOp, inter_at, intra_at, no_inter, no_intra, value_on}
use Rattle.plan_ir.specs.Figures.{deltas_at, figures_of, inter_states, intras_at, state_of, loaded_states, net_value_at, tiers_at}
use Rattle.plan_ir.specs.Figures.{total_to, value_to}
use Rattle.plan_ir.specs.declared.ops.Op.{Op}
use Rattle.plan_ir.specs.declared.ops.Op.TheVariants as op
use Rattle.plan_ir.specs.declared.values.Value.TheVariants as value
use Rattle.plan_compiler.specs.Meaning.{before_inter, before_load, before_spread, before_total, before_value, last_inter, last_tiers}
use Rattle.plan_compiler.specs.Meaning.{states_after_first, states_loaded, meaning, tiers_after, wanted}
use Rattle.plan_compiler.proofs.StageLemmas.{loaded_whole}

module _ (t : AcceptedTables) (holdings : List Holding) where
  -- ---- the operation before another one means the state before it

  pub meaning-before_spread : (c j : ℕ) → meaning t holdings (before_spread c j) ≡ value.Tiers (tiers_after t holdings c j)
  unfolding after_spreads
  meaning-before_spread c zero = refl
  meaning-before_spread c (suc j) = rw add-one refl

  pub meaning-before_load : (c : ℕ) → meaning t holdings (before_load c) ≡ value.Inter (states_loaded t holdings c)
  meaning-before_load zero = refl
  meaning-before_load (suc c) = rw add-one refl

  pub loaded_all : states_loaded t holdings (length t.commodities) ≡ states_after_first t holdings 0
  unfolding after_inter_spreads
  loaded_all = loaded_whole t holdings

  pub meaning-before_inter : (j : ℕ) → meaning t holdings (before_inter t j) ≡ value.Inter (states_after_first t holdings j)
  meaning-before_inter zero = meaning-before_load (length t.commodities) ∙ ap value.Inter loaded_all
  meaning-before_inter (suc j) = rw add-one refl

  pub meaning-before_total : (c : ℕ) → meaning t holdings (before_total c) ≡ value.Total (total_to t holdings c)
  unfolding total_to
  meaning-before_total zero = refl
  meaning-before_total (suc c) = rw add-one refl

  pub meaning-before_value : (c : ℕ) → meaning t holdings (before_value c) ≡ value.Premium (value_to t holdings c)
  unfolding value_to
  meaning-before_value zero = refl
  meaning-before_value (suc c) = rw add-one refl

  -- ---- one more step

  spread_more : (c j : ℕ) → j < length (intras_at t c)
      → spread_both_ways (tiers_after t holdings c j) (intra_at t c j) ≡ tiers_after t holdings c (j + 1)
  unfolding after_spreads
  spread_more c j lt = sym (fold_more spread_both_ways (unspread (deltas_at t holdings c)) (intras_at t c) j no_intra lt)

  inter_more : (j : ℕ) → j < length (inters_of t)
      → inter_both_ways (states_after_first t holdings j) (inter_at t j) ≡ states_after_first t holdings (j + 1)
  unfolding after_inter_spreads
  inter_more j lt = sym (fold_more inter_both_ways (loaded_states t holdings) (inters_of t) j no_inter lt)

  pub load_more : (c : ℕ) → c < length t.commodities
      → slice_set (states_loaded t holdings c) c (state_of t holdings c) ≡ states_loaded t holdings (c + 1)
  load_more c lt =
      let front = map (state_of t holdings) (range_with_len 0 c) in
      let none = unspread_state (pos 0) 0 in
      let rest = replicate (length t.commodities - (c + 1)) none in
      let one_more : length t.commodities - c ≡ suc (length t.commodities - (c + 1)) = omega arith in
      let long : length front ≡ c = length-map-range_with_len (state_of t holdings) 0 c in
      let zero_more : 0 + c ≡ c = omega arith in
      ap (λ n. slice_set (front ++ replicate n none) c (state_of t holdings c)) one_more
      ∙ ap (λ n. slice_set (front ++ none ∷ rest) n (state_of t holdings c)) (sym long)
      ∙ set-append_seam front none rest (state_of t holdings c)
      ∙ sym (append_assoc front (state_of t holdings c ∷ []) rest)
      ∙ ap (λ xs. xs ++ rest) (sym (map-range_with_len_more (state_of t holdings) 0 c c zero_more))

  -- a sum over the first numbers, plus the next one
  sum_more : (f : ℕ → ℤ) (c : ℕ) → int_sum_by f (range_with_len 0 c) +ℤ f c ≡ int_sum_by f (range_with_len 0 (c + 1))
  sum_more f c =
      let zero_more : 0 + c ≡ c = omega arith in
      let more : range_with_len 0 (c + 1) ≡ range_with_len 0 c ++ c ∷ [] =
      sym (map-id (range_with_len 0 (c + 1))) ∙ map-range_with_len_more (λ n. n) 0 c c zero_more
      ∙ ap (λ ns. ns ++ c ∷ []) (map-id (range_with_len 0 c)) in
      sym (ap (int_sum_by f) more ∙ fold-append (λ (z : ℤ) n. z +ℤ f n) (pos 0) (range_with_len 0 c) (c ∷ []))

  pub total_more : (c : ℕ) → total_to t holdings c +ℤ (figures_of t holdings c).requirement ≡ total_to t holdings (c + 1)
  unfolding total_to
  total_more c = sum_more (λ n. (figures_of t holdings n).requirement) c

  pub value_more : (c : ℕ) → value_to t holdings c +ℤ net_value_at t holdings c ≡ value_to t holdings (c + 1)
  unfolding value_to
  value_more c = sum_more (net_value_at t holdings) c

  all_tiers : (c : ℕ) → tiers_after t holdings c (length (intras_at t c)) ≡ tiers_at t holdings c
  all_tiers c =
      ap (λ spreads. after_spreads spreads (deltas_at t holdings c))
      (take_all (length (intras_at t c)) (intras_at t c) (omega arith))

  pub states_after_all_spreads : states_after_first t holdings (length (inters_of t)) ≡ inter_states t holdings
  unfolding inter_states
  states_after_all_spreads =
      ap (λ spreads. after_inter_spreads spreads (loaded_states t holdings))
      (take_all (length (inters_of t)) (inters_of t) (omega arith))

  pub meaning-last_tiers : (c : ℕ) → meaning t holdings (last_tiers t c) ≡ value.Tiers (tiers_at t holdings c)
  meaning-last_tiers c = meaning-before_spread c (length (intras_at t c)) ∙ ap value.Tiers (all_tiers c)

  pub meaning-last_inter : meaning t holdings (last_inter t) ≡ value.Inter (inter_states t holdings)
  meaning-last_inter = meaning-before_inter (length (inters_of t)) ∙ ap value.Inter states_after_all_spreads

  -- ---- each operation

  pub gives_meaning : (o : Op) → IsOp t o → value_on t holdings o (map (meaning t holdings) (wanted t o)) ≡ meaning t holdings o
  unfolding figures_of
  gives_meaning (op.Spread c j) known = rw (meaning-before_spread c j) (ap value.Tiers (spread_more c j known.1))
  gives_meaning (op.Delivery c) known = rw (meaning-last_tiers c) refl
  gives_meaning (op.Final c) known = rw (meaning-last_tiers c, meaning-last_inter) refl
  gives_meaning op.InterStart known = rw sub-zero refl
  gives_meaning (op.InterLoad c) known = rw (meaning-before_load c) (ap value.Inter (load_more c known))
  gives_meaning (op.InterSpread j) known = rw (meaning-before_inter j) (ap value.Inter (inter_more j known))
  gives_meaning (op.TotalAdd c) known = rw (meaning-before_total c) (ap value.Total (total_more c))
  gives_meaning (op.ValueAdd c) known = rw (meaning-before_value c) (ap value.Premium (value_more c))
  gives_meaning o known = refl
