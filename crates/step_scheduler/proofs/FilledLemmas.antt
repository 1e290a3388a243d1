-- The figures of held commodities are pushed in order.
use Rattle.std.proofs.Common.{◌≡◌, ℕ, ◌+◌, ◌<◌, ◌≤◌, List, [], ◌∷◌, ◌++◌, length, ap, sym, ◌∙◌, arith, slice_set, subst, inl, inr}
use Rattle.std.proofs.Common.{eqb, false, get_or-set_same, get_or-set_other, length-append, length-set, refl, true}
use Rattle.std.specs.Prelude.{not, replicate, slice_index_or}
use Rattle.std.proofs.lemmas.Bool.{cases_eq, cases_lt, false≢true, ne_eqb}
use Rattle.std.proofs.lemmas.Bool.Decides.{nat_tests}
use Rattle.std.proofs.lemmas.List.{get_or-replicate, get_or_append_left, length-replicate}
use Rattle.std.proofs.Math.Seq.{get_or-append_seam}
use Rattle.span_tables.specs.Tables.{AcceptedTables}
use Rattle.span_tables.specs.declared.limits.TheConstants.{MAX_COMMODITIES}
use Rattle.span_tables.specs.declared.portfolios.Holding.{Holding}
use Rattle.inter_credit.specs.declared.commodity_state.CommodityState.{CommodityState}
use Rattle.plan_ir.specs.Figures.{figures_from, figures_of, held_at, inter_states, is_commodity_held}
use Rattle.plan_ir.specs.Values.{no_figures}
use Rattle.plan_ir.specs.declared.figures.Figures.{Figures}
use Rattle.step_scheduler.specs.declared.held_figures.HeldFigures.{HeldFigures}
use Rattle.step_scheduler.specs.declared.run_memory.Part.{Part}
use Rattle.step_scheduler.specs.near.Figures.{AreFilled, AreHeldFigures, HasFigures, place_of}
use Rattle.step_scheduler.specs.near.Parts.{IsEnd, IsNext, IsPart, NoneHeld, figures_of_part}
use Rattle.step_scheduler.proofs.NothingLemmas.{figures_of_nothing}

-- the figures of a held commodity, computed from its part and the commodities after all spreads, are correct
pub figures_are : (t : AcceptedTables) (holdings : List Holding) (p : Part) (states : List CommodityState) → IsPart t holdings p
    → states ≡ inter_states t holdings
    → figures_of_part p states ≡ figures_of t holdings p.commodity
unfolding figures_of
figures_are t holdings p states is l =
    λ k. figures_from (is.scan k) (is.charge k) (is.delivery k) (is.minimum k) (l k) p.commodity

some_place : (n : ℕ) → 0 < n → not (eqb n 0) ≡ true
some_place n some = grind (arith, nat_tests)

no_elements : {X : Type 0} (xs : List X) → not (eqb (length xs) 0) ≡ false → xs ≡ []
no_elements [] e = refl
no_elements (x ∷ xs) e =
    absurd (false≢true (sym e ∙ ap not (ne_eqb (length (x ∷ xs)) 0 (λ some. absurd (omega (arith, some))))))

module _ (t : AcceptedTables) (holdings : List Holding) (few : length t.commodities ≤ MAX_COMMODITIES) where
  -- at the start no commodity has been pushed
  pub none_filled : (held : HeldFigures) → held.figures.items ≡ no_figures ∷ [] → held.places ≡ replicate MAX_COMMODITIES 0
      → AreFilled t holdings 0 held
  none_filled held is zero = record {
    some = omega (arith, ap length is);
    few = omega (arith, ap length is);
    rest = λ d. ap (λ xs. slice_index_or xs 0 d) is;
    long = ap length zero ∙ length-replicate {A = ℕ} MAX_COMMODITIES 0;
    done = λ c lt. absurd (omega (arith, lt));
    left = λ c le lt. ap (λ ps. slice_index_or ps c 0) zero ∙ get_or-replicate {A = ℕ} MAX_COMMODITIES c 0 0 lt;
  }

  module _ (n : ℕ) (held : HeldFigures) (before : AreFilled t holdings n held) where
    -- a commodity with index 0 has its figures if it is not held
    nothing_placed : (c : ℕ) → c < length t.commodities → place_of held c ≡ 0 → held_at t holdings c ≡ [] → HasFigures t holdings held c
    nothing_placed c lt zero none = record {
      placed = omega (arith, zero, before.some);
      right = λ d. ap (λ p. slice_index_or held.figures.items p d) zero ∙ before.rest d ∙ sym (figures_of_nothing t holdings c none lt);
      flag = ap (λ p. not (eqb p 0)) zero ∙ sym (ap (λ hs. not (eqb (length hs) 0)) none);
    }

    -- commodities that are not held are skipped
    pub filled_over : (to : ℕ) → n ≤ to → to ≤ length t.commodities → NoneHeld t holdings n to → AreFilled t holdings to held
    filled_over to le inside none = record {
      some = before.some;
      few = omega (arith, before.few, le);
      rest = before.rest;
      long = before.long;
      done = λ c below. elim (cases_lt c n) [
        | inl under ↦ before.done c under
        | inr from ↦ nothing_placed c (omega (arith, below, inside)) (before.left c from (omega (arith, below, inside, few)))
            (none c from below)
      ];
      left = λ c at lt. before.left c (omega (arith, at, le)) lt;
    }

    -- one commodity that is not held is skipped
    pub one_over : n < length t.commodities → is_commodity_held t holdings n ≡ false → AreFilled t holdings (n + 1) held
    one_over lt free =
        filled_over (n + 1) (omega arith) (omega (arith, lt))
        (λ c from below. let same : n ≡ c = omega (arith, from, below) in
        subst (λ k. held_at t holdings k ≡ []) same (no_elements (held_at t holdings n) free))

    -- the next commodity is held, and its figures are pushed
    module _ (after : HeldFigures) (f : Figures) (lt : n < length t.commodities) (right : f ≡ figures_of t holdings n)
        (some : is_commodity_held t holdings n ≡ true) (pushed : after.figures.items ≡ held.figures.items ++ f ∷ [])
        (set : after.places ≡ slice_set held.places n (length held.figures.items)) where
      longer : length after.figures.items ≡ length held.figures.items + 1
      longer = ap length pushed ∙ length-append held.figures.items (f ∷ [])

      -- figures that were pushed before do not change
      kept : (p : ℕ) (d : Figures) → p < length held.figures.items
          → slice_index_or after.figures.items p d ≡ slice_index_or held.figures.items p d
      kept p d inside = ap (λ xs. slice_index_or xs p d) pushed ∙ get_or_append_left held.figures.items (f ∷ []) d p inside

      here : place_of after n ≡ length held.figures.items
      here = ap (λ ps. slice_index_or ps n 0) set
          ∙ get_or-set_same held.places n (length held.figures.items) 0 (omega (arith, lt, few, before.long))

      elsewhere : (c : ℕ) → (c ≡ n → ⊥) → place_of after c ≡ place_of held c
      elsewhere c other = ap (λ ps. slice_index_or ps c 0) set
          ∙ get_or-set_other held.places n c (length held.figures.items) 0 other

      new_has : HasFigures t holdings after n
      new_has = record {
        placed = omega (arith, here, longer);
        right = λ d. ap (λ p. slice_index_or after.figures.items p d) here
            ∙ ap (λ xs. slice_index_or xs (length held.figures.items) d) pushed
            ∙ get_or-append_seam held.figures.items f [] d ∙ right;
        flag = ap (λ p. not (eqb p 0)) here ∙ some_place (length held.figures.items) before.some ∙ sym some;
      }

      old_has : (c : ℕ) → c < n → HasFigures t holdings after c
      old_has c below =
          let old = before.done c below in
          let same = elsewhere c (λ e. absurd (omega (arith, e, below))) in
          record {
            placed = omega (arith, same, longer, old.placed);
            right = λ d. ap (λ p. slice_index_or after.figures.items p d) same ∙ kept (place_of held c) d old.placed ∙ old.right d;
            flag = ap (λ p. not (eqb p 0)) same ∙ old.flag;
          }

      pub one_filled : AreFilled t holdings (n + 1) after
      one_filled = record {
        some = omega (arith, longer);
        few = omega (arith, longer, before.few);
        rest = λ d. kept 0 d before.some ∙ before.rest d;
        long = ap length set ∙ length-set held.places n (length held.figures.items) ∙ before.long;
        done = λ c below. elim (cases_eq c n) [
          | inl same ↦ subst (λ (j : ℕ). HasFigures t holdings after j) (sym same) new_has
          | inr other ↦ old_has c (omega (arith, below, other))
        ];
        left = λ c le inside.
            elsewhere c (λ e. absurd (omega (arith, le, e))) ∙ before.left c (omega (arith, le)) inside;
      }

  -- the figures of the next part are pushed
  pub part_filled : (p : Part) (states : List CommodityState) (from : ℕ) (before after : HeldFigures) (f : Figures)
      → IsNext t holdings from p.commodity → IsPart t holdings p → states ≡ inter_states t holdings
      → AreFilled t holdings from before → f ≡ figures_of_part p states → after.figures.items ≡ before.figures.items ++ f ∷ []
      → after.places ≡ slice_set before.places p.commodity (length before.figures.items)
      → AreFilled t holdings (p.commodity + 1) after
  part_filled p states from before after f next is l filled e pushed set =
      let over = filled_over from before filled p.commodity next.behind (omega (arith, next.known)) next.none in
      one_filled p.commodity before over after f next.known (e ∙ figures_are t holdings p states is l) next.held pushed set

  -- if no held commodity is left, all commodities have their figures
  pub all_filled : (from : ℕ) (held : HeldFigures) → IsEnd t holdings from → AreFilled t holdings from held
      → AreHeldFigures t holdings held
  all_filled from held end filled =
      let over = filled_over from held filled (length t.commodities) end.behind (omega arith) end.none in
      record { few = few; each = over.done }
