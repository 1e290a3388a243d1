-- The row of each account before its order, from the rows of what is held at places.
use Rattle.std.proofs.Common.{refl, sym, ap, ◌≡◌, ◌∙◌, ℕ, zero, suc, ◌<◌, List, [], ◌∷◌, ◌++◌, get_or, length, map, subst, arith, inl, inr}
use Rattle.std.proofs.Common.{true, Bool}
use Rattle.std.specs.Option.{option_eq}
use Rattle.std.specs.Prelude.{MatchOption, None, Option, Some, nat_eq, option_map, slice_get, slice_index_or}
use Rattle.std.specs.Arc.{arc_value}
use Rattle.std.specs.List.{list_any}
use Rattle.std.proofs.Math.Seq.{get_or-append_seam}
use Rattle.std.proofs.lemmas.Bool.{cases_Bool, cases_lt, eqb-true}
use Rattle.std.proofs.lemmas.List.{append-nil, get_or_append_left, length-append, length-map, map-append}
use Rattle.std.proofs.lemmas.List.Elements.{All-cons, All-nil}
use Rattle.std.proofs.lemmas.Option.{get_or_from_slice_get, slice_get-get_or, slice_get-map, slice_get_within}
use Rattle.indexmap.specs.IndexSet.{insert_key}
use Rattle.span_tables.specs.Holdings.{fits}
use Rattle.span_tables.specs.Net.{AccountHoldings}
use Rattle.span_tables.specs.declared.portfolios.Holding.{Holding}
use Rattle.binding.specs.OrderBinding.{TriedOrders}
use Rattle.plan_compiler.specs.Compiled.{SetView}
use Rattle.step_scheduler.specs.Rows.{RowView}
use Rattle.worker_pool.specs.Batches.{AllFit, FitsSet}
use Rattle.worker_teams.specs.near.OutcomeRows.{rows_of_accounts}
use Rattle.whatif.specs.near.Befores.{AreBefores, AreKept, AreSlots, HasSlot, IsRowOf, held_at, held_by}
use Rattle.whatif.specs.near.Orders.{no_order, order_at}
use Rattle.whatif.specs.declared.befores.Befores.{Befores}

-- ---- slots

pub same_place : (a b : Option ℕ) → option_eq nat_eq a b ≡ true → a ≡ b
same_place None None e = refl
same_place None (Some y) e = cc
same_place (Some x) None e = cc
same_place (Some x) (Some y) e = ap Some (eqb-true x y e)

-- places stay if another is inserted
pub inserted : (eq : Option ℕ → Option ℕ → Bool) (places : List (Option ℕ)) (place : Option ℕ)
    → AreKept places (insert_key eq places place)
inserted eq places place = elim (cases_Bool (list_any (eq place) places)) [
  | inl old ↦ rw (old) (record { more = []; kept = sym (append-nil places) })
  | inr new ↦ rw (new) (record { more = place ∷ []; kept = refl })
]

module _ (tried : TriedOrders) where
  -- the slot of the place of an order's portfolio
  pub slot_is : (i : ℕ) (place : Option ℕ) (places : List (Option ℕ)) (slot : ℕ) → i < length tried.orders
      → MatchOption place (option_map (λ o. o.before.holdings) (slice_get tried.orders i) ≡ Some [])
      (λ p. (p < length tried.portfolios) × (option_map (λ o. o.before) (slice_get tried.orders i) ≡ slice_get tried.portfolios p))
      → slice_get places slot ≡ Some place → HasSlot tried.portfolios places slot (order_at tried i).before.holdings
  slot_is i place places slot lt is at =
      slice_get-map (held_at tried.portfolios) places slot ∙ ap (option_map (held_at tried.portfolios)) at ∙ ap Some (held place is) where
        here : slice_get tried.orders i ≡ Some (order_at tried i)
        here = slice_get-get_or tried.orders i no_order lt

        held : (q : Option ℕ) → MatchOption q (option_map (λ o. o.before.holdings) (slice_get tried.orders i) ≡ Some [])
            (λ p. (p < length tried.portfolios) × (option_map (λ o. o.before) (slice_get tried.orders i) ≡ slice_get tried.portfolios p))
            → held_at tried.portfolios q ≡ (order_at tried i).before.holdings
        held None is = let nothing = rw here at is in cc
        held (Some p) (within, is) = ap held_by (sym (rw here at is))

  kept_at : (places later : List (Option ℕ)) (slot : ℕ) (holdings : List Holding) → HasSlot tried.portfolios places slot holdings
      → AreKept places later → HasSlot tried.portfolios later slot holdings
  kept_at places later slot holdings has kept =
      rw (kept.kept, map-append (held_at tried.portfolios) places kept.more) (stays (map (held_at tried.portfolios) places) slot has) where
        stays : (held : List (List Holding)) (k : ℕ) → slice_get held k ≡ Some holdings
            → slice_get (held ++ map (held_at tried.portfolios) kept.more) k ≡ Some holdings
        stays [] k e = cc
        stays (h ∷ held) zero e = e
        stays (h ∷ held) (suc k) e = stays held k e

  -- the orders so far keep their slots after places are appended, and the next order gets its own slot
  pub slots_more : (places later : List (Option ℕ)) (slots : List ℕ) (slot : ℕ) → AreSlots tried places slots → AreKept places later
      → HasSlot tried.portfolios later slot (order_at tried (length slots)).before.holdings → AreSlots tried later (slots ++ slot ∷ [])
  slots_more places later slots slot are kept last i lt = elim (cases_lt i (length slots)) [
    | inl before ↦
        rw (get_or_append_left slots (slot ∷ []) 0 i before)
        (kept_at places later (get_or slots i 0) (order_at tried i).before.holdings (are i before) kept)
    | inr past ↦
        let count = length-append slots (slot ∷ []) in
        let at : i ≡ length slots = omega (arith, past, lt, count) in
        rw (at, get_or-append_seam slots slot [] 0) last
  ]

-- ---- rows

module _ (set : SetView) (all : List AccountHoldings) where
  module _ (fit : AllFit set all) where
    held_fits : (place : Option ℕ) → fits (length set.tables.contracts) (held_at all place) ≡ true
    held_fits None = refl
    held_fits (Some i) = by_found (slice_get all i) refl where
      by_found : (o : Option AccountHoldings) → slice_get all i ≡ o → fits (length set.tables.contracts) (held_by o) ≡ true
      by_found None is = refl
      by_found (Some p) is = subst (FitsSet set) (get_or_from_slice_get all i p p is) (fit i p (slice_get_within all i p is))

    -- portfolios of what is held at places fit the set if all portfolios do
    pub places_fit : (places : List (Option ℕ)) (portfolios : List AccountHoldings)
        → map (λ p. p.holdings) portfolios ≡ map (held_at all) places → AllFit set portfolios
    places_fit places [] are = All-nil (FitsSet set)
    places_fit [] (p ∷ portfolios) are = cc
    places_fit (place ∷ places) (p ∷ portfolios) are =
        let own : p.holdings ≡ held_at all place = cc in
        let others : map (λ p. p.holdings) portfolios ≡ map (held_at all) places = cc in
        All-cons (FitsSet set) p portfolios (subst (λ h. fits (length set.tables.contracts) h ≡ true) (sym own) (held_fits place))
        (places_fit places portfolios others)

-- the row at a slot is of these holdings
record AreAt (set : SetView) (rows : List RowView) (slot : ℕ) (holdings : List Holding) : Type 0 where
  in_range : slot < length rows
  each : (r : RowView) → slice_get rows slot ≡ Some r → IsRowOf set holdings r

module _ (set : SetView) where
  rows_at : (portfolios : List AccountHoldings) (slot : ℕ) (holdings : List Holding)
      → slice_get (map (λ p. p.holdings) portfolios) slot ≡ Some holdings → AreAt set (rows_of_accounts set portfolios) slot holdings
  rows_at [] slot holdings has = cc
  rows_at (p ∷ portfolios) zero holdings has = record {
    in_range = omega arith;
    each = λ r is.
        let own : p.holdings ≡ holdings = cc in
        let same : ◌≡◌ {A = RowView} (record { set = set; portfolio = p }) r = cc in
        rw (← same) (record { set_is = refl; holds = own });
  }
  rows_at (p ∷ portfolios) (suc slot) holdings has =
      let rest = rows_at portfolios slot holdings has in
      record { in_range = omega (arith, rest.in_range); each = rest.each }

  pub befores_are : (tried : TriedOrders) (places : List (Option ℕ)) (portfolios : List AccountHoldings) (befores : Befores)
      → length befores.slots.items ≡ length tried.orders → AreSlots tried places befores.slots.items
      → map (λ p. p.holdings) portfolios ≡ map (held_at tried.portfolios) places
      → map arc_value befores.rows.items ≡ rows_of_accounts set portfolios → AreBefores set tried befores
  befores_are tried places portfolios befores every slots held are =
      let at : (i : ℕ) → i < length tried.orders → AreAt set (map arc_value befores.rows.items)
      (slice_index_or befores.slots.items i 0) (order_at tried i).before.holdings = λ i lt.
      rw (are) (rows_at portfolios _ _ (rw (held) (slots i (omega (arith, lt, every))))) in
      let count = length-map befores.rows.items arc_value in
      record {
        every = every;
        in_range = λ i lt. omega (arith, count, (at i lt).in_range);
        each = λ i lt. (at i lt).each;
      }
