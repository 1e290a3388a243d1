-- A change of one commodity's state, and its effect on the other states.
use Rattle.std.proofs.Common.{◌≡◌, ◌≢◌, ◌+◌, ◌*◌, ◌<◌, ◌≤◌, ◌==◌, ℕ, zero, suc, Bool, List, length, get_or, drop, sym, ap, arith}
use Rattle.std.proofs.Common.{false, [], ◌∷◌, set, refl, ◌∙◌}
use Rattle.std.specs.List.{list_any}
use Rattle.std.proofs.lemmas.Bool.Decides.{nat_tests}
use Rattle.std.proofs.lemmas.List.{drop_more}
use Rattle.span_tables.specs.Names.{has_repeat}
use Rattle.span_tables.specs.Sides.{market_side, part_on}
use Rattle.span_tables.specs.declared.sides.Direction.{Direction}
use Rattle.span_tables.specs.declared.records.CommodityLeg.{CommodityLeg}
use Rattle.inter_credit.specs.Credits.{change_at, state_at, rest_at}
use Rattle.inter_credit.specs.near.Rooms.{HaveRoom}
use Rattle.inter_credit.specs.declared.commodity_state.CommodityState.{CommodityState}
use Rattle.std.proofs.lemmas.Bool.{or_parts}

-- a change at an index is a write at that index
change_at_set : {A : Type 0} (f : A → A) (i : ℕ) (xs : List A) (d : A) → set xs i (f (get_or xs i d)) ≡ change_at f i xs
change_at_set f i [] d = refl
change_at_set f zero (x ∷ xs) d = refl
change_at_set f (suc i) (x ∷ xs) d = ap (λ ys. x ∷ ys) (change_at_set f i xs d)

pub change_from_set : {A : Type 0} (f : A → A) (i : ℕ) (xs : List A) (x v : A) → x ≡ get_or xs i x → v ≡ f x
    → set xs i v ≡ change_at f i xs
change_from_set f i xs x v at e = rw e (ap (λ y. set xs i (f y)) at ∙ change_at_set f i xs x)

pub length-change_at : {A : Type 0} (f : A → A) (i : ℕ) (xs : List A) → length (change_at f i xs) ≡ length xs
length-change_at f i [] = refl
length-change_at f zero (x ∷ xs) = refl
length-change_at f (suc i) (x ∷ xs) = ap suc (length-change_at f i xs)

-- the states of other commodities do not change
pub state_at-change_at : (f : CommodityState → CommodityState) (i k : ℕ) (states : List CommodityState) → i ≢ k
    → state_at (change_at f i states) k ≡ state_at states k
state_at-change_at f i k [] ne = refl
state_at-change_at f zero zero (state ∷ states) ne = absurd (ne refl)
state_at-change_at f zero (suc k) (state ∷ states) ne = refl
state_at-change_at f (suc i) zero (state ∷ states) ne = refl
state_at-change_at f (suc i) (suc k) (state ∷ states) ne = state_at-change_at f i k states (λ e. ne (ap suc e))

-- the remaining delta of a commodity is the one in its state
pub rest_of_state : (states : List CommodityState) (k : ℕ) → rest_at states k ≡ (state_at states k).rest
rest_of_state [] k = refl
rest_of_state (state ∷ states) zero = refl
rest_of_state (state ∷ states) (suc k) = rest_of_state states k

-- the remaining deltas of other commodities do not change
pub rest_at-change_at : (f : CommodityState → CommodityState) (i k : ℕ) (states : List CommodityState) → i ≢ k
    → rest_at (change_at f i states) k ≡ rest_at states k
rest_at-change_at f i k states ne =
    rest_of_state (change_at f i states) k ∙ ap (λ (state : CommodityState). state.rest) (state_at-change_at f i k states ne)
    ∙ sym (rest_of_state states k)

-- a test that no element passes fails at each index
none_at : {A : Type 0} (p : A → Bool) (xs : List A) → list_any p xs ≡ false → (k : ℕ) (d : A) → k < length xs
    → p (get_or xs k d) ≡ false
none_at p [] e k d lt = absurd (omega arith)
none_at p (x ∷ xs) e zero d lt = (or_parts (p x) (list_any p xs) e).0
none_at p (x ∷ xs) e (suc k) d lt = none_at p xs (or_parts (p x) (list_any p xs) e).1 k d (omega arith)

pub not_equal : (a b : ℕ) → (a == b) ≡ false → a ≢ b
not_equal a b e = grind (arith, nat_tests)

-- one leg's use leaves the other legs the room that they had
pub HaveRoom-rest : (d : Direction) (n : ℕ) (leg : CommodityLeg) (legs : List CommodityLeg) (states : List CommodityState)
    (f : CommodityState → CommodityState)
    → HaveRoom d n (leg ∷ legs) states → HaveRoom d n legs (change_at f leg.commodity states)
HaveRoom-rest d n leg legs states f h =
    let other : CommodityLeg → Bool = λ b. leg.commodity == b.commodity in
    record {
      known = λ k e lt. rw (length-change_at f leg.commodity states) (h.known (suc k) e (omega arith));
      room = λ k e lt.
          let ne : leg.commodity ≢ (get_or legs k e).commodity =
          not_equal leg.commodity (get_or legs k e).commodity
          (none_at other legs
          (or_parts (list_any other legs) (has_repeat (λ a b. a.commodity == b.commodity) legs) h.apart).0 k e lt) in
          rw (rest_at-change_at f leg.commodity (get_or legs k e).commodity states ne) (h.room (suc k) e (omega arith));
      apart = (or_parts (list_any other legs) (has_repeat (λ a b. a.commodity == b.commodity) legs) h.apart).1;
    }

pub HaveRoom-drop : (d : Direction) (n : ℕ) (legs : List CommodityLeg) (i : ℕ) (leg : CommodityLeg) (states after : List CommodityState)
    (f : CommodityState → CommodityState)
    → i < length legs → leg ≡ get_or legs i leg → after ≡ change_at f leg.commodity states
    → HaveRoom d n (drop i legs) states → HaveRoom d n (drop (i + 1) legs) after
HaveRoom-drop d n legs i leg states after f lt at e h =
    let split : drop i legs ≡ leg ∷ drop (i + 1) legs = drop_more legs i leg lt ∙ ap (λ x. x ∷ drop (i + 1) legs) (sym at) in
    rw e (HaveRoom-rest d n leg (drop (i + 1) legs) states f (rw split at h))

-- the room of the leg at an index
pub HaveRoom-first : (d : Direction) (n : ℕ) (legs : List CommodityLeg) (i : ℕ) (leg : CommodityLeg) (states : List CommodityState)
    → i < length legs → leg ≡ get_or legs i leg → HaveRoom d n (drop i legs) states
    → n * leg.ratio ≤ part_on (market_side d leg.side) (rest_at states leg.commodity)
HaveRoom-first d n legs i leg states lt at h =
    let split : drop i legs ≡ leg ∷ drop (i + 1) legs = drop_more legs i leg lt ∙ ap (λ x. x ∷ drop (i + 1) legs) (sym at) in
    let first = rw split at h in
    first.room 0 leg (omega arith)
