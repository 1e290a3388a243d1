-- The fields of the legs of a spread's record.
use Rattle.std.proofs.Common.{◌≡◌, ◌<◌, ◌≤◌, ◌+◌, ◌*◌, ◌∙◌, ◌&&◌, sym, refl, ap, append_assoc, arith, zero, suc, ℕ, Bool, true, false}
use Rattle.std.proofs.Common.{List, [], ◌∷◌, ◌++◌, length, length-append, drop, map}
use Rattle.std.specs.List.{list_all, repeat}
use Rattle.std.proofs.lemmas.Bool.{and_parts, and_from}
use Rattle.std.proofs.lemmas.List.{append-nil, at_drop_all, at_drop_more}
use Rattle.span_csv.specs.near.Grammar.{is_right, leg_at}
use Rattle.span_csv.specs.Records.{Fields, all_have, legs_of, text_at}
use Rattle.span_csv.specs.declared.grammar.FieldForm.{FieldForm}
use Rattle.span_csv.proofs.FormLemmas.{all_have-append}

-- the fields of all legs pass exactly if the fields of each leg do
pub legs_right : (a b c : FieldForm) (k : ℕ) (xs : Fields) → length xs ≡ k * 3
    → all_have is_right (repeat k (a ∷ b ∷ c ∷ [])) xs ≡ list_all (all_have is_right (a ∷ b ∷ c ∷ [])) (legs_of xs)
legs_right a b c zero [] len = refl
legs_right a b c zero (x ∷ xs) len = absurd (omega (arith, len))
legs_right a b c (suc k) [] len = absurd (omega (arith, len))
legs_right a b c (suc k) (x ∷ []) len = absurd (omega (arith, len))
legs_right a b c (suc k) (x ∷ y ∷ []) len = absurd (omega (arith, len))
legs_right a b c (suc k) (x ∷ y ∷ z ∷ xs) len =
    let leg = a ∷ b ∷ c ∷ [] in
    all_have-append is_right leg (repeat k leg) (x ∷ y ∷ z ∷ xs)
    ∙ ap (λ rest. all_have is_right leg (x ∷ y ∷ z ∷ []) && rest) (legs_right a b c k xs (omega (arith, len)))

-- a property that follows from the forms of one leg's fields is true of all legs
pub legs_all : (p : Fields → Bool) (a b c : FieldForm)
    → ((x y z : List ℕ) → is_right a x ≡ true → is_right c z ≡ true → p (x ∷ y ∷ z ∷ []) ≡ true)
    → (xs : Fields) → list_all (all_have is_right (a ∷ b ∷ c ∷ [])) (legs_of xs) ≡ true → list_all p (legs_of xs) ≡ true
legs_all p a b c says [] right = refl
legs_all p a b c says (x ∷ []) right = refl
legs_all p a b c says (x ∷ y ∷ []) right = refl
legs_all p a b c says (x ∷ y ∷ z ∷ xs) right =
    let legs = and_parts (all_have is_right (a ∷ b ∷ c ∷ []) (x ∷ y ∷ z ∷ [])) _ right in
    let first = and_parts (is_right a x) (is_right b y && (is_right c z && true)) legs.0 in
    let third = and_parts (is_right c z) true (and_parts (is_right b y) (is_right c z && true) first.1).1 in
    and_from _ _ (says x y z first.0 third.0) (legs_all p a b c says xs legs.1)

-- ---- one leg after another

legs_more : (r : Fields) (at next : ℕ) → at + 2 < length r → next ≡ at + 3
    → legs_of (drop at r) ≡ leg_at r at ∷ legs_of (drop next r)
legs_more r at next inside is =
    let second : at + 1 + 1 ≡ at + 2 = omega arith in
    let behind : at + 2 + 1 ≡ next = omega (arith, is) in
    at_drop_more legs_of r at [] (omega (arith, inside))
    ∙ at_drop_more (λ xs. legs_of (text_at r at ∷ xs)) r (at + 1) [] (omega (arith, inside))
    ∙ at_drop_more (λ xs. legs_of (text_at r at ∷ text_at r (at + 1) ∷ xs)) r (at + 1 + 1) [] (omega (arith, inside))
    ∙ rw (second, behind) refl

-- the legs before an index have been read, and are right
pub record LegsRead {L : Type 0} (leg : Fields → L) (test : Fields → Bool) (from : ℕ) (r : Fields) (i : ℕ) (read : List L) : Type 0 where
  pub count : length read ≡ i
  pub left : read ++ map leg (legs_of (drop (from + 3 * i) r)) ≡ map leg (legs_of (drop from r))
  pub right : list_all test (legs_of (drop (from + 3 * i) r)) ≡ list_all test (legs_of (drop from r))

module _ {L : Type 0} (leg : Fields → L) (test : Fields → Bool) (from : ℕ) (r : Fields) where
  module _ (i : ℕ) (read : List L) (before : LegsRead leg test from r i read) where
    abbrev place : ℕ
    place = from + 3 * i

    -- the next leg's test determines the test of all
    next_right : place + 2 < length r → (test (leg_at r place) && list_all test (legs_of (drop (from + 3 * (i + 1)) r)))
        ≡ list_all test (legs_of (drop from r))
    next_right inside =
        sym (ap (list_all test) (legs_more r place (from + 3 * (i + 1)) inside (omega arith))) ∙ before.right

    -- one more leg
    pub leg_read : (x : L) → place + 2 < length r → test (leg_at r place) ≡ true → x ≡ leg (leg_at r place)
        → LegsRead leg test from r (i + 1) (read ++ x ∷ [])
    leg_read x inside passes is = record {
      count = omega (arith, length-append read (x ∷ []), before.count);
      left =
          append_assoc read (x ∷ []) (map leg (legs_of (drop (from + 3 * (i + 1)) r)))
          ∙ rw is (sym (ap (λ xs. read ++ map leg xs) (legs_more r place (from + 3 * (i + 1)) inside (omega arith))) ∙ before.left);
      right = rw passes at (next_right inside);
    }

    -- a leg that is not right
    pub leg_failed : place + 2 < length r → test (leg_at r place) ≡ false → list_all test (legs_of (drop from r)) ≡ false
    leg_failed inside fails = sym (rw fails at (next_right inside))

    -- all legs
    pub legs_ended : length r ≤ place
        → (list_all test (legs_of (drop from r)) ≡ true) × (read ≡ map leg (legs_of (drop from r)))
    legs_ended past = (
      sym before.right ∙ at_drop_all (λ xs. list_all test (legs_of xs)) r place past,
      sym (append-nil read) ∙ sym (at_drop_all (λ xs. read ++ map leg (legs_of xs)) r place past) ∙ before.left,
    )
