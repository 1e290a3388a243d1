-- Texts that are written one after another.
use Rattle.std.proofs.Common.{◌≡◌, ◌∙◌, ℕ, zero, suc, ◌+◌, ◌<◌, Bool, true, false, cond, List, [], ◌∷◌, ◌++◌, flat_map, filter}
use Rattle.std.proofs.Common.{length, drop, get_or, refl, sym, ap, arith, append_assoc}
use Rattle.std.specs.List.{range_with_len}
use Rattle.std.proofs.lemmas.List.Concat.{flat_map-cons}
use Rattle.std.proofs.lemmas.List.{append-nil, drop_more, length-drop}
use Rattle.std.proofs.lemmas.Grind.{flat_map-append}

module _ {X A : Type 0} (p : X → Bool) (f : X → List A) where
  if_one : (b : Bool) (x : X) (xs : List X) → flat_map f (cond b (x ∷ xs) xs) ≡ cond b (f x) [] ++ flat_map f xs
  if_one true x xs = flat_map-cons f x xs
  if_one false x xs = refl

  -- the text of the elements that pass a test
  pub flat_map-filter : (xs : List X) → flat_map f (filter p xs) ≡ flat_map (λ x. cond (p x) (f x) []) xs
  flat_map-filter [] = refl
  flat_map-filter (x ∷ xs) =
      if_one (p x) x (filter p xs) ∙ ap (λ rest. cond (p x) (f x) [] ++ rest) (flat_map-filter xs)
      ∙ sym (flat_map-cons (λ y. cond (p y) (f y) []) x xs)

-- a range of numbers followed by the next range is one range
range-append : (a n j m k : ℕ) → a + n ≡ j → n + m ≡ k → range_with_len a n ++ range_with_len j m ≡ range_with_len a k
range-append a zero j m k at count =
    let here : j ≡ a = omega (arith, at) in
    let all : m ≡ k = omega (arith, count) in
    rw (here, all) refl
range-append a (suc n) j m zero at count = absurd (omega (arith, count))
range-append a (suc n) j m (suc k) at count =
    ap (λ rest. a ∷ rest) (range-append (a + 1) n j m k (omega (arith, at)) (omega (arith, count)))

module _ (f : ℕ → List ℕ) (old : List ℕ) where
  -- the text for n numbers from a on, followed by the text for the next m
  pub written_more : (a n j m k : ℕ) → a + n ≡ j → n + m ≡ k
      → (old ++ flat_map f (range_with_len a n)) ++ flat_map f (range_with_len j m) ≡ old ++ flat_map f (range_with_len a k)
  written_more a n j m k at count =
      append_assoc old (flat_map f (range_with_len a n)) (flat_map f (range_with_len j m))
      ∙ ap (λ text. old ++ text) (sym (flat_map-append f (range_with_len a n) (range_with_len j m))
      ∙ ap (flat_map f) (range-append a n j m k at count))

  -- the text for n numbers from a on, followed by the text for the next number
  pub written_next : (a n j k : ℕ) → a + n ≡ j → n + 1 ≡ k
      → (old ++ flat_map f (range_with_len a n)) ++ f j ≡ old ++ flat_map f (range_with_len a k)
  written_next a n j k at count =
      ap (λ text. (old ++ flat_map f (range_with_len a n)) ++ text) (sym (append-nil (f j)))
      ∙ written_more a n j 1 k at count

-- the text of the elements of a list is the text of the elements by index
module _ {X : Type 0} (f : X → List ℕ) (d : X) where
  pub by_number : (all xs : List X) (n : ℕ) → drop n all ≡ xs
      → flat_map (λ i. f (get_or all i d)) (range_with_len n (length xs)) ≡ flat_map f xs
  by_number all [] n from = refl
  by_number all (x ∷ xs) n from =
      (λ k. f (both.0 k) ++ by_number all xs (n + 1) both.1 k) where
        count : length (drop n all) ≡ length xs + 1
        count = ap length from ∙ omega arith

        in_range : n < length all
        in_range = let left = length-drop n all in omega (arith, left, count)

        parts : (y : X) (ys : List X) → y ∷ ys ≡ x ∷ xs → (y ≡ x) × (ys ≡ xs)
        parts y ys e = (cc, cc)

        both : (get_or all n d ≡ x) × (drop (n + 1) all ≡ xs)
        both = parts (get_or all n d) (drop (n + 1) all) (sym (drop_more all n d in_range) ∙ from)
