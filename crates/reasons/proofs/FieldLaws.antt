-- The values that the fields of lines are read as, and the sums of these values.
use Rattle.std.proofs.Common.{◌≡◌, ℕ, suc, ◌+◌, ◌/◌, ◌%◌, ◌^◌, ◌<◌, Bool, true, false, cond, List, [], ◌∷◌, ◌++◌, filter, map, refl, sym}
use Rattle.std.proofs.Common.{ap, ◌∙◌, arith, sum_by}
use Rattle.std.specs.Prelude.{All, fold, ℤ, pos, negsuc, ◌+ℤ◌, nat_abs}
use Rattle.std.specs.Fmt.{decimal, signed_decimal}
use Rattle.std.proofs.lemmas.List.{append-nil}
use Rattle.std.proofs.lemmas.List.Elements.{All-head, All-tail}
use Rattle.std.proofs.lemmas.List.Folds.{fold-map}
use Rattle.span_money.specs.ExactDecimals.{exact_decimal, exact_value, fraction_text, unsigned_exact}
use Rattle.span_money.specs.LineFields.{Line}
use Rattle.span_money.specs.Numbers.{int_sum_by}
use Rattle.span_money.proofs.ExactLaws.{exact_read_back}

-- ---- whole numbers

whole_text : (n : ℕ) → decimal n ≡ unsigned_exact 0 n
whole_text n =
    let all : n / 10 ^ 0 ≡ n = omega arith in
    let none : n % 10 ^ 0 ≡ 0 = omega arith in
    sym ((λ k. decimal (all k) ++ fraction_text 0 (none k)) ∙ append-nil (decimal n))

signed_text : (z : ℤ) → signed_decimal z ≡ exact_decimal 0 z
unfolding exact_decimal
signed_text (pos n) = whole_text n
signed_text (negsuc n) = ap (λ ds. 45 ∷ ds) (whole_text (suc n))

-- reading a written whole number gives this number
pub whole_read : (z : ℤ) → nat_abs z < 10 ^ 64 → exact_value 0 (signed_decimal z) ≡ z
whole_read z small = ap (exact_value 0) (signed_text z) ∙ exact_read_back 0 z small

pub count_read : (n : ℕ) → n < 10 ^ 64 → exact_value 0 (decimal n) ≡ pos n
unfolding exact_decimal
count_read n small = ap (exact_value 0) (whole_text n) ∙ exact_read_back 0 (pos n) small

-- reading a list of written whole numbers gives these numbers
pub wholes_read : (zs : List ℤ) → All (λ z. nat_abs z < 10 ^ 64) zs → map (exact_value 0) (map signed_decimal zs) ≡ zs
wholes_read [] small = refl
wholes_read (z ∷ zs) small =
    let first : nat_abs z < 10 ^ 64 = All-head (λ x. nat_abs x < 10 ^ 64) z zs small in
    let rest = wholes_read zs (All-tail (λ x. nat_abs x < 10 ^ 64) z zs small) in
    λ k. whole_read z first k ∷ rest k

-- ---- lists of lines

-- reading written lines gives the values that were written
pub each_read : {A B C : Type 0} (write : A → B) (read : B → C) (is : A → C) (xs : List A) → All (λ x. read (write x) ≡ is x) xs
    → map read (map write xs) ≡ map is xs
each_read write read is [] same = refl
each_read write read is (x ∷ xs) same =
    let first : read (write x) ≡ is x = All-head (λ y. read (write y) ≡ is y) x xs same in
    let rest = each_read write read is xs (All-tail (λ y. read (write y) ≡ is y) x xs same) in
    λ k. first k ∷ rest k

-- filtering written lines is the same as filtering the values before they are written
pub kept_written : {A B : Type 0} (p : B → Bool) (write : A → B) (xs : List A)
    → filter p (map write xs) ≡ map write (filter (λ x. p (write x)) xs)
kept_written p write [] = refl
kept_written p write (x ∷ xs) =
    let all = filter p (map write xs) in
    let kept = filter (λ y. p (write y)) xs in
    elim (p (write x)) as (λ b. cond b (write x ∷ all) all ≡ map write (cond b (x ∷ kept) kept)) [
      | true ↦ ap (λ others. write x ∷ others) (kept_written p write xs)
      | false ↦ kept_written p write xs
    ]

-- ---- sums

-- two sums are equal if their terms are equal
pub sum_same : {A : Type 0} (f g : A → ℤ) (a : ℤ) (xs : List A) → All (λ x. f x ≡ g x) xs
    → fold (λ z x. z +ℤ f x) a xs ≡ fold (λ z x. z +ℤ g x) a xs
sum_same f g a [] same = refl
sum_same f g a (x ∷ xs) same =
    let first : f x ≡ g x = All-head (λ y. f y ≡ g y) x xs same in
    ap (λ z. fold (λ s y. s +ℤ f y) (a +ℤ z) xs) first
    ∙ sum_same f g (a +ℤ g x) xs (All-tail (λ y. f y ≡ g y) x xs same)

-- the sum of the values read from lines is the sum of the values that were written
pub sum_read : {A : Type 0} (write : A → Line) (read : Line → ℤ) (is : A → ℤ) (xs : List A) → All (λ x. read (write x) ≡ is x) xs
    → int_sum_by read (map write xs) ≡ int_sum_by is xs
sum_read write read is xs same =
    fold-map (λ (z : ℤ) (l : Line). z +ℤ read l) write (pos 0) xs ∙ sum_same (λ x. read (write x)) is (pos 0) xs same

counts_from : {A : Type 0} (n : A → ℕ) (a : ℕ) (xs : List A)
    → fold (λ (z : ℤ) x. z +ℤ pos (n x)) (pos a) xs ≡ pos (fold (λ s x. s + n x) a xs)
counts_from n a [] = refl
counts_from n a (x ∷ xs) = counts_from n (a + n x) xs

-- a sum of natural numbers is the same over the integers
pub sum_of_counts : {A : Type 0} (n : A → ℕ) (xs : List A) → int_sum_by (λ x. pos (n x)) xs ≡ pos (sum_by n xs)
sum_of_counts n xs = counts_from n 0 xs
