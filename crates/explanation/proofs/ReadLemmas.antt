-- A text of lines whose fields have no comma and no line feed is read as these lines.
use Rattle.std.proofs.Common.{◌≡◌, ℕ, zero, suc, ◌+◌, ◌-◌, ◌/◌, ◌%◌, ◌^◌, ◌<◌, ◌≤◌, ◌==◌, Bool, true, false, cond, List, [], ◌∷◌, ◌++◌}
use Rattle.std.proofs.Common.{length, map, take, flat_map, refl, sym, ap, ◌∙◌, append_assoc, arith}
use Rattle.std.specs.Prelude.{All, nat_lt, ℤ, pos, negsuc}
use Rattle.std.specs.List.{AllByRecursion}
use Rattle.std.specs.Fmt.{decimal, digit_glyph, digits, digits_onto, signed_decimal}
use Rattle.std.proofs.Math.Nat.{div-lt_iff_lt-mul, mod-lt, pow-suc}
use Rattle.std.proofs.lemmas.Bool.Decides.{nat_tests}
use Rattle.std.proofs.lemmas.List.{append-nil, length-append, take_at}
use Rattle.std.proofs.lemmas.List.Elements.{All-from_recursion}
use Rattle.std.proofs.lemmas.List.Splits.{slice_split_at, slice_split_none}
use Rattle.span_money.specs.ExactDecimals.{exact_decimal, fraction_digits, fraction_text, unsigned_exact}
use Rattle.span_money.specs.LineFields.{Line, field, line}
use Rattle.span_money.proofs.ExactLemmas.{power_positive}
use Rattle.explanation.specs.Laws.{line_of_parts, lines_read, parts_at}

-- ---- bytes between a comma and the lower-case letters

-- each byte is greater than a comma, and so greater than a line feed, and less than a lower-case letter
abbrev pub IsBetween : List ℕ → Type 0
IsBetween text = AllByRecursion (λ b. (45 ≤ b) × (b ≤ 95)) text

pub between-append : (xs ys : List ℕ) → IsBetween xs → IsBetween ys → IsBetween (xs ++ ys)
between-append [] ys h k = k
between-append (x ∷ xs) ys h k = (h.0, between-append xs ys h.1 k)

-- the bytes of the word and of the fields of a line are between a comma and the lower-case letters
pub record IsPlain (l : Line) : Type 0 where
  pub word : IsBetween l.word
  pub fields : AllByRecursion IsBetween l.fields

-- ---- one line

-- the bytes of a line without its line feed
abbrev bytes_of : Line → List ℕ
bytes_of l = l.word ++ flat_map field l.fields

line_bytes : (l : Line) (rest : List ℕ) → line l ++ rest ≡ bytes_of l ++ 10 ∷ rest
line_bytes l rest =
    ap (λ t. t ++ rest) (sym (append_assoc l.word (flat_map field l.fields) (10 ∷ [])))
    ∙ append_assoc (bytes_of l) (10 ∷ []) rest

no_comma : (text : List ℕ) → IsBetween text → All (λ b. (b == 44) ≡ false) text
no_comma text h = All-from_recursion (λ b. (b == 44) ≡ false) text (each text h) where
  each : (bs : List ℕ) → IsBetween bs → AllByRecursion (λ b. (b == 44) ≡ false) bs
  each [] h = tt
  each (b ∷ bs) h = (let le : 45 ≤ b = h.0.0 in grind (arith, nat_tests, le), each bs h.1)

-- a line is cut at its commas into its word and its fields
cut_fields : (word : List ℕ) (fields : List (List ℕ)) → IsBetween word → AllByRecursion IsBetween fields
    → parts_at 44 (word ++ flat_map field fields) ≡ word ∷ fields
cut_fields word [] w fs = ap (parts_at 44) (append-nil word) ∙ slice_split_none (λ b. b == 44) word (no_comma word w)
cut_fields word (f ∷ fields) w fs =
    slice_split_at (λ b. b == 44) word 44 (f ++ flat_map field fields) (no_comma word w) refl
    ∙ ap (λ parts. word ∷ parts) (cut_fields f fields fs.0 fs.1)

-- ---- a text

-- no byte of a line before its line feed is a line feed
no_feed : (l : Line) → IsPlain l → All (λ b. (b == 10) ≡ false) (bytes_of l)
no_feed l plain = All-from_recursion (λ b. (b == 10) ≡ false) (bytes_of l) (both l.word (flat_map field l.fields)
    (each l.word plain.word) (of_fields l.fields plain.fields)) where
      each : (bs : List ℕ) → IsBetween bs → AllByRecursion (λ b. (b == 10) ≡ false) bs
      each [] h = tt
      each (b ∷ bs) h = (let le : 45 ≤ b = h.0.0 in grind (arith, nat_tests, le), each bs h.1)

      both : (xs ys : List ℕ) → AllByRecursion (λ b. (b == 10) ≡ false) xs → AllByRecursion (λ b. (b == 10) ≡ false) ys
          → AllByRecursion (λ b. (b == 10) ≡ false) (xs ++ ys)
      both [] ys h k = k
      both (x ∷ xs) ys h k = (h.0, both xs ys h.1 k)

      of_fields : (fields : List (List ℕ)) → AllByRecursion IsBetween fields
          → AllByRecursion (λ b. (b == 10) ≡ false) (flat_map field fields)
      of_fields [] h = tt
      of_fields (f ∷ fields) h = (refl, both f (flat_map field fields) (each f h.0) (of_fields fields h.1))

cut_lines : (ls : List Line) → AllByRecursion IsPlain ls → parts_at 10 (flat_map line ls) ≡ map bytes_of ls ++ [] ∷ []
cut_lines [] plain = refl
cut_lines (l ∷ ls) plain =
    ap (parts_at 10) (line_bytes l (flat_map line ls))
    ∙ slice_split_at (λ b. b == 10) (bytes_of l) 10 (flat_map line ls) (no_feed l plain.0) refl
    ∙ ap (λ parts. bytes_of l ∷ parts) (cut_lines ls plain.1)

all_but_last : (parts : List (List ℕ)) → take (length (parts ++ [] ∷ []) - 1) (parts ++ [] ∷ []) ≡ parts
all_but_last parts =
    take_at parts ([] ∷ []) (length (parts ++ [] ∷ []) - 1) (let long = length-append parts ([] ∷ []) in omega (arith, long))

each_line : (ls : List Line) → AllByRecursion IsPlain ls → map (λ bytes. line_of_parts (parts_at 44 bytes)) (map bytes_of ls) ≡ ls
each_line [] plain = refl
each_line (l ∷ ls) plain =
    let here : line_of_parts (parts_at 44 (bytes_of l)) ≡ l =
    ap line_of_parts (cut_fields l.word l.fields (plain.0).word (plain.0).fields) in
    let rest = each_line ls plain.1 in
    λ k. here k ∷ rest k

-- the text of plain lines is read as these lines
pub lines_are_read : (ls : List Line) → AllByRecursion IsPlain ls → lines_read (flat_map line ls) ≡ ls
lines_are_read ls plain =
    ap (λ parts. map (λ bytes. line_of_parts (parts_at 44 bytes)) (take (length parts - 1) parts)) (cut_lines ls plain)
    ∙ ap (map (λ bytes. line_of_parts (parts_at 44 bytes))) (all_but_last (map bytes_of ls))
    ∙ each_line ls plain

-- ---- the bytes of numbers

-- the glyph of a decimal digit
glyph_between : (d : ℕ) → d < 10 → (45 ≤ digit_glyph false d) × (digit_glyph false d ≤ 95)
glyph_between d lt =
    let is_digit : nat_lt d 10 ≡ true = grind (arith, nat_tests, lt) in rw is_digit (omega arith, omega (arith, lt))

digits_between : (k n : ℕ) (acc : List ℕ) → IsBetween acc → IsBetween (digits_onto k 10 false n acc)
digits_between zero n acc h = h
digits_between (suc k) n acc h =
    by_test (n / 10 == 0) (here, h) (digits_between k (n / 10) (digit_glyph false (n % 10) ∷ acc) (here, h)) where
      here : (45 ≤ digit_glyph false (n % 10)) × (digit_glyph false (n % 10) ≤ 95)
      here = glyph_between (n % 10) (omega arith)

      by_test : (b : Bool) → IsBetween (digit_glyph false (n % 10) ∷ acc)
          → IsBetween (digits_onto k 10 false (n / 10) (digit_glyph false (n % 10) ∷ acc))
          → IsBetween (cond b (digit_glyph false (n % 10) ∷ acc)
          (digits_onto k 10 false (n / 10) (digit_glyph false (n % 10) ∷ acc)))
      by_test true last more = last
      by_test false last more = more

pub decimal_between : (n : ℕ) → IsBetween (decimal n)
unfolding digits
decimal_between n = digits_between 64 n [] tt

pub signed_between : (z : ℤ) → IsBetween (signed_decimal z)
signed_between (pos n) = decimal_between n
signed_between (negsuc n) = ((omega arith, omega arith), decimal_between (suc n))

fraction_between : (k f : ℕ) → f < 10 ^ k → IsBetween (fraction_digits k f)
fraction_between zero f below = tt
fraction_between (suc k) f below = by_test (f == 0) (fraction_between k (f % 10 ^ k) (mod-lt f (power_positive k))) where
  digit : f / 10 ^ k < 10
  digit = (div-lt_iff_lt-mul (power_positive k)).1 (omega (arith, pow-suc 10 k, below))

  by_test : (b : Bool) → IsBetween (fraction_digits k (f % 10 ^ k))
      → IsBetween (cond b [] ((48 + f / 10 ^ k) ∷ fraction_digits k (f % 10 ^ k)))
  by_test true rest = tt
  by_test false rest = ((omega arith, omega (arith, digit)), rest)

fraction_text_between : (places f : ℕ) → f < 10 ^ places → IsBetween (fraction_text places f)
fraction_text_between places f below = by_test (f == 0) where
  by_test : (b : Bool) → IsBetween (cond b [] (46 ∷ fraction_digits places f))
  by_test true = tt
  by_test false = ((omega arith, omega arith), fraction_between places f below)

unsigned_between : (places n : ℕ) → IsBetween (unsigned_exact places n)
unsigned_between places n =
    between-append (decimal (n / 10 ^ places)) (fraction_text places (n % 10 ^ places)) (decimal_between (n / 10 ^ places))
    (fraction_text_between places (n % 10 ^ places) (mod-lt n (power_positive places)))

pub exact_between : (places : ℕ) (z : ℤ) → IsBetween (exact_decimal places z)
unfolding exact_decimal
exact_between places (pos n) = unsigned_between places n
exact_between places (negsuc n) = ((omega arith, omega arith), unsigned_between places (suc n))
