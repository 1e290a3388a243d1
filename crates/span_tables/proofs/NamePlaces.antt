-- The 16 bytes of a name are written by copying its text over zeros, and no other name has the same 16 bytes.
use Rattle.std.proofs.Common.{◌≡◌, ◌∙◌, ◌<◌, ◌≤◌, ℕ, zero, suc, ◌-◌, true, true≢false, ◌&&◌, List, [], ◌∷◌, ◌++◌, refl, sym, ap, subst}
use Rattle.std.proofs.Common.{arith, length, drop, take, get_or, replicate, bytes_eq}
use Rattle.std.specs.Bool.{one_answer}
use Rattle.std.specs.List.{list_all}
use Rattle.std.specs.Prelude.{bit_and, nat_le}
use Rattle.std.proofs.Math.Nat.{mod-eq_of_lt}
use Rattle.std.proofs.Math.Seq.{take-append_seam}
use Rattle.std.specs.Int.Bits.{and_zero_r}
use Rattle.std.proofs.lemmas.Bool.{and_parts}
use Rattle.std.proofs.lemmas.Grind.{and_numeral}
use Rattle.std.proofs.lemmas.List.{drop-replicate, get_or-append_right, get_or-replicate, get_or-take, get_or_append_left, length-append}
use Rattle.std.proofs.lemmas.List.{length-replicate, length-take}
use Rattle.std.proofs.lemmas.Slice.Eq.{bytes_eq-Decides}
use Rattle.span_tables.specs.Names.{is_name, is_name_byte}
use Rattle.span_tables.specs.near.NamePlaces.{name_places, HoldsName}
use Rattle.span_tables.specs.declared.name.TheConstants.{ONES_AND_ZEROS}

-- the places of a name hold it
pub holds_places : (name : List ℕ) → is_name name ≡ true → HoldsName (name_places name) (length name)
holds_places name h =
    let front = take-append_seam name (replicate (16 - length name) 0) in
    record { named = rw front h; long = rw front refl; blank = rw front refl }

-- the bytes copied over the first of 16 zeros
pub copied_over : (text : List ℕ) → is_name text ≡ true → HoldsName (text ++ drop (length text) (replicate 16 0)) (length text)
copied_over text h =
    subst (λ rest. HoldsName (text ++ rest) (length text)) (sym (drop-replicate (length text) 16 0)) (holds_places text h)

not_zero : (y : ℕ) (ys : List ℕ) → list_all is_name_byte (y ∷ ys) ≡ true → 0 ≡ y → [] ≡ y ∷ ys
not_zero y ys h e = absurd (true≢false (sym (subst (λ b. list_all is_name_byte (b ∷ ys) ≡ true) (sym e) h)))

-- names whose bytes are equal when padded with zeros are equal
same_bytes : (a b : List ℕ) (m n : ℕ) → list_all is_name_byte a ≡ true → list_all is_name_byte b ≡ true
    → a ++ replicate m 0 ≡ b ++ replicate n 0 → a ≡ b
same_bytes [] [] m n h i e = refl
same_bytes [] (y ∷ b) zero n h i e = cc
same_bytes [] (y ∷ b) (suc m) n h i e = let first : 0 ≡ y = cc in not_zero y b i first
same_bytes (x ∷ a) [] m zero h i e = cc
same_bytes (x ∷ a) [] m (suc n) h i e = let first : 0 ≡ x = cc in sym (not_zero x a h first)
same_bytes (x ∷ a) (y ∷ b) m n h i e =
    let first : x ≡ y = cc in
    let rest : a ++ replicate m 0 ≡ b ++ replicate n 0 = cc in
    let more : a ≡ b =
    same_bytes a b m n (and_parts (is_name_byte x) (list_all is_name_byte a) h).1
    (and_parts (is_name_byte y) (list_all is_name_byte b) i).1 rest in
    cc

all_bytes : (a : List ℕ) → is_name a ≡ true → list_all is_name_byte a ≡ true
all_bytes a h = (and_parts (nat_le 1 (length a) && nat_le (length a) 16) (list_all is_name_byte a) h).1

-- the padded bytes are equal if and only if the names are equal
pub equal_by_places : (a b : List ℕ) → is_name a ≡ true → is_name b ≡ true
    → bytes_eq (name_places a) (name_places b) ≡ bytes_eq a b
equal_by_places a b h i =
    one_answer (bytes_eq (name_places a) (name_places b)) (bytes_eq a b) (
      λ same. same_bytes a b (16 - length a) (16 - length b) (all_bytes a h) (all_bytes b i)
          ((bytes_eq-Decides (name_places a) (name_places b)).0 same),
      λ e. (bytes_eq-Decides (name_places a) (name_places b)).1 (ap name_places e),
    )
    (bytes_eq-Decides a b)

-- ---- the places of the first bytes of a text

module _ (text : List ℕ) (len : ℕ) (inside : len ≤ length text) where
  long : length (take len text) ≡ len
  long = omega (arith, length-take len text, inside)

  pub places_long : len ≤ 16 → length (name_places (take len text)) ≡ 16
  places_long few =
      length-append (take len text) (replicate (16 - length (take len text)) 0)
      ∙ omega (arith, long, length-replicate {A = ℕ} (16 - length (take len text)) 0, few)

  -- the bytes of the text come first
  pub places_front : (i : ℕ) → i < len → get_or (name_places (take len text)) i 0 ≡ get_or text i 0
  places_front i lt =
      get_or_append_left (take len text) (replicate (16 - length (take len text)) 0) 0 i (omega (arith, long, lt))
      ∙ get_or-take len text i 0 lt

  -- zeros follow
  pub places_behind : (i : ℕ) → len ≤ i → i < 16 → get_or (name_places (take len text)) i 0 ≡ 0
  places_behind i le lt =
      get_or-append_right (take len text) (replicate (16 - length (take len text)) 0) len i 0 long le
      ∙ get_or-replicate (16 - length (take len text)) (i - len) 0 0 (omega (arith, long, le, lt))

-- ---- ones and zeros

pub ones_first : (k : ℕ) → k < 16 → get_or ONES_AND_ZEROS k 0 ≡ 255
ones_first k lt =
    get_or_append_left (replicate 16 255) (replicate 16 0) 0 k (omega (arith, length-replicate {A = ℕ} 16 255, lt))
    ∙ get_or-replicate 16 k 255 0 lt

pub zeros_last : (k : ℕ) → 16 ≤ k → k < 32 → get_or ONES_AND_ZEROS k 0 ≡ 0
zeros_last k le lt =
    get_or-append_right (replicate 16 255) (replicate 16 0) 16 k 0 (length-replicate {A = ℕ} 16 255) le
    ∙ get_or-replicate 16 (k - 16) 0 0 (omega (arith, le, lt))

pub and_ones : (b : ℕ) → b < 256 → bit_and b 255 ≡ b
and_ones b lt = and_numeral b 254 refl ∙ mod-eq_of_lt lt

pub and_zero : (b : ℕ) → bit_and b 0 ≡ 0
and_zero b = and_zero_r b
