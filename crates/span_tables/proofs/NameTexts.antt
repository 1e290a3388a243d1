-- The bytes of a name as the bytes of a text, and the name at the start of a text.
use Rattle.std.proofs.Common.{◌≡◌, refl, inl, inr, ℕ, ◌<◌, Bool, true, ◌&&◌, List, [], ◌∷◌, arith, length}
use Rattle.std.specs.List.{AllByRecursion, list_all, take_while}
use Rattle.std.specs.Prelude.{nat_le}
use Rattle.std.specs.Str.{IsUtf8}
use Rattle.std.proofs.lemmas.Bool.{and_parts, cases_Bool}
use Rattle.std.proofs.lemmas.Bool.Decides.{nat_tests}
use Rattle.std.proofs.lemmas.List.Elements.{All-from_recursion}
use Rattle.std.proofs.lemmas.List.Sums.{take_while-cons}
use Rattle.std.proofs.lemmas.Str.{IsUtf8-from_ascii}
use Rattle.std.proofs.lemmas.Str.Ascii.{IsAscii-from_all}
use Rattle.span_tables.specs.Names.{is_name, is_name_byte}

small : (b : ℕ) → is_name_byte b ≡ true → b < 128
small b h = grind (arith, nat_tests, h)

all_small : (bytes : List ℕ) → list_all is_name_byte bytes ≡ true → AllByRecursion (λ b. b < 128) bytes
all_small [] h = tt
all_small (b ∷ bs) h =
    let parts = and_parts (is_name_byte b) (list_all is_name_byte bs) h in
    (small b parts.0, all_small bs parts.1)

pub name_is_text : (bytes : List ℕ) → is_name bytes ≡ true → IsUtf8 bytes
name_is_text bytes h =
    let valid = and_parts (nat_le 1 (length bytes) && nat_le (length bytes) 16) (list_all is_name_byte bytes) h in
    IsUtf8-from_ascii bytes (IsAscii-from_all bytes (All-from_recursion (λ b. b < 128) bytes (all_small bytes valid.1)))

-- all elements of the longest prefix that passes a test pass it
pub all_taken : {X : Type 0} (test : X → Bool) (xs : List X) → list_all test (take_while test xs) ≡ true
all_taken test [] = refl
all_taken test (x ∷ xs) =
    elim (cases_Bool (test x)) [
      | inl passes ↦ rw (take_while-cons test x xs, passes) (rw passes (all_taken test xs))
      | inr stops ↦ rw (take_while-cons test x xs, stops) refl
    ]
