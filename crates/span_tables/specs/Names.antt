-- The form of names, and lists of names.
use Rattle.std.specs.Prelude.{ℕ, Bool, false, not, ◌&&◌, ◌||◌, ◌==◌, nat_le, List, []}
use Rattle.std.specs.Prelude.{◌∷◌, length, Option, Some, None, if◌then◌else◌, filter, bytes_eq}
use Rattle.std.specs.Char.{is_ascii_digit, is_ascii_uppercase}
use Rattle.std.specs.List.{list_all, list_any}

-- the byte is `A` to `Z`, `0` to `9`, `_` or `-`
abbrev pub is_name_byte : ℕ → Bool
is_name_byte b = is_ascii_uppercase b || is_ascii_digit b || (b == 95) || (b == 45)

-- a name is 1 to 16 such bytes
abbrev pub is_name : List ℕ → Bool
is_name text = nat_le 1 (length text) && nat_le (length text) 16 && list_all is_name_byte text

-- the name in a text, if the text is a name
abbrev pub name_of : List ℕ → Option (List ℕ)
name_of text = if is_name text then Some text else None

-- the name is in the list
abbrev pub is_among : List (List ℕ) → List ℕ → Bool
is_among names name = list_any (bytes_eq name) names

-- each name once, in the order of first appearance
abbrev pub distinct : List (List ℕ) → List (List ℕ)
distinct [] = []
distinct (name ∷ rest) = name ∷ filter (λ other. not (bytes_eq other name)) (distinct rest)

-- two elements of a list are alike
abbrev pub has_repeat : {A : Type 0} → (A → A → Bool) → List A → Bool
has_repeat alike [] = false
has_repeat alike (x ∷ xs) = list_any (alike x) xs || has_repeat alike xs
