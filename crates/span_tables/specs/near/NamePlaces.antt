-- The 16 bytes that store a name: its own bytes, followed by zeros.
use Rattle.std.specs.Prelude.{◌≡◌, ℕ, ◌-◌, true, List, ◌++◌, length, take, replicate}
use Rattle.span_tables.specs.Names.{is_name}

-- the 16 bytes that store a name
abbrev pub name_places : List ℕ → List ℕ
name_places name = name ++ replicate (16 - length name) 0

-- the bytes store a name of this length
pub record HoldsName (places : List ℕ) (len : ℕ) : Type 0 where
  pub named : is_name (take len places) ≡ true
  pub long : length (take len places) ≡ len
  pub blank : name_places (take len places) ≡ places
