-- The start of the lines of an account's commodities.
use Rattle.std.specs.Prelude.{ℕ, List, [], ◌∷◌, ◌++◌, codes, flat_map}
use Rattle.span_money.specs.LineFields.{field}

-- the word, and the ids of the account and the parameter set
abbrev pub front_text : List ℕ → List ℕ → List ℕ
front_text account set_id = codes "R" ++ flat_map field (account ∷ set_id ∷ [])
