-- How one more argument changes the joined arguments.
use Rattle.std.proofs.Common.{◌≡◌, true, false, List, [], ◌∷◌, ◌++◌, codes, bytes_eq, refl, sym}
use Rattle.std.proofs.lemmas.List.{append-nil, append_assoc}
use Rattle.clap.specs.Words.{Text}
use Rattle.span_cli.specs.Words.{joined}

-- an argument that stays as it is
pub any_word : (before words : List Text) (word : Text) → bytes_eq word (codes "--account") ≡ false
    → bytes_eq word (codes "--") ≡ false → (before ++ word ∷ []) ++ joined words ≡ before ++ joined (word ∷ words)
unfolding joined
any_word before [] word no_account no_dashes = append_assoc before (word ∷ []) []
any_word before (next ∷ words) word no_account no_dashes =
    rw (no_account, no_dashes) (append_assoc before (word ∷ []) (joined (next ∷ words)))

-- the argument `--`
pub dashes_word : (before words : List Text) (word : Text) → bytes_eq word (codes "--account") ≡ false
    → bytes_eq word (codes "--") ≡ true → (before ++ word ∷ []) ++ words ≡ before ++ joined (word ∷ words)
unfolding joined
dashes_word before [] word no_account dashes = append_assoc before (word ∷ []) []
dashes_word before (next ∷ words) word no_account dashes =
    rw (no_account, dashes) (append_assoc before (word ∷ []) (next ∷ words))

-- the value of `--account`
pub value_word : (before words : List Text) (word value : Text) → value ≡ codes "--account=" ++ word
    → (before ++ value ∷ []) ++ joined words ≡ before ++ joined (codes "--account" ∷ word ∷ words)
unfolding joined
value_word before words word value is = rw (is) (append_assoc before ((codes "--account=" ++ word) ∷ []) (joined words))

-- an option without a value
pub no_value : (before : List Text) (word : Text) → word ≡ codes "--account"
    → before ++ word ∷ [] ≡ before ++ joined (codes "--account" ∷ [])
unfolding joined
no_value before word is = rw (is) refl

-- no more arguments
pub no_word : (before : List Text) → before ≡ before ++ joined []
unfolding joined
no_word before = sym (append-nil before)
