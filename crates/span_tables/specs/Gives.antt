-- The results of a call that computes a definition which may name a fault, if the call may also run out of memory.
use Rattle.std.specs.Prelude.{◌≡◌, ⊤, Bool, Result, Ok, Err, MatchBool}

-- The result is the value or the fault of the definition, or it is out of memory, which states nothing about the
-- definition.
abbrev pub Gives : {V F : Type 0} → (F → Bool) → Result V F → Result V F → Type 0
Gives is_memory (Ok v) answer = answer ≡ Ok v
Gives is_memory (Err e) answer = MatchBool (is_memory e) ⊤ (answer ≡ Err e)
