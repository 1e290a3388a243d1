-- The records of a parameter file that its limits count: with one more record, and if no record has a fault.
use Rattle.std.proofs.Common.{◌≡◌, ◌∙◌, refl, sym, ap, subst, arith, ℕ, ◌+◌, ◌≤◌, Bool, true, false, if◌then◌else◌}
use Rattle.std.proofs.Common.{List, [], ◌∷◌, ◌++◌, length, Option, Some, None, append_assoc}
use Rattle.std.specs.Prelude.{is_none, option_map}
use Rattle.std.proofs.lemmas.List.{append-nil}
use Rattle.span_csv.specs.Records.{Fields, kind_of}
use Rattle.span_csv.specs.ParamFaults.{counted, exceeds_limit, form_faults, formed_behind, is_formed, record_fault}
use Rattle.span_csv.specs.declared.faults.ParamFault.TheVariants as fault
use Rattle.span_csv.proofs.CheckLemmas.{front_none}

-- ---- one more record

head_by : (t : Bool) (x : Fields) (a b more : List Fields) → a ≡ b ++ more
    → (if t then x ∷ a else a) ≡ (if t then x ∷ b else b) ++ more
head_by true x a b more e = ap (λ zs. x ∷ zs) e
head_by false x a b more e = e

formed_push : (earlier xs : List Fields) (r : Fields) (b : Bool) → is_formed (earlier ++ xs) r ≡ b
    → formed_behind earlier (xs ++ r ∷ []) ≡ formed_behind earlier xs ++ (if b then r ∷ [] else [])
formed_push earlier [] r b e =
    ap (λ (t : Bool). if t then r ∷ [] else []) (subst (λ zs. is_formed zs r ≡ b) (append-nil earlier) e)
formed_push earlier (x ∷ xs) r b e =
    head_by (is_formed earlier x) x (formed_behind (earlier ++ x ∷ []) (xs ++ r ∷ [])) (formed_behind (earlier ++ x ∷ []) xs)
    (if b then r ∷ [] else [])
    (formed_push (earlier ++ x ∷ []) xs r b (subst (λ zs. is_formed zs r ≡ b) (sym (append_assoc earlier (x ∷ []) xs)) e))

-- a record with none of P1 to P7 is counted
pub counted_more : (rs : List Fields) (r : Fields) → is_formed rs r ≡ true → counted (rs ++ r ∷ []) ≡ counted rs ++ r ∷ []
counted_more rs r e = formed_push [] rs r true e

-- a record with one of P1 to P7 is not counted
pub counted_same : (rs : List Fields) (r : Fields) → is_formed rs r ≡ false → counted (rs ++ r ∷ []) ≡ counted rs
counted_same rs r e = formed_push [] rs r false e ∙ append-nil (counted rs)

-- a record that has a fault is not without one
pub unformed : {F : Type 0} (o : Option (ℕ → F)) (at : ℕ) (answer : F) → option_map (λ f. f at) o ≡ Some answer → is_none o ≡ false
unformed None at answer e = cc
unformed (Some f) at answer e = refl

-- ---- how many are counted

short_by : (t : Bool) (x : Fields) (a : List Fields) (n : ℕ) → length a ≤ n → length (if t then x ∷ a else a) ≤ n + 1
short_by true x a n le = omega (arith, le)
short_by false x a n le = omega (arith, le)

formed_few : (earlier rs : List Fields) → length (formed_behind earlier rs) ≤ length rs
formed_few earlier [] = omega arith
formed_few earlier (x ∷ rs) =
    let le = short_by (is_formed earlier x) x (formed_behind (earlier ++ x ∷ []) rs) (length rs) (formed_few (earlier ++ x ∷ []) rs) in
    omega (arith, le)

-- no more records are counted than there are
pub counted_few : (rs : List Fields) → length (counted rs) ≤ length rs
counted_few rs = formed_few [] rs

-- ---- records without a fault

-- a record without a fault is counted
pub free_formed : (earlier : List Fields) (r : Fields) → record_fault earlier r ≡ None → is_formed earlier r ≡ true
free_formed earlier r e =
    ap is_none (front_none (form_faults earlier r) ((exceeds_limit (counted earlier) r (kind_of r), fault.TooMany) ∷ []) e)
