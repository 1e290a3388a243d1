-- `distinct` lists each name of the list exactly once, and no other name.
use Rattle.std.proofs.Common.{◌≡◌, ℕ, Bool, true, false, cond, not, List, [], ◌∷◌, refl, ◌∙◌, filter}
use Rattle.std.specs.Prelude.{bytes_eq}
use Rattle.std.specs.List.{list_any}
use Rattle.std.proofs.lemmas.List.Elements.{All-weaker, filter_passes}
use Rattle.std.proofs.lemmas.List.Folds.{list_any_none}
use Rattle.span_tables.specs.Names.{distinct, has_repeat}
use Rattle.span_tables.proofs.GroupLemmas.{name_sym}
use Rattle.std.proofs.lemmas.Bool.{or_parts, not-true, or_from}
pub use Rattle.span_tables.proofs.NameLemmas.{is_among-distinct as distinct_same}

any_if : {X : Type 0} (b : Bool) (p : X → Bool) (x : X) (xs : List X) → p x ≡ false → list_any p xs ≡ false
    → list_any p (cond b (x ∷ xs) xs) ≡ false
any_if true p x xs e f = or_from _ _ e f
any_if false p x xs e f = f

any_kept : {X : Type 0} (p q : X → Bool) (xs : List X) → list_any p xs ≡ false → list_any p (filter q xs) ≡ false
any_kept p q [] e = refl
any_kept p q (x ∷ xs) e =
    let h = or_parts (p x) (list_any p xs) e in any_if (q x) p x (filter q xs) h.0 (any_kept p q xs h.1)

repeat_if : {X : Type 0} (b : Bool) (alike : X → X → Bool) (x : X) (xs : List X) → list_any (alike x) xs ≡ false
    → has_repeat alike xs ≡ false → has_repeat alike (cond b (x ∷ xs) xs) ≡ false
repeat_if true alike x xs e f = or_from _ _ e f
repeat_if false alike x xs e f = f

repeat_kept : {X : Type 0} (alike : X → X → Bool) (q : X → Bool) (xs : List X) → has_repeat alike xs ≡ false
    → has_repeat alike (filter q xs) ≡ false
repeat_kept alike q [] e = refl
repeat_kept alike q (x ∷ xs) e =
    let h = or_parts (list_any (alike x) xs) (has_repeat alike xs) e in
    repeat_if (q x) alike x (filter q xs) (any_kept (alike x) q xs h.0) (repeat_kept alike q xs h.1)

-- each name appears once
pub distinct_once : (names : List (List ℕ)) → has_repeat bytes_eq (distinct names) ≡ false
distinct_once [] = refl
distinct_once (name ∷ rest) =
    let others = filter (λ other. not (bytes_eq other name)) (distinct rest) in
    or_from (list_any (bytes_eq name) others) (has_repeat bytes_eq others)
    (list_any_none (bytes_eq name) others (All-weaker (λ other. not (bytes_eq other name) ≡ true)
    (λ other. bytes_eq name other ≡ false)
    (λ other e. name_sym name other ∙ not-true (bytes_eq other name) e) others
    (filter_passes (λ other. not (bytes_eq other name)) (distinct rest))))
    (repeat_kept bytes_eq (λ other. not (bytes_eq other name)) (distinct rest) (distinct_once rest))
