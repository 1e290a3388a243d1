-- Lists stored one after another.
use Rattle.std.proofs.Common.{◌≡◌, ℕ, suc, ◌-◌, List, [], ◌∷◌, ◌++◌, length, map, take, drop, refl, ap, ◌∙◌, arith}
use Rattle.std.specs.Prelude.{All}
use Rattle.std.proofs.lemmas.List.{drop-append-le, length-drop, map-append, take-append-le, take_all}
use Rattle.std.proofs.Math.Seq.{drop-append_seam}
use Rattle.plan_ir.specs.declared.lists.Span.{Span}
use Rattle.plan_ir.specs.near.Packing.{IsWithin, list_in}

-- appended numbers change no earlier list
list_stays : (numbers more : List ℕ) (span : Span) → IsWithin numbers span → list_in (numbers ++ more) span ≡ list_in numbers span
list_stays numbers more span within =
    let long : length (drop span.start numbers) ≡ length numbers - span.start = length-drop span.start numbers in
    ap (take span.len) (drop-append-le span.start numbers more (omega (arith, within)))
    ∙ take-append-le span.len (drop span.start numbers) more (omega (arith, long, within))

lists_stay : (numbers more : List ℕ) (spans : List Span) → All (IsWithin numbers) spans
    → map (list_in (numbers ++ more)) spans ≡ map (list_in numbers) spans
lists_stay numbers more [] within = refl
lists_stay numbers more (s ∷ spans) within =
    (λ k. list_stays numbers more s (within 0 s (omega arith)) k
    ∷ lists_stay numbers more spans (λ i d lt. within (suc i) d (omega (arith, lt))) k)

-- one more list at the end
pub lists_push : (numbers list : List ℕ) (spans : List Span) (span : Span) → All (IsWithin numbers) spans
    → span.start ≡ length numbers → span.len ≡ length list
    → map (list_in (numbers ++ list)) (spans ++ span ∷ []) ≡ map (list_in numbers) spans ++ list ∷ []
lists_push numbers list spans span within start len =
    map-append (list_in (numbers ++ list)) spans (span ∷ [])
    ∙ (λ k. lists_stay numbers list spans within k ++ last k ∷ [])
  where
    last : list_in (numbers ++ list) span ≡ list
    last =
        (λ k. take (len k) (drop (start k) (numbers ++ list)))
        ∙ ap (take (length list)) (drop-append_seam numbers list) ∙ take_all (length list) list (omega arith)
