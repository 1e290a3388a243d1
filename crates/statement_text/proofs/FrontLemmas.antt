-- The line of a commodity's figures, written after its start.
use Rattle.std.proofs.Common.{◌≡◌, ℕ, List, [], ◌∷◌, ◌++◌, flat_map, map, refl, ap, ◌∙◌}
use Rattle.std.specs.Prelude.{codes}
use Rattle.std.specs.Fmt.{signed_decimal}
use Rattle.std.proofs.lemmas.List.{append_assoc}
use Rattle.span_money.specs.LineFields.{field, line}
use Rattle.plan_ir.specs.Figures.{numbers_of}
use Rattle.plan_ir.specs.declared.figures.Figures.{Figures}
use Rattle.statement_text.specs.Statement.{figures_line}
use Rattle.statement_text.specs.near.Fronts.{front_text}

-- a word, two fields, other fields and the end of the line
grouped : (old word a b others : List ℕ)
    → (old ++ (word ++ (field a ++ (field b ++ [])))) ++ (others ++ 10 ∷ [])
    ≡ old ++ ((word ++ (field a ++ (field b ++ others))) ++ 10 ∷ [])
grouped old word a b others = simp append_assoc refl

pub figures_behind : (old front account set_id commodity : List ℕ) (f : Figures) → front ≡ front_text account set_id
    → (old ++ front) ++ (flat_map field (commodity ∷ map signed_decimal (numbers_of f)) ++ 10 ∷ [])
    ≡ old ++ line (figures_line account set_id commodity f)
unfolding figures_line
figures_behind old front account set_id commodity f is =
    let others = flat_map field (commodity ∷ map signed_decimal (numbers_of f)) in
    ap (λ t. (old ++ t) ++ (others ++ 10 ∷ [])) is ∙ grouped old (codes "R") account set_id others
