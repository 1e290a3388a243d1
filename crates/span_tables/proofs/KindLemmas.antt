-- One more record, after the records before it.
use Rattle.std.proofs.Common.{◌≡◌, List, [], ◌∷◌, ◌++◌, Option, Some, None, option_to_list, refl, sym, ap, ◌∙◌}
use Rattle.std.specs.Prelude.{filter_map}
use Rattle.std.specs.List.{cons_option}
use Rattle.std.proofs.lemmas.List.Elements.{filter_map-append}

cons_none : {X : Type 0} (o : Option X) → cons_option o [] ≡ option_to_list o
cons_none None = refl
cons_none (Some x) = refl

-- one more record adds itself to the list of its kind
pub one_more : {X Y : Type 0} (h : X → Option Y) (xs : List X) (x : X) (ys zs : List Y) → ys ≡ filter_map h xs
    → zs ≡ ys ++ option_to_list (h x)
    → zs ≡ filter_map h (xs ++ x ∷ [])
one_more h xs x ys zs is more =
    more ∙ ap (λ ws. ws ++ option_to_list (h x)) is ∙ ap (λ ws. filter_map h xs ++ ws) (sym (cons_none (h x)))
    ∙ sym (filter_map-append h xs (x ∷ []))
