-- Definitions that the lemmas use.
use Rattle.std.specs.Prelude.{◌≡◌, Bool, true, not, ◌||◌, nat_lt, List, [], ◌∷◌, ⊤}
use Rattle.std.specs.List.{AllByRecursion}
use Rattle.span_tables.specs.Rules.{same_side}
use Rattle.span_tables.specs.declared.legs.MonthLeg.{MonthLeg}

-- two legs use different remaining deltas: they are on different sides, or one's tier ends before the other's begins
abbrev pub draw_apart : MonthLeg → MonthLeg → Bool
draw_apart a b = not (same_side a.side b.side) || (nat_lt a.last b.first || nat_lt b.last a.first)

-- no two legs use the same remaining delta
abbrev pub DrawApart : List MonthLeg → Type 0
DrawApart [] = ⊤
DrawApart (leg ∷ legs) = AllByRecursion (λ other. draw_apart leg other ≡ true) legs × DrawApart legs
