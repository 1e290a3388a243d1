-- Lines that are written one after another.
use Rattle.std.proofs.Common.{◌≡◌, ℕ, ◌+◌, ◌<◌, List, [], ◌∷◌, ◌++◌, length, map, take, sym, ap, ◌∙◌}
use Rattle.std.proofs.Common.{subst, arith, append_assoc, get_or, inl, inr}
use Rattle.std.specs.Prelude.{IfSome, slice_get}
use Rattle.std.proofs.lemmas.List.{append-nil, flat_map_more, get_or-map, length-map, map-append, take_more}
use Rattle.std.proofs.lemmas.Grind.{flat_map-append}
use Rattle.std.proofs.lemmas.Option.{slice_get_cases}
use Rattle.span_money.specs.declared.line_fields.Field.{Field}
use Rattle.span_money.specs.LineFields.{Line}
use Rattle.spread_stage.specs.Deltas.{units_at}
use Rattle.spread_stage.specs.Months.{MonthsRise, Shrinks}
use Rattle.spread_stage.proofs.BesideLemmas.{units_at-beside}
use Rattle.spread_stage.specs.declared.months.MonthUnits.{MonthUnits}
use Rattle.reasons.specs.Reasons.{month_reason}
use Rattle.reasons.specs.Shown.{months_shown}
use Rattle.reasons.specs.declared.shown.ShownMonth.{ShownMonth}
use Rattle.reasons.specs.near.Fields.{reason_text, reasons_text}

-- appending one list of lines and then another appends their concatenation
pub lines-append : (ids : List Field) (old : List ℕ) (a b : List Line)
    → (old ++ reasons_text ids a) ++ reasons_text ids b ≡ old ++ reasons_text ids (a ++ b)
lines-append ids old a b =
    append_assoc old (reasons_text ids a) (reasons_text ids b)
    ∙ ap (λ t. old ++ t) (sym (flat_map-append (reason_text ids) a b))

-- appending the lines of one list of items and then of another appends the lines of the joined list
pub lines-of-append : {A : Type 0} (f : A → Line) (ids : List Field) (old : List ℕ) (xs ys : List A)
    → (old ++ reasons_text ids (map f xs)) ++ reasons_text ids (map f ys) ≡ old ++ reasons_text ids (map f (xs ++ ys))
lines-of-append f ids old xs ys =
    lines-append ids old (map f xs) (map f ys) ∙ ap (λ rs. old ++ reasons_text ids rs) (sym (map-append f xs ys))

-- appending one line is appending a list of one line
pub one_line : (ids : List Field) (old : List ℕ) (r : Line) → old ++ reason_text ids r ≡ old ++ reasons_text ids (r ∷ [])
one_line ids old r = ap (λ t. old ++ t) (sym (append-nil (reason_text ids r)))

-- the lines of a list, extended by the line of one more item
pub line_more : {A : Type 0} (f : A → Line) (ids : List Field) (xs : List A) (x : A) (old now next : List ℕ)
    → next ≡ now ++ reason_text ids (f x) → now ≡ old ++ reasons_text ids (map f xs)
    → next ≡ old ++ reasons_text ids (map f (xs ++ x ∷ []))
line_more f ids xs x old now next step so_far =
    step ∙ ap (λ t. t ++ reason_text ids (f x)) so_far
    ∙ flat_map_more (reason_text ids) old (map f xs) (f x)
    ∙ ap (λ rs. old ++ reasons_text ids rs) (sym (map-append f xs (x ∷ [])))

-- the lines of a prefix of a list, extended by the line of the next item
pub lines_more : {A : Type 0} (f : A → Line) (ids : List Field) (xs : List A) (i : ℕ) (old now next : List ℕ) → i < length xs
    → IfSome (slice_get xs i) (λ x. next ≡ now ++ reason_text ids (f x))
    → now ≡ old ++ reasons_text ids (map f (take i xs)) → next ≡ old ++ reasons_text ids (map f (take (i + 1) xs))
lines_more f ids xs i old now next lt step so_far =
    elim (slice_get_cases xs i).1 [
      | inl found ↦
          let x = found.0 in
          let here : next ≡ now ++ reason_text ids (f x) =
          subst (λ o. IfSome o (λ y. next ≡ now ++ reason_text ids (f y))) found.2 step in
          line_more f ids (take i xs) x old now next here so_far
          ∙ ap (λ ys. old ++ reasons_text ids (map f ys))
          (ap (λ y. take i xs ++ y ∷ []) (sym found.3) ∙ sym (take_more xs i x lt))
      | inr none ↦ absurd (omega (arith, lt, none.0))
    ]

-- the lines of a prefix of the months, extended by the next month, whose residual delta has the same index
pub month_more : (deltas rests : List MonthUnits) (i : ℕ) (m r : MonthUnits) (ids : List Field) (old now next : List ℕ) → MonthsRise deltas
    → Shrinks deltas rests → i < length deltas → m ≡ get_or deltas i m → r ≡ get_or rests i r
    → next ≡ now ++ reason_text ids (month_reason (record { month = m.month; delta = m.units; left = r.units }))
    → now ≡ old ++ reasons_text ids (map month_reason (take i (months_shown deltas rests)))
    → next ≡ old ++ reasons_text ids (map month_reason (take (i + 1) (months_shown deltas rests)))
month_more deltas rests i m r ids old now next rise shrinks lt a b step so_far =
    let shown : MonthUnits → ShownMonth =
    λ n. record { month = n.month; delta = n.units; left = units_at rests n.month } in
    let xs = months_shown deltas rests in
    let at : get_or xs i (shown m) ≡ shown m = get_or-map shown deltas i m (shown m) lt ∙ ap shown (sym a) in
    let left : units_at rests m.month ≡ r.units = units_at-beside deltas rests rise shrinks i m r lt a b in
    let here : next ≡ now ++ reason_text ids (month_reason (shown m)) =
    step ∙ ap (λ z. now ++ reason_text ids (month_reason (record { month = m.month; delta = m.units; left = z }))) (sym left) in
    let within : i < length xs = omega (arith, lt, length-map deltas shown) in
    line_more month_reason ids (take i xs) (shown m) old now next here so_far
    ∙ ap (λ ys. old ++ reasons_text ids (map month_reason ys))
    (ap (λ y. take i xs ++ y ∷ []) (sym at) ∙ sym (take_more xs i (shown m) within))
