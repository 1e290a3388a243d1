-- The lines of each word among the lines of a commodity, and their order.
use Rattle.std.proofs.Common.{◌≡◌, ℕ, Bool, true, false, cond, List, [], ◌∷◌, ◌++◌, map, flat_map, refl, sym, ap, ◌∙◌, append_assoc}
use Rattle.std.specs.Prelude.{bytes_eq, codes, slice_index_or}
use Rattle.std.proofs.lemmas.List.{append-nil}
use Rattle.std.proofs.lemmas.List.Elements.{filter-append}
use Rattle.span_money.specs.LineFields.{Line}
use Rattle.span_tables.specs.Tables.{AcceptedTables}
use Rattle.span_tables.specs.declared.portfolios.Holding.{Holding}
use Rattle.span_tables.specs.declared.records.ProductKind.{ProductKind}
use Rattle.span_tables.specs.declared.records.ProductKind.TheVariants as product
use Rattle.span_tables.specs.declared.sides.Side.{Side}
use Rattle.span_tables.specs.declared.sides.Side.TheVariants as side
use Rattle.span_tables.specs.declared.sides.Direction.{Direction}
use Rattle.span_tables.specs.declared.sides.Direction.TheVariants.{ALong, AShort}
use Rattle.scan_risk.specs.Scenarios.{scan_of, scenario_sums}
use Rattle.inter_credit.specs.Requirement.{is_call, is_put}
use Rattle.plan_ir.specs.Figures.{commodity_at, held_at}
use Rattle.reasons.specs.Laws.{is_long_in, side_letter}
use Rattle.reasons.specs.Lines.{line_of, lines_of, words_in_order}
use Rattle.reasons.specs.Reasons.{credit_reason, held_reason, held_reasons, inter_reason, inters_shown_at, intra_reason}
use Rattle.reasons.specs.Reasons.{intras_shown_at, kind_letter, long_side, month_reason, months_shown_at, reasons_of, scan_reason}
use Rattle.reasons.specs.Reasons.{short_reason, spot_reason, spots_shown_at, state_after_all, sums_reason}

-- ---- letters

pub letter_of_calls : (kind : ProductKind) → bytes_eq (kind_letter kind) (codes "C") ≡ is_call kind
letter_of_calls product.Future = refl
letter_of_calls product.Call = refl
letter_of_calls product.Put = refl

pub letter_of_puts : (kind : ProductKind) → bytes_eq (kind_letter kind) (codes "P") ≡ is_put kind
letter_of_puts product.Future = refl
letter_of_puts product.Call = refl
letter_of_puts product.Put = refl

pub letter_of_sides : (d : Direction) (x : Side) → bytes_eq (long_side d) (side_letter x) ≡ is_long_in d x
letter_of_sides ALong side.A = refl
letter_of_sides ALong side.B = refl
letter_of_sides AShort side.A = refl
letter_of_sides AShort side.B = refl

-- ---- lines of one word

-- the lines if their own word is the requested one, and otherwise no lines
abbrev where_word : List ℕ → List ℕ → List Line → List Line
where_word own word lines = cond (bytes_eq own word) lines []

kept_if : {A : Type 0} (b : Bool) (word : List ℕ) (f : A → Line) → ((x : A) → bytes_eq (f x).word word ≡ b) → (xs : List A)
    → lines_of word (map f xs) ≡ cond b (map f xs) []
kept_if true word f all [] = refl
kept_if false word f all [] = refl
kept_if true word f all (x ∷ xs) =
    ap (λ t. cond t (f x ∷ lines_of word (map f xs)) (lines_of word (map f xs))) (all x)
    ∙ ap (λ ls. f x ∷ ls) (kept_if true word f all xs)
kept_if false word f all (x ∷ xs) =
    ap (λ t. cond t (f x ∷ lines_of word (map f xs)) (lines_of word (map f xs))) (all x) ∙ kept_if false word f all xs

of_map : {A : Type 0} (own word : List ℕ) (f : A → Line) → ((x : A) → (f x).word ≡ own) → (xs : List A)
    → lines_of word (map f xs) ≡ where_word own word (map f xs)
of_map own word f all xs = kept_if (bytes_eq own word) word f (λ x. ap (λ w. bytes_eq w word) (all x)) xs

-- ---- the lines of a commodity

-- the lines of a word in two lists joined are the lines of the word in each, joined
both : (word : List ℕ) (a b x y : List Line) → lines_of word a ≡ x → lines_of word b ≡ y → lines_of word (a ++ b) ≡ x ++ y
both word a b x y p q = filter-append (λ l. bytes_eq l.word word) a b ∙ (λ k. p k ++ q k)

-- the parts, grouped in their order
grouped : (h m i s n : List Line) (x y z w : Line)
    → h ++ (x ∷ [] ++ (y ∷ [] ++ (m ++ (i ++ (s ++ (n ++ (z ∷ [] ++ (w ∷ [] ++ []))))))))
    ≡ h ++ ((x ∷ y ∷ []) ++ ((m ++ (i ++ s)) ++ ((n ++ z ∷ []) ++ w ∷ [])))
grouped h m i s n x y z w = simp append_assoc refl

twice_nothing : (ls : List Line) → (ls ++ []) ++ [] ≡ ls
twice_nothing ls = append-nil (ls ++ []) ∙ append-nil ls

module _ (t : AcceptedTables) (holdings : List Holding) (c : ℕ) where
  abbrev sums_line : Line
  sums_line = sums_reason (scenario_sums (held_at t holdings c))

  abbrev scan_line : Line
  scan_line = scan_reason (scan_of (scenario_sums (held_at t holdings c)))

  abbrev months : List Line
  months = map month_reason (months_shown_at t holdings c)

  abbrev intras : List Line
  intras = map intra_reason (intras_shown_at t holdings c)

  abbrev spots : List Line
  spots = map spot_reason (spots_shown_at t holdings c)

  abbrev inters : List Line
  inters = map inter_reason (inters_shown_at t holdings c)

  abbrev credit_line : Line
  credit_line = credit_reason (state_after_all t holdings c)

  abbrev short_line : Line
  short_line = short_reason (commodity_at t c) (held_at t holdings c)

  each_part : (word : List ℕ) → lines_of word (reasons_of t holdings c)
      ≡ where_word (codes "HELD") word (held_reasons t holdings c)
      ++ ((where_word (codes "SUMS") word (sums_line ∷ []) ++ where_word (codes "SCAN") word (scan_line ∷ []))
      ++ ((where_word (codes "MONTH") word months ++ (where_word (codes "INTRA") word intras ++ where_word (codes "SPOT") word spots))
      ++ ((where_word (codes "INTER") word inters ++ where_word (codes "CREDIT") word (credit_line ∷ []))
      ++ where_word (codes "SHORT") word (short_line ∷ []))))
  unfolding reasons_of
  each_part word =
      both word (held_reasons t holdings c)
      ((sums_line ∷ scan_line ∷ []) ++ ((months ++ (intras ++ spots)) ++ ((inters ++ credit_line ∷ []) ++ short_line ∷ []))) _ _
      (of_map (codes "HELD") word (held_reason t) (λ h. refl) (held_at t holdings c))
      (both word (sums_line ∷ scan_line ∷ []) ((months ++ (intras ++ spots)) ++ ((inters ++ credit_line ∷ []) ++ short_line ∷ [])) _ _
      (both word (sums_line ∷ []) (scan_line ∷ []) _ _ refl refl)
      (both word (months ++ (intras ++ spots)) ((inters ++ credit_line ∷ []) ++ short_line ∷ []) _ _
      (both word months (intras ++ spots) _ _
      (of_map (codes "MONTH") word month_reason (λ m. refl) (months_shown_at t holdings c))
      (both word intras spots _ _ (of_map (codes "INTRA") word intra_reason (λ s. refl) (intras_shown_at t holdings c))
      (of_map (codes "SPOT") word spot_reason (λ s. refl) (spots_shown_at t holdings c))))
      (both word (inters ++ credit_line ∷ []) (short_line ∷ []) _ _
      (both word inters (credit_line ∷ []) _ _
      (of_map (codes "INTER") word inter_reason (λ s. refl) (inters_shown_at t holdings c)) refl)
      refl)))

  pub held_lines : lines_of (codes "HELD") (reasons_of t holdings c) ≡ held_reasons t holdings c
  held_lines = each_part (codes "HELD") ∙ append-nil (held_reasons t holdings c)

  pub sums_lines : lines_of (codes "SUMS") (reasons_of t holdings c) ≡ sums_line ∷ []
  sums_lines = each_part (codes "SUMS")

  pub scan_lines : lines_of (codes "SCAN") (reasons_of t holdings c) ≡ scan_line ∷ []
  scan_lines = each_part (codes "SCAN")

  pub month_lines : lines_of (codes "MONTH") (reasons_of t holdings c) ≡ months
  month_lines = each_part (codes "MONTH") ∙ twice_nothing months

  pub intra_lines : lines_of (codes "INTRA") (reasons_of t holdings c) ≡ intras
  intra_lines = each_part (codes "INTRA") ∙ twice_nothing intras

  pub spot_lines : lines_of (codes "SPOT") (reasons_of t holdings c) ≡ spots
  spot_lines = each_part (codes "SPOT") ∙ append-nil spots

  pub inter_lines : lines_of (codes "INTER") (reasons_of t holdings c) ≡ inters
  inter_lines = each_part (codes "INTER") ∙ twice_nothing inters

  pub credit_lines : lines_of (codes "CREDIT") (reasons_of t holdings c) ≡ credit_line ∷ []
  credit_lines = each_part (codes "CREDIT")

  pub short_lines : lines_of (codes "SHORT") (reasons_of t holdings c) ≡ short_line ∷ []
  short_lines = each_part (codes "SHORT")

  -- the only line of a word
  only : (word : List ℕ) (l : Line) → lines_of word (reasons_of t holdings c) ≡ l ∷ [] → line_of word (reasons_of t holdings c) ≡ l
  only word l is = ap (λ ls. slice_index_or ls 0 (record { word = word; fields = [] })) is

  pub the_sums : line_of (codes "SUMS") (reasons_of t holdings c) ≡ sums_line
  the_sums = only (codes "SUMS") sums_line sums_lines

  pub the_scan : line_of (codes "SCAN") (reasons_of t holdings c) ≡ scan_line
  the_scan = only (codes "SCAN") scan_line scan_lines

  pub the_credit : line_of (codes "CREDIT") (reasons_of t holdings c) ≡ credit_line
  the_credit = only (codes "CREDIT") credit_line credit_lines

  pub the_short : line_of (codes "SHORT") (reasons_of t holdings c) ≡ short_line
  the_short = only (codes "SHORT") short_line short_lines

  -- none of the lines is an R line
  pub no_lines : lines_of (codes "R") (reasons_of t holdings c) ≡ []
  no_lines = each_part (codes "R")

  -- the lines are in the order of their words
  pub in_order : reasons_of t holdings c ≡ flat_map (λ word. lines_of word (reasons_of t holdings c)) words_in_order
  unfolding reasons_of
  in_order =
      sym ((λ k. held_lines k ++ (sums_lines k ++ (scan_lines k ++ (month_lines k ++ (intra_lines k ++ (spot_lines k
      ++ (inter_lines k ++ (credit_lines k ++ (short_lines k ++ [])))))))))
      ∙ grouped (held_reasons t holdings c) months intras spots inters sums_line scan_line credit_line short_line)
