-- What is read from an account's lines: the numbers of an R line, and the sums in its T line.
use Rattle.std.proofs.Common.{◌≡◌, ℕ, ◌^◌, ◌<◌, Bool, true, false, cond, List, [], ◌∷◌, ◌++◌, length, get_or, flat_map, map}
use Rattle.std.proofs.Common.{refl, sym, ap, ◌∙◌, arith}
use Rattle.std.specs.Prelude.{All, ℤ, pos, negsuc, ◌+ℤ◌, ◌-ℤ◌, bytes_eq, codes, fold, nat_abs, slice_index_or}
use Rattle.std.specs.Fmt.{signed_decimal}
use Rattle.std.specs.List.{range_with_len}
use Rattle.std.proofs.lemmas.Int.{ints}
use Rattle.std.proofs.lemmas.List.{append-nil}
use Rattle.std.proofs.lemmas.List.Elements.{filter-append}
use Rattle.std.proofs.lemmas.List.FromFn.{get_or-range_with_len, length-range_with_len}
use Rattle.std.proofs.lemmas.List.Sums.{fold-append}
use Rattle.span_money.specs.ExactDecimals.{exact_value}
use Rattle.span_money.specs.LineFields.{Line}
use Rattle.span_money.specs.Numbers.{int_sum_by, positive_part}
use Rattle.span_tables.specs.Net.{AccountHoldings}
use Rattle.span_tables.specs.Tables.{AcceptedTables, facts_in}
use Rattle.span_tables.proofs.SumLaws.{int_sum_from}
use Rattle.inter_credit.specs.OptionValue.{due_of, excess_of, net_value_of, position_value}
use Rattle.plan_ir.specs.Figures.{commodity_at, figures_of, held_at, is_commodity_held, numbers_of, option_value_of, total_to, value_to}
use Rattle.plan_ir.specs.declared.figures.Figures.{Figures}
use Rattle.reasons.specs.Laws.{AreAccepted, values_shown_at}
use Rattle.reasons.specs.Lines.{lines_of, number_at, value_by_lines}
use Rattle.reasons.specs.Reasons.{reasons_of}
use Rattle.reasons.proofs.AcceptedLaws.{figures_are_small, total_is_small, value_is_small}
use Rattle.reasons.proofs.FieldLaws.{sum_same, whole_read, wholes_read}
use Rattle.reasons.proofs.TotalLaws.{no_requirement, none_held}
use Rattle.reasons.proofs.WordLaws.{no_lines}
use Rattle.statement_text.specs.Statement.{figures_line, total_line, total_numbers, total_of}
use Rattle.explanation.specs.Explanation.{commodity_lines, reason_line}
use Rattle.explanation.specs.Laws.{behind_ids}

-- ---- an R line

pub ids_dropped : (account set_id commodity : List ℕ) (ls : List Line) → map behind_ids (map (reason_line account set_id commodity) ls) ≡ ls
ids_dropped account set_id commodity [] = refl
ids_dropped account set_id commodity (l ∷ ls) = ap (λ rest. l ∷ rest) (ids_dropped account set_id commodity ls)

-- the numbers of an R line are read as the figures
pub figures_read : (account set_id commodity : List ℕ) (f : Figures) → All (λ z. nat_abs z < 10 ^ 64) (numbers_of f)
    → map (exact_value 0) (behind_ids (figures_line account set_id commodity f)).fields ≡ numbers_of f
unfolding figures_line
figures_read account set_id commodity f small = wholes_read (numbers_of f) small

pub figures_word : (account set_id commodity : List ℕ) (f : Figures) → (figures_line account set_id commodity f).word ≡ codes "R"
unfolding figures_line
figures_word account set_id commodity f = refl

requirement_read : (account set_id commodity : List ℕ) (f : Figures) → All (λ z. nat_abs z < 10 ^ 64) (numbers_of f)
    → number_at 0 (figures_line account set_id commodity f) 9 ≡ f.requirement
unfolding figures_line
requirement_read account set_id commodity f small = whole_read f.requirement (small 6 (pos 0) (omega arith))

nothing_in_front : (z : ℤ) → pos 0 +ℤ z ≡ z
nothing_in_front z = omega (arith, ints)

-- ---- sums over the lines of commodities

lines_of-flat_map : {A : Type 0} (word : List ℕ) (f : A → List Line) (xs : List A)
    → lines_of word (flat_map f xs) ≡ flat_map (λ x. lines_of word (f x)) xs
lines_of-flat_map word f [] = refl
lines_of-flat_map word f (x ∷ xs) =
    filter-append (λ (l : Line). bytes_eq l.word word) (f x) (flat_map f xs)
    ∙ ap (λ ls. lines_of word (f x) ++ ls) (lines_of-flat_map word f xs)

sum-flat_map : {A : Type 0} (read : Line → ℤ) (f : A → List Line) (a : ℤ) (xs : List A)
    → fold (λ z l. z +ℤ read l) a (flat_map f xs) ≡ fold (λ z x. z +ℤ int_sum_by read (f x)) a xs
sum-flat_map read f a [] = refl
sum-flat_map read f a (x ∷ xs) =
    fold-append (λ (z : ℤ) (l : Line). z +ℤ read l) a (f x) (flat_map f xs)
    ∙ ap (λ z. fold (λ (s : ℤ) (l : Line). s +ℤ read l) z (flat_map f xs)) (int_sum_from read a (f x))
    ∙ sum-flat_map read f (a +ℤ int_sum_by read (f x)) xs

-- the sum over the lines of a word is the sum over the items of the sums over their lines
pub sum_over : {A : Type 0} (word : List ℕ) (read : Line → ℤ) (f : A → List Line) (xs : List A)
    → int_sum_by read (lines_of word (flat_map f xs)) ≡ int_sum_by (λ x. int_sum_by read (lines_of word (f x))) xs
sum_over word read f xs =
    ap (int_sum_by read) (lines_of-flat_map word f xs) ∙ sum-flat_map read (λ x. lines_of word (f x)) (pos 0) xs

-- ---- the lines of a word of a commodity

-- inserting ids into lines does not change their words
lines_behind : (word account set_id commodity : List ℕ) (ls : List Line)
    → lines_of word (map (reason_line account set_id commodity) ls) ≡ map (reason_line account set_id commodity) (lines_of word ls)
lines_behind word account set_id commodity [] = refl
lines_behind word account set_id commodity (l ∷ ls) = by (bytes_eq l.word word) (lines_behind word account set_id commodity ls) where
  by : (b : Bool) → lines_of word (map (reason_line account set_id commodity) ls)
      ≡ map (reason_line account set_id commodity) (lines_of word ls)
      → cond b (reason_line account set_id commodity l ∷ lines_of word (map (reason_line account set_id commodity) ls))
      (lines_of word (map (reason_line account set_id commodity) ls))
      ≡ map (reason_line account set_id commodity) (cond b (l ∷ lines_of word ls) (lines_of word ls))
  by true rest = ap (λ others. reason_line account set_id commodity l ∷ others) rest
  by false rest = rest

-- the value of a line with ids is three fields further on
values_behind : (account set_id commodity : List ℕ) (ls : List Line)
    → int_sum_by (λ l. number_at 0 l 7) (map (reason_line account set_id commodity) ls) ≡ int_sum_by (λ l. number_at 0 l 4) ls
values_behind account set_id commodity ls = from (pos 0) ls where
  from : (a : ℤ) (xs : List Line) → fold (λ z l. z +ℤ number_at 0 l 7) a (map (reason_line account set_id commodity) xs)
      ≡ fold (λ z l. z +ℤ number_at 0 l 4) a xs
  from a [] = refl
  from a (x ∷ xs) = from (a +ℤ number_at 0 x 4) xs

module _ (t : AcceptedTables) (p : AccountHoldings) (c : ℕ) where
  abbrev front : List Line
  front = map (reason_line p.account t.set_id (commodity_at t c).id) (reasons_of t p.holdings c)

  abbrev r_line : Line
  r_line = figures_line p.account t.set_id (commodity_at t c).id (figures_of t p.holdings c)

  pub held_commodity_lines : is_commodity_held t p.holdings c ≡ true → commodity_lines t p c ≡ front ++ r_line ∷ []
  held_commodity_lines held = ap (λ b. cond b (front ++ r_line ∷ []) []) held

  no_commodity_lines : is_commodity_held t p.holdings c ≡ false → commodity_lines t p c ≡ []
  no_commodity_lines none = ap (λ b. cond b (front ++ r_line ∷ []) []) none

  r_lines_of : is_commodity_held t p.holdings c ≡ true → lines_of (codes "R") (commodity_lines t p c) ≡ r_line ∷ []
  unfolding figures_line
  r_lines_of held =
      ap (lines_of (codes "R")) (held_commodity_lines held)
      ∙ filter-append (λ (l : Line). bytes_eq l.word (codes "R")) front (r_line ∷ [])
      ∙ ap (λ ls. ls ++ r_line ∷ []) (lines_behind (codes "R") p.account t.set_id (commodity_at t c).id (reasons_of t p.holdings c)
      ∙ ap (map (reason_line p.account t.set_id (commodity_at t c).id)) (no_lines t p.holdings c))

  held_lines_of : is_commodity_held t p.holdings c ≡ true → lines_of (codes "HELD") (commodity_lines t p c)
      ≡ map (reason_line p.account t.set_id (commodity_at t c).id) (lines_of (codes "HELD") (reasons_of t p.holdings c))
  unfolding figures_line
  held_lines_of held =
      ap (lines_of (codes "HELD")) (held_commodity_lines held)
      ∙ filter-append (λ (l : Line). bytes_eq l.word (codes "HELD")) front (r_line ∷ [])
      ∙ append-nil (lines_of (codes "HELD") front)
      ∙ lines_behind (codes "HELD") p.account t.set_id (commodity_at t c).id (reasons_of t p.holdings c)

  -- the requirement in the R lines of a commodity is its requirement
  requirement_told : AreAccepted t p.holdings → c < length t.commodities
      → int_sum_by (λ l. number_at 0 l 9) (lines_of (codes "R") (commodity_lines t p c)) ≡ (figures_of t p.holdings c).requirement
  requirement_told ok lt = by (is_commodity_held t p.holdings c) refl where
    by : (b : Bool) → is_commodity_held t p.holdings c ≡ b
        → int_sum_by (λ l. number_at 0 l 9) (lines_of (codes "R") (commodity_lines t p c)) ≡ (figures_of t p.holdings c).requirement
    by true held =
        ap (int_sum_by (λ l. number_at 0 l 9)) (r_lines_of held)
        ∙ nothing_in_front (number_at 0 r_line 9)
        ∙ requirement_read p.account t.set_id (commodity_at t c).id (figures_of t p.holdings c) (figures_are_small t p.holdings ok c lt)
    by false none =
        ap (λ ls. int_sum_by (λ l. number_at 0 l 9) (lines_of (codes "R") ls)) (no_commodity_lines none)
        ∙ sym (no_requirement t p.holdings c (none_held (held_at t p.holdings c) none) lt)

  -- the sum of the values in the HELD lines of a commodity is its option value
  value_told : value_by_lines (reasons_of t p.holdings c) ≡ values_shown_at t p.holdings c
      → int_sum_by (λ l. number_at 0 l 7) (lines_of (codes "HELD") (commodity_lines t p c)) ≡ values_shown_at t p.holdings c
  value_told worth = by (is_commodity_held t p.holdings c) refl where
    by : (b : Bool) → is_commodity_held t p.holdings c ≡ b
        → int_sum_by (λ l. number_at 0 l 7) (lines_of (codes "HELD") (commodity_lines t p c)) ≡ values_shown_at t p.holdings c
    by true held =
        ap (int_sum_by (λ l. number_at 0 l 7)) (held_lines_of held)
        ∙ values_behind p.account t.set_id (commodity_at t c).id (lines_of (codes "HELD") (reasons_of t p.holdings c))
        ∙ worth
    by false none =
        ap (λ ls. int_sum_by (λ l. number_at 0 l 7) (lines_of (codes "HELD") ls)) (no_commodity_lines none)
        ∙ sym (ap (int_sum_by position_value) (none_held (held_at t p.holdings c) none))

-- ---- a T line

-- the due or the excess of amounts below 10^63 is below 10^64
part_small : (a b : ℤ) → nat_abs a < 10 ^ 63 → nat_abs b < 10 ^ 63 → positive_part (a -ℤ b) < 10 ^ 64
part_small a b few less = of_difference (a -ℤ b) (omega (arith, ints, few, less)) where
  of_difference : (z : ℤ) → nat_abs z < 10 ^ 64 → positive_part z < 10 ^ 64
  of_difference (pos n) few = few
  of_difference (negsuc n) few = omega arith

module _ (t : AcceptedTables) (p : AccountHoldings) where
  abbrev pub in_front : List Line
  in_front = flat_map (commodity_lines t p) (range_with_len 0 (length t.commodities))

  abbrev pub t_line : Line
  t_line = total_line p.account t.set_id (total_numbers t (total_of t p) (option_value_of t p.holdings))

  pub t_word : t_line.word ≡ codes "T"
  unfolding total_line
  t_word = refl

  total_read : AreAccepted t p.holdings → number_at 0 t_line 2 ≡ total_of t p
  unfolding total_line
  total_read ok =
      by (facts_in t).options_have_value
      ∙ whole_read (total_of t p) (let few = total_is_small t p.holdings ok in omega (arith, few)) where
        by : (b : Bool) → exact_value 0 (slice_index_or (p.account ∷ t.set_id ∷ map signed_decimal
            (cond b (total_of t p ∷ option_value_of t p.holdings ∷ pos (due_of (total_of t p) (option_value_of t p.holdings))
            ∷ pos (excess_of (total_of t p) (option_value_of t p.holdings)) ∷ []) (total_of t p ∷ []))) 2 [])
            ≡ exact_value 0 (signed_decimal (total_of t p))
        by true = refl
        by false = refl

  pub total_told : AreAccepted t p.holdings
      → number_at 0 t_line 2 ≡ int_sum_by (λ l. number_at 0 l 9) (lines_of (codes "R") in_front)
  unfolding total_to
  total_told ok =
      let numbers = range_with_len 0 (length t.commodities) in
      let long = length-range_with_len 0 (length t.commodities) in
      total_read ok
      ∙ sym (sum_over (codes "R") (λ l. number_at 0 l 9) (commodity_lines t p) numbers
      ∙ sum_same (λ c. int_sum_by (λ l. number_at 0 l 9) (lines_of (codes "R") (commodity_lines t p c)))
      (λ c. (figures_of t p.holdings c).requirement) (pos 0) numbers
      (λ k d lt. let at = get_or-range_with_len 0 (length t.commodities) k d (omega (arith, lt, long)) in
      requirement_told t p (get_or numbers k d) ok (omega (arith, at, lt, long))))

  module _ (has : (facts_in t).options_have_value ≡ true) where
    abbrev worth : ℤ
    worth = value_to t p.holdings (length t.commodities)

    fields_are : t_line.fields ≡ p.account ∷ t.set_id ∷ map signed_decimal
        (total_of t p ∷ worth ∷ pos (due_of (total_of t p) worth) ∷ pos (excess_of (total_of t p) worth) ∷ [])
    unfolding total_line
    fields_are =
        ap (λ b. let value = cond b worth (pos 0) in p.account ∷ t.set_id ∷ map signed_decimal
        (cond b (total_of t p ∷ value ∷ pos (due_of (total_of t p) value) ∷ pos (excess_of (total_of t p) value) ∷ [])
        (total_of t p ∷ []))) has

    value_read : AreAccepted t p.holdings → number_at 0 t_line 3 ≡ worth
    value_read ok =
        ap (λ fields. exact_value 0 (slice_index_or fields 3 [])) fields_are
        ∙ whole_read worth (let few = value_is_small t p.holdings ok in omega (arith, few))

    pub due_told : AreAccepted t p.holdings → number_at 0 t_line 4 ≡ pos (due_of (number_at 0 t_line 2) (number_at 0 t_line 3))
    due_told ok =
        ap (λ fields. exact_value 0 (slice_index_or fields 4 [])) fields_are
        ∙ whole_read (pos (due_of (total_of t p) worth))
        (part_small (total_of t p) worth (total_is_small t p.holdings ok) (value_is_small t p.holdings ok))
        ∙ (λ i. pos (due_of (sym (total_read ok) i) (sym (value_read ok) i)))

    pub excess_told : AreAccepted t p.holdings → number_at 0 t_line 5 ≡ pos (excess_of (number_at 0 t_line 2) (number_at 0 t_line 3))
    excess_told ok =
        ap (λ fields. exact_value 0 (slice_index_or fields 5 [])) fields_are
        ∙ whole_read (pos (excess_of (total_of t p) worth))
        (part_small worth (total_of t p) (value_is_small t p.holdings ok) (total_is_small t p.holdings ok))
        ∙ (λ i. pos (excess_of (sym (total_read ok) i) (sym (value_read ok) i)))

    pub value_summed : AreAccepted t p.holdings
        → ((c : ℕ) → value_by_lines (reasons_of t p.holdings c) ≡ values_shown_at t p.holdings c)
        → number_at 0 t_line 3 ≡ int_sum_by (λ l. number_at 0 l 7) (lines_of (codes "HELD") in_front)
    unfolding value_to net_value_of
    value_summed ok worth =
        let numbers = range_with_len 0 (length t.commodities) in
        value_read ok
        ∙ sym (sum_over (codes "HELD") (λ l. number_at 0 l 7) (commodity_lines t p) numbers
        ∙ sum_same (λ c. int_sum_by (λ l. number_at 0 l 7) (lines_of (codes "HELD") (commodity_lines t p c)))
        (values_shown_at t p.holdings) (pos 0) numbers
        (λ k d lt. value_told t p (get_or numbers k d) (worth (get_or numbers k d))))
