-- What the lines of a commodity say by themselves: the numbers in their fields, and the figures that follow from these
-- numbers.
use Rattle.std.specs.Prelude.{ℕ, ◌*◌, ◌/◌, ◌^◌, ◌==◌, if◌then◌else◌, List, [], ◌∷◌, map, filter, slice_index_or, bytes_eq, codes}
use Rattle.std.specs.Prelude.{ℤ, pos, ◌+ℤ◌, ◌*ℤ◌, nat_abs}
use Rattle.std.specs.Int.{div_ceil, int_max}
use Rattle.span_money.specs.ExactDecimals.{exact_value}
use Rattle.span_money.specs.LineFields.{Line}
use Rattle.span_money.specs.Numbers.{int_sum_by, negative_part, positive_part}
use Rattle.scan_risk.specs.Scenarios.{active_scenario, scan_risk}
use Rattle.inter_credit.specs.Requirement.{requirement_of}

-- ---- lines, and the fields of a line

-- the words of lines, in the order of their lines
abbrev pub words_in_order : List (List ℕ)
words_in_order =
    codes "HELD" ∷ codes "SUMS" ∷ codes "SCAN" ∷ codes "MONTH" ∷ codes "INTRA" ∷ codes "SPOT" ∷ codes "INTER" ∷ codes "CREDIT"
    ∷ codes "SHORT" ∷ []

-- the words that have exactly one line
abbrev pub words_of_one : List (List ℕ)
words_of_one = codes "SUMS" ∷ codes "SCAN" ∷ codes "CREDIT" ∷ codes "SHORT" ∷ []

-- the lines of a word, in their order
abbrev pub lines_of : List ℕ → List Line → List Line
lines_of word lines = filter (λ l. bytes_eq l.word word) lines

-- the only line of a word
abbrev pub line_of : List ℕ → List Line → Line
line_of word lines = slice_index_or (lines_of word lines) 0 (record { word = word; fields = [] })

-- the text of a field, counted from 0 after the ids
abbrev pub text_at : Line → ℕ → List ℕ
text_at l k = slice_index_or l.fields k []

-- the number in a field, in 10^-places
abbrev pub number_at : ℕ → Line → ℕ → ℤ
number_at places l k = exact_value places (text_at l k)

-- ---- the figures that follow from lines

-- the scenario sums: the fields of the SUMS line
abbrev pub sums_by_lines : List Line → List ℤ
sums_by_lines lines = map (exact_value 0) (line_of (codes "SUMS") lines).fields

-- the charge of an INTRA line, in 10^-4 minor units
abbrev pub intra_charge_told : Line → ℤ
intra_charge_told l = number_at 4 l 4

-- the intracommodity charge: the sum of the charges of the INTRA lines, rounded up
abbrev pub intra_by_lines : List Line → ℤ
intra_by_lines lines =
    pos (div_ceil (positive_part (int_sum_by intra_charge_told (lines_of (codes "INTRA") lines))) (10 ^ 4))

-- the charge of a SPOT line, in 10^-8 minor units
abbrev pub spot_charge_told : Line → ℤ
spot_charge_told l = number_at 8 l 5

-- the delivery charge: the sum of the charges of the SPOT lines, rounded up
abbrev pub delivery_by_lines : List Line → ℤ
delivery_by_lines lines =
    pos (div_ceil (positive_part (int_sum_by spot_charge_told (lines_of (codes "SPOT") lines))) (10 ^ 8))

-- the net delta, in 10^-8: the sum of the deltas of the MONTH lines
abbrev pub net_by_lines : List Line → ℤ
net_by_lines lines = int_sum_by (λ l. number_at 8 l 1) (lines_of (codes "MONTH") lines)

-- the weight, in 10^-8: the sum over the INTER lines of the delta used times the basis points
abbrev pub weight_by_lines : List Line → ℤ
weight_by_lines lines = int_sum_by (λ l. number_at 8 l 3 *ℤ number_at 0 l 4) (lines_of (codes "INTER") lines)

-- a credit: price risk in tenths, times weight, over 10^4 times the size of the net delta, rounded down, or 0 without a
-- net delta
abbrev pub credit_from : ℤ → ℤ → ℤ → ℤ
credit_from tenths net weight =
    if nat_abs net == 0 then pos 0
    else pos ((positive_part tenths * positive_part weight) / (10 * 10 ^ 4 * nat_abs net))

-- the credit that follows from the fields of the CREDIT line
abbrev pub credit_by_lines : List Line → ℤ
credit_by_lines lines =
    let l = line_of (codes "CREDIT") lines in credit_from (number_at 1 l 0) (number_at 8 l 1) (number_at 8 l 2)

-- the number of short contracts of a type: the sum of the sizes of the negative net quantities in the HELD lines of
-- this type
abbrev pub short_by_lines : List ℕ → List Line → ℤ
short_by_lines letter lines =
    int_sum_by (λ l. pos (negative_part (number_at 0 l 3))) (filter (λ l. bytes_eq (text_at l 1) letter) (lines_of (codes "HELD") lines))

-- short calls and short puts as the word of a method counts them: the sum of both, or the larger of the two
abbrev pub counted_by : List ℕ → ℤ → ℤ → ℤ
counted_by method calls puts = if bytes_eq method (codes "SUM") then calls +ℤ puts else int_max calls puts

-- the minimum: the rate of the SHORT line times its counts, combined by its method
abbrev pub minimum_by_lines : List Line → ℤ
minimum_by_lines lines =
    let l = line_of (codes "SHORT") lines in
    number_at 0 l 3 *ℤ counted_by (text_at l 2) (number_at 0 l 0) (number_at 0 l 1)

-- the option value: the sum of the values of the HELD lines
abbrev pub value_by_lines : List Line → ℤ
value_by_lines lines = int_sum_by (λ l. number_at 0 l 4) (lines_of (codes "HELD") lines)

-- all figures of a commodity, in the order in which its R line prints them: scan risk, active scenario, both charges,
-- credit, minimum, and the requirement that follows from them
abbrev pub figures_by_lines : List Line → List ℤ
figures_by_lines lines =
    let sums = sums_by_lines lines in
    let scan = scan_risk sums in
    let intra = intra_by_lines lines in
    let delivery = delivery_by_lines lines in
    let credit = credit_by_lines lines in
    let minimum = minimum_by_lines lines in
    scan ∷ pos (active_scenario sums) ∷ intra ∷ delivery ∷ credit ∷ minimum ∷ requirement_of scan intra delivery credit minimum ∷ []
