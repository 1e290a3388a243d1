use Rattle.std.proofs.Common.{◌≡◌, ℕ, List, [], ◌∷◌, length, ap}
use Rattle.std.specs.Prelude.{codes}
use Rattle.std.proofs.lemmas.List.Elements.{All-cons, All-nil}
use Rattle.reasons.specs.Lines.{lines_of}
use Rattle.reasons.specs.Reasons.{reasons_of}
use Rattle.reasons.proofs.WordLaws.{credit_lines, in_order, scan_lines, short_lines, sums_lines}
use Rattle.reasons.proofs.line_laws.lines_stand_in_the_order_of_their_words.Goals as goal

pub returns-clause-order : goal.returns-clause-order
returns-clause-order c = in_order

pub returns-clause-one : goal.returns-clause-one
returns-clause-one c t holdings n =
    let one = λ (word : List ℕ). length (lines_of word (reasons_of t holdings n)) ≡ 1 in
    All-cons one (codes "SUMS") (codes "SCAN" ∷ codes "CREDIT" ∷ codes "SHORT" ∷ []) (ap length (sums_lines t holdings n))
    (All-cons one (codes "SCAN") (codes "CREDIT" ∷ codes "SHORT" ∷ []) (ap length (scan_lines t holdings n))
    (All-cons one (codes "CREDIT") (codes "SHORT" ∷ []) (ap length (credit_lines t holdings n))
    (All-cons one (codes "SHORT") [] (ap length (short_lines t holdings n)) (All-nil one))))
