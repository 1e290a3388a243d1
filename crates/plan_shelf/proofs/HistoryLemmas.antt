-- The step that adds a parameter set keeps the rule of the history.
use Rattle.std.proofs.Common.{◌≡◌, ℕ, ◌+◌, ◌<◌, ◌==◌, Bool, true, false, List, [], ◌∷◌, ◌++◌, length, None}
use Rattle.std.proofs.Common.{refl, ap, sym, subst, arith, inl, length-append}
use Rattle.std.proofs.lemmas.List.{append-nil}
use Rattle.std.proofs.lemmas.Bool.Decides.{nat_tests}
use mathlib.Core.List.{IsPrefix}
use prog.Atomic.{either}
use Rattle.logbook.specs.Pages.{Cell, View, cell, keeps, no_nib, step, Moves, Goes}
use Rattle.plan_compiler.specs.Compiled.{SetView}
use Rattle.plan_shelf.specs.near.History.{CountsPublications, AddsPublication}
use Rattle.plan_shelf.proofs.BeginningLemmas.{IsPrefix-whole}

-- clients see nothing of a history
abbrev pub shown : List SetView → List SetView
shown sets = []

-- clients ask for nothing of a history
abbrev pub moved : List SetView → List SetView → ℕ → Type 0
moved before after answer = Unit {0}

-- the exchange writes the next number if it finds the old one
abbrev pub exchanged : ℕ → ℕ → ℕ
exchanged count n = either (n == count) (count + 1) n

-- the view of a publisher that has seen these sets: no pen, and nothing to trade
abbrev pub at_hand : List SetView → View SetView ℕ
at_hand seen = (seen, (no_nib, None))

-- the exchange that adds a set after `count` sets is possible for these words and sets
abbrev pub AddGoes : List SetView → SetView → ℕ → List Cell → List SetView → Type 0
AddGoes seen set count =
    Goes CountsPublications shown moved 0 (at_hand seen) (exchanged count) (AddsPublication (step 0 count (count + 1) set) (at_hand seen))

-- the set is added if all sets of the history had been seen, and otherwise nothing is added
pub adds-goes : (sets seen : List SetView) (set : SetView) (count : ℕ) → length seen ≡ count → IsPrefix seen sets
    → (is_all : Bool) → (length sets == count) ≡ is_all
    → AddGoes seen set count ((length sets, true) ∷ (0, true) ∷ []) sets
adds-goes sets seen set count len begins true is =
    let whole : length sets ≡ count = grind (arith, nat_tests) in
    let same : seen ≡ sets = IsPrefix-whole seen sets begins (omega arith) in
    let more = length-append sets (set ∷ []) in
    let next : exchanged count (length sets) ≡ length (sets ++ set ∷ []) = rw is (omega (arith, more)) in (
      keeps,
      set ∷ [],
      None,
      tt,
      record { are = ap (λ (n : ℕ). (n, true) ∷ (0, true) ∷ []) next },
      inl (refl, refl),
      rw is (ap (λ w. w ++ set ∷ []) (sym same)),
    )
adds-goes sets seen set count len begins false is =
    let all : sets ++ [] ≡ sets = append-nil sets in
    let next : exchanged count (length sets) ≡ length (sets ++ []) = rw is (ap length (sym all)) in (
      keeps,
      [],
      None,
      tt,
      record { are = ap (λ (n : ℕ). (n, true) ∷ (0, true) ∷ []) next },
      inl (refl, refl),
      rw is (ap length all),
    )

-- the exchange that adds a set is possible for any history
pub adds-moves : (seen : List SetView) (set : SetView) (count : ℕ) → length seen ≡ count
    → Moves CountsPublications shown moved 0 (at_hand seen) (exchanged count)
    (AddsPublication (step 0 count (count + 1) set) (at_hand seen))
adds-moves seen set count len words sets counted begins away =
    let Fits : List Cell → Type 0 = λ w. (0 < length w) × ((cell w 0).1 ≡ true) × AddGoes seen set count w sets in
    subst Fits (sym counted.are) (omega arith, refl, adds-goes sets seen set count len begins (length sets == count) refl)
