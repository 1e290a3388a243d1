-- The rule of a history, and the result of its step.
use Rattle.std.specs.Prelude.{ℕ, ◌≡◌, ◌==◌, ◌<◌, true, List, [], ◌∷◌, ◌++◌, length, MatchBool}
use mathlib.Core.List.{IsPrefix}
use Rattle.logbook.specs.Pages.{Book, Cell, Named, Step, View}
use Rattle.plan_compiler.specs.Compiled.{SetView}

-- the first word of a book is the number of parameter sets in its history; the second stays 0
pub record CountsPublications (words : List Cell) (sets : List SetView) : Type 0 where
  pub are : words ≡ (length sets, true) ∷ (0, true) ∷ []

-- what contracts see of a history: its book, and the sets that were published
pub record HistoryView : Type 0 where
  pub book : Book
  pub published : List SetView

-- the first word of a book
abbrev pub counter_of : Book → Named
counter_of book = record { tracked = true; key = 0; book = book }

-- the set was added after all sets that had been seen; or the history was longer, and then all of it is seen
abbrev pub AddsPublication : Step SetView → View SetView ℕ → ℕ → View SetView ℕ → Type 0
AddsPublication s old found new = MatchBool (found == s.old) (new.0 ≡ old.0 ++ s.ask ∷ []) (length new.0 ≡ found)

-- the first list is a proper prefix of the second
abbrev pub IsLonger : List SetView → List SetView → Type 0
IsLonger xs ys = IsPrefix xs ys × (length xs < length ys)
