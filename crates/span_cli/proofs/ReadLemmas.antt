-- Files that are read one after the other, and command lines for which no file is read.
use Rattle.std.proofs.Common.{◌≡◌, ◌⊎◌, ◌+◌, ◌<◌, ◌≤◌, ℕ, Bool, true, false, List, [], None, refl, sym, subst, inl, inr, length, get_or}
use Rattle.std.proofs.Common.{drop, map, Bor}
use Rattle.std.proofs.lemmas.List.{at_drop_all, at_drop_more}
use Rattle.std.specs.Prelude.{if◌then◌else◌}
use Rattle.clap.specs.Words.{Text}
use Rattle.sources.specs.Reads.{ReadsInOrder}
use Rattle.span_cli.specs.Reads.{ReadsAsked}
use Rattle.span_cli.specs.Words.{asked_in, is_request, request_in}

-- the texts of names
abbrev pub texts : List (Bor (List ℕ)) → List (List ℕ)
texts names = map (λ name. name.now) names

module _ {S : Type 0} (reads : S → List ℕ → Bool → S → Type 0) where
  -- if these files are read next, whatever the result, the whole list was read
  abbrev pub GoesOn : S → List (List ℕ) → S → List (List ℕ) → Type 0
  GoesOn old whole now names = (new : S) → ReadsInOrder reads now names new → ReadsInOrder reads old whole new

  -- the next file was read
  pub goes_on : (old now next : S) (whole : List (List ℕ)) (names : List (Bor (List ℕ))) (i : ℕ) (none : Bor (List ℕ))
      → i < length names → GoesOn old whole now (texts (drop i names)) → reads now (get_or names i none).now true next
      → GoesOn old whole next (texts (drop (i + 1) names))
  goes_on old now next whole names i none within held is new rest =
      held new (subst (λ (xs : List (List ℕ)). ReadsInOrder reads now xs new)
      (sym (at_drop_more texts names i none within)) (inr (next, is, rest)))

  -- the next file could not be read
  pub stops : (old now new : S) (whole : List (List ℕ)) (names : List (Bor (List ℕ))) (i : ℕ) (none : Bor (List ℕ))
      → i < length names → GoesOn old whole now (texts (drop i names)) → reads now (get_or names i none).now false new
      → ReadsInOrder reads old whole new
  stops old now new whole names i none within held is =
      held new (subst (λ (xs : List (List ℕ)). ReadsInOrder reads now xs new)
      (sym (at_drop_more texts names i none within)) (inl is))

  -- all files were read
  pub ends : (old now : S) (whole : List (List ℕ)) (names : List (Bor (List ℕ))) (i : ℕ) → length names ≤ i
      → GoesOn old whole now (texts (drop i names)) → ReadsInOrder reads old whole now
  ends old now whole names i over held =
      held now (subst (λ (xs : List (List ℕ)). ReadsInOrder reads now xs now) (sym (at_drop_all texts names i over)) refl)

  -- nothing was read, and `gave_up` is true if the arguments are valid
  pub nothing_read : (now : S) (words : List Text) (gave_up : Type 0) → (is_request words ≡ true → gave_up)
      → ReadsAsked reads now [] (request_in words) now ⊎ ((now ≡ now) × gave_up)
  nothing_read now words gave_up told = of_request (is_request words) refl where
    of_request : (taken : Bool) → is_request words ≡ taken
        → ReadsAsked reads now [] (if taken then asked_in words else None) now ⊎ ((now ≡ now) × gave_up)
    of_request true is = inr (refl, told is)
    of_request false is = inl refl
