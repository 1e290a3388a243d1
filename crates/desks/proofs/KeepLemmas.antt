-- The bytes that are kept of a line.
use Rattle.std.proofs.Common.{◌≡◌, ◌∙◌, ◌+◌, ◌-◌, ◌<◌, ◌≤◌, ℕ, true, false, List, [], ◌∷◌, ◌++◌, None, refl, sym, ap, arith, inl, inr}
use Rattle.std.proofs.Common.{length, take, length-append}
use Rattle.std.proofs.Math.Bool.{or-false, or-true}
use Rattle.std.proofs.Math.Seq.{take-append-add}
use Rattle.std.proofs.lemmas.Bool.{cases_Bool, cases_lt, le-ltb, lt-ltb}
use Rattle.std.proofs.lemmas.List.{length-take, length-take-le, take-append-le, take_all}
use Rattle.std.specs.Prelude.{nat_lt, ◌==◌}
use Rattle.std.specs.Io.BufRead.{ends_with_byte, strip_last}
use Rattle.desks.specs.Requests.{Kept, request_of_line, request_of_text}
use Rattle.desks.specs.declared.desk.TheConstants.{MAX_LINE}
use Rattle.desks.specs.declared.kept_lines.TheConstants.{KEPT}
use Rattle.desks.specs.near.Keeping.{added, kept_of, request_kept}

-- if all bytes fit, all are kept
pub added_whole : (kept : Kept) (bytes : List ℕ) → length kept.bytes ≤ KEPT → length bytes ≤ KEPT - length kept.bytes
    → record { bytes = kept.bytes ++ bytes; more = kept.more } ≡ added kept bytes
added_whole kept bytes within room =
    let short : length (kept.bytes ++ bytes) ≤ KEPT = simp length-append (omega arith) in
    let few : nat_lt KEPT (length kept.bytes + length bytes) ≡ false = le-ltb KEPT (length kept.bytes + length bytes) (omega arith) in
    rw (take_all KEPT (kept.bytes ++ bytes) short, few, or-false) refl

-- if they do not fit, only the first are kept
pub added_front : (kept : Kept) (bytes : List ℕ) → length kept.bytes ≤ KEPT → KEPT - length kept.bytes < length bytes
    → record { bytes = kept.bytes ++ take (KEPT - length kept.bytes) bytes; more = true } ≡ added kept bytes
added_front kept bytes within room =
    let all : length kept.bytes + (KEPT - length kept.bytes) ≡ KEPT = omega arith in
    let front : take KEPT (kept.bytes ++ bytes) ≡ kept.bytes ++ take (KEPT - length kept.bytes) bytes =
    ap (λ n. take n (kept.bytes ++ bytes)) (sym all) ∙ take-append-add kept.bytes bytes (KEPT - length kept.bytes) in
    let many : nat_lt KEPT (length kept.bytes + length bytes) ≡ true = lt-ltb KEPT (length kept.bytes + length bytes) (omega arith) in
    rw (front, many, or-true) refl

-- adding bytes to what is kept of a line gives what is kept of the longer line
pub added_to : (line bytes : List ℕ) → added (kept_of line) bytes ≡ kept_of (line ++ bytes)
added_to line bytes =
    elim (cases_lt KEPT (length line)) [
      | inl long ↦
          let kept : length (take KEPT line) ≡ KEPT = length-take-le KEPT line (omega arith) in
          let front : take KEPT (take KEPT line ++ bytes) ≡ take KEPT (line ++ bytes) =
          take-append-le KEPT (take KEPT line) bytes (omega arith) ∙ take_all KEPT (take KEPT line) (omega arith)
          ∙ sym (take-append-le KEPT line bytes (omega arith)) in
          let more : nat_lt KEPT (length line) ≡ true = lt-ltb KEPT (length line) long in
          let both : nat_lt KEPT (length (line ++ bytes)) ≡ true = lt-ltb KEPT _ (simp length-append (omega arith)) in
          rw (front, more, both) refl
      | inr short ↦
          let whole : take KEPT line ≡ line = take_all KEPT line short in
          let less : nat_lt KEPT (length line) ≡ false = le-ltb KEPT (length line) short in
          rw (whole, less, length-append) refl
    ]

-- the request of a text that is too long is not kept
long_text : (text : List ℕ) → MAX_LINE < length text → request_of_text text ≡ None ∷ []
long_text text long =
    let some : (length text == 0) ≡ false = grind arith in
    let many : nat_lt MAX_LINE (length text) ≡ true = lt-ltb MAX_LINE (length text) long in
    rw (some, many) refl

-- stripping a carriage return removes at most one byte
stripped_length : (line : List ℕ) → length line ≤ length (strip_last 13 line) + 1
stripped_length line =
    elim (cases_Bool (ends_with_byte 13 line)) [
      | inl is ↦ rw (is, length-take) (omega arith)
      | inr not ↦ rw not (omega arith)
    ]

-- the request of what is kept of a line is the request of the line
pub request_kept_of : (line : List ℕ) → request_kept (kept_of line) ≡ request_of_line line
request_kept_of line =
    elim (cases_lt KEPT (length line)) [
      | inl long ↦
          let more : nat_lt KEPT (length line) ≡ true = lt-ltb KEPT (length line) long in
          let text : MAX_LINE < length (strip_last 13 line) = omega (arith, stripped_length line) in
          rw more (sym (long_text (strip_last 13 line) text))
      | inr short ↦
          let less : nat_lt KEPT (length line) ≡ false = le-ltb KEPT (length line) short in
          rw (less, take_all KEPT line short) refl
    ]
