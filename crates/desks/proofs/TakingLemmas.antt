-- How lines are taken from an input.
use Rattle.std.proofs.Common.{◌≡◌, ◌∙◌, ℕ, Bool, true, false, List, [], ◌∷◌, ◌++◌, refl, subst, sym, ap, append_assoc, append-nil}
use Rattle.std.proofs.KnownBytes.{Consumes-trans, prepend_known-nil}
use Rattle.std.proofs.lemmas.List.Elements.{All-append}
use Rattle.std.specs.Prelude.{OnErr, Option, Some, None, Result, Ok, Err}
use Rattle.std.specs.Io.KnownBytes.{Consumes, IsAtEnd, prepend_known}
use Rattle.sources.specs.Readings.{Reading}
use Rattle.desks.specs.Requests.{Kept, is_feed, request_of_line, requests_in, whole_lines}
use Rattle.desks.specs.Takings.{AreRequests, Takes, coming}
use Rattle.desks.specs.declared.desk.DeskFault.{DeskFault}
use Rattle.desks.specs.declared.intake.Reach.{Reach}
use Rattle.desks.specs.declared.intake.Reach.TheVariants as reach
use Rattle.desks.specs.near.Blocks.{CutsAll, CutsLine}
use Rattle.desks.specs.near.Keeping.{HasNoFeed, added, kept_of, request_kept}
use Rattle.desks.specs.near.Lines.{ReadsLine, end_read, reach_after}
use Rattle.desks.proofs.KeepLemmas.{added_to, request_kept_of}
use Rattle.desks.proofs.RequestLemmas.{requests_in-last, requests_in-line, whole_lines-at_feed, whole_lines-no_feed}

-- before anything is taken, all bytes are still to be taken
pub all_coming : {R : Type 0} (block : List ℕ) (reading : Reading R) (bytes : Option (List ℕ)) → block ≡ [] → reading.bytes ≡ bytes
    → coming block reading ≡ bytes
all_coming block reading bytes none same = rw (none, same) (prepend_known-nil bytes)

-- ---- one line

-- bytes that are taken from a block are taken from the bytes that are still to be taken
from_block : (front block : List ℕ) (known : Option (List ℕ))
    → Consumes (prepend_known (front ++ block) known) (prepend_known block known) front
from_block front block None = tt
from_block front block (Some bytes) = append_assoc front block bytes

-- a read takes nothing
from_read : (block : List ℕ) (old new : Option (List ℕ)) → Consumes old new block
    → Consumes (prepend_known [] old) (prepend_known block new) []
from_read block None new read = tt
from_read block (Some xs) None read = absurd read
from_read block (Some xs) (Some ys) read = read

module _ {R : Type 0} (bytes : Option (List ℕ)) (reading : Reading R) (block : List ℕ) (line : Kept)
    (reads : ReadsLine bytes (coming block reading) line []) where
  -- after the front of the block is added to the line
  reads_front : (front end rest : List ℕ) (next : Kept) → block ≡ (front ++ end) ++ rest → HasNoFeed front → next ≡ added line front
      → ReadsLine bytes (coming rest reading) next end
  reads_front front end rest next parts no_feed is =
      let more : Consumes (coming block reading) (coming rest reading) (front ++ end) =
      rw parts (from_block (front ++ end) rest reading.bytes) in
      let same : (reads.part ++ []) ++ (front ++ end) ≡ (reads.part ++ front) ++ end =
      ap (λ part. part ++ (front ++ end)) (append-nil reads.part) ∙ sym (append_assoc reads.part front end) in
      record {
        part = reads.part ++ front;
        no_feed = All-append (λ b. is_feed b ≡ false) reads.part front reads.no_feed no_feed;
        taken = subst (λ taken. Consumes bytes (coming rest reading) taken) same
            (Consumes-trans bytes (coming block reading) (coming rest reading) (reads.part ++ []) (front ++ end) reads.taken more);
        kept = is ∙ ap (λ kept. added kept front) reads.kept ∙ added_to reads.part front;
      }

  -- after a line feed is found
  pub reads_line : (rest : List ℕ) (next : Kept) → CutsLine block rest line next → ReadsLine bytes (coming rest reading) next (10 ∷ [])
  reads_line rest next cut =
      reads_front cut.front (10 ∷ []) rest next (cut.bytes ∙ sym (append_assoc cut.front (10 ∷ []) rest)) cut.no_feed cut.line

  -- after a block without a line feed, and a read of the next one
  pub reads_block : (now : Reading R) (rest more : List ℕ) (next : Kept) → CutsAll block rest line next
      → Consumes reading.bytes now.bytes more → ReadsLine bytes (coming more now) next []
  reads_block now rest more next cut read =
      let all = reads_front block [] [] next (sym (append-nil (block ++ []) ∙ append-nil block)) cut.no_feed cut.line in record {
        part = all.part;
        no_feed = all.no_feed;
        taken = subst (λ taken. Consumes bytes (coming more now) taken) (append-nil (all.part ++ []))
            (Consumes-trans bytes (coming [] reading) (coming more now) (all.part ++ []) [] all.taken
            (from_read more reading.bytes now.bytes read));
        kept = all.kept;
      }

-- ---- the request of a line

-- the request of a line that was read, if reading it did not fail
abbrev pub request_read : Result Bool DeskFault → Kept → List (Option (List ℕ))
request_read (Ok found) line = request_kept line
request_read (Err fault) line = []

-- the requests in a line that was read
requests_of_line : (r : Result Bool DeskFault) (part : List ℕ) (rest : Option (List ℕ)) → HasNoFeed part
    → (r ≡ Ok false → IsAtEnd rest) → AreRequests (reach_after r) (part ++ end_read r) rest (request_read r (kept_of part))
requests_of_line (Ok true) part rest none end = (
  whole_lines-at_feed part [],
  request_kept_of part ∙ sym (requests_in-line part [] none ∙ append-nil (request_of_line part)),
)
requests_of_line (Ok false) part rest none end =
    (end refl, request_kept_of part ∙ sym (ap requests_in (append-nil part) ∙ requests_in-last part none))
requests_of_line (Err fault) part rest none end =
    sym (ap (λ bytes. requests_in (whole_lines bytes)) (append-nil part) ∙ ap requests_in (whole_lines-no_feed [] part none))

-- a line that was read takes its request
pub takes_line : (r : Result Bool DeskFault) (old now : Reach) (bytes rest : Option (List ℕ)) (line : Kept)
    (request : List (Option (List ℕ))) → ReadsLine bytes rest line (end_read r) → (r ≡ Ok false → IsAtEnd rest) → old ≡ reach.Open
    → now ≡ reach_after r → request_read r line ≡ request → Takes old bytes now rest request
takes_line r old now bytes rest line request reads end open_before same is =
    rw (open_before, same, ← is, reads.kept)
    (reads.part ++ end_read r, reads.taken, requests_of_line r reads.part rest reads.no_feed end)
