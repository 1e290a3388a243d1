-- What a desk does, call by call.
use Rattle.std.proofs.Common.{◌≡◌, ◌∙◌, ℕ, Bool, true, false, List, [], ◌∷◌, ◌++◌, Option, Some, None, Result, Ok, Err}
use Rattle.std.proofs.Common.{refl, sym, ap, append_assoc, append-nil, length, take}
use Rattle.std.proofs.KnownBytes.{Appends-nil, Appends-trans, Consumes-nil, Consumes-trans}
use Rattle.std.proofs.Math.Seq.{take-append_seam}
use Rattle.std.specs.Prelude.{⊤, IfSome, MatchBool, OnErr, OnOk}
use Rattle.std.specs.Io.{StartsWith}
use Rattle.std.specs.Io.KnownBytes.{Appends}
use Rattle.writers.specs.Streams.{Says, Stream}
use Rattle.desks.specs.Desks.{Dealing, Deals}
use Rattle.desks.specs.Events.{Event, Asked, Told, asked_by, asked_in, request_of, told_by, told_in}
use Rattle.desks.specs.Requests.{requests_in, whole_lines}
use Rattle.desks.specs.Takings.{AreRequests, Takes}
use Rattle.desks.specs.declared.desk.DeskFault.{DeskFault}
use Rattle.desks.specs.declared.desk.Taken.{Taken}
use Rattle.desks.specs.declared.desk.Taken.TheVariants as taken
use Rattle.desks.specs.declared.intake.Reach.{Reach}
use Rattle.desks.specs.declared.intake.Reach.TheVariants as reach
use Rattle.desks.proofs.RequestLemmas.{behind_whole, requests_in-whole, whole_lines-append, whole_lines-whole}

-- ---- events

pub asked_in-append : (xs ys : List Event) → asked_in (xs ++ ys) ≡ asked_in xs ++ asked_in ys
asked_in-append [] ys = refl
asked_in-append (Asked request ∷ xs) ys = ap (λ requests. request ∷ requests) (asked_in-append xs ys)
asked_in-append (Told text ∷ xs) ys = asked_in-append xs ys

told_in-append : (xs ys : List Event) → told_in (xs ++ ys) ≡ told_in xs ++ told_in ys
told_in-append [] ys = refl
told_in-append (Asked request ∷ xs) ys = told_in-append xs ys
told_in-append (Told text ∷ xs) ys =
    ap (λ bytes. text ++ bytes) (told_in-append xs ys) ∙ sym (append_assoc text (told_in xs) (told_in ys))

-- ---- the input

-- nothing is taken
pub takes_none : (now : Reach) (bytes : Option (List ℕ)) → Takes now bytes now bytes []
takes_none reach.Open bytes = ([], Consumes-nil bytes, (refl, refl))
takes_none reach.Ended bytes = (refl, refl, refl)
takes_none reach.CutOff bytes = (refl, refl, refl)

-- what is taken after whole lines
requests_after : (now : Reach) (lines taken : List ℕ) (rest : Option (List ℕ)) (asked : List (Option (List ℕ)))
    → whole_lines lines ≡ lines → AreRequests now taken rest asked → AreRequests now (lines ++ taken) rest (requests_in lines ++ asked)
requests_after reach.Open lines taken rest asked whole are = (
  whole_lines-append lines taken whole ∙ ap (λ more. lines ++ more) are.0,
  ap (λ more. requests_in lines ++ more) are.1 ∙ sym (requests_in-whole lines taken whole),
)
requests_after reach.Ended lines taken rest asked whole are =
    (are.0, ap (λ more. requests_in lines ++ more) are.1 ∙ sym (requests_in-whole lines taken whole))
requests_after reach.CutOff lines taken rest asked whole are =
    ap (λ more. requests_in lines ++ more) are
    ∙ sym (ap requests_in (whole_lines-append lines taken whole) ∙ requests_in-whole lines (whole_lines taken) whole)

-- requests that are taken one after the other
pub takes_after : (old mid new : Reach) (bytes more rest : Option (List ℕ)) (first last : List (Option (List ℕ)))
    → Takes old bytes mid more first → Takes mid more new rest last → Takes old bytes new rest (first ++ last)
takes_after reach.Open reach.Open new bytes more rest first last (lines, from, (whole, are)) (taken, then, too) = (
  lines ++ taken,
  Consumes-trans bytes more rest lines taken from then,
  rw are (requests_after new lines taken rest last whole too),
)
takes_after reach.Open reach.Ended new bytes more rest first last took (same, kept, none) = rw (same, kept, none, append-nil first) took
takes_after reach.Open reach.CutOff new bytes more rest first last took (same, kept, none) = rw (same, kept, none, append-nil first) took
takes_after reach.Ended mid new bytes more rest first last (is, kept, none) took = rw none (rw (is, kept) at took)
takes_after reach.CutOff mid new bytes more rest first last (is, kept, none) took = rw none (rw (is, kept) at took)

-- ---- the output

-- nothing is written
says_none : (s : Stream) → Says s s []
says_none s = of_mark s.failed refl where
  of_mark : (failed : Bool) → s.failed ≡ failed → MatchBool failed ⊤ ((s.failed ≡ false) × Appends s.held s.held [])
  of_mark true is = tt
  of_mark false is = (is, Appends-nil s.held)

-- bytes that are written one after the other
says_after : (old mid new : Stream) (first last : List ℕ) → Says old mid first → Says mid new last → Says old new (first ++ last)
says_after old mid new first last said more = of_mark new.failed more where
  of_mark : (failed : Bool) → MatchBool failed ⊤ ((mid.failed ≡ false) × Appends mid.held new.held last)
      → MatchBool failed ⊤ ((old.failed ≡ false) × Appends old.held new.held (first ++ last))
  of_mark true more = tt
  of_mark false more =
      let was = rw more.0 at said in
      (was.0, Appends-trans old.held mid.held new.held first last was.1 more.1)

-- ---- the desk

-- no events
pub nothing_dealt : (d : Dealing) → Deals d [] d
nothing_dealt d = record { takes = takes_none d.reach d.coming; says = says_none d.output }

-- more events
dealt_after : (a b c : Dealing) (first last : List Event) → Deals a first b → Deals b last c → Deals a (first ++ last) c
dealt_after a b c first last h k = record {
  takes = rw (asked_in-append first last) (takes_after a.reach b.reach c.reach a.coming b.coming c.coming (asked_in first) (asked_in last)
      h.takes k.takes);
  says = rw (told_in-append first last) (says_after a.output b.output c.output (told_in first) (told_in last) h.says k.says);
}

-- handing over a request takes it from the input, and writes nothing
asked_once : (r : Result Taken DeskFault) (line : List ℕ)
    → (asked_in (asked_by r line) ≡ request_of r line) × (told_in (asked_by r line) ≡ [])
asked_once (Ok taken.Line) line = (refl, refl)
asked_once (Ok taken.TooLong) line = (refl, refl)
asked_once (Ok taken.End) line = (refl, refl)
asked_once (Err fault) line = (refl, refl)

-- after a request
pub dealt_request : (a b c : Dealing) (events : List Event) (r : Result Taken DeskFault) (line : List ℕ)
    → Takes b.reach b.coming c.reach c.coming (request_of r line) → c.output ≡ b.output → Deals a events b
    → Deals a (events ++ asked_by r line) c
dealt_request a b c events r line takes same before =
    let once = asked_once r line in
    dealt_after a b c events (asked_by r line) before (record {
      takes = rw once.0 takes;
      says = rw (once.1, same) (says_none b.output);
    })

-- after an answer
pub dealt_answer : (a b c : Dealing) (events : List Event) (r : Result (Unit {0}) DeskFault) (text : List ℕ)
    → OnOk r (Says b.output c.output text) → OnErr r (c.output.failed ≡ true) → c.reach ≡ b.reach → c.coming ≡ b.coming
    → Deals a events b → Deals a (events ++ told_by r text) c
dealt_answer a b c events (Ok done) text says failed reach coming before =
    dealt_after a b c events (Told text ∷ []) before (record {
      takes = rw (reach, coming) (takes_none b.reach b.coming);
      says = rw (append-nil text) says;
    })
dealt_answer a b c events (Err fault) text says failed reach coming before =
    dealt_after a b c events [] before (record {
      takes = rw (reach, coming) (takes_none b.reach b.coming);
      says = rw failed tt;
    })

-- ---- an input whose bytes are known

-- the requests that were taken are the first ones of the input
pub first_requests : (bytes : Option (List ℕ)) (now : Reach) (rest : Option (List ℕ)) (asked : List (Option (List ℕ)))
    → Takes reach.Open bytes now rest asked → IfSome bytes (λ all. (more : List (Option (List ℕ))) × (requests_in all ≡ asked ++ more))
first_requests None now rest asked takes = tt
first_requests (Some all) now None asked (taken, from, are) = absurd from
first_requests (Some all) reach.Open (Some rest) asked (taken, from, (whole, are)) =
    (requests_in rest, rw are (ap requests_in from ∙ requests_in-whole taken rest whole))
first_requests (Some all) reach.Ended (Some rest) asked (taken, from, (none, are)) =
    ([], rw (are, append-nil (requests_in taken)) (ap requests_in (from ∙ ap (λ bytes. taken ++ bytes) none ∙ append-nil taken)))
first_requests (Some all) reach.CutOff (Some rest) asked (taken, from, are) =
    let tail = behind_whole taken in
    let parts : all ≡ whole_lines taken ++ (tail.0 ++ rest) =
    from ∙ ap (λ bytes. bytes ++ rest) tail.1 ∙ append_assoc (whole_lines taken) tail.0 rest in (
      requests_in (tail.0 ++ rest),
      rw are (ap requests_in parts ∙ requests_in-whole (whole_lines taken) (tail.0 ++ rest) (whole_lines-whole taken)),
    )

-- at the end of the input all requests were taken
pub all_requests : (bytes rest : Option (List ℕ)) (asked : List (Option (List ℕ)))
    → Takes reach.Open bytes reach.Ended rest asked → IfSome bytes (λ all. asked ≡ requests_in all)
all_requests None rest asked takes = tt
all_requests (Some all) None asked (taken, from, are) = absurd from
all_requests (Some all) (Some rest) asked (taken, from, (none, are)) =
    are ∙ ap requests_in (sym (from ∙ ap (λ bytes. taken ++ bytes) none ∙ append-nil taken))

-- if a read failed, the requests in the whole lines were taken
pub cut_off_requests : (bytes rest : Option (List ℕ)) (asked : List (Option (List ℕ))) → Takes reach.Open bytes reach.CutOff rest asked
    → (received : List ℕ) × IfSome bytes (λ all. StartsWith all received) × (asked ≡ requests_in (whole_lines received))
cut_off_requests None rest asked (taken, from, are) = (taken, tt, are)
cut_off_requests (Some all) None asked (taken, from, are) = absurd from
cut_off_requests (Some all) (Some rest) asked (taken, from, are) =
    (taken, ap (take (length taken)) from ∙ take-append_seam taken rest, are)
