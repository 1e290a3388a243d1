-- The events of a desk.
use Rattle.std.specs.Prelude.{ℕ, List, [], ◌∷◌, ◌++◌, Option, Some, None, Result, Ok, Err}
use Rattle.desks.specs.declared.desk.Taken.{Taken}
use Rattle.desks.specs.declared.desk.Taken.TheVariants as taken
use Rattle.desks.specs.declared.desk.DeskFault.{DeskFault}

-- a request was handed over, or `None` for one that is too long to be kept, or an answer was taken
pub data Event : Type 0 where
  Asked : Option (List ℕ) → Event
  Told : List ℕ → Event

-- the requests in a list of events
abbrev pub asked_in : List Event → List (Option (List ℕ))
asked_in [] = []
asked_in (Asked request ∷ events) = request ∷ asked_in events
asked_in (Told text ∷ events) = asked_in events

-- the bytes of the answers in a list of events
abbrev pub told_in : List Event → List ℕ
told_in [] = []
told_in (Asked request ∷ events) = told_in events
told_in (Told text ∷ events) = text ++ told_in events

-- the request that a call handed over, if any, from the result of the call and the line of the desk after it
abbrev pub request_of : Result Taken DeskFault → List ℕ → List (Option (List ℕ))
request_of (Ok taken.Line) line = Some line ∷ []
request_of (Ok taken.TooLong) line = None ∷ []
request_of (Ok taken.End) line = []
request_of (Err fault) line = []

-- the event of handing over a request, if one was handed over
abbrev pub asked_by : Result Taken DeskFault → List ℕ → List Event
asked_by (Ok taken.Line) line = Asked (Some line) ∷ []
asked_by (Ok taken.TooLong) line = Asked None ∷ []
asked_by (Ok taken.End) line = []
asked_by (Err fault) line = []

-- the event of taking an answer, if it was taken
abbrev pub told_by : Result (Unit {0}) DeskFault → List ℕ → List Event
told_by (Ok done) text = Told text ∷ []
told_by (Err fault) text = []

-- these events follow whatever was logged before
abbrev pub Logs : {S : Type 0} → (S → List Event → S → Type 0) → S → List Event → S → Type 0
Logs {S} log old events new = (from : S) (before : List Event) → log from before old → log from (before ++ events) new
