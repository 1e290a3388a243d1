-- The request of a line that is complete.
use Rattle.std.specs.Prelude.{ℕ, List, [], ◌∷◌, Option, Some, None, Result, Ok, Err}
use Rattle.desks.specs.Events.{request_of}
use Rattle.desks.specs.declared.desk.DeskFault.{DeskFault}
use Rattle.desks.specs.declared.desk.Taken.{Taken}
use Rattle.desks.specs.declared.kept_lines.Closed.{Closed}
use Rattle.desks.specs.declared.kept_lines.Closed.TheVariants as closed

-- the request of a line that was closed, from the bytes that are then kept of it
abbrev pub closed_as : Closed → List ℕ → List (Option (List ℕ))
closed_as closed.Empty line = []
closed_as closed.Line line = Some line ∷ []
closed_as closed.TooLong line = None ∷ []

-- the request of a line that was taken, if it is one
abbrev pub request_taken : Result (Option Taken) DeskFault → List ℕ → List (Option (List ℕ))
request_taken (Ok None) line = []
request_taken (Ok (Some taken)) line = request_of (Ok taken) line
request_taken (Err fault) line = []
