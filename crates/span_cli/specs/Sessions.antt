-- What a session reads, and how it ends.
use Rattle.std.specs.Prelude.{◌≡◌, ◌⊎◌, ◌-◌, ◌^◌, ℕ, Bool, true, false, ◌&&◌, if◌then◌else◌, MatchBool, All, List, [], ◌++◌, length, map}
use Rattle.std.specs.Prelude.{Option, Some, None, IfSome, Err}
use Rattle.std.specs.Io.{StartsWith}
use Rattle.desks.specs.Requests.{requests_in, whole_lines}
use Rattle.session.specs.Answers.{is_stdin}
use Rattle.session.specs.Conversations.{HasFileAsked, IsFromSource, Turn, files_of}
use Rattle.sources.specs.Files.{File}
use Rattle.sources.specs.declared.ReadFault.TheVariants as read

-- The environment of a command: the files under each name and the bytes of the input, as far as they are known; the
-- turns of a session; and whether the output could not be written.
pub record Outside : Type 0 where
  pub file : List ℕ → Option File
  pub input : Option (List ℕ)
  pub turns : List Turn
  pub is_unwritten : Bool

abbrev pub around : (List ℕ → Option File) → Option (List ℕ) → List Turn → Bool → Outside
around file input turns is_unwritten = record { file = file; input = input; turns = turns; is_unwritten = is_unwritten }

-- an environment with files only
abbrev pub files_alone : (List ℕ → Option File) → Outside
files_alone file = around file None [] false

-- ---- files, while requests come from a stream

-- The file under a name. In a session, the stream of requests is a file that cannot be read.
abbrev pub found_under : Bool → (List ℕ → Option File) → List ℕ → Option File
found_under is_session file name = if is_session && is_stdin name then Some (Err read.Failed) else file name

-- how a source is read under a name; in a session the stream of requests is not read
abbrev pub reads_under : {S : Type 0} → Bool → (S → List ℕ → Bool → S → Type 0) → S → List ℕ → Bool → S → Type 0
reads_under is_session reads old name could new =
    MatchBool (is_session && is_stdin name) ((could ≡ false) × (new ≡ old)) (reads old name could new)

-- ---- ends

-- the requests of these turns
abbrev pub requests_of : List Turn → List (Option (List ℕ))
requests_of turns = map (λ t. t.request) turns

-- how a session ended: at the end of its input, because the input could not be read, or because an answer could not be
-- written
pub data Ending : Type 0 where
  AtEnd : Ending
  CutOff : Ending
  Unwritten : Ending

-- A session that ended in this way took all the requests that it must take. At the end of the input these are all its
-- requests, or as many as there are numbers. If the input could not be read, they are the requests in the lines that
-- were read whole.
abbrev pub Ends : Ending → Outside → Type 0
Ends AtEnd outside =
    IfSome outside.input (λ bytes. requests_of outside.turns ≡ requests_in bytes) ⊎ (length outside.turns ≡ 2 ^ 64 - 1)
Ends CutOff outside =
    (received : List ℕ) × IfSome outside.input (λ bytes. StartsWith bytes received)
    × (requests_of outside.turns ≡ requests_in (whole_lines received))
Ends Unwritten outside = outside.is_unwritten ≡ true

-- a session that was opened took its turns, and ended in this way
pub record IsConversation (outside : Outside) (ending : Ending) : Type 0 where
  -- the requests are the first requests of the input, in order
  pub first : IfSome outside.input (λ bytes. (more : List (Option (List ℕ))) × (requests_in bytes ≡ requests_of outside.turns ++ more))
  -- the files that the requests name were read, and are the files of the sources
  pub asked : All HasFileAsked outside.turns
  pub files : All (IsFromSource outside.file) (files_of outside.turns)
  pub ends : Ends ending outside
