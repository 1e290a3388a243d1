-- Requests that test vectors share.
use Rattle.std.specs.Prelude.{ℕ, false, true, List, ◌++◌, codes, None, Option, Some, Ok, Result}
use Rattle.session.specs.Answers.{answer_to, opened}
use Rattle.session.specs.Conversations.{Turn, answer_text, state_after}
use Rattle.session.specs.Requests.{Margin, Set}
use Rattle.sources.specs.Files.{File}
use Rattle.statement_text.specs.Statement.{and_then, same}
use Rattle.statement_text.specs.declared.faults.SpanFault.{SpanFault}
use Rattle.statement_text.specs.near.Samples.{commodity, fa2, one_future}

-- a request with this line
abbrev pub asking : List ℕ → Turn
asking text = record { request = Some text; file = None; is_out_of_memory = false }

-- a request for which memory ran out
abbrev pub asking_in_vain : List ℕ → Turn
asking_in_vain text = record { request = Some text; file = None; is_out_of_memory = true }

-- a request that is too long
abbrev pub too_long : Turn
too_long = record { request = None; file = None; is_out_of_memory = false }

-- a parameter set with two futures, and positions in which X is long one and Y is short the other
abbrev pub two_futures : List ℕ
two_futures = one_future ++ fa2

abbrev pub held_futures : List ℕ
held_futures = codes "X,FA,1\nY,FA2,-1\n"

-- another parameter set, in which a further future comes before FA, and FA has a scan risk of 1500
abbrev pub next_set : List ℕ
next_set =
    codes "SET,D2,1,USD\n" ++ commodity (codes "AA") ++ fa2
    ++ codes "CONTRACT,FA,AA,F,202503,1,1,0,0,-400,-400,400,400,-800,-800,800,800,-1500,-1500,1500,1500,-1188,1188\n"

-- the answer to the first request of a session over two files, which is SET with a file name, for this result of
-- reading the file
abbrev pub set_text : List ℕ → List ℕ → List ℕ → Option File → Result (List ℕ) SpanFault
set_text params positions name file =
    and_then same (opened params positions) (λ s. Ok (answer_text 1 (answer_to s file (Set name))))

-- the statement after it
abbrev pub margin_behind : List ℕ → List ℕ → List ℕ → Option File → Result (List ℕ) SpanFault
margin_behind params positions name file =
    and_then same (opened params positions) (λ s.
    Ok (answer_text 2 (answer_to (state_after s (answer_to s file (Set name))) None Margin)))
