-- What a desk takes from its input.
use Rattle.std.specs.Prelude.{◌≡◌, ℕ, List, [], Option}
use Rattle.std.specs.Io.KnownBytes.{Consumes, IsAtEnd, prepend_known}
use Rattle.sources.specs.Readings.{Reading}
use Rattle.desks.specs.Requests.{requests_in, whole_lines}
use Rattle.desks.specs.declared.intake.Reach.{Reach}
use Rattle.desks.specs.declared.intake.Reach.TheVariants as reach

-- the bytes that are still to be taken, if they are known: the bytes of the block that was read last, and of the reader
abbrev pub coming : {R : Type 0} → List ℕ → Reading R → Option (List ℕ)
coming block reading = prepend_known block reading.bytes

-- The requests in bytes that were taken, by how far the input was then read. While more may come, these bytes are whole
-- lines. If a read failed, a line that it cut off is no request.
abbrev pub AreRequests : Reach → List ℕ → Option (List ℕ) → List (Option (List ℕ)) → Type 0
AreRequests reach.Open taken rest asked = (whole_lines taken ≡ taken) × (asked ≡ requests_in taken)
AreRequests reach.Ended taken rest asked = IsAtEnd rest × (asked ≡ requests_in taken)
AreRequests reach.CutOff taken rest asked = asked ≡ requests_in (whole_lines taken)

-- These requests were taken from the bytes of an input, which has a rest. Nothing more is taken after its end, and after
-- a read that failed.
abbrev pub Takes : Reach → Option (List ℕ) → Reach → Option (List ℕ) → List (Option (List ℕ)) → Type 0
Takes reach.Open bytes now rest asked = (taken : List ℕ) × Consumes bytes rest taken × AreRequests now taken rest asked
Takes reach.Ended bytes now rest asked = (now ≡ reach.Ended) × (rest ≡ bytes) × (asked ≡ [])
Takes reach.CutOff bytes now rest asked = (now ≡ reach.CutOff) × (rest ≡ bytes) × (asked ≡ [])
