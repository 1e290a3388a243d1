use Rattle.std.proofs.Common.{◌≡◌}
use Rattle.session.specs.Requests.{texts_of}
use Rattle.session.specs.near.FieldTests.{fails, field_failing}
use Rattle.session.proofs.FieldLemmas.{found_from}
use Rattle.session.proofs.requests.FieldTest.first.Given as goal

abbrev pub invariant-loop-i : goal.invariant-loop-i
invariant-loop-i l = found_from (fails l.self l.word) (texts_of l.fields) l.i ≡ field_failing l.self l.word (texts_of l.fields)
