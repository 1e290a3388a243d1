use Rattle.std.proofs.Common.{◌∙◌, sym}
use Rattle.session.specs.near.FieldTests.{fails}
use Rattle.session.proofs.FieldLemmas.{found_here, found_later}
use Rattle.session.proofs.requests.FieldTest.first.Goals as goal

pub returns-then-fails : goal.returns-then-fails
returns-then-fails c =
    let holds = sym c.fails.ensures ∙ c.if-fails.true in
    sym (found_here (fails c.args.self c.args.word) c.args.fields.now c.loop-i.i _ c.loop-i-test.true holds)
    ∙ c.loop-i.invariant

pub loop-i-preserved : goal.loop-i-preserved
loop-i-preserved c =
    let fails_not = sym c.fails.ensures ∙ c.if-fails.false in
    sym (found_later (fails c.args.self c.args.word) c.args.fields.now c.loop-i.i _ c.loop-i-test.true fails_not)
    ∙ c.loop-i.invariant
