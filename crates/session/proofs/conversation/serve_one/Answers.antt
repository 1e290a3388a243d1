use Rattle.std.proofs.Common.{◌≡◌, ◌∙◌, List, Err, None, Ok, Some, ap, refl, sym}
use Rattle.std.specs.Prelude.{false, true}
use Rattle.desks.specs.Events.{Event, Logs}
use Rattle.session.proofs.TurnLemmas.{turn_lost, turn_written, turn_too_long}
use Rattle.session.proofs.conversation.serve_one.Goals as goal
use Rattle.session.proofs.conversation.serve_one.Goals.{then-is_kept, else-is_kept}

pub returns-in-Ok-clause-served : goal.returns-in-Ok-clause-served
returns-in-Ok-clause-served g c =
    let known = g.S.Sources.file c.args.sources.now in
    let reads = g.S.Sources.reads in
    let before = c.args.sources.now in
    let s = c.args.opened.now.session in
    let n = c.args.number in
    let logged : List Event → Type 0 = λ events. Logs g.D.Desk.log c.args.desk.now events c.tell.new.self in
    let text = c.deref.result.now in
    elim c.if-is_kept.branch [
      | then-is_kept w ↦
          let answer = w.answer-answered in
          let done : answer.result ≡ Ok c.in-Ok.field-0 = sym w.answered-is ∙ c.in-Ok.is in
          let one = rw done at answer.ensures.turn in
          rw (w.if-is_kept.true, w.sources-is, w.opened-is) (turn_written known reads before answer.new.sources s answer.new.self n
          answer.new.out.items (Some w.line.result.now) (Some (g.D.Desk.line c.args.desk.now)) one.0 logged c.tell.result text one.1
          (ap Some w.line.ensures) (c.deref.ensures.value ∙ ap (λ out. out.items) w.text-is) c.tell.ensures.log)
      | else-is_kept w ↦
          let out = w.refuse_long-answered.new.out.items in
          let done : w.refuse_long-answered.result ≡ Ok c.in-Ok.field-0 = sym w.answered-is ∙ c.in-Ok.is in
          let one = turn_too_long known reads before before s s n out false refl refl (λ h. rw done at w.refuse_long-answered.ensures) in
          rw (w.if-is_kept.false, w.sources-is, w.opened-is) (turn_written known reads before before s s n out None None None logged
          c.tell.result text one refl (c.deref.ensures.value ∙ ap (λ out. out.items) w.text-is) c.tell.ensures.log)
    ]

pub returns-in-Err-clause-served : goal.returns-in-Err-clause-served
returns-in-Err-clause-served g c =
    let known = g.S.Sources.file c.args.sources.now in
    let reads = g.S.Sources.reads in
    let before = c.args.sources.now in
    let s = c.args.opened.now.session in
    let n = c.args.number in
    let logged : List Event → Type 0 = λ events. Logs g.D.Desk.log c.args.desk.now events c.tell-in-Err.new.self in
    let result = c.tell-in-Err.result in
    let text = c.as_bytes.result.now in
    let told = c.as_bytes.ensures.value ∙ c.deref-in-Err.ensures.0 ∙ c.refused_memory.ensures in
    elim c.if-is_kept.branch [
      | then-is_kept w ↦
          let answer = w.answer-answered in
          let failed : answer.result ≡ Err c.in-Err.field-0 = sym w.answered-is ∙ c.in-Err.is in
          let one = rw failed at answer.ensures.turn in
          rw (w.if-is_kept.true, w.sources-is, w.opened-is) (turn_lost known reads before answer.new.sources s answer.new.self n
          answer.new.out.items (Some w.line.result.now) (Some (g.D.Desk.line c.args.desk.now)) one.0 logged result text one.1
          (ap Some w.line.ensures) told c.tell-in-Err.ensures.log)
      | else-is_kept w ↦
          let out = w.refuse_long-answered.new.out.items in
          let one = turn_too_long known reads before before s s n out true refl refl (λ h. cc h) in
          rw (w.if-is_kept.false, w.sources-is, w.opened-is) (turn_lost known reads before before s s n out None None None logged result
          text one refl told c.tell-in-Err.ensures.log)
    ]
