use Rattle.std.proofs.Common.{◌≡◌, ◌∙◌, Err, List, Ok, None, Some, Vec, Global, ℕ, false, refl, sym}
use Rattle.std.specs.Prelude.{is_err}
use Rattle.session.specs.Conversations.{Turn}
use Rattle.session.specs.Requests.{asked_by, request_of}
use Rattle.session.specs.near.Answering.{file_given, file_read}
use Rattle.session.proofs.TurnLemmas.{asks_for_nothing, form_refused, given_if_read, turn_answered, turn_reads, turn_reads_none}
use Rattle.session.proofs.TurnLemmas.{turn_refused, unless_err}
use Rattle.session.proofs.session.Session.answer.Goals as goal
use Rattle.session.proofs.session.Session.answer.Goals.{in-Ok, in-Err}

abbrev view : Vec ℕ Global → List ℕ
view v = v.items

pub returns-in-Ok-answered-clause-turn : goal.returns-in-Ok-answered-clause-turn
returns-in-Ok-answered-clause-turn g c =
    let known = g.S.Sources.file c.args.sources.now in
    elim c.match-read_request.branch [
      | in-Ok w ↦
          let file = file_given (λ (v : Vec ℕ Global). v.items) w.read_asked-file.result in
          let done : w.answer_request-answered.result ≡ Ok c.in-Ok-answered.field-0 = sym w.answered-is ∙ c.in-Ok-answered.is in
          rw (w.sources-is, w.self-is, w.out-is) (
            file,
            turn_answered known g.S.Sources.reads c.args.sources.now w.read_asked-file.new.sources c.args.self.now
                w.answer_request-answered.new.self c.args.number w.answer_request-answered.new.out.items c.args.line.now file
                (asked_by w.in-Ok.request) w.in-Ok.ensures.value
                (given_if_read (file_read view) w.read_asked-file.result _ w.read_asked-file.ensures.asked) w.read_asked-file.ensures.read
                (rw done at w.answer_request-answered.ensures.state) (rw done at w.answer_request-answered.ensures.text),
          )
      | in-Err w ↦ let never : Ok c.in-Ok-answered.field-0 ≡ Err w.refusal_of.result = sym c.in-Ok-answered.is ∙ w.answered-is in cc never
    ]

pub returns-in-Err-answered-clause-turn : goal.returns-in-Err-answered-clause-turn
returns-in-Err-answered-clause-turn g c =
    let known = g.S.Sources.file c.args.sources.now in
    let s = c.args.self.now in
    let n = c.args.number in
    let text = c.args.line.now in
    let r = c.in-Err-answered.refusal in
    let memory = is_err c.refuse.result in
    let spoken = λ (h : memory ≡ false). unless_err c.refuse.result _ c.refuse.ensures h in
    elim c.match-read_request.branch [
      | in-Ok w ↦
          let file = file_given (λ (v : Vec ℕ Global). v.items) w.read_asked-file.result in
          let asked = asked_by w.in-Ok.request in
          let turn : Turn = record { request = Some text; file = file; is_out_of_memory = memory } in
          let why : w.answer_request-answered.result ≡ Err r = sym w.answered-is ∙ c.in-Err-answered.is in
          let is = rw why at w.answer_request-answered.ensures.refused in
          rw (w.sources-is, w.self-is) (
            file,
            turn_refused known g.S.Sources.reads c.args.sources.now w.read_asked-file.new.sources s w.answer_request-answered.new.self n
                c.refuse.new.out.items turn r
                (turn_reads known g.S.Sources.reads c.args.sources.now w.read_asked-file.new.sources text file memory (Ok asked)
                w.in-Ok.ensures.value (given_if_read (file_read view) w.read_asked-file.result _ w.read_asked-file.ensures.asked)
                w.read_asked-file.ensures.read)
                (rw why at w.answer_request-answered.ensures.same)
                (rw w.in-Ok.ensures.value is) spoken,
          )
      | in-Err w ↦
          let turn : Turn = record { request = Some text; file = None; is_out_of_memory = memory } in
          let same_refusal : w.refusal_of.result ≡ r = cc (sym w.answered-is ∙ c.in-Err-answered.is) in
          let none = λ (h : memory ≡ false). asks_for_nothing (request_of text) w.in-Err.fault w.refusal_of.result w.refusal_of.ensures
          w.in-Err.ensures.value (rw (← same_refusal) at (spoken h).0) in
          let is = rw same_refusal at (form_refused s None (request_of text) w.in-Err.fault w.refusal_of.result w.refusal_of.ensures
          w.in-Err.ensures.value) in
          rw (w.sources-is, w.self-is) (
            None,
            turn_refused known g.S.Sources.reads c.args.sources.now c.args.sources.now s s n c.refuse.new.out.items turn r
                (turn_reads_none known g.S.Sources.reads c.args.sources.now c.args.sources.now (Some text) memory none refl) refl is
                spoken,
          )
    ]
