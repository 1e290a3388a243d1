use denote.Enum.Bare.{sameb}
use Rattle.std.proofs.Common.{◌≡◌, ◌∙◌, ◌+◌, ◌++◌, ℕ, Bool, List, [], ◌∷◌, Err, None, Ok, Option, Some, ap, arith, inl, inr, length}
use Rattle.std.proofs.Common.{length-append, refl, subst, sym}
use Rattle.std.proofs.lemmas.Result.{err_from_is_err_and}
use Rattle.std.specs.Prelude.{false, if◌then◌else◌}
use Rattle.desks.specs.Events.{Asked, Event, Logs, Told, asked_by}
use Rattle.desks.specs.contracts.desk.Taken.{the_type}
use Rattle.desks.specs.declared.desk.DeskFault.TheVariants as desk
use Rattle.desks.specs.declared.desk.Taken.{Taken}
use Rattle.desks.specs.declared.desk.Taken.TheVariants as taken
use Rattle.session.proofs.ConversationLemmas.{logs_asked, logs_more, no_turns, one_more_turn, state_behind_more}
use Rattle.session.proofs.conversation.run.Goals as goal

-- the desk handed over a request, since it was not the end of the requests
asked_for : (t : Taken) (is_kept : Bool) (line : List ℕ) (request : Option (List ℕ)) (logged : List Event → Type 0)
    → false ≡ sameb the_type t taken.End → is_kept ≡ sameb the_type t taken.Line → request ≡ (if is_kept then Some line else None)
    → logged (asked_by (Ok t) line) → logged (Asked request ∷ [])
asked_for taken.Line is_kept line request logged goes_on kept is log = rw (is, kept) log
asked_for taken.TooLong is_kept line request logged goes_on kept is log = rw (is, kept) log
asked_for taken.End is_kept line request logged goes_on kept is log = cc

pub returns-in_err-tell-clause-served : goal.returns-in_err-tell-clause-served
returns-in_err-tell-clause-served g c =
    let p = err_from_is_err_and c.from_residual.result c.from_residual.ensures.1 in
    let is : c.from_residual.result ≡ Err desk.Output = p.1 ∙ ap Err (p.2 ∙ c.in_err-tell.ensures.fault.0) in
    rw is (
      [],
      no_turns (g.S.Sources.file c.args.sources.now) g.S.Sources.reads c.args.sources.now,
      inl (refl, c.in_err-tell.ensures.log),
      tt,
      refl,
    )

pub loop-number-init : goal.loop-number-init
loop-number-init g c = (
  [],
  no_turns (g.S.Sources.file c.args.sources.now) g.S.Sources.reads c.args.sources.now,
  refl,
  subst (λ text. Logs g.D.Desk.log c.args.desk.now (Told text ∷ []) c.tell.new.self) (c.deref.ensures.value ∙ c.requires)
      c.in_ok-tell.ensures.log,
  refl,
  λ name. refl,
)

pub loop-number-preserved : goal.loop-number-preserved
loop-number-preserved g c =
    let i = c.loop-number.invariant in
    let served = c.in_ok-serve_one.ensures.served in
    let s = c.args.opened.now.session in
    let now = c.loop-number.opened.session in
    let turns = i.0 in
    let turn = served.0 in
    let count : c.loop-number.number + 1 ≡ length turns + 1 = ap (λ k. k + 1) (sym i.4) in
    let asked = asked_for c.in_ok-taken.taken c.eq-in-loop-number.result (g.D.Desk.line c.next.new.self) turn.request
    (λ events. Logs g.D.Desk.log c.loop-number.desk events c.next.new.self)
    c.if-eq.ensures c.eq-in-loop-number.ensures served.1 c.in_ok-taken.ensures.log in (
      turns ++ turn ∷ [],
      one_more_turn (g.S.Sources.file c.args.sources.now) g.S.Sources.reads (g.S.Sources.file c.loop-number.sources) c.args.sources.now
          c.loop-number.sources c.serve_one.new.sources turns turn i.5 i.1 served.2,
      state_behind_more turns s now c.serve_one.new.opened.session turn i.2 served.3,
      logs_more g.D.Desk.log c.args.desk.now turns s turn c.loop-number.desk c.next.new.self
          c.serve_one.new.desk i.3 asked (c.loop-number.number + 1) now count i.2 served.4,
      omega (arith, length-append turns (turn ∷ [])),
      λ name. c.serve_one.ensures.sources name ∙ i.5 name,
    )

pub returns-in_err-serve_one-clause-served : goal.returns-in_err-serve_one-clause-served
returns-in_err-serve_one-clause-served g c =
    let i = c.loop-number.invariant in
    let served = c.in_err-serve_one.ensures.served in
    let turns = i.0 in
    let turn = served.0 in
    let asked = asked_for c.in_ok-taken.taken c.eq-in-loop-number.result (g.D.Desk.line c.next.new.self) turn.request
    (λ events. Logs g.D.Desk.log c.loop-number.desk events c.next.new.self)
    c.if-eq.ensures c.eq-in-loop-number.ensures served.1 c.in_ok-taken.ensures.log in
    let p = err_from_is_err_and c.from_residual-in_err-serve_one.result c.from_residual-in_err-serve_one.ensures.1 in
    let is : c.from_residual-in_err-serve_one.result ≡ Err desk.Output = p.1 ∙ ap Err (p.2 ∙ c.in_err-serve_one.ensures.fault.0) in
    rw is (
      turns ++ turn ∷ [],
      one_more_turn (g.S.Sources.file c.args.sources.now) g.S.Sources.reads (g.S.Sources.file c.loop-number.sources) c.args.sources.now
          c.loop-number.sources c.serve_one.new.sources turns turn i.5 i.1 served.2,
      inr (
        turns,
        turn,
        refl,
        logs_asked g.D.Desk.log c.args.desk.now turns c.args.opened.now.session turn c.loop-number.desk
            c.next.new.self c.serve_one.new.desk i.3 asked served.4,
      ),
      tt,
      state_behind_more turns c.args.opened.now.session c.loop-number.opened.session c.serve_one.new.opened.session turn i.2 served.3,
    )
