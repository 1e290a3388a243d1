use Rattle.std.proofs.Common.{[], inl, inr, map, refl}
use Rattle.span_cli.specs.Serving.{asked_by}
use Rattle.span_cli.specs.Sessions.{around}
use Rattle.span_cli.proofs.ServingLemmas.{files_read, once_serves, opened_takes, refused_tells, served_takes}
use Rattle.span_cli.proofs.ServingLemmas.{session_serves, unopened_serves, unread_serves}
use Rattle.span_cli.proofs.serving.serve.Goals as goal

pub returns-in-Err-clause-answer : goal.returns-in-Err-clause-answer
returns-in-Err-clause-answer g c = (
  [],
  unread_serves (around (g.S.Sources.file c.args.sources.now) (g.I.Read.remaining c.args.input.now) [] c.args.out.now.failed)
      (asked_by c.args.request) c.in-Err.refusal c.refuse.result c.args.out.now _ _ refl
      (refused_tells _ _ c.refuse.result c.args.out.now _ _ c.requires c.refuse.ensures.status c.refuse.ensures.line)
      (rw (c.deref.ensures.0, c.takes_requests.ensures) at c.in-Err.ensures.known),
  files_read g.S.Sources.reads _ _ (asked_by c.args.request)
      (rw (c.deref.ensures.0, c.takes_requests.ensures) at c.in-Err.ensures.reads),
)

pub returns-in-Once-clause-answer : goal.returns-in-Once-clause-answer
returns-in-Once-clause-answer g c = (
  [],
  once_serves (around (g.S.Sources.file c.args.sources.now) (g.I.Read.remaining c.args.input.now) [] _) (asked_by c.args.request)
      c.in-Once.command (map (λ file. file.items) c.in-Ok.files.items) c.serve_once.result _ _ _ _ refl c.in-Once.is
      (rw (c.deref.ensures.0, c.takes_requests.ensures) at c.in-Ok.ensures.known)
      (rw c.deref-in-Once.ensures.0 at c.serve_once.ensures),
  files_read g.S.Sources.reads _ _ (asked_by c.args.request)
      (rw (c.deref.ensures.0, c.takes_requests.ensures) at c.in-Ok.ensures.reads),
)

pub returns-in-Ok-new-clause-answer : goal.returns-in-Ok-new-clause-answer
returns-in-Ok-new-clause-answer g c =
    session_serves (g.S.Sources.file c.args.sources.now) _ g.S.Sources.reads _ _ _ (g.I.Read.remaining c.args.input.now) _
    (asked_by c.args.request) c.in-Session.count (map (λ file. file.items) c.in-Ok.files.items) c.in-Ok-open.opened
    c.serve_session.result _ _ _ _ c.in-Session.is c.in-Ok-new.ensures.bytes c.in-Ok.ensures.same
    (rw (c.deref.ensures.0, c.takes_requests.ensures) at c.in-Ok.ensures.known)
    (rw c.deref-in-Session.ensures.0 at c.in-Ok-open.ensures)
    (rw (c.deref.ensures.0, c.takes_requests.ensures) at c.in-Ok.ensures.reads) c.serve_session.ensures

pub returns-in-Ok-open-clause-answer : goal.returns-in-Ok-open-clause-answer
returns-in-Ok-open-clause-answer g c = (
  [],
  inr (
    refl,
    refused_tells _ _ c.refuse-in-Err-new.result c.args.out.now _ _ c.requires c.refuse-in-Err-new.ensures.status
        c.refuse-in-Err-new.ensures.line,
  ),
  files_read g.S.Sources.reads _ _ (asked_by c.args.request)
      (rw (c.deref.ensures.0, c.takes_requests.ensures) at c.in-Ok.ensures.reads),
)

pub returns-clause-answer : goal.returns-clause-answer
returns-clause-answer g c = (
  [],
  unopened_serves (around (g.S.Sources.file c.args.sources.now) (g.I.Read.remaining c.args.input.now) [] c.args.out.now.failed)
      (asked_by c.args.request) c.in-Session.count (map (λ file. file.items) c.in-Ok.files.items) c.in-Err-open.fault
      c.refuse-in-Err-open.result c.args.out.now _ _ refl c.in-Session.is
      (rw (c.deref.ensures.0, c.takes_requests.ensures) at c.in-Ok.ensures.known)
      (refused_tells _ _ c.refuse-in-Err-open.result c.args.out.now _ _ c.requires c.refuse-in-Err-open.ensures.status
      c.refuse-in-Err-open.ensures.line) (rw c.deref-in-Session.ensures.0 at c.in-Err-open.ensures),
  files_read g.S.Sources.reads _ _ (asked_by c.args.request)
      (rw (c.deref.ensures.0, c.takes_requests.ensures) at c.in-Ok.ensures.reads),
)

pub returns-in-Err-clause-input : goal.returns-in-Err-clause-input
returns-in-Err-clause-input g c = inl refl

pub returns-in-Once-clause-input : goal.returns-in-Once-clause-input
returns-in-Once-clause-input g c = inl refl

pub returns-in-Ok-new-clause-input : goal.returns-in-Ok-new-clause-input
returns-in-Ok-new-clause-input g c =
    inr (served_takes (g.S.Sources.file c.args.sources.now) _ g.S.Sources.reads _ _ _ (asked_by c.args.request) c.in-Session.count
    (map (λ file. file.items) c.in-Ok.files.items) c.in-Ok-open.opened c.serve_session.result _ _ _ _ c.in-Session.is
    (rw (c.deref.ensures.0, c.takes_requests.ensures) at c.in-Ok.ensures.known)
    (rw c.deref-in-Session.ensures.0 at c.in-Ok-open.ensures) c.serve_session.ensures)

pub returns-in-Ok-open-clause-input : goal.returns-in-Ok-open-clause-input
returns-in-Ok-open-clause-input g c =
    inr (opened_takes (g.S.Sources.file c.args.sources.now) (asked_by c.args.request) c.in-Session.count
    (map (λ file. file.items) c.in-Ok.files.items) c.in-Ok-open.opened c.refuse-in-Err-new.result c.in-Session.is
    (rw (c.deref.ensures.0, c.takes_requests.ensures) at c.in-Ok.ensures.known)
    (rw c.deref-in-Session.ensures.0 at c.in-Ok-open.ensures) (inr (inr c.refuse-in-Err-new.ensures.status)))

pub returns-clause-input : goal.returns-clause-input
returns-clause-input g c = inl refl
