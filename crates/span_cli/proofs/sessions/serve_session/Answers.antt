use Rattle.std.proofs.Common.{◌≡◌, [], List, refl, rules}
use Rattle.desks.specs.Desks.{DealsAt, dealing}
use Rattle.desks.specs.Events.{Event, Logs}
use Rattle.desks.proofs.DealingLemmas.{nothing_dealt}
use Rattle.span_cli.proofs.SessionLemmas.{serves_session, some_logged}
use Rattle.span_cli.proofs.sessions.serve_session.Goals as goal

pub returns : goal.returns
returns g c =
    let old = c.new-desk.result in
    let new = c.run-served.new.desk in
    let is_unwritten : c.failed-is_unwritten.result ≡ new.output.now.failed = search rules in
    let logged : List Event → Type 0 = λ events. Logs DealsAt old events new in
    let deals : (events : List Event) → logged events → DealsAt old events new =
    λ events is. is old [] (refl, nothing_dealt (dealing old)) in
    let served = c.run-served.ensures.served in
    let some = some_logged c.args.opened.session c.run-served.result served.0 logged served.2 in
    let name : new.output.ghost_name ≡ old.output.ghost_name = (deals some.0 some.1).0 in
    let told = serves_session (g.S.Sources.file c.args.sources.now) g.S.Sources.reads _ _ c.args.opened.session c.run-served.result
    (dealing old) (dealing new) logged c.tell_end.result _ _ _ (λ events is. (deals events is).1) (search (rules, c.requires.fresh))
    (served.0, served.1, served.2, served.3)
    (λ is. (c.run-served.ensures.input is).0) c.run-served.ensures.output (search (rules, name))
    (rw is_unwritten at c.tell_end.ensures.status) (rw is_unwritten at c.tell_end.ensures.line) in
    rw (← c.new-desk.ensures.requests, ← c.new-desk.ensures.output) told
