use Rattle.std.proofs.Common.{◌≡◌, ◌∙◌, Vec, ℕ, Global, map, rules}
use Rattle.std.proofs.lemmas.List.{drop_all, map-append}
use Rattle.std.specs.Prelude.{Err}
use Rattle.span_cli.specs.Serving.{all_read}
use Rattle.span_cli.specs.Sessions.{found_under, reads_under}
use Rattle.span_cli.proofs.ReadLemmas.{ends, goes_on, stops}
use Rattle.span_cli.proofs.ServingLemmas.{found_same, last_read, next_of_names, unread_of_names}
use Rattle.span_cli.proofs.serving.load_all.Goals as goal

pub returns-clause-known : goal.returns-clause-known
returns-clause-known g c =
    last_read (all_read (found_under c.args.is_session (g.S.Sources.file c.args.sources.now)) (map (λ name. name.now) c.args.names.now))
    (map (λ file. file.items) c.loop-name.files.items)
    (rw (drop_all c.loop-name.name-index c.args.names.now c.loop-name-test.false) at c.loop-name.invariant.known)

pub returns-clause-reads : goal.returns-clause-reads
returns-clause-reads g c =
    ends (reads_under c.args.is_session g.S.Sources.reads) _ _ _ c.args.names.now _ c.loop-name-test.false c.loop-name.invariant.reads

pub returns-in_err-load-clause-reads : goal.returns-in_err-load-clause-reads
returns-in_err-load-clause-reads g c = stops (reads_under c.args.is_session g.S.Sources.reads) _ _ _ _ c.args.names.now _ _
    c.loop-name-test.true c.loop-name.invariant.reads c.in_err-load.ensures.noted

pub returns-in_err-load-clause-known : goal.returns-in_err-load-clause-known
returns-in_err-load-clause-known g c =
    let is : c.from_residual.result ≡ Err c.in_err-load.field-0.0 = search rules in
    rw (is) (unread_of_names (λ (v : Vec ℕ Global). v.items) (found_under c.args.is_session (g.S.Sources.file c.args.sources.now))
    (found_under c.args.is_session (g.S.Sources.file c.loop-name.sources)) _ _ c.args.names.now _ _ _ c.loop-name-test.true
    (λ name. found_same c.args.is_session (g.S.Sources.file c.args.sources.now) (g.S.Sources.file c.loop-name.sources) name
    (c.loop-name.invariant.same name)) c.in_err-load.ensures.known
    c.loop-name.invariant.known)

pub returns-in_err-load-clause-same : goal.returns-in_err-load-clause-same
returns-in_err-load-clause-same g c = λ name. c.load.ensures.same name ∙ c.loop-name.invariant.same name

pub loop-name-preserved : goal.loop-name-preserved
loop-name-preserved g c = record {
  count = search rules;
  same = λ name. c.load.ensures.same name ∙ c.loop-name.invariant.same name;
  known = rw (c.push.ensures.items, map-append) (next_of_names
      (found_under c.args.is_session (g.S.Sources.file c.args.sources.now))
      (found_under c.args.is_session (g.S.Sources.file c.loop-name.sources)) _ _ c.args.names.now _ _ _ c.loop-name-test.true
      (λ name. found_same c.args.is_session (g.S.Sources.file c.args.sources.now) (g.S.Sources.file c.loop-name.sources) name
      (c.loop-name.invariant.same name)) c.in_ok-load.ensures.known
      c.loop-name.invariant.known);
  reads = goes_on (reads_under c.args.is_session g.S.Sources.reads) _ _ _ _ c.args.names.now _ _ c.loop-name-test.true
      c.loop-name.invariant.reads c.in_ok-load.ensures.noted;
}
