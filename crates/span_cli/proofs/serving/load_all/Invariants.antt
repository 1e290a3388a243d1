use Rattle.std.proofs.Common.{◌≡◌, length, drop, map, ℕ, List}
use Rattle.std.specs.Prelude.{IfSome, Some}
use Rattle.span_cli.specs.Serving.{all_read}
use Rattle.span_cli.specs.Sessions.{found_under, reads_under}
use Rattle.span_cli.specs.near.Refusals.{read_then}
use Rattle.span_cli.proofs.ReadLemmas.{GoesOn, texts}
use Rattle.span_cli.proofs.serving.load_all.Given as goal

abbrev pub invariant-loop-name : goal.invariant-loop-name
invariant-loop-name g l = record {
  count : length l.files.items ≡ l.name-index;
  same : (name : List ℕ) → g.S.Sources.file l.sources name ≡ g.S.Sources.file l.fn.sources name;
  known : IfSome (all_read (found_under l.fn.is_session (g.S.Sources.file l.fn.sources)) (map (λ name. name.now) l.names)) (λ found.
      read_then (map (λ file. file.items) l.files.items)
      (all_read (found_under l.fn.is_session (g.S.Sources.file l.fn.sources)) (map (λ name. name.now) (drop l.name-index l.names)))
      ≡ Some found);
  reads : GoesOn (reads_under l.fn.is_session g.S.Sources.reads) l.fn.sources (texts l.names) l.sources (texts (drop l.name-index l.names));
}
