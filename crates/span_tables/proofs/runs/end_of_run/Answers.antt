use Rattle.std.proofs.Common.{◌≡◌, arith}
use Rattle.std.proofs.lemmas.List.Elements.{AllWithin-more}
use Rattle.span_tables.specs.near.Gathered.{number_held}
use Rattle.span_tables.proofs.RunLemmas.{number_here}
use Rattle.span_tables.proofs.runs.end_of_run.Goals as goal

pub loop-end-preserved : goal.loop-end-preserved
loop-end-preserved c = record {
  begins = omega arith;
  inside = omega arith;
  same = AllWithin-more (λ h. number_held c.args.tables.now h ≡ c.args.commodity) c.args.holdings.now c.args.start c.loop-end.end
      c.loop-end.invariant.same
      (λ d. number_here c.args.tables.now c.args.holdings.now c.loop-end.end c.args.commodity c.commodity_of.result _ d
      c.loop-end-test.true c.commodity_of.ensures.value c.if-commodity_of-commodity.true);
}
