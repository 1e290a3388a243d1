use Rattle.std.proofs.Common.{length, arith, ap}
use Rattle.plan_ir.proofs.FigureBounds.{length-inter_states}
use Rattle.statement_tests.proofs.calls.reasons_of.Goals as goal

pub push_reasons-requires-clause-states : goal.push_reasons-requires-clause-states
push_reasons-requires-clause-states c =
    let t = c.args.tables.now in
    let holdings = c.args.portfolio.now.holdings in
    omega (
      arith,
      c.requires.commodity,
      ap (λ s. length s.states) c.in_ok-stages.ensures,
      length-inter_states t holdings c.known-2.ensures c.known.ensures c.requires.fits,
    )
