use Rattle.span_tables.specs.declared.sides.Side.TheVariants as side
use Rattle.span_tables.proofs.LegIndexLemmas.{left_word, right_word}
use Rattle.span_tables.proofs.leg_index.SideSpreads.and.Goals as goal

pub returns-clause-kept : goal.returns-clause-kept
returns-clause-kept c side.A = left_word c.args.self.a c.args.others.a
returns-clause-kept c side.B = left_word c.args.self.b c.args.others.b

pub returns-clause-added : goal.returns-clause-added
returns-clause-added c side.A = right_word c.args.self.a c.args.others.a
returns-clause-added c side.B = right_word c.args.self.b c.args.others.b
