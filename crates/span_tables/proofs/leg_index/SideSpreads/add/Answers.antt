use Rattle.std.proofs.Common.{◌*◌, ◌^◌, ◌%◌}
use Rattle.std.specs.Int.{w64}
use Rattle.std.proofs.lemmas.Nat.Bits.{bit_at_set_same}
use Rattle.span_tables.specs.declared.sides.Side.TheVariants as side
use Rattle.span_tables.proofs.LegIndexLemmas.{left_word, same_word}
use Rattle.span_tables.proofs.leg_index.SideSpreads.add.Goals as goal

pub returns-in-A-clause-added : goal.returns-in-A-clause-added
returns-in-A-clause-added c = rw c.in-A.is (bit_at_set_same w64 c.args.self.now.a c.args.spread c.requires)

pub returns-in-A-clause-kept : goal.returns-in-A-clause-kept
returns-in-A-clause-kept c side.A = left_word c.args.self.now.a (1 * 2 ^ c.args.spread % 2 ^ 64)
returns-in-A-clause-kept c side.B = same_word c.args.self.now.b

pub returns-in-B-clause-added : goal.returns-in-B-clause-added
returns-in-B-clause-added c = rw c.in-B.is (bit_at_set_same w64 c.args.self.now.b c.args.spread c.requires)

pub returns-in-B-clause-kept : goal.returns-in-B-clause-kept
returns-in-B-clause-kept c side.A = same_word c.args.self.now.a
returns-in-B-clause-kept c side.B = left_word c.args.self.now.b (1 * 2 ^ c.args.spread % 2 ^ 64)
