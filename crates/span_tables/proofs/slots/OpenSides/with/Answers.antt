use Rattle.std.proofs.Common.{◌<◌, subst, sym}
use Rattle.span_tables.specs.declared.sides.MarketSide.TheVariants.{Long, Short}
use Rattle.span_tables.proofs.slots.OpenSides.with.Goals as goal

pub returns-clause-added : goal.returns-clause-added
returns-clause-added c Long some = c.with_part.ensures.added (subst (λ n. 0 < n) (sym c.part_on.ensures.value) some)
returns-clause-added c Short some = c.with_part-2.ensures.added (subst (λ n. 0 < n) (sym c.part_on-2.ensures.value) some)

pub returns-clause-kept : goal.returns-clause-kept
returns-clause-kept c other z kept Long some = c.with_part.ensures.kept other (kept Long some)
returns-clause-kept c other z kept Short some = c.with_part-2.ensures.kept other (kept Short some)
