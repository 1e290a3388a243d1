use Rattle.std.proofs.Common.{◌∙◌}
use Rattle.std.specs.Prelude.{length}
use Rattle.binding.proofs.NetLaws.{table_more, table_none, small_more, small_none}
use Rattle.binding.proofs.nets.add_all.Goals as goal

pub loop-entry-preserved : goal.loop-entry-preserved
loop-entry-preserved c =
    let was = c.loop-entry.invariant in
    record {
      table =
          c.add.ensures ∙ table_more (length c.args.nets.now) c.loop-entry.entry-index c.args.entries.now _ c.loop-entry.nets was.table
          c.loop-entry-test.true;
      small =
          λ k. rw c.add.ensures (small_more c.loop-entry.nets _ c.loop-entry.entry-index
          _ (c.requires.quantities c.loop-entry.entry-index _ c.loop-entry-test.true) was.small k);
    }

pub loop-entry-init : goal.loop-entry-init
loop-entry-init c =
    let n = length c.args.nets.now in
    record { table = c.requires.zero ∙ table_none n; small = small_none c.args.nets.now c.requires.zero }
