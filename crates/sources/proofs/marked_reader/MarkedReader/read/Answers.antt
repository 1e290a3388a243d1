use Rattle.std.proofs.Common.{◌≡◌, ap, arith, false, true, refl, rules}
use Rattle.std.proofs.KnownBytes.{Keeps-trans}
use Rattle.sources.specs.Readings.{Reading}
use Rattle.sources.proofs.ReadingLemmas.{failed_last, read_bytes, read_error}
use Rattle.sources.proofs.marked_reader.MarkedReader.read.Goals as goal

pub returns-in-Ok-clause-made : goal.returns-in-Ok-clause-made
returns-in-Ok-clause-made g c =
    let fresh : c.loop-self.self.failed ≡ false = search rules in
    read_bytes g.R.Input.reads _ _ _ c.loop-self.invariant.on fresh c.read_marked.ensures.left c.in-Ok.count c.in-Ok.ensures.noted

pub loop-self-preserved : goal.loop-self-preserved
loop-self-preserved g c =
    let fresh : c.loop-self.self.failed ≡ false = search rules in record {
      bytes = Keeps-trans c.args.self.now.bytes c.loop-self.self.bytes c.read_marked.new.self.bytes c.loop-self.invariant.bytes
          c.in_default.ensures.bytes;
      left = omega (arith, c.read_marked.ensures.left, c.loop-self.invariant.left);
      on = read_error g.R.Input.reads _ _ _ c.loop-self.invariant.on fresh c.read_marked.ensures.left c.in_default.field-0
          c.in_default.ensures.noted c.in_default.ensures.failed;
      room = search rules;
    }

pub returns-after-loop-self-clause-fault : goal.returns-after-loop-self-clause-fault
returns-after-loop-self-clause-fault g c =
    let failed : c.self.inside.failed ≡ true = search rules in
    let input = ap (λ (r : Reading _). r.input) c.self.view_is in
    (refl, failed_last g.R.Input.reads _ c.loop-self.self (c.self.invariant failed) input (search rules))
