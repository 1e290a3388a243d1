use Rattle.std.proofs.Common.{◌∙◌, ap, arith, set}
use Rattle.inter_credit.specs.Credits.{unspread_state}
use Rattle.inter_credit.proofs.LoadedLemmas.{slot_set, slot_set_whole}
use Rattle.inter_credit.proofs.state.set_slot_back.Goals as goal

pub loop-commodity-preserved : goal.loop-commodity-preserved
loop-commodity-preserved c =
    let before = c.loop-commodity.invariant in
    let states = c.loop-commodity.states in
    let commodity = c.loop-commodity.commodity in
    let step =
    slot_set states (set states commodity c.unspread_state.result) commodity c.args.slot before.slot c.loop-commodity-test.true
    (ap (set states commodity) (c.unspread_state.ensures ∙ ap (λ z. unspread_state z 0) c.new.ensures)) before.back in
    record {
      slot = omega (arith, before.slot);
      back = step.0;
      others = λ k is. step.1 k is ∙ before.others k is;
    }

pub returns-clause-back : goal.returns-clause-back
returns-clause-back c =
    slot_set_whole c.loop-commodity.states c.loop-commodity.commodity c.args.slot (omega arith) c.loop-commodity.invariant.back
