use Rattle.std.proofs.Common.{◌≡◌, ◌∙◌, ap, length, pos, replicate, rules}
use Rattle.inter_credit.specs.Credits.{unspread_state}
use Rattle.inter_credit.proofs.LoadedLemmas.{all_back, slot_back}
use Rattle.inter_credit.proofs.state.set_back.Goals as goal

pub loop-slot-preserved : goal.loop-slot-preserved
loop-slot-preserved c =
    slot_back c.loop-slot.left c.in-Some.slot c.take_first.new.word c.loop-slot.states c.set_slot_back.new.states c.in-Some.ensures.first
    c.set_slot_back.ensures.back c.set_slot_back.ensures.others c.loop-slot.invariant

pub returns : goal.returns
returns c =
    let states = c.loop-slot.states in
    let same : length states ≡ length c.args.states.now = search rules in
    all_back c.loop-slot.left states c.in_default.ensures.none c.loop-slot.invariant
    ∙ ap (λ n. replicate n (unspread_state (pos 0) 0)) same
