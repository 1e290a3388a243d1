use Rattle.std.proofs.Common.{◌≡◌, ◌≢◌, ◌<◌, ◌%◌, ◌-◌, ℕ, length, pos}
use Rattle.inter_credit.specs.Credits.{state_at, unspread_state}
use Rattle.span_money.specs.declared.bits.TheConstants.{BITS}
use Rattle.inter_credit.proofs.state.set_slot_back.Given as goal

abbrev pub invariant-loop-commodity : goal.invariant-loop-commodity
invariant-loop-commodity l = record {
  slot : l.commodity % BITS ≡ l.slot;
  back : (c : ℕ) → c % BITS ≡ l.slot → c < l.commodity → state_at l.states c ≡ unspread_state (pos 0) 0;
  others : (c : ℕ) → c % BITS ≢ l.slot → state_at l.states c ≡ state_at l.fn.states c;
}

abbrev pub decreases-loop-commodity : goal.decreases-loop-commodity
decreases-loop-commodity l = length l.states - l.commodity
