use Rattle.std.proofs.Common.{◌≡◌, ◌*◌, ◌≤◌, take, nat_abs}
use Rattle.inter_credit.specs.OptionValue.{net_value_of}
use Rattle.inter_credit.specs.declared.option_value.TheConstants.{MAX_POSITION_VALUE}
use Rattle.inter_credit.proofs.option_value.net_value.Given as goal

abbrev pub invariant-loop-place : goal.invariant-loop-place
invariant-loop-place l = record {
  value : l.sum ≡ net_value_of (take l.place l.held);
  bound : nat_abs l.sum ≤ l.place * MAX_POSITION_VALUE;
}
