use Rattle.std.proofs.Common.{◌≡◌, length, take}
use Rattle.std.specs.Prelude.{fold}
use Rattle.inter_credit.specs.Credits.{inter_both_ways}
use Rattle.reasons.specs.near.Stages.{inters_formed}
use Rattle.reasons.proofs.commodities.form_inters.Given as goal

abbrev pub invariant-loop-inter : goal.invariant-loop-inter
invariant-loop-inter l = record {
  states : l.state ≡ fold inter_both_ways l.fn.state (take l.inter-index l.inters);
  formed : l.formed.items ≡ inters_formed (take l.inter-index l.inters) l.fn.state;
  long : length l.state ≡ length l.fn.state;
}
