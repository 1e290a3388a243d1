use Rattle.std.proofs.Common.{◌^◌, lit<}
use Rattle.spread_stage.specs.Charges.{intra_charge}
use Rattle.span_money.proofs.NumberLaws.{div_ceil_least}
use Rattle.spread_stage.proofs.laws.intra_charge_is_least.Goals as goal

pub returns : goal.returns
unfolding intra_charge
returns c exact = div_ceil_least exact (10 ^ 4) (lit< tt)
