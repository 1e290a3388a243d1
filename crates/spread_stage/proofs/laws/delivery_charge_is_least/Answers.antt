use Rattle.std.proofs.Common.{◌^◌, lit<, sum_by}
use Rattle.spread_stage.specs.Charges.{delivery_charge, spot_charge}
use Rattle.span_money.proofs.NumberLaws.{div_ceil_least}
use Rattle.spread_stage.proofs.laws.delivery_charge_is_least.Goals as goal

pub returns : goal.returns
unfolding delivery_charge
returns c deltas rests spots = div_ceil_least (sum_by (spot_charge deltas rests) spots) (10 ^ 8) (lit< tt)
