use Rattle.std.proofs.Common.{◌≡◌, ◌≤◌, ◌<◌, ◌*◌, ◌^◌, ◌*ℤ◌, ◌∙◌, lit<, nat_abs, arith, to_z, of_z, w32, w64, ℤ}
use Rattle.std.proofs.lemmas.Int.{fits_signed_from_abs, to_z-of_z}
use Rattle.span_tables.specs.declared.limits.TheConstants.{MAX_DELTA, MAX_NET, MAX_SCALE}
use Rattle.span_money.proofs.WordLemmas.{fits_64, same_64}
use Rattle.spread_stage.proofs.DeltaLemmas.{units_small}
use Rattle.spread_stage.proofs.deltas.units_of.Goals as goal

same_32 : (z : ℤ) → nat_abs z ≤ MAX_DELTA * MAX_SCALE → to_z w32 (of_z w32 z) ≡ z
same_32 z le = let below : nat_abs z < 2 ^ 31 = omega (arith, le) in to_z-of_z w32 z (fits_signed_from_abs w32 z below)

module _ (c : goal.After-from) where
  units : c.from.result ≡ c.args.terms.now.units
  units = c.from.ensures ∙ same_32 c.args.terms.now.units c.requires.terms.units

  net_kept : to_z w64 (of_z w64 c.args.net) ≡ c.args.net
  net_kept = same_64 c.args.net MAX_NET c.requires.net (lit< tt)

  units_kept : to_z w64 (of_z w64 c.args.terms.now.units) ≡ c.args.terms.now.units
  units_kept = same_64 c.args.terms.now.units (MAX_DELTA * MAX_SCALE) c.requires.terms.units (lit< tt)

  size : nat_abs (c.args.net *ℤ c.args.terms.now.units) ≤ MAX_NET * MAX_DELTA * MAX_SCALE
  size = units_small c.args.net c.args.terms.now.units c.requires.net c.requires.terms.units

pub overflow_mul-result : goal.overflow_mul-result
overflow_mul-result c =
    rw (units c, net_kept c, units_kept c)
    (fits_64 (c.args.net *ℤ c.args.terms.now.units) (MAX_NET * MAX_DELTA * MAX_SCALE) (size c) (lit< tt))

pub returns-clause-value : goal.returns-clause-value
returns-clause-value c =
    rw (units c, net_kept c, units_kept c)
    (same_64 (c.args.net *ℤ c.args.terms.now.units) (MAX_NET * MAX_DELTA * MAX_SCALE) (size c) (lit< tt))

pub returns-clause-bound : goal.returns-clause-bound
returns-clause-bound c = rw (returns-clause-value c) (size c)
