-- The ranges of an intercommodity spread do not depend on commodities other than those in its legs.
use Rattle.std.proofs.Common.{ℕ, ◌<◌, All}
use Rattle.span_tables.specs.Accepted.{IsInter}
use Rattle.span_tables.specs.declared.records.Inter.{Inter}

-- a spread that is in range for m commodities is in range for any n that exceeds the commodity numbers of its legs
pub in_range_of : (m n : ℕ) (s : Inter) → IsInter m s → All (λ leg. leg.commodity < n) s.legs → IsInter n s
in_range_of m n s is among = record {
  basis_points = is.basis_points;
  at_least_two = is.at_least_two;
  at_most_four = is.at_most_four;
  ratios_above = is.ratios_above;
  ratios_below = is.ratios_below;
  known = among;
  apart = is.apart;
}
