-- Steps of a loop that reads digits.
use Rattle.std.proofs.Common.{ℕ, ◌^◌, ◌≤◌, arith}
use Rattle.std.proofs.Math.Nat.{pow-le-pow_right}

-- a number of fewer than 18 digits has room for one more
pub power_small : (i : ℕ) → i ≤ 17 → 10 ^ i ≤ 100000000000000000
power_small i few = pow-le-pow_right (omega arith) few
