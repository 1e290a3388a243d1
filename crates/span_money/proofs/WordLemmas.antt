-- Numbers of bounded size and their products in 64-bit words.
use Rattle.std.proofs.Common.{◌≡◌, ℕ, ◌*◌, ◌^◌, ◌<◌, ◌≤◌, arith, to_z, of_z, w64, nat_abs, FitsSigned}
use Rattle.std.specs.Prelude.{ℤ, ◌*ℤ◌}
use Rattle.std.proofs.Math.Nat.{mul-le-mul}
use Rattle.std.proofs.lemmas.Int.{fits_signed_from_abs, to_z-of_z, unsigned_abs-mul}

-- the size of a product is at most the product of the sizes
pub product_size : (a b : ℤ) (m n : ℕ) → nat_abs a ≤ m → nat_abs b ≤ n → nat_abs (a *ℤ b) ≤ m * n
product_size a b m n x y = rw (unsigned_abs-mul a b) (mul-le-mul x y)

pub fits_64 : (z : ℤ) (n : ℕ) → nat_abs z ≤ n → n < 2 ^ 63 → FitsSigned w64 z
fits_64 z n le lt = let below : nat_abs z < 2 ^ 63 = omega (arith, le, lt) in fits_signed_from_abs w64 z below

-- a number of size below 2^63 keeps its value in 64 bits
pub same_64 : (z : ℤ) (n : ℕ) → nat_abs z ≤ n → n < 2 ^ 63 → to_z w64 (of_z w64 z) ≡ z
same_64 z n le lt = to_z-of_z w64 z (fits_64 z n le lt)
