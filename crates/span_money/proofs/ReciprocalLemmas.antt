-- Quotients by a product with the reciprocal of the divisor.
use Rattle.std.proofs.Common.{◌≡◌, ℕ, ◌+◌, ◌*◌, ◌/◌, ◌<◌, ◌≤◌, arith}
use Rattle.std.proofs.Math.Nat.{div-lt_iff_lt-mul, div-mul-le_self, le-div_iff_mul-le, le_of_mul-le-mul_right, lt-div-mul-add}
use Rattle.std.proofs.Math.Nat.{lt_of_mul-lt-mul_right, mul-le-mul_left, mul-le-mul_right, mul-lt-mul_of_pos_right}
use Rattle.std.proofs.Math.Nat.{mul_assoc, mul_right_comm}
use Rattle.span_money.specs.near.Reciprocals.{reciprocal_of}

-- the product with a reciprocal, m units of 1 / unit, is at most the quotient
fit_below : (s r m unit : ℕ) → 0 < unit → m * r ≤ unit → s * m / unit * r ≤ s
fit_below s r m unit some below =
    let q : ℕ = s * m / unit in
    let product : q * unit * r ≤ s * m * r = mul-le-mul_right r (div-mul-le_self (s * m) unit) in
    let whole : s * (m * r) ≤ s * unit = mul-le-mul_left s below in
    let times : q * r * unit ≤ s * unit = omega (arith, product, whole, mul_right_comm q unit r, mul_assoc s m r) in
    le_of_mul-le-mul_right times some

-- it is the quotient or one less
fit_near : (s r m unit : ℕ) → 0 < r → s < unit → unit ≤ m * r + r → s < s * m / unit * r + r + r
fit_near s r m unit some small above =
    let q : ℕ = s * m / unit in
    let product : s * m * r < (q * unit + unit) * r = mul-lt-mul_of_pos_right (lt-div-mul-add (omega arith)) some in
    let whole : s * unit ≤ s * (m * r + r) = mul-le-mul_left s above in
    let rest : s * r ≤ unit * r = mul-le-mul_right r (omega arith) in
    let times : s * unit < (q * r + r + r) * unit =
    omega (arith, product, whole, rest, mul_assoc s m r, mul_right_comm q unit r) in
    lt_of_mul-lt-mul_right unit times

-- the same for the reciprocal of a ratio in 64 bits
pub fit_is_close : (s r m : ℕ) → 0 < r → s < 18446744073709551616 → m ≡ reciprocal_of r
    → (s * m / 18446744073709551616 * r ≤ s) × (s < s * m / 18446744073709551616 * r + r + r)
fit_is_close s r m some small is =
    let least : reciprocal_of r * r ≤ 18446744073709551615 = div-mul-le_self 18446744073709551615 r in
    let most : 18446744073709551615 < reciprocal_of r * r + r = lt-div-mul-add some in
    let below : m * r ≤ 18446744073709551616 = rw is (omega arith) in
    let above : 18446744073709551616 ≤ m * r + r = rw is (omega arith) in (
      fit_below s r m 18446744073709551616 (omega arith) below,
      fit_near s r m 18446744073709551616 some small above,
    )

-- a quotient by the numbers that it lies between
pub quotient_between : (s r q : ℕ) → 0 < r → q * r ≤ s → s < q * r + r → q ≡ s / r
quotient_between s r q some least most =
    let low : q ≤ s / r = (le-div_iff_mul-le some).1 least in
    let above : s < (q + 1) * r = omega arith in
    let high : s / r < q + 1 = (div-lt_iff_lt-mul some).1 above in omega arith
