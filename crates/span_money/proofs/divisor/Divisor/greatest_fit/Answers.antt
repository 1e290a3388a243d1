use Rattle.std.proofs.Common.{◌≡◌, ℕ, ◌+◌, ◌*◌, ◌/◌, ◌<◌, ◌≤◌, arith, subst}
use Rattle.span_money.specs.near.Reciprocals.{reciprocal_of}
use Rattle.span_money.proofs.ReciprocalLemmas.{fit_is_close, quotient_between}
use Rattle.span_money.proofs.divisor.Divisor.greatest_fit.Goals as goal

-- the product that the code computes is the quotient or one less
product_is_close : (s r m a b u : ℕ) → a ≡ s → b ≡ m → u ≡ r → m ≡ reciprocal_of u → 0 < r → s < 18446744073709551616
    → (a * b / 18446744073709551616 * r ≤ s) × (s < a * b / 18446744073709551616 * r + r + r)
product_is_close s r m a b u x y z is some small =
    rw (x, y) (fit_is_close s r m some small (subst (λ (w : ℕ). m ≡ reciprocal_of w) z is))

pub overflow_sub-rest : goal.overflow_sub-rest
overflow_sub-rest c =
    let close = product_is_close c.args.rest c.args.self c.self.inside.reciprocal c.from.result c.from-2.result
    c.self.inside.ten_thousandths (omega arith) (omega arith) (omega arith) c.self.invariant c.requires (omega arith) in
    let ratio : c.from-ratio.result ≡ c.args.self = omega arith in rw ratio close.0

pub returns-then-rest-fit-clause-value : goal.returns-then-rest-fit-clause-value
returns-then-rest-fit-clause-value c =
    let close = product_is_close c.args.rest c.args.self c.self.inside.reciprocal c.from.result c.from-2.result
    c.self.inside.ten_thousandths (omega arith) (omega arith) (omega arith) c.self.invariant c.requires (omega arith) in
    let ratio : c.from-ratio.result ≡ c.args.self = omega arith in
    let left = rw ratio at c.if-rest-fit.true in
    quotient_between c.args.rest c.args.self (c.from.result * c.from-2.result / 18446744073709551616 + 1) c.requires
    (omega (arith, left, close.0)) (omega (arith, close.1))

pub returns-else-rest-fit-clause-value : goal.returns-else-rest-fit-clause-value
returns-else-rest-fit-clause-value c =
    let close = product_is_close c.args.rest c.args.self c.self.inside.reciprocal c.from.result c.from-2.result
    c.self.inside.ten_thousandths (omega arith) (omega arith) (omega arith) c.self.invariant c.requires (omega arith) in
    let ratio : c.from-ratio.result ≡ c.args.self = omega arith in
    let left = rw ratio at c.if-rest-fit.false in
    quotient_between c.args.rest c.args.self (c.from.result * c.from-2.result / 18446744073709551616) c.requires
    close.0 (omega (arith, left, close.0))

pub returns-else-rest-fit-clause-fits : goal.returns-else-rest-fit-clause-fits
returns-else-rest-fit-clause-fits c =
    (product_is_close c.args.rest c.args.self c.self.inside.reciprocal c.from.result c.from-2.result
    c.self.inside.ten_thousandths (omega arith) (omega arith) (omega arith) c.self.invariant c.requires (omega arith)).0
