-- Bounds on the sizes of minimums, credits and requirements; states stay in range.
use Rattle.std.proofs.Common.{◌≡◌, ◌≢◌, ℕ, zero, suc, ◌+◌, ◌-◌, ◌*◌, ◌^◌, ◌<◌, ◌≤◌, ◌==◌, Bool, true, false, cond, List, [], ◌∷◌}
use Rattle.std.proofs.Common.{length, filter, fold, nat_abs, ℤ, pos, negsuc, ◌+ℤ◌, ◌-ℤ◌, refl, ap, ◌∙◌, arith}
use Rattle.std.specs.Prelude.{All}
use Rattle.std.proofs.Math.Nat.{lt_of_mul-lt-mul_right, mul-le-mul, mul-le-mul_right}
use Rattle.std.proofs.lemmas.Bool.Decides.{nat_tests}
use Rattle.std.proofs.lemmas.List.Elements.{All-head, All-tail}
use Rattle.span_money.specs.Numbers.{negative_part, positive_part}
use Rattle.span_tables.specs.Accepted.{IsInter}
use Rattle.span_tables.specs.Holdings.{AreHeld}
use Rattle.span_tables.specs.Net.{HeldContract}
use Rattle.span_tables.specs.Sides.{IsLeftOf}
use Rattle.span_tables.specs.declared.limits.TheConstants.{MAX_BASIS_POINTS, MAX_HELD, MAX_NET, MAX_PRICE2, MAX_RATE, MAX_UNITS}
use Rattle.span_tables.specs.declared.records.Inter.{Inter}
use Rattle.span_tables.specs.declared.records.MinimumMethod.{MinimumMethod}
use Rattle.span_tables.specs.declared.records.MinimumMethod.TheVariants as method
use Rattle.span_tables.specs.declared.records.ProductKind.{ProductKind}
use Rattle.span_tables.specs.declared.records.ProductKind.TheVariants as product
use Rattle.inter_credit.specs.Credits.{after_inter_spreads, credit_at, credit_of, inter_both_ways, state_at}
use Rattle.inter_credit.specs.Requirement.{is_call, is_put, minimum_of, requirement_of, short_count, short_options}
use Rattle.inter_credit.specs.States.{UsesState}
use Rattle.inter_credit.specs.near.CommodityStates.{IsCommodityState}
use Rattle.inter_credit.specs.declared.commodity_state.CommodityState.{CommodityState}
use Rattle.inter_credit.proofs.CreditLaws.{credit_greatest, credit_zero}
use Rattle.inter_credit.proofs.MinimumLaws.{by_test}
use Rattle.inter_credit.proofs.OpenLemmas.{loaded_state}
use Rattle.inter_credit.proofs.RestLaws.{both_ways_use, length-inter_both_ways}
use Rattle.inter_credit.proofs.Sizes.{size-int_max, size-parts}

-- ---- the short option minimum

-- a contract is a call, a put or neither
short_part : (kind : ProductKind) (n : ℕ) → cond (is_call kind) n 0 + cond (is_put kind) n 0 ≤ n
short_part product.Future n = omega arith
short_part product.Call n = omega arith
short_part product.Put n = omega arith

negative_part-le : (z : ℤ) → negative_part z ≤ nat_abs z
negative_part-le (pos n) = omega arith
negative_part-le (negsuc n) = omega arith

-- the number of short calls and short puts together
shorts_small : (held : List HeldContract) (m : ℕ) → All (λ h. nat_abs h.net ≤ m) held
    → short_count is_call held + short_count is_put held ≤ length held * m
shorts_small [] m all = omega arith
shorts_small (h ∷ hs) m all =
    let short : HeldContract → ℕ = λ x. negative_part x.net in
    let calls = by_test (is_call h.contract.kind) short h (filter (λ x. is_call x.contract.kind) hs) in
    let puts = by_test (is_put h.contract.kind) short h (filter (λ x. is_put x.contract.kind) hs) in
    let part = short_part h.contract.kind (negative_part h.net) in
    let size = negative_part-le h.net in
    let first : nat_abs h.net ≤ m = All-head (λ x. nat_abs x.net ≤ m) h hs all in
    let rest = shorts_small hs m (All-tail (λ x. nat_abs x.net ≤ m) h hs all) in
    omega (arith, calls, puts, part, size, first, rest)

counts_small : (held : List HeldContract) → AreHeld held
    → short_count is_call held + short_count is_put held ≤ MAX_HELD * MAX_NET
counts_small held are =
    let few : length held * MAX_NET ≤ MAX_HELD * MAX_NET = mul-le-mul_right MAX_NET are.few in
    omega (arith, shorts_small held MAX_NET are.nets, few)

options_small : (m : MinimumMethod) (held : List HeldContract) → AreHeld held → short_options m held ≤ MAX_HELD * MAX_NET
options_small method.Sum held are = counts_small held are
options_small method.Max held are = omega (arith, counts_small held are)

pub minimum_small : (rate : ℕ) (m : MinimumMethod) (held : List HeldContract) → rate ≤ MAX_RATE → AreHeld held
    → minimum_of rate m held ≤ MAX_RATE * (MAX_HELD * MAX_NET)
unfolding minimum_of
minimum_small rate m held small are = mul-le-mul small (options_small m held are)

-- ---- the requirement

pub requirement_small : (scan intra delivery credit minimum : ℤ) → nat_abs (requirement_of scan intra delivery credit minimum)
    ≤ nat_abs scan + nat_abs intra + nat_abs delivery + nat_abs credit + nat_abs minimum
unfolding requirement_of
requirement_small scan intra delivery credit minimum =
    let larger = size-int_max (((scan +ℤ intra) +ℤ delivery) -ℤ credit) minimum in
    omega (arith, size-parts scan intra delivery credit, larger)

-- ---- states

pub parts_size : (z : ℤ) → nat_abs z ≡ positive_part z + negative_part z
parts_size (pos n) = omega arith
parts_size (negsuc n) = omega arith

-- a remaining delta is not larger in size than the delta
left_size : (a b : ℤ) → IsLeftOf a b → nat_abs b ≤ nat_abs a
left_size a b left = omega (arith, parts_size a, parts_size b, left.long, left.short)

split : (b d n : ℕ) → (b + d) * n ≡ b * n + d * n
split b d n = omega arith

-- using units at no more basis points than a whole keeps the weight plus `whole` times the remaining size within its
-- bound
weight_stays : (bp whole before after weight weight_after most : ℕ) → bp ≤ whole → after ≤ before
    → weight_after + bp * after ≡ weight + bp * before → weight + whole * before ≤ most → weight_after + whole * after ≤ most
weight_stays bp whole before after weight weight_after most le less same small =
    let all : bp + (whole - bp) ≡ whole = omega (arith, le) in
    let was : (bp + (whole - bp)) * before ≡ whole * before = ap (λ n. n * before) all in
    let is : (bp + (whole - bp)) * after ≡ whole * after = ap (λ n. n * after) all in
    let fewer : (whole - bp) * after ≤ (whole - bp) * before = mul-le-mul (omega arith) less in
    let s = split bp (whole - bp) before in
    let t = split bp (whole - bp) after in
    omega (arith, was, is, fewer, s, t, same, small)

-- a state stays in range when units of it are used
state_stays : (basis_points : ℕ) (before after : CommodityState) → basis_points ≤ MAX_BASIS_POINTS → UsesState basis_points before after
    → IsCommodityState before → IsCommodityState after
state_stays bp before after small uses is = record {
  net = rw uses.net is.net;
  price2 = rw uses.price2 is.price2;
  rest = record {
    long = rw uses.net (omega (arith, uses.rest.long, is.rest.long));
    short = rw uses.net (omega (arith, uses.rest.short, is.rest.short));
  };
  weight = rw uses.net (weight_stays bp MAX_BASIS_POINTS (nat_abs before.rest) (nat_abs after.rest) before.weight after.weight
      (MAX_BASIS_POINTS * nat_abs before.net) small (left_size before.rest after.rest uses.rest) uses.weight is.weight);
}

-- the state of each commodity number is in range, even if no commodity has the number
pub each_state : (states : List CommodityState) → All IsCommodityState states → (k : ℕ) → IsCommodityState (state_at states k)
each_state [] all k = loaded_state (pos 0) 0 (omega arith) (omega arith)
each_state (state ∷ states) all zero = All-head IsCommodityState state states all
each_state (state ∷ states) all (suc k) = each_state states (All-tail IsCommodityState state states all) k

states_after_all_spreads : (states : List CommodityState) → ((k : ℕ) → IsCommodityState (state_at states k)) → All IsCommodityState states
states_after_all_spreads [] each k d lt = absurd (omega (arith, lt))
states_after_all_spreads (state ∷ states) each zero d lt = each zero
states_after_all_spreads (state ∷ states) each (suc k) d lt = states_after_all_spreads states (λ i. each (suc i)) k d (omega (arith, lt))

-- the states after a spread in both directions are in range
pub both_ways_states : (s : Inter) (states : List CommodityState) → All IsCommodityState states → IsInter (length states) s
    → All IsCommodityState (inter_both_ways states s)
both_ways_states s states all is =
    states_after_all_spreads (inter_both_ways states s)
    (λ k. state_stays s.basis_points (state_at states k) (state_at (inter_both_ways states s) k) is.basis_points
    (both_ways_use states s is k) (each_state states all k))

fold_stays : (spreads : List Inter) (n : ℕ) (states : List CommodityState) → length states ≡ n → All IsCommodityState states
    → All (IsInter n) spreads → All IsCommodityState (fold inter_both_ways states spreads)
fold_stays [] n states long all are = all
fold_stays (s ∷ spreads) n states long all are =
    let is : IsInter n s = All-head (IsInter n) s spreads are in
    fold_stays spreads n (inter_both_ways states s) (length-inter_both_ways states s ∙ long)
    (both_ways_states s states all (rw long is)) (All-tail (IsInter n) s spreads are)

-- the states after all spreads are in range
pub states_stay : (spreads : List Inter) (states : List CommodityState) → All IsCommodityState states
    → All (IsInter (length states)) spreads
    → All IsCommodityState (after_inter_spreads spreads states)
unfolding after_inter_spreads
states_stay spreads states all are = fold_stays spreads (length states) states refl all are

-- spreads keep the number of commodities
pub length-after_inter_spreads : (spreads : List Inter) (states : List CommodityState)
    → length (after_inter_spreads spreads states) ≡ length states
unfolding after_inter_spreads
length-after_inter_spreads [] states = refl
length-after_inter_spreads (s ∷ spreads) states =
    length-after_inter_spreads spreads (inter_both_ways states s) ∙ length-inter_both_ways states s

-- ---- the credit

-- the dividend of a credit fits in a signed 128-bit number
pub product_small : (state : CommodityState) → IsCommodityState state → state.price2 * state.weight < 2 ^ 127
product_small state is =
    let weight : state.weight ≤ MAX_BASIS_POINTS * MAX_UNITS = omega (arith, is.weight, is.net) in
    let most : state.price2 * state.weight ≤ MAX_PRICE2 * (MAX_BASIS_POINTS * MAX_UNITS) = mul-le-mul is.price2 weight in
    omega (arith, most)

-- the same for the state of a commodity number
pub products_small : (states : List CommodityState) (k : ℕ) → All IsCommodityState states
    → (state_at states k).price2 * (state_at states k).weight < 2 ^ 127
products_small states k all = product_small (state_at states k) (each_state states all k)

-- twice a quotient by twice the divisor
half : (g n price2 weight : ℕ) → n ≢ 0 → g * (2 * 10 ^ 4 * n) ≤ price2 * weight → weight ≤ 10 ^ 4 * n → 2 * g ≤ price2
half g n price2 weight some below small =
    let unit = 10 ^ 4 * n in
    let more : price2 * weight ≤ price2 * unit = mul-le-mul (omega arith) small in
    let twice : 2 * g * unit ≡ g * (2 * 10 ^ 4 * n) = omega arith in
    let next : (price2 + 1) * unit ≡ price2 * unit + unit = omega arith in
    let above : 0 < unit = omega (arith, some) in
    let lt : 2 * g * unit < (price2 + 1) * unit = omega (arith, below, more, twice, next, above) in
    let less : 2 * g < price2 + 1 = lt_of_mul-lt-mul_right unit lt in
    omega (arith, less)

credit_if : (b : Bool) (state : CommodityState) → (nat_abs state.net == 0) ≡ b → IsCommodityState state → 2 * credit_of state ≤ state.price2
credit_if true state e is =
    let none = credit_zero state (grind (arith, nat_tests, e)) in
    omega (arith, none)
credit_if false state e is =
    let some : nat_abs state.net ≢ 0 = grind (arith, nat_tests, e) in
    let weight : state.weight ≤ 10 ^ 4 * nat_abs state.net = omega (arith, is.weight) in
    half (credit_of state) (nat_abs state.net) state.price2 state.weight some (credit_greatest state some).0 weight

-- twice the credit of a commodity is at most `MAX_PRICE2`
pub credit_small : (states : List CommodityState) (c : ℕ) → All IsCommodityState states → 2 * credit_at states c ≤ MAX_PRICE2
credit_small [] c all = omega arith
credit_small (state ∷ states) zero all =
    let is : IsCommodityState state = All-head IsCommodityState state states all in
    omega (arith, credit_if (nat_abs state.net == 0) state refl is, is.price2)
credit_small (state ∷ states) (suc c) all = credit_small states c (All-tail IsCommodityState state states all)
