-- The credit is the greatest number whose product is within price risk times weight. Without spreads there is no
-- credit.
use Rattle.std.proofs.Common.{◌≡◌, ℕ, ◌*◌, ◌/◌, ◌^◌, ◌<◌, ◌≤◌, Bool, true, false, cond, List, nat_abs, zero, suc, [], ◌∷◌, refl, arith}
use Rattle.std.specs.Prelude.{◌==◌, ◌≢◌}
use Rattle.std.proofs.Math.Nat.{mul-zero, zero-div}
use Rattle.std.proofs.lemmas.Bool.Decides.{nat_tests}
use Rattle.span_money.proofs.NumberLaws.{div_greatest}
use Rattle.inter_credit.specs.Credits.{after_inter_spreads, credit_of, credit_at}
use Rattle.inter_credit.specs.States.{IsUnspread}
use Rattle.inter_credit.specs.declared.commodity_state.CommodityState.{CommodityState}

-- if the net delta is 0 there is no credit
pub credit_zero : (state : CommodityState) → nat_abs state.net ≡ 0 → credit_of state ≡ 0
unfolding credit_of
credit_zero state e = rw e refl

test_not_zero : (n : ℕ) → n ≢ 0 → (n == 0) ≡ false
test_not_zero n h = grind (arith, nat_tests, h)

-- otherwise the credit is the greatest g with g * 2 * 10^4 * |net| at most price2 * weight
pub credit_greatest : (state : CommodityState) → nat_abs state.net ≢ 0
    → (credit_of state * (2 * 10 ^ 4 * nat_abs state.net) ≤ state.price2 * state.weight)
    × ((g : ℕ) → g * (2 * 10 ^ 4 * nat_abs state.net) ≤ state.price2 * state.weight → g ≤ credit_of state)
unfolding credit_of
credit_greatest state h =
    let above : 0 < 2 * 10 ^ 4 * nat_abs state.net = omega (arith, h) in
    let d = div_greatest (state.price2 * state.weight) (2 * 10 ^ 4 * nat_abs state.net) above in
    let no = test_not_zero (nat_abs state.net) h in
    rw no d

cond_same : (b : Bool) (n m : ℕ) → m ≡ n → cond b n m ≡ n
cond_same true n m e = refl
cond_same false n m e = e

-- a weight of 0 earns nothing
credit_unspread : (state : CommodityState) → state.weight ≡ 0 → credit_of state ≡ 0
unfolding credit_of
credit_unspread state e =
    let none : (state.price2 * 0) / (2 * 10 ^ 4 * nat_abs state.net) ≡ 0 =
    rw (mul-zero state.price2) (zero-div (2 * 10 ^ 4 * nat_abs state.net)) in
    rw e (cond_same (nat_abs state.net == 0) 0 _ none)

-- without spreads there is no credit
pub no_spread_no_credit : (states : List CommodityState) (commodity : ℕ) → IsUnspread states
    → credit_at (after_inter_spreads [] states) commodity ≡ 0
unfolding after_inter_spreads
no_spread_no_credit [] commodity h = refl
no_spread_no_credit (state ∷ states) zero h = credit_unspread state (h 0 state (omega arith)).weight
no_spread_no_credit (state ∷ states) (suc commodity) h = no_spread_no_credit states commodity (λ k d lt. h (suc k) d (omega arith))
