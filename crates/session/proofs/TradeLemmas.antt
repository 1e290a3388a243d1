-- The trades of a request.
use Rattle.std.proofs.Common.{◌≡◌, ◌≤◌, ℕ, Bool, true, false, refl, List, [], ◌∷◌, length, sym, arith, pos, ◌+◌, ◌-◌, inl, inr}
use Rattle.std.specs.Prelude.{◌==◌, ◌%◌, ◌&&◌, ◌*◌, All, nat_abs, nat_le, nat_lt, unwrap_or}
use Rattle.std.proofs.lemmas.List.Elements.{All-cons, All-nil}
use Rattle.std.proofs.lemmas.Bool.{cases_lt, leb-true, ltb-true, true≢false}
use Rattle.span_money.specs.Numbers.{whole_number}
use Rattle.span_tables.specs.declared.limits.TheConstants.{MAX_QUANTITY}
use Rattle.session.specs.Requests.{AreTradable, has_trades, is_quantity, trades_of}
use Rattle.session.specs.near.FieldTests.{AreTrades}
use Rattle.binding.specs.declared.trades.Trade.{Trade}
use Rattle.session.specs.declared.requests.TheConstants.{MAX_TRADES}

few : (text : List ℕ) → is_quantity (unwrap_or (whole_number text) (pos 0)) ≡ true
    → nat_abs (unwrap_or (whole_number text) (pos 0)) ≤ MAX_QUANTITY
few text in_range = leb-true _ MAX_QUANTITY in_range

small : (fields : List (List ℕ)) → AreTrades fields → All (λ (t : Trade). nat_abs t.quantity ≤ MAX_QUANTITY) (trades_of fields)
small [] are = All-nil _
small (contract ∷ []) are = All-nil _
small (contract ∷ quantity ∷ rest) are =
    All-cons (λ t. nat_abs t.quantity ≤ MAX_QUANTITY)
    (record { contract = contract; quantity = unwrap_or (whole_number quantity) (pos 0) }) (trades_of rest)
    (few quantity are.1) (small rest are.2)

-- fields that are trades give trades that can be bound
pub tradable : (fields : List (List ℕ)) → AreTrades fields → 2 ≤ length fields → AreTradable (trades_of fields)
tradable [] are some = absurd (omega (arith, some))
tradable (contract ∷ []) are some = absurd (omega (arith, some))
tradable (contract ∷ quantity ∷ rest) are some = record {
  some = omega arith;
  small = small (contract ∷ quantity ∷ rest) are;
}

both : (a b : Bool) → (a && b) ≡ true → (a ≡ true) × (b ≡ true)
both true b h = (refl, h)
both false b h = cc

odd : (n : ℕ) → (n % 2 == 0) ≡ true → n ≡ 1 → ⊥
odd n even one = let same : (1 % 2 == 0) ≡ true = rw one at even in true≢false (sym same)

-- if a request has trades, there are at least a contract and a quantity after the word and the names
pub enough : (names n : ℕ) → has_trades names n ≡ true → names + 3 ≤ n
enough names n holds =
    let parts = both (nat_lt (names + 1) n && nat_le n (names + 1 + 2 * MAX_TRADES)) ((n - (names + 1)) % 2 == 0) holds in
    let more = ltb-true (names + 1) n (both (nat_lt (names + 1) n) (nat_le n (names + 1 + 2 * MAX_TRADES)) parts.0).0 in
    let even = parts.1 in
    elim (cases_lt (names + 2) n) [
      | inl lt ↦ omega (arith, lt)
      | inr le ↦ absurd (odd (n - (names + 1)) even (omega (arith, more, le)))
    ]
