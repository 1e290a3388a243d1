-- The holdings of a commodity are within the limits, and the size of a sum is bounded by its terms.
use Rattle.std.proofs.Common.{◌≡◌, ℕ, ◌*◌, ◌≤◌, true, List, [], ◌∷◌, length, subst, arith}
use Rattle.std.specs.Prelude.{ℤ, All, nat_abs}
use Rattle.std.proofs.lemmas.Int.{ints}
use Rattle.std.proofs.lemmas.List.Elements.{All-head, All-tail}
use Rattle.span_money.specs.Numbers.{int_sum_by}
use Rattle.span_tables.specs.Accepted.{IsWithinLimits}
use Rattle.span_tables.specs.Holdings.{AreHeld, ArePortfolio, fits}
use Rattle.span_tables.specs.Net.{held_of}
use Rattle.span_tables.specs.Tables.{AcceptedTables}
use Rattle.span_tables.specs.declared.portfolios.Holding.{Holding}
use Rattle.span_tables.specs.near.Gathered.{holdings_in}
use Rattle.span_tables.proofs.HeldLemmas.{are_held, are_holdings, held_in}
use Rattle.span_tables.proofs.SumLaws.{int_sum_by-cons}

-- the size of a sum is at most the number of its terms times their largest size
pub int_sum_size : {X : Type 0} (f : X → ℤ) (m : ℕ) (xs : List X) → All (λ x. nat_abs (f x) ≤ m) xs
    → nat_abs (int_sum_by f xs) ≤ length xs * m
int_sum_size f m [] all = omega arith
int_sum_size f m (x ∷ xs) all =
    let first : nat_abs (f x) ≤ m = All-head (λ y. nat_abs (f y) ≤ m) x xs all in
    let rest : nat_abs (int_sum_by f xs) ≤ length xs * m = int_sum_size f m xs (All-tail (λ y. nat_abs (f y) ≤ m) x xs all) in
    let whole = int_sum_by-cons f x xs in
    omega (arith, ints, first, rest, whole)

-- the held contracts of a commodity, under tables within their limits
pub are_held_of : (t : AcceptedTables) (holdings : List Holding) (id : List ℕ) → IsWithinLimits t → ArePortfolio holdings
    → fits (length t.contracts) holdings ≡ true → AreHeld (held_of t.contracts holdings id)
are_held_of t holdings id limits portfolio known =
    subst AreHeld (held_in t.contracts holdings id)
    (are_held t.contracts (holdings_in t.contracts holdings id) (are_holdings t holdings id limits portfolio known))
