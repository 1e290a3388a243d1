-- Orders evaluated on the portfolios of positions and independently of each other.
use Rattle.std.proofs.Common.{◌≡◌, ℕ, suc, Bool, true, false, cond, List, [], ◌∷◌, ◌++◌, map, filter}
use Rattle.std.proofs.Common.{Option, Some, None, refl, sym, ap, ◌∙◌, arith}
use Rattle.std.specs.Prelude.{All, bytes_eq, find, option_map, unwrap_or}
use Rattle.span_tables.specs.Holdings.{ArePortfolio}
use Rattle.span_tables.specs.Names.{has_repeat, is_among}
use Rattle.span_tables.specs.Net.{AccountHoldings, holdings_of, portfolios_of}
use Rattle.span_tables.specs.Orders.{account_of_order, as_position, holdings_among, holdings_with, orders_in, positions_of_order}
use Rattle.span_tables.specs.declared.records.Contract.{Contract}
use Rattle.span_tables.specs.declared.records.OrderRecord.{OrderRecord}
use Rattle.span_tables.specs.declared.records.PositionRecord.{PositionRecord}
use Rattle.span_tables.proofs.MergedLaws.{holdings_among_all, holdings_with_more}
use Rattle.binding.specs.OrderBinding.{TriedOrder, holdings_after, holdings_before, order_bind_fault, tried_order}
use Rattle.binding.proofs.OrderBindLaws.{accepted_fits}

-- ---- on the portfolios of positions

module _ (contracts : List Contract) (positions : List PositionRecord) (records : List OrderRecord) (order : List ℕ) where
  pub before_by_positions : holdings_before (portfolios_of contracts positions) records order
      ≡ holdings_of contracts positions (account_of_order records order)
  before_by_positions = holdings_among_all contracts positions (account_of_order records order)

  pub after_by_positions : holdings_after contracts (portfolios_of contracts positions) records order
      ≡ holdings_of contracts (positions ++ positions_of_order records order) (account_of_order records order)
  after_by_positions =
      ap (λ held. holdings_with contracts held (positions_of_order records order) (account_of_order records order)) before_by_positions
      ∙ holdings_with_more contracts positions (positions_of_order records order) (account_of_order records order)

-- ---- independently of each other

abbrev of_order : List ℕ → OrderRecord → Bool
of_order order r = bytes_eq r.order order

filter_twice : (order : List ℕ) (records : List OrderRecord)
    → filter (of_order order) (filter (of_order order) records) ≡ filter (of_order order) records
filter_twice order [] = refl
filter_twice order (r ∷ records) = by (of_order order r) refl (filter_twice order records)
  where
    mine : List OrderRecord
    mine = filter (of_order order) records

    by : (b : Bool) → of_order order r ≡ b → filter (of_order order) mine ≡ mine
        → filter (of_order order) (cond b (r ∷ mine) mine) ≡ cond b (r ∷ mine) mine
    by true e more = ap (λ b. cond b (r ∷ filter (of_order order) mine) (filter (of_order order) mine)) e ∙ ap (λ rs. r ∷ rs) more
    by false e more = more

-- the first record of an order is the first one among its own records
first_of : (order : List ℕ) (records : List OrderRecord)
    → find (of_order order) records ≡ find (λ r. true) (filter (of_order order) records)
first_of order [] = refl
first_of order (r ∷ records) = by (of_order order r) refl (first_of order records)
  where
    mine : List OrderRecord
    mine = filter (of_order order) records

    by : (b : Bool) → of_order order r ≡ b → find (of_order order) records ≡ find (λ r. true) mine
        → cond (of_order order r) (Some r) (find (of_order order) records) ≡ find (λ r. true) (cond b (r ∷ mine) mine)
    by true e more = ap (λ b. cond b (Some r) (find (of_order order) records)) e
    by false e more = ap (λ b. cond b (Some r) (find (of_order order) records)) e ∙ more

-- the order, from its first record and its own records alone
tried_by : List Contract → List AccountHoldings → List ℕ → Option OrderRecord → List OrderRecord → TriedOrder
tried_by contracts portfolios order first mine =
    let account = unwrap_or (option_map (λ (r : OrderRecord). r.account) first) [] in
    let held = holdings_among portfolios account in
    record {
      order = order;
      before = record { account = account; holdings = held };
      after = record { account = account; holdings = holdings_with contracts held (map as_position mine) account };
    }

module _ (contracts : List Contract) (portfolios : List AccountHoldings) (order : List ℕ) where
  pub same_order : (these those : List OrderRecord)
      → filter (λ r. bytes_eq r.order order) these ≡ filter (λ r. bytes_eq r.order order) those
      → tried_order contracts portfolios these order ≡ tried_order contracts portfolios those order
  unfolding tried_by
  same_order these those e =
      let first = first_of order these ∙ ap (find (λ r. true)) e ∙ sym (first_of order those) in
      λ i. tried_by contracts portfolios order (first i) (e i)

  pub order_alone : (records : List OrderRecord)
      → tried_order contracts portfolios (filter (λ r. bytes_eq r.order order) records) order
      ≡ tried_order contracts portfolios records order
  order_alone records = same_order (filter (λ r. bytes_eq r.order order) records) records (filter_twice order records)

-- ---- within the limits

nothing_held : ArePortfolio []
nothing_held = record {
  few = omega arith;
  nets = λ k d lt. absurd (omega (arith, lt));
  held = λ k d lt. absurd (omega (arith, lt));
  rising = λ k lt. absurd (omega (arith, lt));
}

-- an account's holdings among portfolios are a portfolio
pub among_holds : (name : List ℕ) (portfolios : List AccountHoldings) → All (λ p. ArePortfolio p.holdings) portfolios
    → ArePortfolio (holdings_among portfolios name)
among_holds name [] all = nothing_held
among_holds name (p ∷ portfolios) all =
    by (bytes_eq p.account name) (among_holds name portfolios (λ k d lt. all (suc k) d (omega (arith, lt))))
  where
    others : Option AccountHoldings
    others = find (λ q. bytes_eq q.account name) portfolios

    by : (b : Bool) → ArePortfolio (holdings_among portfolios name)
        → ArePortfolio (unwrap_or (option_map (λ (q : AccountHoldings). q.holdings) (cond b (Some p) others)) [])
    by true more = all 0 p (omega arith)
    by false more = more

pub accepted_holds : (contracts : List Contract) (portfolios : List AccountHoldings) (all : List OrderRecord)
    → has_repeat (λ x y. bytes_eq x.id y.id) contracts ≡ false → All (λ p. ArePortfolio p.holdings) portfolios
    → order_bind_fault contracts portfolios all ≡ None
    → (order : List ℕ) → is_among (orders_in all) order ≡ true → ArePortfolio (holdings_after contracts portfolios all order)
accepted_holds contracts portfolios all apart portfolio none order among =
    accepted_fits contracts portfolios all apart none order (among_holds (account_of_order all order) portfolios portfolio) among
