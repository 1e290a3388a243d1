-- Holdings of an account with added positions, within the limits.
use Rattle.std.proofs.Common.{◌≡◌, ℕ, ◌+◌, ◌≤◌, ◌⊎◌, inl, inr, Bool, false, cond, not, ◌&&◌, List, [], ◌∷◌, length, filter, Some}
use Rattle.std.proofs.Common.{refl, sym, ap, ◌∙◌, arith}
use Rattle.std.specs.Prelude.{ℤ, pos, ◌+ℤ◌, bytes_eq, nat_abs, nat_lt, slice_get}
use Rattle.std.specs.List.{list_any, position_or_len}
use Rattle.std.proofs.lemmas.Bool.{eqb-true, ltb-false}
use Rattle.std.proofs.lemmas.Int.{ints}
use Rattle.span_money.specs.Numbers.{int_sum_by}
use Rattle.span_tables.specs.Holdings.{ArePortfolio}
use Rattle.span_tables.specs.Names.{has_repeat}
use Rattle.span_tables.specs.Net.{net_of}
use Rattle.span_tables.specs.Orders.{holdings_with, net_among}
use Rattle.span_tables.specs.declared.limits.TheConstants.{MAX_HELD, MAX_NET}
use Rattle.span_tables.specs.declared.portfolios.Holding.{Holding}
use Rattle.span_tables.specs.declared.records.Contract.{Contract}
use Rattle.span_tables.specs.declared.records.PositionRecord.{PositionRecord}
use Rattle.span_tables.proofs.MergedLaws.{net_among_all}
use Rattle.binding.specs.near.Holdings.{ids_of, is_over_at}
use Rattle.binding.proofs.AccountLaws.{bytes_eq-flip, bytes_eq-refl}
use Rattle.binding.proofs.HoldingLaws.{number_is}
use Rattle.binding.proofs.OrderLaws.{among_within, over_among}
use Rattle.binding.proofs.PortfolioLaws.{all_rise, held_holds, within_from}

-- the number of a contract, found by its id
abbrev pub number_of : List Contract → List ℕ → ℕ
number_of contracts name = position_or_len (λ x. bytes_eq x.id name) contracts

pub number_of_id : (contracts : List Contract) (name : List ℕ)
    → number_of contracts name ≡ position_or_len (bytes_eq name) (ids_of contracts)
number_of_id [] name = refl
number_of_id (x ∷ contracts) name =
    ap (λ b. cond (not b) (1 + number_of contracts name) 0) (bytes_eq-flip x.id name)
    ∙ ap (λ n. cond (not (bytes_eq name x.id)) (1 + n) 0) (number_of_id contracts name)

-- the net in the contract with this name is over the limit
abbrev pub is_over_in : List Contract → List Holding → List ℕ → Bool
is_over_in contracts holdings name = nat_lt MAX_NET (nat_abs (net_among holdings (number_of contracts name)))

module _ (contracts : List Contract) (before : List Holding) (more : List PositionRecord) (account : List ℕ) where
  -- the holdings of the account with the added positions
  abbrev merged : List Holding
  merged = holdings_with contracts before more account

  abbrev merged_net : ℕ → Contract → ℤ
  merged_net k x = net_among before k +ℤ net_of more account x.id

  -- a net is over the limit by its contract's number if and only if it is by the contract's name
  pub over_by_name : (name : List ℕ)
      → is_over_at (position_or_len (bytes_eq name) (ids_of contracts)) (holdings_with contracts before more account)
      ≡ is_over_in contracts (holdings_with contracts before more account) name
  over_by_name name =
      over_among merged (all_rise merged_net contracts) (position_or_len (bytes_eq name) (ids_of contracts))
      ∙ ap (λ c. nat_lt MAX_NET (nat_abs (net_among merged c))) (sym (number_of_id contracts name))

  module _ (apart : has_repeat (λ x y. bytes_eq x.id y.id) contracts ≡ false) (portfolio : ArePortfolio before)
      (none : list_any (λ p. is_over_in contracts (holdings_with contracts before more account) p.contract) more ≡ false) where
    number_here : (k : ℕ) (x : Contract) → slice_get contracts k ≡ Some x → number_of contracts x.id ≡ k
    number_here k x e =
        number_of_id contracts x.id
        ∙ eqb-true (position_or_len (bytes_eq x.id) (ids_of contracts)) k (number_is contracts x.id k x apart e ∙ bytes_eq-refl x.id)

    merged_within : (k : ℕ) (x : Contract) → slice_get contracts k ≡ Some x → nat_abs (merged_net k x) ≤ MAX_NET
    merged_within k x e = by (within_from (λ a c. is_over_in contracts merged c) account x.id more none)
      where
        by : (filter (λ p. bytes_eq p.account account && bytes_eq p.contract x.id) more ≡ [])
            ⊎ (is_over_in contracts merged x.id ≡ false) → nat_abs (merged_net k x) ≤ MAX_NET
        by (inl empty) =
            let nothing : net_of more account x.id ≡ pos 0 = ap (int_sum_by (λ (p : PositionRecord). p.quantity)) empty in
            let few = among_within before portfolio k in
            let same : merged_net k x ≡ net_among before k = omega (arith, ints, nothing) in
            let size = ap nat_abs same in
            omega (arith, few, size)
        by (inr e') =
            let whole : net_among merged (number_of contracts x.id) ≡ merged_net k x =
            ap (net_among merged) (number_here k x e)
            ∙ net_among_all merged_net 0 k k x contracts e (omega arith) in
            ltb-false MAX_NET (nat_abs (merged_net k x)) (ap (λ z. nat_lt MAX_NET (nat_abs z)) (sym whole) ∙ e')

    -- if no added position has a net over the limit, the holdings of the account are a portfolio
    pub merged_holds : length (holdings_with contracts before more account) ≤ MAX_HELD
        → ArePortfolio (holdings_with contracts before more account)
    merged_holds few = held_holds merged_net contracts merged_within few
