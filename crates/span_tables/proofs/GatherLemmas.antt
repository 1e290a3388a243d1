-- The holdings of each commodity, gathered in one pass over an account's holdings.
use Rattle.std.proofs.Common.{◌≡◌, ℕ, ◌+◌, ◌<◌, true, List, [], ◌∷◌, ◌++◌, length, map, get_or, set, take, refl, sym, ap, ◌∙◌, subst}
use Rattle.std.specs.Prelude.{All, nat_lt}
use Rattle.std.specs.List.{list_all}
use Rattle.std.proofs.lemmas.List.{get_or_default}
use Rattle.std.proofs.lemmas.List.Elements.{All-cons, All-nil}
use Rattle.span_tables.specs.Accepted.{IsWithinLimits, commodity_number}
use Rattle.span_tables.specs.Holdings.{AreHoldings, ArePortfolio, fits}
use Rattle.span_tables.specs.Net.{held_contracts, held_of}
use Rattle.span_tables.specs.Tables.{AcceptedTables}
use Rattle.span_tables.specs.declared.portfolios.Holding.{Holding}
use Rattle.span_tables.specs.declared.records.Commodity.{Commodity}
use Rattle.span_tables.specs.declared.records.Contract.{Contract}
use Rattle.span_tables.specs.near.Gathered.{commodity_held, holdings_in, number_held}
use Rattle.span_tables.proofs.GroupLemmas.{copies_more}
use Rattle.span_tables.proofs.HeldLemmas.{all_known, are_holdings, held_in}
use Rattle.span_tables.proofs.RunLemmas.{number_by_id}
use Rattle.span_tables.proofs.TermLemmas.{number_known}

module _ (contracts : List Contract) where
  -- the holding at index i is of a contract that exists
  pub known_holding : (hs gs : List Holding) (i : ℕ) (d : Holding) → gs ≡ hs → i < length gs
      → list_all (λ h. nat_lt h.contract (length contracts)) hs ≡ true
      → (get_or gs i d).contract < length contracts
  known_holding hs gs i d same lt all =
      let lt_h : i < length hs = subst (λ (zs : List Holding). i < length zs) same lt in
      subst (λ (zs : List Holding). (get_or zs i d).contract < length contracts) (sym same) (all_known (length contracts) hs all i d lt_h)

module _ (t : AcceptedTables) (limits : IsWithinLimits t) (hs : List Holding) where
  -- the next holding is appended to the holdings of its commodity
  pub gather_more : (i n : ℕ) (d : Holding) (now next : List (List Holding)) → i < length hs
      → All (λ h. h.contract < length t.contracts) hs → n ≡ number_held t (get_or hs i d)
      → now ≡ map (λ c. holdings_in t.contracts (take i hs) c.id) t.commodities
      → next ≡ set now n (get_or now n [] ++ get_or hs i d ∷ [])
      → next ≡ map (λ c. holdings_in t.contracts (take (i + 1) hs) c.id) t.commodities
  gather_more i n d now next lt known told so_far step =
      let h = get_or hs i d in
      let places : All (λ x. commodity_number t.commodities (commodity_held t.contracts x) < length t.commodities) hs =
      λ k e inside.
      subst (λ m. m < length t.commodities) (number_by_id t limits (get_or hs k e) (known k e inside))
      (number_known t (get_or hs k e).contract limits (known k e inside)) in
      copies_more (λ (c : Commodity). c.id) (commodity_held t.contracts) t.commodities hs i now next n h h
      limits.commodities_apart lt places
      so_far (get_or_default hs i d h lt) (told ∙ number_by_id t limits h (known i d lt)) refl step

  module _ {V : Type 0} (items : V → List Holding) where
    -- the lists have the held contracts of each commodity
    pub all_held_of : (lists : List V) (cs : List Commodity) → map items lists ≡ map (λ c. holdings_in t.contracts hs c.id) cs
        → map (λ v. held_contracts t.contracts (items v)) lists ≡ map (λ c. held_of t.contracts hs c.id) cs
    all_held_of [] [] are = refl
    all_held_of [] (c ∷ cs) are = cc
    all_held_of (v ∷ vs) [] are = cc
    all_held_of (v ∷ vs) (c ∷ cs) are =
        let first : items v ≡ holdings_in t.contracts hs c.id = cc in
        let others : map items vs ≡ map (λ d. holdings_in t.contracts hs d.id) cs = cc in
        let here = ap (held_contracts t.contracts) first ∙ held_in t.contracts hs c.id in
        let rest = all_held_of vs cs others in
        λ k. here k ∷ rest k

    pub all_in_range : (lists : List V) (cs : List Commodity) → map items lists ≡ map (λ c. holdings_in t.contracts hs c.id) cs
        → ArePortfolio hs → fits (length t.contracts) hs ≡ true → All (λ v. AreHoldings t.contracts (items v)) lists
    all_in_range [] [] are portfolio known = All-nil (λ v. AreHoldings t.contracts (items v))
    all_in_range [] (c ∷ cs) are portfolio known = cc
    all_in_range (v ∷ vs) [] are portfolio known = cc
    all_in_range (v ∷ vs) (c ∷ cs) are portfolio known =
        let first : items v ≡ holdings_in t.contracts hs c.id = cc in
        let others : map items vs ≡ map (λ d. holdings_in t.contracts hs d.id) cs = cc in
        All-cons (λ w. AreHoldings t.contracts (items w)) v vs
        (subst (AreHoldings t.contracts) (sym first) (are_holdings t hs c.id limits portfolio known))
        (all_in_range vs cs others portfolio known)
