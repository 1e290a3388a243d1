-- All faults of records, from the stored nets of each account.
use Rattle.std.proofs.Common.{◌≡◌, ℕ, ◌<◌, Bool, true, false, not, ◌&&◌, List, [], ◌++◌, length, get_or, map, Some, None}
use Rattle.std.proofs.Common.{position, refl, ap, ◌∙◌, arith}
use Rattle.std.specs.Prelude.{bytes_eq}
use Rattle.std.specs.List.{list_any, position_or_len}
use Rattle.std.proofs.lemmas.Bool.{and_parts}
use Rattle.std.proofs.lemmas.List.{get_or-map, length-map}
use Rattle.std.proofs.lemmas.List.Folds.{list_any_at}
use Rattle.span_tables.specs.Net.{accounts_of}
use Rattle.span_tables.specs.declared.portfolios.Holding.{Holding}
use Rattle.span_tables.specs.declared.records.Contract.{Contract}
use Rattle.span_tables.specs.declared.records.PositionRecord.{PositionRecord}
use Rattle.span_tables.proofs.NameLaws.{distinct_same}
use Rattle.span_tables.proofs.NameLemmas.{same_name}
use Rattle.binding.specs.Binding.{all_unfit, among, is_known, owner_faults}
use Rattle.binding.specs.near.Holdings.{are_many, exceeds, exceeds_at, exceeds_in, excess_of, fault_of, found_faults, ids_of}
use Rattle.binding.specs.near.Holdings.{is_over_at, limit_faults, same_told}
use Rattle.binding.specs.near.Ledgers.{foreign_faults}
use Rattle.binding.specs.near.Sums.{kept_holding}
use Rattle.binding.specs.declared.over_limits.Excess.{Excess}
use Rattle.binding.specs.declared.over_limits.Limit.{Limit}
use Rattle.binding.specs.declared.over_limits.Limit.TheVariants as limit
use Rattle.binding.specs.declared.faults.BindFault.{BindFault}
use Rattle.binding.specs.declared.faults.BindFault.TheVariants as fault
use Rattle.binding.proofs.AccountLaws.{bytes_eq-refl}
use Rattle.binding.proofs.KeptLaws.{in_kept}
use Rattle.binding.proofs.LimitLaws.{over_filtered}
use Rattle.binding.proofs.PlaceLaws.{at_place, listed_is, position_is, position_none}
use Rattle.binding.proofs.ToldOnce.{told_once}

-- holdings exceed a limit at a contract, given by its id
abbrev pub exceeds_by_id : Limit → List (List ℕ) → List Holding → List ℕ → Bool
exceeds_by_id limit.Net ids holdings contract = is_over_at (position_or_len (bytes_eq contract) ids) holdings
exceeds_by_id limit.Held ids holdings contract = are_many holdings

module _ (ids : List (List ℕ)) (holdings : List Holding) (contract : List ℕ) where
  by_id : (l : Limit) (b : Bool) → list_any (bytes_eq contract) ids ≡ b
      → exceeds_in l (position (bytes_eq contract) ids) (excess_of holdings) ≡ (b && exceeds_by_id l ids holdings contract)
  by_id l true e = ap (λ o. exceeds_in l o (excess_of holdings)) (position_is ids contract e) ∙ there l
    where
      there : (k : Limit) → exceeds_in k (Some (position_or_len (bytes_eq contract) ids)) (excess_of holdings)
          ≡ exceeds_by_id k ids holdings contract
      there limit.Net = over_filtered (position_or_len (bytes_eq contract) ids) holdings
      there limit.Held = refl
  by_id l false e = ap (λ o. exceeds_in l o (excess_of holdings)) (position_none ids contract e) ∙ nowhere l
    where
      nowhere : (k : Limit) → exceeds_in k None (excess_of holdings) ≡ false
      nowhere limit.Net = refl
      nowhere limit.Held = refl

module _ (contracts : List Contract) (positions : List PositionRecord) (held : List ℕ → List Holding) where
  -- the faults, from the holdings of each account
  abbrev pub faults_by : List BindFault
  faults_by =
      owner_faults (λ (p : PositionRecord). p.account) (λ p. p.contract) fault.UnknownContract fault.NetOutOfRange fault.TooManyHeld
      contracts (λ account contract. is_over_at (position_or_len (bytes_eq contract) (ids_of contracts)) (held account))
      (λ account. are_many (held account)) positions

  abbrev exceeding : Limit → PositionRecord → Bool
  exceeding l p = exceeds_by_id l (ids_of contracts) (held p.account) p.contract

  -- if one of two records that are reported as one exceeds a limit, both do
  alike : (l : Limit) (x p : PositionRecord) → same_told l x p ≡ true → exceeding l p ≡ true → exceeding l x ≡ true
  alike limit.Net x p same e =
      let parts = and_parts (bytes_eq x.account p.account) (bytes_eq x.contract p.contract) same in
      ap (λ a. exceeds_by_id limit.Net (ids_of contracts) (held a) x.contract) (same_name x.account p.account parts.0)
      ∙ ap (exceeds_by_id limit.Net (ids_of contracts) (held p.account)) (same_name x.contract p.contract parts.1) ∙ e
  alike limit.Held x p same e = ap (λ a. are_many (held a)) (same_name x.account p.account same) ∙ e

  module _ (excesses : List Excess)
      (excesses_are : excesses ≡ map (λ account. excess_of (map kept_holding (held account))) (accounts_of positions)) where
    -- the account of a record is among the accounts
    account_among : (k : ℕ) (d : PositionRecord) → k < length positions
        → list_any (bytes_eq (get_or positions k d).account) (accounts_of positions) ≡ true
    account_among k d lt =
        let name = (get_or positions k d).account in
        distinct_same (map (λ p. p.account) positions) name
        ∙ list_any_at (bytes_eq name) (map (λ (p : PositionRecord). p.account) positions) k []
        (omega (arith, lt, length-map positions (λ (p : PositionRecord). p.account)))
        (ap (bytes_eq name) (get_or-map (λ (p : PositionRecord). p.account) positions k d [] lt) ∙ bytes_eq-refl name)

    exceeds_is : (l : Limit) (k : ℕ) (d : PositionRecord) → k < length positions
        → exceeds l (ids_of contracts) (accounts_of positions) excesses (get_or positions k d)
        ≡ (is_known contracts (get_or positions k d) && exceeding l (get_or positions k d))
    exceeds_is l k d lt =
        let p = get_or positions k d in
        let c = position (bytes_eq p.contract) (ids_of contracts) in
        let at = position_or_len (bytes_eq p.account) (accounts_of positions) in
        let there = account_among k d lt in
        ap (λ o. exceeds_at l o c excesses) (position_is (accounts_of positions) p.account there)
        ∙ ap (λ xs. exceeds_in l c (get_or xs at (excess_of []))) excesses_are
        ∙ ap (exceeds_in l c)
        (at_place (λ account. excess_of (map kept_holding (held account))) (accounts_of positions) p.account (excess_of []) there)
        ∙ in_kept l c (held p.account) ∙ by_id (ids_of contracts) (held p.account) p.contract l _ refl
        ∙ ap (λ b. b && exceeding l p) (listed_is contracts p)

    limit_faults_are : (l : Limit) → limit_faults l (ids_of contracts) excesses positions
        ≡ all_unfit (fault_of l)
        (among (λ p. p.contract) contracts (λ earlier p. not (list_any (λ x. same_told l x p) earlier) && exceeding l p)) positions
    unfolding limit_faults
    limit_faults_are l =
        told_once (fault_of l) (is_known contracts) (exceeding l)
        (exceeds l (ids_of contracts) (accounts_of positions) excesses) (same_told l) (alike l) positions (exceeds_is l)

    -- the found faults are these faults
    pub found_are : (unknown : List BindFault) → unknown ≡ foreign_faults (ids_of contracts) positions
        → found_faults (ids_of contracts) unknown excesses positions ≡ faults_by
    unfolding found_faults foreign_faults
    found_are unknown are =
        let foreign = are ∙ (λ k. all_unfit fault.UnknownContract (λ earlier p. not (listed_is contracts p k)) positions) in
        let over = limit_faults_are limit.Net in
        let many = limit_faults_are limit.Held in
        λ k. foreign k ++ over k ++ many k
