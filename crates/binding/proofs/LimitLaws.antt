-- Lemmas about the faults found in the nets of all accounts.
use Rattle.std.proofs.Common.{◌≡◌, ℕ, zero, suc, ◌+◌, Bool, true, false, cond, ◌&&◌, ◌||◌, List}
use Rattle.std.proofs.Common.{[], ◌∷◌, filter, length, get_or, take, Option, Some, None, position, refl, sym, ap, ◌∙◌, ◌++◌, not}
use Rattle.std.specs.Prelude.{bytes_eq, ◌==◌, if◌then◌else◌, option_map, option_to_list}
use Rattle.std.specs.List.{list_any}
use Rattle.std.proofs.Math.Bool.{and-true, or-false}
use Rattle.std.proofs.lemmas.Bool.{or_parts, or_from, and_right}
use Rattle.std.proofs.lemmas.List.{take_more}
use Rattle.std.proofs.lemmas.List.Folds.{list_any-append}
use Rattle.span_tables.specs.Faults.{faults_after}
use Rattle.span_tables.specs.Net.{accounts_of}
use Rattle.span_tables.specs.declared.portfolios.Holding.{Holding}
use Rattle.span_tables.specs.declared.records.PositionRecord.{PositionRecord}
use Rattle.binding.specs.near.Holdings.{exceeds, exceeds_any, exceeds_at, exceeds_in, excess_of, fault_of, is_over, is_over_at}
use Rattle.binding.specs.near.Holdings.{exceeds_anew, is_same_told, is_told, limit_faults, same_told, told_as}
use Rattle.binding.specs.declared.over_limits.Told.{Told}
use Rattle.binding.specs.declared.over_limits.Excess.{Excess}
use Rattle.binding.specs.declared.over_limits.Limit.{Limit}
use Rattle.binding.specs.declared.over_limits.Limit.TheVariants as limit
use Rattle.binding.proofs.LedgerLaws.{IsSeen}
use Rattle.binding.proofs.FilterMaps.{list_any-same}
use Rattle.binding.proofs.UnfitWalk.{unfit_at}

-- if no element has a fault, the list of faults is empty
no_faults : {A F : Type 0} (fault_of : List A → A → Option (ℕ → F)) → ((earlier : List A) (x : A) → fault_of earlier x ≡ None)
    → (earlier xs : List A) → faults_after fault_of earlier xs ≡ []
no_faults fault_of none earlier [] = refl
no_faults {F} fault_of none earlier (x ∷ xs) =
    ap (λ o. option_to_list (option_map {U = F} (λ fault. fault (length earlier + 1)) o) ++ faults_after fault_of (earlier ++ x ∷ []) xs)
    (none earlier x)
    ∙ no_faults fault_of none (earlier ++ x ∷ []) xs

-- if no net is over the limit, no net is over it at any contract number
pub none_over_in : (c : ℕ) (holdings : List Holding) → list_any is_over holdings ≡ false → is_over_at c holdings ≡ false
none_over_in c [] e = refl
none_over_in c (h ∷ holdings) e =
    let parts = or_parts (is_over h) (list_any is_over holdings) e in
    or_from ((h.contract == c) && is_over h) (is_over_at c holdings) (and_right (h.contract == c) (is_over h) parts.0)
    (none_over_in c holdings parts.1)

-- a net is over the limit at a contract number exactly if it is so among the nets that are over it
pub over_filtered : (c : ℕ) (holdings : List Holding) → is_over_at c (filter is_over holdings) ≡ is_over_at c holdings
over_filtered c [] = refl
over_filtered c (h ∷ holdings) = by (is_over h) refl (over_filtered c holdings)
  where
    by : (b : Bool) → is_over h ≡ b → is_over_at c (filter is_over holdings) ≡ is_over_at c holdings
        → is_over_at c (cond b (h ∷ filter is_over holdings) (filter is_over holdings))
        ≡ ((h.contract == c) && is_over h) || is_over_at c holdings
    by true e more = ap (λ b. ((h.contract == c) && is_over h) || b) more
    by false e more =
        more ∙ sym (ap (λ b. b || is_over_at c holdings) (ap (λ b. (h.contract == c) && b) e ∙ and_right (h.contract == c) false refl))

nothing_exceeds : (l : Limit) → exceeds_any l (excess_of []) ≡ false
nothing_exceeds limit.Net = refl
nothing_exceeds limit.Held = refl

none_in : (l : Limit) (c : Option ℕ) (excess : Excess) → exceeds_any l excess ≡ false → exceeds_in l c excess ≡ false
none_in limit.Net (Some c) excess e = none_over_in c excess.over e
none_in limit.Held (Some c) excess e = e
none_in _ None excess e = refl

-- an account without holdings exceeds no limit
pub none_held : (l : Limit) (c : Option ℕ) → exceeds_in l c (excess_of []) ≡ false
none_held l c = none_in l c (excess_of []) (nothing_exceeds l)

none_from : (l : Limit) (a : ℕ) (c : Option ℕ) (excesses : List Excess) → list_any (exceeds_any l) excesses ≡ false
    → exceeds_in l c (get_or excesses a (excess_of [])) ≡ false
none_from l a c [] e = none_held l c
none_from l zero c (x ∷ excesses) e = none_in l c x (or_parts (exceeds_any l x) (list_any (exceeds_any l) excesses) e).0
none_from l (suc a) c (x ∷ excesses) e = none_from l a c excesses (or_parts (exceeds_any l x) (list_any (exceeds_any l) excesses) e).1

none_at : (l : Limit) (a c : Option ℕ) (excesses : List Excess) → list_any (exceeds_any l) excesses ≡ false
    → exceeds_at l a c excesses ≡ false
none_at l (Some a) c excesses e = none_from l a c excesses e
none_at l None c excesses e = refl

module _ (l : Limit) (ids accounts : List (List ℕ)) (excesses : List Excess) where
  none_anew : list_any (exceeds_any l) excesses ≡ false → (earlier : List PositionRecord) (p : PositionRecord)
      → exceeds_anew l ids accounts excesses earlier p ≡ false
  none_anew e earlier p =
      and_right (not (list_any (λ x. same_told l x p && exceeds l ids accounts excesses x) earlier)) (exceeds l ids accounts excesses p)
      (none_at l (position (bytes_eq p.account) accounts) (position (bytes_eq p.contract) ids) excesses e)

-- if no account's holdings exceed the limit, there are no faults
pub limit_faults-none : (l : Limit) (ids : List (List ℕ)) (excesses : List Excess) (positions : List PositionRecord)
    → list_any (exceeds_any l) excesses ≡ false → limit_faults l ids excesses positions ≡ []
unfolding limit_faults
limit_faults-none l ids excesses positions e =
    no_faults (unfit_at (fault_of l) (exceeds_anew l ids (accounts_of positions) excesses))
    (λ earlier p. ap (λ (b : Bool). if b then Some (λ at. fault_of l at p.account) else None)
    (none_anew l ids (accounts_of positions) excesses e earlier p)) [] positions

module _ (l : Limit) (ids accounts : List (List ℕ)) (excesses : List Excess) (positions : List PositionRecord) where
  told_alike : (k : Limit) (x p : PositionRecord)
      → is_same_told (told_as k x.account x.contract) (told_as k p.account p.contract) ≡ same_told k x p
  told_alike limit.Net x p = refl
  told_alike limit.Held x p = and-true (bytes_eq x.account p.account)

  -- the record exceeds the limit, and t is its key
  abbrev pub is_member : Told → PositionRecord → Bool
  is_member t x = is_same_told (told_as l x.account x.contract) t && exceeds l ids accounts excesses x

  module _ (i : ℕ) (p : PositionRecord) (name : List ℕ) (seen : IsSeen positions i p name) (told : List Told)
      (members : (t : Told) → is_told told t ≡ list_any (is_member t) (take i positions)) (over : Bool)
      (is : over ≡ exceeds l ids accounts excesses p) where
    -- the values reported so far decide whether the record is the first to exceed the limit
    pub anew_is : (not (is_told told (told_as l name p.contract)) && over) ≡ exceeds_anew l ids accounts excesses (take i positions) p
    anew_is =
        let here = ap (λ n. is_told told (told_as l n p.contract)) seen.named ∙ members (told_as l p.account p.contract)
        ∙ list_any-same _ _ (λ x. ap (λ b. b && exceeds l ids accounts excesses x) (told_alike l x p)) (take i positions) in
        λ k. not (here k) && is k

    -- the reported values after the record
    pub members_next : (now : List Told)
        → ((t : Told) → is_told now t ≡ (is_told told t || (is_same_told (told_as l name p.contract) t && over)))
        → (t : Told) → is_told now t ≡ list_any (is_member t) (take (i + 1) positions)
    members_next now more t =
        let one = ap (λ n. is_same_told (told_as l n p.contract) t) seen.named in
        more t
        ∙ ap (λ b. b || (is_same_told (told_as l name p.contract) t && over)) (members t)
        ∙ (λ k. list_any (is_member t) (take i positions) || (one k && is k))
        ∙ ap (λ b. list_any (is_member t) (take i positions) || b) (sym (or-false (is_member t p)))
        ∙ sym (list_any-append (is_member t) (take i positions) (p ∷ []))
        ∙ ap (λ q. list_any (is_member t) (take i positions ++ q ∷ [])) seen.at
        ∙ ap (list_any (is_member t)) (sym (take_more positions i p seen.within))
