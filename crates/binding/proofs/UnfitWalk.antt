-- A loop over positions that reports the records with a fault.
use Rattle.std.proofs.Common.{◌≡◌, ℕ, ◌+◌, ◌≤◌, Bool, true, false, List, [], ◌∷◌, ◌++◌, Option, Some, None, sym, ap, ◌∙◌}
use Rattle.std.proofs.Common.{append_assoc, length, take}
use Rattle.std.specs.Prelude.{if◌then◌else◌, option_map, option_to_list}
use Rattle.std.proofs.lemmas.List.{append-nil}
use Rattle.span_tables.specs.declared.records.PositionRecord.{PositionRecord}
use Rattle.binding.specs.Binding.{all_unfit}
use Rattle.binding.specs.declared.faults.BindFault.{BindFault}
use Rattle.binding.proofs.AllFaults.{faults_from, faults_from_end, faults_from_next}
use Rattle.binding.proofs.LedgerLaws.{IsSeen}

-- the fault of a record
abbrev pub unfit_at : (ℕ → List ℕ → BindFault) → (List PositionRecord → PositionRecord → Bool) → List PositionRecord → PositionRecord
    → Option (ℕ → BindFault)
unfit_at fault unfit earlier p = if unfit earlier p then Some (λ at. fault at p.account) else None

module _ (fault : ℕ → List ℕ → BindFault) (unfit : List PositionRecord → PositionRecord → Bool) (all : List PositionRecord) where
  -- these faults were found in the records before index i; together with the faults from i on they are all faults
  pub record AreTold (told : List BindFault) (i : ℕ) : Type 0 where
    pub rest : told ++ faults_from (unfit_at fault unfit) all i ≡ all_unfit fault unfit all

  -- at the start no fault is reported
  pub told_start : (told : List BindFault) → told ≡ [] → AreTold told 0
  told_start told none = record { rest = ap (λ xs. xs ++ all_unfit fault unfit all) none }

  -- after the last record all faults are found
  pub told_end : (told : List BindFault) (i : ℕ) → length all ≤ i → AreTold told i → told ≡ all_unfit fault unfit all
  told_end told i past was =
      sym (append-nil told) ∙ ap (λ rest. told ++ rest) (sym (faults_from_end (unfit_at fault unfit) all i past)) ∙ was.rest

  module _ (told : List BindFault) (i : ℕ) (p : PositionRecord) (name : List ℕ) (seen : IsSeen all i p name) (was : AreTold told i) where
    here : (b : Bool) → unfit (take i all) p ≡ b
        → told ++ (option_to_list (option_map {T = ℕ → BindFault} (λ f. f (i + 1)) (if b then Some (λ at. fault at p.account) else None))
        ++ faults_from (unfit_at fault unfit) all (i + 1)) ≡ all_unfit fault unfit all
    here b e =
        let rest = faults_from (unfit_at fault unfit) all (i + 1) in
        ap (λ (t : Bool). told ++ (option_to_list (option_map {T = ℕ → BindFault} (λ f. f (i + 1))
        (if t then Some (λ at. fault at p.account) else None)) ++ rest)) (sym e)
        ∙ ap (λ q. told ++ (option_to_list (option_map (λ f. f (i + 1)) (unfit_at fault unfit (take i all) q)) ++ rest)) seen.at
        ∙ ap (λ fs. told ++ fs) (sym (faults_from_next (unfit_at fault unfit) all i p seen.within)) ∙ was.rest

    -- a record without a fault
    pub unfit_skip : unfit (take i all) p ≡ false → AreTold told (i + 1)
    unfit_skip e = record { rest = here false e }

    -- a record with a fault
    pub unfit_more : (now : List BindFault) → unfit (take i all) p ≡ true → now ≡ told ++ fault (i + 1) name ∷ [] → AreTold now (i + 1)
    unfit_more now e is = record {
      rest = ap (λ fs. fs ++ faults_from (unfit_at fault unfit) all (i + 1))
          (is ∙ ap (λ n. told ++ fault (i + 1) n ∷ []) seen.named)
          ∙ append_assoc told (fault (i + 1) p.account ∷ []) (faults_from (unfit_at fault unfit) all (i + 1)) ∙ here true e;
    }
