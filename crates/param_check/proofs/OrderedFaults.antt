-- Lists of all faults are ordered by rule, and for one rule by record.
use Rattle.std.proofs.Common.{◌≡◌, ℕ, ◌+◌, ◌<◌, ◌≤◌, Bool, true, false, List, [], ◌∷◌, ◌++◌, Option, Some, None, refl, sym, ap, subst}
use Rattle.std.proofs.Common.{◌∙◌, inl, inr, append_assoc, arith}
use Rattle.std.specs.Prelude.{⊤, flat_map, if◌then◌else◌, zip}
use Rattle.std.specs.List.{AllByRecursion}
use Rattle.std.proofs.lemmas.List.{append-nil}
use Rattle.span_tables.specs.Faults.{all_faults}
use Rattle.span_tables.specs.Laws.{IsFaultOfSome, IsStrictlyRisingBy}
use Rattle.span_tables.specs.Rules.{all_breaking, rules}
use Rattle.span_tables.specs.declared.records.Contract.{Contract}
use Rattle.span_tables.specs.declared.records.PositionRecord.{PositionRecord}
use Rattle.span_tables.specs.declared.records.Record.{Record}
use Rattle.span_tables.proofs.FaultLaws.{faults_are_of_some, numbers_rise}
use Rattle.binding.specs.Binding.{all_unfit, bind_faults}
use Rattle.param_check.specs.CheckFaults.{check_faults, rule_names}
use Rattle.param_check.specs.FaultLaws.{AreInOrder, ComesBefore, bind_number, bind_record, check_number, check_record}
use Rattle.binding.specs.declared.faults.BindFault.{BindFault}
use Rattle.binding.specs.declared.faults.BindFault.TheVariants as bind
use Rattle.param_check.specs.declared.faults.CheckFault.{CheckFault}
use Rattle.param_check.specs.declared.faults.CheckFault.TheVariants as check
use Rattle.binding.proofs.UnfitWalk.{unfit_at}

weaker : {F : Type 0} (P Q : F → Type 0) → ((y : F) → P y → Q y) → (ys : List F) → AllByRecursion P ys → AllByRecursion Q ys
weaker P Q follows [] all = tt
weaker P Q follows (y ∷ ys) all = (follows y all.0, weaker P Q follows ys all.1)

of_both : {F : Type 0} (P Q R : F → Type 0) → ((y : F) → P y → Q y → R y) → (ys : List F) → AllByRecursion P ys → AllByRecursion Q ys
    → AllByRecursion R ys
of_both P Q R follows [] a b = tt
of_both P Q R follows (y ∷ ys) a b = (follows y a.0 b.0, of_both P Q R follows ys a.1 b.1)

all_append : {F : Type 0} (P : F → Type 0) (xs ys : List F) → AllByRecursion P xs → AllByRecursion P ys → AllByRecursion P (xs ++ ys)
all_append P [] ys a b = b
all_append P (x ∷ xs) ys a b = (a.0, all_append P xs ys a.1 b)

module _ {F : Type 0} (rule_of number_of : F → ℕ) where
  -- the faults of one rule with rising record numbers are in order
  of_rule : (n : ℕ) (xs : List F) → IsStrictlyRisingBy number_of xs → AllByRecursion (λ y. rule_of y ≡ n) xs
      → AreInOrder (ComesBefore rule_of number_of) xs
  of_rule n [] rising all = tt
  of_rule n (x ∷ xs) rising all = (
    of_both (λ y. number_of x < number_of y) (λ y. rule_of y ≡ n) (ComesBefore rule_of number_of x) (λ y lt e. inr (all.0 ∙ sym e, lt)) xs
        rising.0 all.1,
    of_rule n xs rising.1 all.1,
  )

  joined : (xs ys : List F) → AreInOrder (ComesBefore rule_of number_of) xs → AreInOrder (ComesBefore rule_of number_of) ys
      → AllByRecursion (λ x. AllByRecursion (ComesBefore rule_of number_of x) ys) xs → AreInOrder (ComesBefore rule_of number_of) (xs ++ ys)
  joined [] ys a b c = b
  joined (x ∷ xs) ys a b c = (all_append (ComesBefore rule_of number_of x) xs ys a.0 c.0, joined xs ys a.1 b c.1)

  -- the faults of one rule come before the faults of later rules
  apart : (n : ℕ) (xs ys : List F) → AllByRecursion (λ x. rule_of x ≡ n) xs → AllByRecursion (λ y. n < rule_of y) ys
      → AllByRecursion (λ x. AllByRecursion (ComesBefore rule_of number_of x) ys) xs
  apart n xs ys a b =
      weaker (λ x. rule_of x ≡ n) (λ x. AllByRecursion (ComesBefore rule_of number_of x) ys)
      (λ x e. weaker (λ y. n < rule_of y) (ComesBefore rule_of number_of x) (λ y lt. inl (omega (arith, e, lt))) ys b) xs a

  module _ {X : Type 0} (faults : X → List F) where
    -- the rules have rising numbers, and the faults of each have rising record numbers
    AreNumbered : ℕ → List X → Type 0
    AreNumbered n [] = ⊤
    AreNumbered n (r ∷ rs) =
        (IsStrictlyRisingBy number_of (faults r) × AllByRecursion (λ y. rule_of y ≡ n) (faults r)) × AreNumbered (n + 1) rs

    together : (n : ℕ) (rs : List X) → AreNumbered n rs
        → AreInOrder (ComesBefore rule_of number_of) (flat_map faults rs) × AllByRecursion (λ y. n ≤ rule_of y) (flat_map faults rs)
    unfolding AreNumbered
    together n [] numbered = (tt, tt)
    together n (r ∷ rs) numbered =
        let rest = together (n + 1) rs numbered.1 in
        let above = weaker (λ y. n + 1 ≤ rule_of y) (λ y. n < rule_of y) (λ y le. omega (arith, le)) (flat_map faults rs) rest.1 in (
          joined (faults r) (flat_map faults rs) (of_rule n (faults r) numbered.0.0 numbered.0.1) rest.0
              (apart n (faults r) (flat_map faults rs) numbered.0.1 above),
          all_append (λ y. n ≤ rule_of y) (faults r) (flat_map faults rs)
              (weaker (λ y. rule_of y ≡ n) (λ y. n ≤ rule_of y) (λ y e. omega (arith, e)) (faults r) numbered.0.1)
              (weaker (λ y. n + 1 ≤ rule_of y) (λ y. n ≤ rule_of y) (λ y le. omega (arith, le)) (flat_map faults rs) rest.1),
        )

  -- the faults of elements for one rule
  named_part : {A : Type 0} (fault_of : List A → A → Option (ℕ → F)) (n : ℕ)
      → ((earlier : List A) (x : A) (g : ℕ → F) → fault_of earlier x ≡ Some g
      → ((at : ℕ) → rule_of (g at) ≡ n) × ((at : ℕ) → number_of (g at) ≡ at))
      → (all : List A) → IsStrictlyRisingBy number_of (all_faults fault_of all)
      × AllByRecursion (λ y. rule_of y ≡ n) (all_faults fault_of all)
  named_part fault_of n named all = (
    numbers_rise fault_of number_of (λ earlier x g m e. (named earlier x g e).1 m) [] all,
    weaker (IsFaultOfSome fault_of [] all) (λ y. rule_of y ≡ n)
        (λ y f. ap rule_of f.answers ∙ (named f.earlier f.at f.fault f.has).0 _) (all_faults fault_of all)
        (faults_are_of_some fault_of [] all),
  )

same_fault : {F : Type 0} (b : Bool) (h g : ℕ → F) → (if b then Some h else None) ≡ Some g → h ≡ g
same_fault true h g e = cc
same_fault false h g e = cc

module _ (all : List Record) where
  abbrev faults_of : (ℕ → CheckFault) × (List Record → Record → Bool) → List CheckFault
  faults_of named = all_breaking named.0 named.1 all

  -- one more rule, before the others
  rule : (h : ℕ → CheckFault) (n : ℕ) → ((at : ℕ) → check_number (h at) ≡ n) → ((at : ℕ) → check_record (h at) ≡ at)
      → (breaks : List Record → Record → Bool) (rs : List ((ℕ → CheckFault) × (List Record → Record → Bool)))
      → AreNumbered check_number check_record faults_of (n + 1) rs → AreNumbered check_number check_record faults_of n ((h, breaks) ∷ rs)
  unfolding AreNumbered
  rule h n numbered recorded breaks rs rest = (
    named_part check_number check_record (λ earlier r. if breaks earlier r then Some h else None) n
        (λ earlier r g e. (let same = same_fault (breaks earlier r) h g e in
        (λ at. sym (ap (λ f. check_number (f at)) same) ∙ numbered at, λ at. sym (ap (λ f. check_record (f at)) same) ∙ recorded at))) all,
    rest,
  )

  no_more : (n : ℕ) → AreNumbered check_number check_record faults_of n []
  unfolding AreNumbered
  no_more n = tt

  -- the faults of a check
  pub check_in_order : AreInOrder (ComesBefore check_number check_record) (check_faults all)
  unfolding check_faults
  check_in_order =
      (together check_number check_record faults_of 1 (zip rule_names (rules all))
      (rule check.DuplicateCommodity 1 (λ at. refl) (λ at. refl) _ _
      (rule check.UnknownCommodity 2 (λ at. refl) (λ at. refl) _ _
      (rule check.DuplicateContract 3 (λ at. refl) (λ at. refl) _ _
      (rule check.DuplicateTier 4 (λ at. refl) (λ at. refl) _ _
      (rule check.TierBackwards 5 (λ at. refl) (λ at. refl) _ _
      (rule check.TierOverlap 6 (λ at. refl) (λ at. refl) _ _
      (rule check.UnknownTier 7 (λ at. refl) (λ at. refl) _ _
      (rule check.RepeatedLeg 8 (λ at. refl) (λ at. refl) _ _
      (rule check.OneSided 9 (λ at. refl) (λ at. refl) _ _
      (rule check.DuplicatePriority 10 (λ at. refl) (λ at. refl) _ _
      (rule check.DuplicateSpot 11 (λ at. refl) (λ at. refl) _ _ (no_more _))))))))))))).0

module _ (contracts : List Contract) (all : List PositionRecord) where
  unfit_part : (h : ℕ → List ℕ → BindFault) (n : ℕ) → ((at : ℕ) (name : List ℕ) → bind_number (h at name) ≡ n)
      → ((at : ℕ) (name : List ℕ) → bind_record (h at name) ≡ at) → (unfit : List PositionRecord → PositionRecord → Bool)
      → IsStrictlyRisingBy bind_record (all_unfit h unfit all) × AllByRecursion (λ y. bind_number y ≡ n) (all_unfit h unfit all)
  unfit_part h n numbered recorded unfit =
      named_part bind_number bind_record (unfit_at h unfit) n
      (λ earlier p g e. (let same = same_fault (unfit earlier p) (λ at. h at p.account) g e in (
        λ at. sym (ap (λ f. bind_number (f at)) same) ∙ numbered at p.account,
        λ at. sym (ap (λ f. bind_record (f at)) same) ∙ recorded at p.account,
      ))) all

  parts_in_order : (unknown nets held : List BindFault)
      → IsStrictlyRisingBy bind_record unknown × AllByRecursion (λ y. bind_number y ≡ 1) unknown
      → IsStrictlyRisingBy bind_record nets × AllByRecursion (λ y. bind_number y ≡ 2) nets
      → IsStrictlyRisingBy bind_record held × AllByRecursion (λ y. bind_number y ≡ 3) held
      → AreInOrder (ComesBefore bind_number bind_record) (unknown ++ nets ++ held)
  unfolding AreNumbered
  parts_in_order unknown nets held a b c =
      subst (AreInOrder (ComesBefore bind_number bind_record))
      (ap (λ rest. unknown ++ (nets ++ rest)) (append-nil held) ∙ sym (append_assoc unknown nets held))
      (together bind_number bind_record (λ (part : List BindFault). part) 1 (unknown ∷ nets ∷ held ∷ []) (a, (b, (c, tt)))).0

  -- the faults of positions
  pub bind_in_order : AreInOrder (ComesBefore bind_number bind_record) (bind_faults contracts all)
  unfolding bind_faults
  bind_in_order =
      parts_in_order _ _ _ (unfit_part bind.UnknownContract 1 (λ at name. refl) (λ at name. refl) _)
      (unfit_part bind.NetOutOfRange 2 (λ at name. refl) (λ at name. refl) _)
      (unfit_part bind.TooManyHeld 3 (λ at name. refl) (λ at name. refl) _)
