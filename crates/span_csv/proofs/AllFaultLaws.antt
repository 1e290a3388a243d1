-- The list of all faults of a file: what each fault is, and what the first one means for the file.
use Rattle.std.proofs.Common.{rules, ◌≡◌, refl, sym, ap, subst, ℕ, ◌+◌, Bool, false, List, [], ◌∷◌, length, Option, Some, None, Err}
use Rattle.std.specs.Prelude.{All}
use Rattle.std.specs.List.{AllByRecursion}
use Rattle.std.proofs.lemmas.List.Elements.{All-from_recursion}
use Rattle.span_tables.specs.Faults.{all_faults, first_of, ok_unless}
use Rattle.span_tables.specs.Laws.{IsFaultOfSome, IsStrictlyRisingBy}
use Rattle.span_tables.proofs.FaultLaws.{all_weaker, faults_are_of_some, numbers_rise}
use Rattle.span_csv.specs.Laws.{param_number, position_number}
use Rattle.span_csv.specs.Records.{Fields}
use Rattle.span_csv.specs.ParamFaults as param
use Rattle.span_csv.specs.PositionFaults as position
use Rattle.span_csv.specs.declared.faults.ParamFault.{ParamFault}
use Rattle.span_csv.specs.declared.faults.ParamFault.TheVariants as fault
use Rattle.span_csv.specs.declared.faults.PositionFault.{PositionFault}
use Rattle.span_csv.proofs.LowestLaws.{first_is}

-- ---- the first fault

-- a list of faults without a first one is empty
pub none_first : {F : Type 0} (faults : List F) → first_of faults ≡ None → faults ≡ []
none_first [] e = refl
none_first (y ∷ faults) e = cc

-- a rejected value has the fault with which it is rejected
pub refused_some : {A F : Type 0} (o : Option F) (x : A) (f : F) → ok_unless o x ≡ Err f → o ≡ Some f
refused_some None x f e = cc
refused_some (Some g) x f e = let same : g ≡ f = cc in ap Some same

-- ---- each fault

-- a record's fault has the number that it is given, and is not out of memory
abbrev TellsNumber : {F : Type 0} → (F → ℕ) → (F → Bool) → (ℕ → F) → Type 0
TellsNumber number is_memory fault = (n : ℕ) → (number (fault n) ≡ n) × (is_memory (fault n) ≡ false)

param_tells : (earlier : List Fields) (r : Fields) (fault : ℕ → ParamFault) → param.record_fault earlier r ≡ Some fault
    → TellsNumber param_number param.is_memory fault
param_tells earlier r fault is =
    first_is (TellsNumber param_number param.is_memory) (param.record_faults earlier r) fault (search rules) is

pub position_tells : (earlier : List Fields) (r : Fields) (fault : ℕ → PositionFault) → position.record_fault earlier r ≡ Some fault
    → TellsNumber position_number position.is_memory fault
position_tells earlier r fault is =
    first_is (TellsNumber position_number position.is_memory) (position.record_faults earlier r) fault (search rules) is

module _ {F : Type 0} (fault_of : List Fields → Fields → Option (ℕ → F)) (number : F → ℕ) (is_memory : F → Bool)
    (tells : (earlier : List Fields) (r : Fields) (fault : ℕ → F) → fault_of earlier r ≡ Some fault → TellsNumber number is_memory fault)
    (rs : List Fields) where
  of_each : AllByRecursion (IsFaultOfSome fault_of [] rs) (all_faults fault_of rs)
  of_each = faults_are_of_some fault_of [] rs

  -- each fault belongs to a record
  pub each_of_some : All (IsFaultOfSome fault_of [] rs) (all_faults fault_of rs)
  each_of_some = All-from_recursion _ (all_faults fault_of rs) of_each

  -- no fault is out of memory
  pub none_of_memory : All (λ y. is_memory y ≡ false) (all_faults fault_of rs)
  none_of_memory =
      All-from_recursion _ (all_faults fault_of rs)
      (all_weaker fault_of _ _ (λ y f.
      subst (λ z. is_memory z ≡ false) (sym f.answers)
      ((tells f.earlier f.at f.fault f.has (length f.earlier + 1)).1)) (all_faults fault_of rs) of_each)

  -- the record numbers of the faults are strictly rising
  pub each_once : IsStrictlyRisingBy number (all_faults fault_of rs)
  each_once = numbers_rise fault_of number (λ earlier r fault n is. (tells earlier r fault is n).0) [] rs

-- ---- a parameter file, which may be empty

pub param_once : (rs : List Fields) → IsStrictlyRisingBy param_number (param.faults_in rs)
unfolding param.faults_in
param_once [] = (tt, tt)
param_once (r ∷ rs) = each_once param.record_fault param_number param.is_memory param_tells (r ∷ rs)

pub param_no_memory : (rs : List Fields) → All (λ y. param.is_memory y ≡ false) (param.faults_in rs)
unfolding param.faults_in
param_no_memory [] = All-from_recursion (λ y. param.is_memory y ≡ false) (fault.NoSet 0 ∷ []) (refl, tt)
param_no_memory (r ∷ rs) = none_of_memory param.record_fault param_number param.is_memory param_tells (r ∷ rs)

pub param_of_some : (r : Fields) (rs : List Fields) → All (IsFaultOfSome param.record_fault [] (r ∷ rs)) (param.faults_in (r ∷ rs))
unfolding param.faults_in
param_of_some r rs = each_of_some param.record_fault param_number param.is_memory param_tells (r ∷ rs)
