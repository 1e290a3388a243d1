-- The fault of a check in terms of the rules. Records without a fault keep every rule.
use Rattle.std.proofs.Common.{◌≡◌, ℕ, ◌+◌, Bool, true, false, List, [], ◌∷◌, ◌++◌, ◌∙◌}
use Rattle.std.proofs.Common.{Option, Some, None, refl, sym, ap, length, map, arith}
use Rattle.std.specs.Prelude.{flat_map, zip, is_none, if◌then◌else◌, option_map, option_to_list}
use Rattle.std.specs.List.{list_all}
use Rattle.std.specs.Option.{option_or}
use Rattle.span_tables.specs.Faults.{faults_after, first_of, first_some}
use Rattle.span_tables.specs.Rules.{all_breaking, rules, first_breaking, keeps_rules}
use Rattle.span_tables.proofs.FaultLaws.{first_of_both}
use Rattle.param_check.specs.CheckFaults.{rule_names, check_fault, check_faults}
use Rattle.span_tables.specs.declared.records.Record.{Record}
use Rattle.param_check.specs.declared.faults.CheckFault.{CheckFault}

-- the first of all faults is the first fault of the first element that has one
first_of_each : {X F : Type 0} (f : X → List F) (xs : List X) → first_of (flat_map f xs) ≡ first_some (map (λ x. first_of (f x)) xs)
first_of_each f [] = refl
first_of_each f (x ∷ xs) = first_of_both (f x) (flat_map f xs) ∙ ap (option_or (first_of (f x))) (first_of_each f xs)

-- the fault of a check, from the first record that breaks each rule
pub check_fault_by_rule : (all : List Record)
    → check_fault all ≡ first_some (map (λ named. first_breaking named.0 named.1 all) (zip rule_names (rules all)))
unfolding check_fault check_faults
check_fault_by_rule all = first_of_each (λ named. all_breaking named.0 named.1 all) (zip rule_names (rules all))

-- whether a rule is broken does not depend on its name
module _ {F : Type 0} (fault : ℕ → F) (breaks : List Record → Record → Bool) where
  by : (b : Bool) (n : ℕ) (named : List F) (numbers : List ℕ) → (first_of named ≡ None → first_of numbers ≡ None)
      → first_of (option_to_list (option_map {T = ℕ → F} (λ f. f n) (if b then Some fault else None)) ++ named) ≡ None
      → first_of (option_to_list (option_map {T = ℕ → ℕ} (λ f. f n) (if b then Some (λ at. at) else None)) ++ numbers) ≡ None
  by true n named numbers rest e = cc
  by false n named numbers rest e = rest e

  same_under : (before xs : List Record)
      → first_of (faults_after (λ earlier r. if breaks earlier r then Some fault else None) before xs) ≡ None
      → first_of (faults_after (λ earlier r. if breaks earlier r then Some (λ (at : ℕ). at) else None) before xs) ≡ None
  same_under before [] e = refl
  same_under before (x ∷ xs) e = by (breaks before x) (length before + 1) _ _ (same_under (before ++ x ∷ []) xs) e

or_none : {F : Type 0} (x rest : Option F) → option_or x rest ≡ None → (x ≡ None) × (rest ≡ None)
or_none None rest e = (refl, e)
or_none (Some x) rest e = cc

all_kept : (all : List Record) (names : List (ℕ → CheckFault)) (tests : List (List Record → Record → Bool))
    → length names ≡ length tests
    → first_some (map (λ p. first_breaking p.0 p.1 all) (zip names tests)) ≡ None
    → list_all (λ breaks. is_none (first_breaking (λ at. at) breaks all)) tests ≡ true
all_kept all [] [] same e = refl
all_kept all [] (t ∷ ts) same e = cc
all_kept all (n ∷ ns) [] same e = refl
all_kept all (n ∷ ns) (t ∷ ts) same e =
    let h = or_none (first_breaking n t all) _ e in
    let one : first_breaking (λ at. at) t all ≡ None = same_under n t [] all h.0 in
    rw one (all_kept all ns ts (omega (arith, same)) h.1)

-- if there is no fault, every rule is kept
pub rules_kept : (all : List Record) → check_fault all ≡ None → keeps_rules all ≡ true
unfolding keeps_rules
rules_kept all e = all_kept all rule_names (rules all) refl (sym (check_fault_by_rule all) ∙ e)
