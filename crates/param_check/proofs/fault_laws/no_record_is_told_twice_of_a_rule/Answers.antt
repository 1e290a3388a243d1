use Rattle.std.proofs.Common.{◌≡◌, ℕ, Bool, true, false, [], Some, None, sym, ap}
use Rattle.std.specs.Prelude.{if◌then◌else◌}
use Rattle.span_tables.proofs.FaultLaws.{numbers_rise}
use Rattle.param_check.proofs.fault_laws.no_record_is_told_twice_of_a_rule.Goals as goal

some_is : (fault : ℕ → ℕ) → Some (λ (at : ℕ). at) ≡ Some fault → (λ (at : ℕ). at) ≡ fault
some_is fault e = cc

-- the fault of an element that passes has the number that it is given
as_told : (b : Bool) (fault : ℕ → ℕ) (n : ℕ) → (if b then Some (λ (at : ℕ). at) else None) ≡ Some fault → fault n ≡ n
as_told true fault n e = let same : (λ (at : ℕ). at) ≡ fault = some_is fault e in sym (ap (λ f. f n) same)
as_told false fault n e = cc

pub returns-clause-rules : goal.returns-clause-rules
returns-clause-rules c = λ breaks all. numbers_rise _ (λ at. at) (λ earlier r fault n e. as_told (breaks earlier r) fault n e) [] all

pub returns-clause-positions : goal.returns-clause-positions
returns-clause-positions c = λ unfit all. numbers_rise _ (λ at. at) (λ earlier p fault n e. as_told (unfit earlier p) fault n e) [] all
