-- Files without a fault are accepted, and others are rejected with the first fault.
use Rattle.std.proofs.Common.{◌≡◌, List, [], ◌∷◌, Ok, Err, refl, ap}
use Rattle.std.specs.Prelude.{◌↔◌}
use Rattle.span_tables.specs.Faults.{first_of, ok_unless}
use Rattle.span_tables.specs.Net.{portfolios_of}
use Rattle.span_tables.specs.Tables.{tables_of}
use Rattle.span_tables.specs.declared.records.Contract.{Contract}
use Rattle.span_tables.specs.declared.records.PositionRecord.{PositionRecord}
use Rattle.span_tables.specs.declared.records.Record.{Record}
use Rattle.binding.specs.Binding.{bind_fault, bind_faults, bindings_of}
use Rattle.param_check.specs.CheckFaults.{check_fault, check_faults, checked}
use Rattle.binding.specs.declared.faults.BindFault.{BindFault}
use Rattle.param_check.specs.declared.faults.CheckFault.{CheckFault}

unless_none : {A F : Type 0} (faults : List F) (x : A) → (faults ≡ []) ↔ (ok_unless (first_of faults) x ≡ Ok x)
unless_none [] x = (λ e. refl, λ e. refl)
unless_none (y ∷ ys) x = (λ e. cc, λ e. cc)

pub check_accepted : (all : List Record) → (check_faults all ≡ []) ↔ (checked all ≡ Ok (tables_of all))
unfolding checked check_fault
check_accepted all = unless_none (check_faults all) (tables_of all)

pub check_refused : (all : List Record) (y : CheckFault) (rest : List CheckFault) → check_faults all ≡ y ∷ rest → checked all ≡ Err y
unfolding checked check_fault
check_refused all y rest e = ap (λ faults. ok_unless (first_of faults) (tables_of all)) e

pub bind_accepted : (contracts : List Contract) (all : List PositionRecord)
    → (bind_faults contracts all ≡ []) ↔ (bindings_of contracts all ≡ Ok (portfolios_of contracts all))
unfolding bindings_of bind_fault
bind_accepted contracts all = unless_none (bind_faults contracts all) (portfolios_of contracts all)

pub bind_refused : (contracts : List Contract) (all : List PositionRecord) (y : BindFault) (rest : List BindFault)
    → bind_faults contracts all ≡ y ∷ rest → bindings_of contracts all ≡ Err y
unfolding bindings_of bind_fault
bind_refused contracts all y rest e = ap (λ faults. ok_unless (first_of faults) (portfolios_of contracts all)) e
