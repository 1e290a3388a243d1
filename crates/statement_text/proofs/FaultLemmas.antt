-- The statement of two files fails only with faults of these files, and so does a call that returns it.
use Rattle.std.proofs.Common.{◌≡◌, ℕ, List, Bool, true, false, true≢false, Ok, Err, Result, refl, sym, ap, subst, inl, inr}
use Rattle.span_csv.specs.ParamFaults.{params_of}
use Rattle.span_csv.specs.PositionFaults.{positions_of}
use Rattle.span_tables.specs.Tables.{AcceptedTables}
use Rattle.span_tables.specs.declared.records.PositionRecord.{PositionRecord}
use Rattle.param_check.specs.CheckFaults.{checked}
use Rattle.binding.specs.Binding.{bindings_of}
use Rattle.binding.specs.declared.faults.BindFault.{BindFault}
use Rattle.param_check.specs.declared.faults.CheckFault.{CheckFault}
use Rattle.span_csv.specs.declared.faults.ParamFault.{ParamFault}
use Rattle.span_csv.specs.declared.faults.PositionFault.{PositionFault}
use Rattle.statement_text.specs.Gives.{Gives}
use Rattle.statement_text.specs.Statement.{accepted_of, and_then, portfolios_under, same, statement_bound, statement_of, statement_under}
use Rattle.statement_text.specs.declared.faults.SpanFault.{SpanFault}
use Rattle.statement_text.specs.declared.faults.SpanFault.TheVariants as fault

-- a fault of two files
abbrev pub is_of_files : SpanFault → Bool
is_of_files (fault.Params e) = true
is_of_files (fault.Check e) = true
is_of_files (fault.Positions e) = true
is_of_files (fault.Bind e) = true
is_of_files e = false

-- a property of each fault of reading, checking and binding is a property of each fault of two files
pub each_of_files : (P : SpanFault → Type 0) → ((f : ParamFault) → P (fault.Params f)) → ((f : CheckFault) → P (fault.Check f))
    → ((f : PositionFault) → P (fault.Positions f)) → ((f : BindFault) → P (fault.Bind f))
    → (e : SpanFault) → is_of_files e ≡ true → P e
each_of_files P params check positions bind (fault.Params f) is = params f
each_of_files P params check positions bind (fault.Check f) is = check f
each_of_files P params check positions bind (fault.Positions f) is = positions f
each_of_files P params check positions bind (fault.Bind f) is = bind f
each_of_files P params check positions bind e is = absurd (true≢false (sym is))

-- a sequence of two steps has only faults of two files if both steps have only such faults
and_then_of_files : {A B F : Type 0} (named : F → SpanFault) (r : Result A F) (next : A → Result B SpanFault) (e : SpanFault)
    → ((f : F) → r ≡ Err f → is_of_files (named f) ≡ true) → ((x : A) → next x ≡ Err e → is_of_files e ≡ true)
    → and_then named r next ≡ Err e → is_of_files e ≡ true
and_then_of_files named (Ok x) next e first rest is = rest x is
and_then_of_files named (Err f) next e first rest is = let same_fault : named f ≡ e = cc in rw (← same_fault) (first f refl)

-- a fault of a sequence of two steps is also the fault of another sequence if its second step has that fault too
pub fault_stays : {A B C F : Type 0} (named : F → SpanFault) (r : Result A F) (next : A → Result B SpanFault)
    (other : A → Result C SpanFault) (e : SpanFault) → ((x : A) → next x ≡ Err e → other x ≡ Err e)
    → and_then named r next ≡ Err e → and_then named r other ≡ Err e
fault_stays named (Ok x) next other e stays is = stays x is
fault_stays named (Err f) next other e stays is = let same_fault : named f ≡ e = cc in ap Err same_fault

pub accepted_of_files : (params : List ℕ) (e : SpanFault) → accepted_of params ≡ Err e → is_of_files e ≡ true
unfolding accepted_of
accepted_of_files params e is =
    and_then_of_files fault.Params (params_of params) _ e (λ f h. refl) (λ records.
    and_then_of_files fault.Check (checked records) _ e (λ f h. refl) (λ tables h. cc)) is

pub portfolios_of_files : (tables : AcceptedTables) (records : List PositionRecord) (e : SpanFault)
    → portfolios_under tables records ≡ Err e → is_of_files e ≡ true
unfolding portfolios_under
portfolios_of_files tables records e is =
    and_then_of_files fault.Bind (bindings_of tables.contracts records) _ e (λ f h. refl) (λ portfolios h. cc) is

pub bound_of_files : (tables : AcceptedTables) (records : List PositionRecord) (e : SpanFault)
    → statement_bound tables records ≡ Err e → is_of_files e ≡ true
unfolding statement_bound
bound_of_files tables records e is =
    and_then_of_files same (portfolios_under tables records) _ e (portfolios_of_files tables records) (λ portfolios h. cc) is

pub statement_of_files : (params positions : List ℕ) (e : SpanFault) → statement_of params positions ≡ Err e
    → is_of_files e ≡ true
unfolding statement_of statement_under
statement_of_files params positions e is =
    and_then_of_files same (accepted_of params) _ e (accepted_of_files params) (λ tables.
    and_then_of_files fault.Positions (positions_of positions) _ e (λ f h. refl) (λ records.
    bound_of_files tables records e)) is

-- a call that returns the statement of two files never fails with `Workers`
pub never_workers : {Y : Type 0} (text : Y → List ℕ) (r : Result Y SpanFault) (params positions : List ℕ)
    → Gives text r (statement_of params positions) → r ≡ Err fault.Workers → ⊥
never_workers text (Ok y) params positions gives e = cc
never_workers text (Err x) params positions (inl memory) e = cc
never_workers text (Err x) params positions (inr named) e =
    let is : x ≡ fault.Workers = cc in
    true≢false (sym (subst (λ (f : SpanFault). is_of_files f ≡ true) is (statement_of_files params positions x named.1)))
