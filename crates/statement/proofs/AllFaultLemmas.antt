-- All faults of files: the first is the fault for which the files are rejected, and faults of the parameters come
-- first.
use Rattle.std.proofs.Common.{◌≡◌, ◌∙◌, ℕ, List, [], ◌∷◌, ◌++◌, Bool, true, false, map, filter, length, refl, sym, ap}
use Rattle.std.proofs.Common.{◌+◌, ◌==◌, suc, arith, true≢false, Option, Some, None, Result, Ok, Err}
use Rattle.std.proofs.lemmas.List.{append-nil}
use Rattle.std.proofs.lemmas.List.Elements.{filter-append}
use Rattle.std.specs.Prelude.{◌↔◌, ⊤, is_ok, option_map}
use Rattle.std.specs.List.{before_first, position_or_len}
use Rattle.std.specs.Option.{option_or}
use Rattle.std.specs.Result.{result_err, result_ok}
use Rattle.binding.specs.Binding.{bind_fault, bind_faults, bindings_of}
use Rattle.param_check.specs.CheckFaults.{check_fault, check_faults, checked}
use Rattle.binding.specs.declared.faults.BindFault.{BindFault}
use Rattle.param_check.specs.declared.faults.CheckFault.{CheckFault}
use Rattle.span_csv.specs.ParamFaults.{param_faults, params_of}
use Rattle.span_csv.specs.PositionFaults.{position_faults, positions_of}
use Rattle.span_csv.specs.declared.faults.ParamFault.{ParamFault}
use Rattle.span_csv.specs.declared.faults.PositionFault.{PositionFault}
use Rattle.span_tables.proofs.FaultLaws.{first_of_both}
use Rattle.span_tables.specs.Faults.{first_of, ok_unless}
use Rattle.span_tables.specs.Net.{portfolios_of}
use Rattle.span_tables.specs.Tables.{AcceptedTables, tables_of}
use Rattle.span_tables.specs.declared.records.PositionRecord.{PositionRecord}
use Rattle.span_tables.specs.declared.records.Record.{Record}
use Rattle.statement.specs.AllFaults.{broken_rules, faults_of, faults_of_params, faults_of_positions, is_of_positions}
use Rattle.statement.specs.AllFaults.{is_of_reading_positions, unbound_positions, unread_params, unread_positions}
use Rattle.statement_text.specs.Statement.{accepted_of, and_then, portfolios_under, same, statement_bound, statement_of, statement_text}
use Rattle.statement_text.specs.Statement.{statement_under}
use Rattle.statement_text.specs.declared.faults.SpanFault.{SpanFault}
use Rattle.statement_text.specs.declared.faults.SpanFault.TheVariants as fault

-- ---- faults of a stage, and its result without faults

-- if there is a result, there is no fault
fault_free : {A F : Type 0} (faults : List F) (x y : A) → ok_unless (first_of faults) x ≡ Ok y → faults ≡ []
fault_free [] x y is = refl
fault_free (f ∷ fs) x y is = cc

-- if there is no result, the error is the first fault
first_is : {A F : Type 0} (faults : List F) (x : A) (e : F) → ok_unless (first_of faults) x ≡ Err e → first_of faults ≡ Some e
first_is [] x e is = cc
first_is (f ∷ fs) x e is = cc

-- the first of renamed faults is the first fault, renamed
first_named : {E F : Type 0} (named : E → F) (faults : List E) → first_of (map named faults) ≡ option_map named (first_of faults)
first_named named [] = refl
first_named named (f ∷ fs) = refl

-- ---- the parameters

none_of_params : (params : List ℕ) (records : List Record) → params_of params ≡ Ok records → param_faults params ≡ []
unfolding params_of
none_of_params params records is = fault_free (param_faults params) _ records is

-- a file that can be read has only the faults of its records
pub read_params_faults : (params : List ℕ) (records : List Record) → params_of params ≡ Ok records
    → faults_of_params params ≡ broken_rules (Some records)
unfolding faults_of_params
read_params_faults params records is = rw (none_of_params params records is, is) refl

-- a file that cannot be read has only the faults of reading it
pub unread_params_faults : (params : List ℕ) (e : ParamFault) → params_of params ≡ Err e
    → faults_of_params params ≡ unread_params params
unfolding faults_of_params
unread_params_faults params e is = rw (is) (append-nil (unread_params params))

-- a file that can be read is accepted if its records keep the rules
pub read_params_tables : (params : List ℕ) (records : List Record) → params_of params ≡ Ok records
    → result_ok (accepted_of params) ≡ result_ok (checked records)
unfolding accepted_of
read_params_tables params records is = rw (is) (by_check (checked records)) where
  by_check : (r : Result AcceptedTables CheckFault) → result_ok (and_then fault.Check r (λ tables. Ok tables)) ≡ result_ok r
  by_check (Ok tables) = refl
  by_check (Err e) = refl

-- records that break a rule are not accepted
pub broken_tables : (records : List Record) (faults : List SpanFault) (size : ℕ) (is_empty : Bool)
    → faults ≡ broken_rules (Some records) → size ≡ length faults → is_empty ≡ (size == 0) → is_empty ≡ false
    → result_ok (checked records) ≡ None
unfolding checked check_fault
broken_tables records faults size is_empty are long test some = by_faults (check_faults records) are where
  by_faults : (fs : List CheckFault) → faults ≡ map fault.Check fs
      → result_ok (ok_unless (first_of fs) (tables_of records)) ≡ None
  by_faults [] are =
      let none : is_empty ≡ true = test ∙ ap (λ (n : ℕ). n == 0) (long ∙ ap length are) in
      absurd (true≢false (sym none ∙ some))
  by_faults (f ∷ fs) are = refl

-- ---- the positions

none_of_positions : (positions : List ℕ) (records : List PositionRecord) → positions_of positions ≡ Ok records
    → position_faults positions ≡ []
unfolding positions_of
none_of_positions positions records is = fault_free (position_faults positions) _ records is

-- a file that can be read has only the faults of binding its records
pub read_positions_faults : (tables : Option AcceptedTables) (positions : List ℕ) (records : List PositionRecord)
    → positions_of positions ≡ Ok records
    → unread_positions positions ++ unbound_positions tables (result_ok (positions_of positions)) ≡ unbound_positions tables (Some records)
read_positions_faults tables positions records is = rw (none_of_positions positions records is, is) refl

-- a file that cannot be read has only the faults of reading it
pub unread_positions_faults : (tables : Option AcceptedTables) (positions : List ℕ) (e : PositionFault)
    → positions_of positions ≡ Err e
    → unread_positions positions ++ unbound_positions tables (result_ok (positions_of positions)) ≡ unread_positions positions
unread_positions_faults None positions e is = append-nil (unread_positions positions)
unread_positions_faults (Some tables) positions e is = rw (is) (append-nil (unread_positions positions))

-- ---- the first fault

first_broken : (records : List Record) → first_of (broken_rules (Some records))
    ≡ result_err (and_then fault.Check (checked records) (λ tables. Ok tables))
unfolding checked check_fault
first_broken records = first_named fault.Check (check_faults records) ∙ by_fault (first_of (check_faults records)) where
  by_fault : (o : Option CheckFault) → option_map fault.Check o
      ≡ result_err (and_then fault.Check (ok_unless o (tables_of records)) (λ tables. Ok tables))
  by_fault None = refl
  by_fault (Some f) = refl

first_unread : (params : List ℕ) (e : ParamFault) → params_of params ≡ Err e → first_of (unread_params params) ≡ Some (fault.Params e)
unfolding params_of
first_unread params e is =
    first_named fault.Params (param_faults params) ∙ ap (option_map fault.Params) (first_is (param_faults params) _ e is)

-- the first fault of a parameter file is the fault for which it is rejected
pub first_of_params : (params : List ℕ) → first_of (faults_of_params params) ≡ result_err (accepted_of params)
unfolding accepted_of
first_of_params params = by_read (params_of params) refl where
  by_read : (r : Result (List Record) ParamFault) → params_of params ≡ r
      → first_of (faults_of_params params)
      ≡ result_err (and_then fault.Params r (λ records. and_then fault.Check (checked records) (λ tables. Ok tables)))
  by_read (Ok records) is = ap first_of (read_params_faults params records is) ∙ first_broken records
  by_read (Err e) is = ap first_of (unread_params_faults params e is) ∙ first_unread params e is

first_unbound : (tables : AcceptedTables) (records : List PositionRecord)
    → first_of (unbound_positions (Some tables) (Some records)) ≡ result_err (statement_bound tables records)
unfolding statement_bound portfolios_under bindings_of bind_fault
first_unbound tables records =
    first_named fault.Bind (bind_faults tables.contracts records) ∙ by_fault (first_of (bind_faults tables.contracts records)) where
      by_fault : (o : Option BindFault) → option_map fault.Bind o
          ≡ result_err (and_then same (and_then fault.Bind (ok_unless o (portfolios_of tables.contracts records)) (λ p. Ok p))
          (λ p. Ok (statement_text tables p)))
      by_fault None = refl
      by_fault (Some f) = refl

first_unread_position : (positions : List ℕ) (e : PositionFault) → positions_of positions ≡ Err e
    → first_of (unread_positions positions) ≡ Some (fault.Positions e)
unfolding positions_of
first_unread_position positions e is =
    first_named fault.Positions (position_faults positions)
    ∙ ap (option_map fault.Positions) (first_is (position_faults positions) _ e is)

-- the first fault of a position file under accepted tables is the fault for which it is rejected
first_of_positions : (params positions : List ℕ) (tables : AcceptedTables) → accepted_of params ≡ Ok tables
    → first_of (faults_of_positions params positions) ≡ result_err (statement_under tables positions)
unfolding faults_of_positions statement_under
first_of_positions params positions tables accepted = rw (accepted) (by_read (positions_of positions) refl) where
  by_read : (r : Result (List PositionRecord) PositionFault) → positions_of positions ≡ r
      → first_of (unread_positions positions ++ unbound_positions (Some tables) (result_ok (positions_of positions)))
      ≡ result_err (and_then fault.Positions r (λ records. statement_bound tables records))
  by_read (Ok records) is = ap first_of (read_positions_faults (Some tables) positions records is) ∙ first_unbound tables records
  by_read (Err e) is = ap first_of (unread_positions_faults (Some tables) positions e is) ∙ first_unread_position positions e is

-- the first fault of two files is the fault for which they are rejected
pub first_of_files : (params positions : List ℕ)
    → first_of (faults_of params (Some positions)) ≡ result_err (statement_of params positions)
unfolding faults_of statement_of
first_of_files params positions =
    first_of_both (faults_of_params params) (faults_of_positions params positions)
    ∙ ap (λ (o : Option SpanFault). option_or o (first_of (faults_of_positions params positions))) (first_of_params params)
    ∙ by_tables (accepted_of params) refl where
      by_tables : (r : Result AcceptedTables SpanFault) → accepted_of params ≡ r
          → option_or (result_err r) (first_of (faults_of_positions params positions))
          ≡ result_err (and_then same r (λ tables. statement_under tables positions))
      by_tables (Ok tables) is = first_of_positions params positions tables is
      by_tables (Err e) is = refl

pub first_of_one_file : (params : List ℕ) → first_of (faults_of params None) ≡ result_err (accepted_of params)
unfolding faults_of
first_of_one_file params = first_of_params params

-- there is no fault if and only if there is an answer
pub none_exactly : {A : Type 0} (faults : List SpanFault) (answer : Result A SpanFault) → first_of faults ≡ result_err answer
    → (faults ≡ []) ↔ (is_ok answer ≡ true)
none_exactly [] (Ok x) h = (λ e. refl, λ e. refl)
none_exactly [] (Err x) h = cc
none_exactly (f ∷ fs) (Ok x) h = cc
none_exactly (f ∷ fs) (Err x) h = (λ e. cc, λ e. cc)

-- ---- the file that a fault belongs to

-- a test has the same result for each element
abbrev EachIs : {X : Type 0} → (X → Bool) → Bool → List X → Type 0
EachIs p b [] = ⊤
EachIs p b (x ∷ xs) = (p x ≡ b) × EachIs p b xs

each_of_both : {X : Type 0} (p : X → Bool) (b : Bool) (xs ys : List X) → EachIs p b xs → EachIs p b ys → EachIs p b (xs ++ ys)
each_of_both p b [] ys h k = k
each_of_both p b (x ∷ xs) ys h k = (h.0, each_of_both p b xs ys h.1 k)

each_named : {E F : Type 0} (p : F → Bool) (b : Bool) (named : E → F) → ((e : E) → p (named e) ≡ b) → (es : List E)
    → EachIs p b (map named es)
each_named p b named says [] = tt
each_named p b named says (e ∷ es) = (says e, each_named p b named says es)

-- a test has the same result for each fault of the parameters
each_of_params : (p : SpanFault → Bool) (b : Bool) → ((e : ParamFault) → p (fault.Params e) ≡ b)
    → ((e : CheckFault) → p (fault.Check e) ≡ b) → (params : List ℕ) → EachIs p b (faults_of_params params)
unfolding faults_of_params
each_of_params p b unread broken params =
    each_of_both p b (unread_params params) (broken_rules (result_ok (params_of params)))
    (each_named p b fault.Params unread (param_faults params)) (of_rules (result_ok (params_of params))) where
      of_rules : (o : Option (List Record)) → EachIs p b (broken_rules o)
      of_rules None = tt
      of_rules (Some records) = each_named p b fault.Check broken (check_faults records)

-- a test has the same result for each fault of binding
each_unbound : (p : SpanFault → Bool) (b : Bool) → ((e : BindFault) → p (fault.Bind e) ≡ b)
    → (tables : Option AcceptedTables) (records : Option (List PositionRecord)) → EachIs p b (unbound_positions tables records)
each_unbound p b says None records = tt
each_unbound p b says (Some tables) None = tt
each_unbound p b says (Some tables) (Some records) = each_named p b fault.Bind says (bind_faults tables.contracts records)

-- no element comes before the first one that passes the test, if all pass it
begins : {X : Type 0} (p : X → Bool) (ys : List X) → EachIs p true ys → before_first p ys ≡ []
begins p [] h = refl
begins p (y ∷ ys) h = rw h.0 refl

-- a prefix of elements that fail the test comes before the first one that passes it
front_alone : {X : Type 0} (p : X → Bool) (xs ys : List X) → EachIs p false xs → EachIs p true ys
    → before_first p (xs ++ ys) ≡ xs
front_alone p [] ys h k = begins p ys k
front_alone {X = X} p (x ∷ xs) ys h k =
    let n = position_or_len p (xs ++ ys) in
    let next : 1 + n ≡ suc n = omega arith in
    rw (h.0, next) (ap (λ (zs : List X). x ∷ zs) (front_alone p xs ys h.1 k))

-- the faults of the parameters are all faults before the first fault of the positions
pub params_in_front : (params positions : List ℕ)
    → before_first is_of_positions (faults_of params (Some positions)) ≡ faults_of params None
unfolding faults_of faults_of_positions
params_in_front params positions =
    let tables = result_ok (accepted_of params) in
    let records = result_ok (positions_of positions) in
    front_alone is_of_positions (faults_of_params params) _
    (each_of_params is_of_positions false (λ e. refl) (λ e. refl) params)
    (each_of_both is_of_positions true (unread_positions positions) (unbound_positions tables records)
    (each_named is_of_positions true fault.Positions (λ e. refl) (position_faults positions))
    (each_unbound is_of_positions true (λ e. refl) tables records))

-- ---- the faults of reading positions

kept_all : {X : Type 0} (p : X → Bool) (xs : List X) → EachIs p true xs → filter p xs ≡ xs
kept_all p [] h = refl
kept_all {X = X} p (x ∷ xs) h = rw h.0 (ap (λ (zs : List X). x ∷ zs) (kept_all p xs h.1))

kept_none : {X : Type 0} (p : X → Bool) (xs : List X) → EachIs p false xs → filter p xs ≡ []
kept_none p [] h = refl
kept_none p (x ∷ xs) h = rw h.0 (kept_none p xs h.1)

-- the faults of reading the positions depend on the position file only
pub reading_stands : (params positions : List ℕ)
    → filter is_of_reading_positions (faults_of params (Some positions)) ≡ unread_positions positions
unfolding faults_of faults_of_positions
reading_stands params positions =
    let p = is_of_reading_positions in
    let unread = unread_positions positions in
    let unbound = unbound_positions (result_ok (accepted_of params)) (result_ok (positions_of positions)) in
    let first : filter p (faults_of_params params) ≡ [] =
    kept_none p (faults_of_params params) (each_of_params p false (λ e. refl) (λ e. refl) params) in
    let second : filter p unread ≡ unread = kept_all p unread (each_named p true fault.Positions (λ e. refl) (position_faults positions)) in
    let third : filter p unbound ≡ [] = kept_none p unbound (each_unbound p false (λ e. refl) _ _) in
    filter-append p (faults_of_params params) (unread ++ unbound)
    ∙ ap (λ (zs : List SpanFault). zs ++ filter p (unread ++ unbound)) first
    ∙ filter-append p unread unbound
    ∙ ap (λ (zs : List SpanFault). filter p unread ++ zs) third
    ∙ append-nil (filter p unread)
    ∙ second
