-- The state that a session opens with, the invariant of its accounts, and why another parameter set is rejected.
use Rattle.std.proofs.Common.{◌≡◌, ℕ, Bool, true, false, List, [], ◌∷◌, Ok, Err, Option, Some, None, refl}
use Rattle.std.specs.Prelude.{⊤, All, MatchBool, bytes_eq, if◌then◌else◌, option_map}
use Rattle.std.proofs.lemmas.List.Elements.{All-cons, All-head, All-tail}
use Rattle.span_csv.specs.PositionFaults.{positions_of}
use Rattle.span_tables.specs.Net.{AccountHoldings}
use Rattle.span_tables.specs.Tables.{AcceptedTables}
use Rattle.span_tables.specs.declared.records.Contract.{Contract}
use Rattle.span_tables.specs.declared.records.PositionRecord.{PositionRecord}
use Rattle.session.specs.Accounts.{lost_record, with_account}
use Rattle.session.specs.Answers.{State, opened, under_accepted, under_tables}
use Rattle.session.specs.Refusals.{refused_by}
use Rattle.session.specs.Refusals as refused
use Rattle.session.specs.declared.refusals.Refusal.{Refusal}
use Rattle.session.specs.declared.refusals.Refusal.TheVariants as refusal
use Rattle.session.specs.near.Answering.{is_memory}
use Rattle.statement_text.specs.Statement.{accepted_of, portfolios_under, same, statement_bound, statement_of, statement_under}
use Rattle.statement_text.specs.declared.faults.SpanFault.{SpanFault}
use Rattle.statement_text.specs.declared.faults.SpanFault.TheVariants as fault
use Rattle.statement_text.proofs.FaultLemmas.{fault_stays}

-- ---- the opening

module _ (params positions : List ℕ) where
  -- two accepted files open a state with their tables and portfolios
  pub accepted_opened : (t : AcceptedTables) (records : List PositionRecord) (portfolios : List AccountHoldings)
      → accepted_of params ≡ Ok t → positions_of positions ≡ Ok records → portfolios_under t records ≡ Ok portfolios
      → opened params positions ≡ Ok (record { tables = t; accounts = portfolios })
  unfolding opened
  accepted_opened t records portfolios a q b = rw (a, q, b) refl

  -- the fault of a statement is the fault of the opening
  pub faults_opened : (e : SpanFault) → statement_of params positions ≡ Err e → opened params positions ≡ Err e
  unfolding statement_of statement_under statement_bound opened
  faults_opened e is =
      fault_stays same (accepted_of params) _ _ e (λ t.
      fault_stays fault.Positions (positions_of positions) _ _ e (λ records.
      fault_stays same (portfolios_under t records) _ _ e (λ portfolios h. cc))) is

-- ---- accounts

-- A property of a portfolio and of each account is a property of each account after the portfolio is put in its
-- account.
pub all_with_account : (P : AccountHoldings → Type 0) (accounts : List AccountHoldings) (p : AccountHoldings)
    → P p → All P accounts → All P (with_account accounts p)
all_with_account P [] p here all = All-cons P p [] here all
all_with_account P (q ∷ rest) p here all =
    by_name (bytes_eq p.account q.account) (all_with_account P rest p here (All-tail P q rest all)) where
      by_name : (b : Bool) → All P (with_account rest p) → All P (if b then p ∷ rest else q ∷ with_account rest p)
      by_name true more = All-cons P p rest here (All-tail P q rest all)
      by_name false more = All-cons P q (with_account rest p) (All-head P q rest all) more

-- ---- refusals

-- only `Memory` is the refusal for lack of memory
pub refuses_memory : (r : Refusal) → refused_by r ≡ refused.Memory → is_memory r ≡ true
refuses_memory (refusal.Form e) is = cc
refuses_memory refusal.UnknownAccount is = cc
refuses_memory refusal.TooManyAccounts is = cc
refuses_memory (refusal.UnknownContract field) is = cc
refuses_memory (refusal.NetOutOfRange field) is = cc
refuses_memory (refusal.TooManyHeld field) is = cc
refuses_memory (refusal.Parameters e) is = cc
refuses_memory (refusal.Lost a c) is = cc
refuses_memory (refusal.File name) is = cc
refuses_memory refusal.Memory is = refl

pub if_memory : (A : Type 0) (b : Bool) → b ≡ true → MatchBool b ⊤ A
if_memory A true is = tt
if_memory A false is = cc

pub if_either : {A : Type 0} (b : Bool) → A → MatchBool b ⊤ A
if_either true a = tt
if_either false a = a

-- ---- another parameter set

-- if P implies Q, then "P unless b" implies "Q unless b"
if_not : (b : Bool) (P Q : Type 0) → (P → Q) → MatchBool b ⊤ P → MatchBool b ⊤ Q
if_not true P Q f h = h
if_not false P Q f h = f h

-- a parameter set that lacks the contract of a holding is rejected
is_refused : (s : State) (t : AcceptedTables) (held : Option PositionRecord) (r : Refusal)
    → option_map (λ h. refused.Lost h.account h.contract) held ≡ Some (refused_by r) → under_tables s t held ≡ Err (refused_by r)
is_refused s t (Some h) r e = cc
is_refused s t None r e = cc

pub lost_refused : (s : State) (t : AcceptedTables) (old new : List Contract) (accounts : List AccountHoldings) (r : Refusal)
    → old ≡ s.tables.contracts → new ≡ t.contracts → accounts ≡ s.accounts
    → MatchBool (is_memory r) ⊤
    (option_map (λ h. refused.Lost h.account h.contract) (lost_record old new accounts) ≡ Some (refused_by r))
    → MatchBool (is_memory r) ⊤ (under_accepted s (Ok t) ≡ Err (refused_by r))
lost_refused s t old new accounts r is_old is_new is_accounts lost =
    let lost_here = rw (is_old, is_new, is_accounts) at lost in
    let held = lost_record s.tables.contracts t.contracts s.accounts in
    if_not (is_memory r) (option_map (λ h. refused.Lost h.account h.contract) held ≡ Some (refused_by r))
    (under_tables s t held ≡ Err (refused_by r)) (is_refused s t held r) lost_here
