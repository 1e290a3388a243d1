-- The contents of two files, and the explanation of them.
use Rattle.std.proofs.Common.{◌≡◌, ℕ, suc, Bool, true, false, cond, List, [], ◌∷◌, Option, Some, Ok, Err, refl, ap, ◌∙◌}
use Rattle.std.proofs.Common.{arith, flat_map, None, subst}
use Rattle.std.specs.Prelude.{All, bytes_eq, find}
use Rattle.span_money.specs.LineFields.{line}
use Rattle.span_tables.specs.Holdings.{fits}
use Rattle.span_csv.specs.PositionFaults.{positions_of}
use Rattle.span_tables.specs.Net.{AccountHoldings}
use Rattle.span_tables.specs.Tables.{AcceptedTables}
use Rattle.span_tables.specs.declared.records.PositionRecord.{PositionRecord}
use Rattle.statement_text.specs.Statement.{accepted_of, portfolios_under, same, statement_bound, statement_of, statement_under}
use Rattle.statement_text.specs.declared.faults.SpanFault.{SpanFault}
use Rattle.statement_text.specs.declared.faults.SpanFault.TheVariants as fault
use Rattle.statement_text.proofs.FaultLemmas.{fault_stays}
use Rattle.explanation.specs.Explanation.{account_lines, account_text, explained, explanation_of, named_text}

module _ (params positions : List ℕ) (account : Option (List ℕ)) where
  -- the explanation of accepted files is the explanation of their tables and portfolios
  pub accepted_explained : (t : AcceptedTables) (records : List PositionRecord) (portfolios : List AccountHoldings)
      → accepted_of params ≡ Ok t → positions_of positions ≡ Ok records → portfolios_under t records ≡ Ok portfolios
      → explanation_of params positions account ≡ explained t portfolios account
  unfolding explanation_of
  accepted_explained t records portfolios a q b = rw (a, q, b) refl

-- the explanation of one account, if it is among the positions
pub account_explained : (params positions name : List ℕ) (t : AcceptedTables) (records : List PositionRecord)
    (portfolios : List AccountHoldings) (p : AccountHoldings) → accepted_of params ≡ Ok t → positions_of positions ≡ Ok records
    → portfolios_under t records ≡ Ok portfolios → find (λ q. bytes_eq q.account name) portfolios ≡ Some p
    → explanation_of params positions (Some name) ≡ Ok (flat_map line (account_lines t p))
unfolding account_text
account_explained params positions name t records portfolios p a q b found =
    accepted_explained params positions (Some name) t records portfolios a q b ∙ ap (named_text t name) found

-- an account without a position record is unknown
pub account_unknown : (params positions name : List ℕ) (t : AcceptedTables) (records : List PositionRecord)
    (portfolios : List AccountHoldings) → accepted_of params ≡ Ok t → positions_of positions ≡ Ok records
    → portfolios_under t records ≡ Ok portfolios → find (λ q. bytes_eq q.account name) portfolios ≡ None
    → explanation_of params positions (Some name) ≡ Err (fault.UnknownAccount name)
account_unknown params positions name t records portfolios a q b found =
    accepted_explained params positions (Some name) t records portfolios a q b ∙ ap (named_text t name) found

-- if a statement has a fault, the explanation has the same fault
pub faults_explained : (params positions : List ℕ) (account : Option (List ℕ)) (e : SpanFault)
    → statement_of params positions ≡ Err e → explanation_of params positions account ≡ Err e
unfolding statement_of statement_under statement_bound explanation_of
faults_explained params positions account e is =
    fault_stays same (accepted_of params) _ _ e (λ t.
    fault_stays fault.Positions (positions_of positions) _ _ e (λ records.
    fault_stays same (portfolios_under t records) _ _ e (λ portfolios h. cc))) is

-- the portfolio that is found fits if all portfolios do
found_if : (b : Bool) (n : ℕ) (q p : AccountHoldings) (other : Option AccountHoldings) → cond b (Some q) other ≡ Some p
    → fits n q.holdings ≡ true → (other ≡ Some p → fits n p.holdings ≡ true) → fits n p.holdings ≡ true
found_if true n q p other e here later = let same_one : q ≡ p = cc in subst (λ z. fits n z.holdings ≡ true) same_one here
found_if false n q p other e here later = later e

pub found_fits : (n : ℕ) (name : List ℕ) (ps : List AccountHoldings) (p : AccountHoldings)
    → find (λ q. bytes_eq q.account name) ps ≡ Some p → All (λ q. fits n q.holdings ≡ true) ps → fits n p.holdings ≡ true
found_fits n name [] p e all = cc
found_fits n name (q ∷ ps) p e all =
    found_if (bytes_eq q.account name) n q p (find (λ z. bytes_eq z.account name) ps) e (all 0 q (omega arith))
    (λ h. found_fits n name ps p h (λ k d lt. all (suc k) d (omega (arith, lt))))
