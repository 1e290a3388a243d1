-- The R and T lines of an explanation are the statement.
use Rattle.std.proofs.Common.{◌≡◌, ℕ, Bool, true, false, cond, List, [], ◌∷◌, ◌++◌, length, map, filter, flat_map, refl, sym, ap}
use Rattle.std.proofs.Common.{◌∙◌, Ok, Err, Result}
use Rattle.std.specs.Prelude.{None}
use Rattle.std.specs.List.{range_with_len}
use Rattle.std.proofs.lemmas.List.{append-nil, map-append}
use Rattle.std.proofs.lemmas.List.Elements.{filter-append}
use Rattle.std.proofs.lemmas.Grind.{flat_map-append}
use Rattle.span_money.specs.LineFields.{Line, line}
use Rattle.span_csv.specs.PositionFaults.{positions_of}
use Rattle.span_csv.specs.declared.faults.PositionFault.{PositionFault}
use Rattle.span_tables.specs.Net.{AccountHoldings}
use Rattle.span_tables.specs.Tables.{AcceptedTables}
use Rattle.span_tables.specs.declared.portfolios.Holding.{Holding}
use Rattle.span_tables.specs.declared.records.PositionRecord.{PositionRecord}
use Rattle.plan_ir.specs.Figures.{commodity_at, figures_of, held_at, is_commodity_held, option_value_of}
use Rattle.reasons.specs.Reasons.{credit_reasons, held_reason, held_reasons, inter_reason, inters_shown_at, intra_reason}
use Rattle.reasons.specs.Reasons.{intras_shown_at, month_reason, month_reasons, months_shown_at, reasons_of, scan_reasons}
use Rattle.reasons.specs.Reasons.{credit_reason, state_after_all, short_reason, spot_reason, spots_shown_at}
use Rattle.statement_text.specs.Statement.{accepted_of, and_then, commodity_text, figures_line, portfolios_under, row_text, same}
use Rattle.statement_text.specs.Statement.{statement_bound, statement_of, statement_text, statement_under, total_line, total_numbers}
use Rattle.statement_text.specs.Statement.{total_of}
use Rattle.statement_text.specs.declared.faults.SpanFault.{SpanFault}
use Rattle.statement_text.specs.declared.faults.SpanFault.TheVariants as fault
use Rattle.explanation.specs.Explanation.{account_lines, account_text, commodity_lines, explanation_of, reason_line}
use Rattle.explanation.specs.Laws.{is_of_statement, lines_read}
use Rattle.explanation.proofs.AcceptedLemmas.{accounts_named, tables_read}
use Rattle.explanation.proofs.FileLemmas.{accepted_explained}
use Rattle.explanation.proofs.PlainLemmas.{accounts_plain}
use Rattle.explanation.proofs.ReadLemmas.{lines_are_read}
use Rattle.span_money.proofs.LinePartLemmas.{texts_of}

-- the lines of the statement among a list of lines
abbrev pub of_statement : List Line → List Line
of_statement lines = filter is_of_statement lines

passed_if : (b : Bool) (l : Line) (ls : List Line) → b ≡ false → cond b (l ∷ ls) ls ≡ ls
passed_if true l ls e = cc
passed_if false l ls e = refl

-- ---- no reason is a line of the statement

module _ (account set_id commodity : List ℕ) where
  abbrev lines_of : List Line → List Line
  lines_of rs = map (reason_line account set_id commodity) rs

  none-append : (a b : List Line) → of_statement (lines_of a) ≡ [] → of_statement (lines_of b) ≡ []
      → of_statement (lines_of (a ++ b)) ≡ []
  none-append a b none nor =
      ap of_statement (map-append (reason_line account set_id commodity) a b)
      ∙ filter-append is_of_statement (lines_of a) (lines_of b) ∙ (λ k. none k ++ nor k)

  none-map : {A : Type 0} (f : A → Line) → ((x : A) → is_of_statement (reason_line account set_id commodity (f x)) ≡ false)
      → (xs : List A) → of_statement (lines_of (map f xs)) ≡ []
  none-map f none [] = refl
  none-map f none (x ∷ xs) =
      let l = reason_line account set_id commodity (f x) in
      passed_if (is_of_statement l) l (of_statement (lines_of (map f xs))) (none x) ∙ none-map f none xs

  none_of_months : (t : AcceptedTables) (holdings : List Holding) (c : ℕ)
      → of_statement (lines_of (month_reasons t holdings c)) ≡ []
  none_of_months t holdings c =
      let months = months_shown_at t holdings c in
      let intras = intras_shown_at t holdings c in
      let spots = spots_shown_at t holdings c in
      none-append (map month_reason months) (map intra_reason intras ++ map spot_reason spots)
      (none-map month_reason (λ m. refl) months)
      (none-append (map intra_reason intras) (map spot_reason spots)
      (none-map intra_reason (λ s. refl) intras) (none-map spot_reason (λ s. refl) spots))

  none_of_credit : (t : AcceptedTables) (holdings : List Holding) (c : ℕ)
      → of_statement (lines_of (credit_reasons t holdings c)) ≡ []
  none_of_credit t holdings c =
      let inters = inters_shown_at t holdings c in
      none-append (map inter_reason inters) (credit_reason (state_after_all t holdings c) ∷ [])
      (none-map inter_reason (λ s. refl) inters) refl

  none_of_reasons : (t : AcceptedTables) (holdings : List Holding) (c : ℕ)
      → of_statement (lines_of (reasons_of t holdings c)) ≡ []
  unfolding reasons_of
  none_of_reasons t holdings c =
      let short = short_reason (commodity_at t c) (held_at t holdings c) ∷ [] in
      let credit = credit_reasons t holdings c in
      let months = month_reasons t holdings c in
      let scan = scan_reasons t holdings c in
      none-append (held_reasons t holdings c) (scan ++ (months ++ (credit ++ short)))
      (none-map (held_reason t) (λ h. refl) (held_at t holdings c))
      (none-append scan (months ++ (credit ++ short)) refl
      (none-append months (credit ++ short) (none_of_months t holdings c)
      (none-append credit short (none_of_credit t holdings c) refl)))

-- ---- the lines of an account

module _ (t : AcceptedTables) (p : AccountHoldings) where
  commodity_if : (b : Bool) (c : ℕ)
      → flat_map line (of_statement (cond b
      (map (reason_line p.account t.set_id (commodity_at t c).id) (reasons_of t p.holdings c)
      ++ figures_line p.account t.set_id (commodity_at t c).id (figures_of t p.holdings c) ∷ []) []))
      ≡ cond b (line (figures_line p.account t.set_id (commodity_at t c).id (figures_of t p.holdings c))) []
  unfolding figures_line
  commodity_if true c =
      let id = (commodity_at t c).id in
      let reasons = map (reason_line p.account t.set_id id) (reasons_of t p.holdings c) in
      let figures = figures_line p.account t.set_id id (figures_of t p.holdings c) in
      ap (flat_map line) (filter-append is_of_statement reasons (figures ∷ []))
      ∙ ap (λ ls. flat_map line (ls ++ figures ∷ [])) (none_of_reasons p.account t.set_id id t p.holdings c)
      ∙ append-nil (line figures)
  commodity_if false c = refl

  commodity_contained : (c : ℕ) → flat_map line (of_statement (commodity_lines t p c)) ≡ commodity_text t p c
  commodity_contained c = commodity_if (is_commodity_held t p.holdings c) c

of_statement-flat_map : {A : Type 0} (f : A → List Line) (xs : List A)
    → flat_map line (of_statement (flat_map f xs)) ≡ flat_map (λ x. flat_map line (of_statement (f x))) xs
of_statement-flat_map f [] = refl
of_statement-flat_map f (x ∷ xs) =
    ap (flat_map line) (filter-append is_of_statement (f x) (flat_map f xs))
    ∙ flat_map-append line (of_statement (f x)) (of_statement (flat_map f xs))
    ∙ ap (λ text. flat_map line (of_statement (f x)) ++ text) (of_statement-flat_map f xs)

pub account_contained : (t : AcceptedTables) (p : AccountHoldings)
    → flat_map line (of_statement (account_lines t p)) ≡ row_text t p
unfolding row_text total_line
account_contained t p =
    let numbers = range_with_len 0 (length t.commodities) in
    let lines = flat_map (commodity_lines t p) numbers in
    let total = total_line p.account t.set_id (total_numbers t (total_of t p) (option_value_of t p.holdings)) in
    ap (flat_map line) (filter-append is_of_statement lines (total ∷ []))
    ∙ flat_map-append line (of_statement lines) (total ∷ [])
    ∙ (λ k. of_statement-flat_map (commodity_lines t p) numbers k ++ append-nil (line total) k)
    ∙ (λ k. flat_map (λ c. commodity_contained t p c k) numbers ++ line total)

-- ---- two files

accounts_contained : (t : AcceptedTables) (portfolios : List AccountHoldings)
    → flat_map line (of_statement (flat_map (account_lines t) portfolios)) ≡ statement_text t portfolios
unfolding statement_text
accounts_contained t portfolios =
    of_statement-flat_map (account_lines t) portfolios ∙ (λ k. flat_map (λ p. account_contained t p k) portfolios)

-- two files that have a statement: their tables, records and portfolios
record HaveStatement (params positions text : List ℕ) : Type 0 where
  tables : AcceptedTables
  records : List PositionRecord
  portfolios : List AccountHoldings
  accepted : accepted_of params ≡ Ok tables
  read : positions_of positions ≡ Ok records
  bound : portfolios_under tables records ≡ Ok portfolios
  is : statement_text tables portfolios ≡ text

module _ (params positions text : List ℕ) where
  of_portfolios : (t : AcceptedTables) (records : List PositionRecord) (r : Result (List AccountHoldings) SpanFault)
      → accepted_of params ≡ Ok t → positions_of positions ≡ Ok records → portfolios_under t records ≡ r
      → and_then same r (λ portfolios. Ok (statement_text t portfolios)) ≡ Ok text → HaveStatement params positions text
  of_portfolios t records (Ok portfolios) a q b is = record {
    tables = t;
    records = records;
    portfolios = portfolios;
    accepted = a;
    read = q;
    bound = b;
    is = (let found : statement_text t portfolios ≡ text = cc in found);
  }
  of_portfolios t records (Err e) a q b is = let none : ⊥ = cc in absurd none

  of_positions : (t : AcceptedTables) (r : Result (List PositionRecord) PositionFault)
      → accepted_of params ≡ Ok t → positions_of positions ≡ r
      → and_then fault.Positions r (λ records. statement_bound t records) ≡ Ok text → HaveStatement params positions text
  unfolding statement_bound
  of_positions t (Ok records) a q is = of_portfolios t records (portfolios_under t records) a q refl is
  of_positions t (Err e) a q is = let none : ⊥ = cc in absurd none

  of_tables : (r : Result AcceptedTables SpanFault) → accepted_of params ≡ r
      → and_then same r (λ t. statement_under t positions) ≡ Ok text → HaveStatement params positions text
  unfolding statement_under
  of_tables (Ok t) a is = of_positions t (positions_of positions) a refl is
  of_tables (Err e) a is = let none : ⊥ = cc in absurd none

  have_statement : statement_of params positions ≡ Ok text → HaveStatement params positions text
  unfolding statement_of
  have_statement is = of_tables (accepted_of params) refl is

-- ---- all accounts

module _ (params positions : List ℕ) (t : AcceptedTables) (records : List PositionRecord) (portfolios : List AccountHoldings)
    (accepted : accepted_of params ≡ Ok t) (read : positions_of positions ≡ Ok records) (bound : portfolios_under t records ≡ Ok portfolios)
  where
    -- the explanation of all accounts is the lines of each account, one account after another
    pub all_explained : explanation_of params positions None ≡ Ok (flat_map line (flat_map (account_lines t) portfolios))
    unfolding account_text
    all_explained =
        accepted_explained params positions None t records portfolios accepted read bound
        ∙ ap Ok (sym (texts_of (account_lines t) portfolios))

    -- reading the explanation of all accounts gives these lines
    pub all_read : lines_read (flat_map line (flat_map (account_lines t) portfolios)) ≡ flat_map (account_lines t) portfolios
    all_read =
        lines_are_read (flat_map (account_lines t) portfolios)
        (accounts_plain t (tables_read params t accepted).named portfolios (accounts_named t positions records portfolios read bound))

pub files_contained : (params positions text : List ℕ) → statement_of params positions ≡ Ok text
    → (told : List ℕ) × (explanation_of params positions None ≡ Ok told) × (flat_map line (lines_read told) ≡ told)
    × (flat_map line (of_statement (lines_read told)) ≡ text)
files_contained params positions text is =
    let files = have_statement params positions text is in
    let t = files.tables in
    let read = all_read params positions t files.records files.portfolios files.accepted files.read files.bound in (
      flat_map line (flat_map (account_lines t) files.portfolios),
      all_explained params positions t files.records files.portfolios files.accepted files.read files.bound,
      ap (flat_map line) read,
      ap (λ ls. flat_map line (of_statement ls)) read ∙ accounts_contained t files.portfolios ∙ files.is,
    )
