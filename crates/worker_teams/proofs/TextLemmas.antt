-- The text of the rows of a batch, and the text of one more account or of two slices.
use Rattle.std.proofs.Common.{◌≡◌, ◌∙◌, ℕ, List, [], ◌∷◌, ◌++◌, flat_map, take, drop, refl, sym, ap}
use Rattle.std.proofs.lemmas.Grind.{flat_map-append}
use Rattle.std.proofs.lemmas.List.{flat_map_more, take-append-drop}
use Rattle.std.proofs.lemmas.List.Concat.{flat_map-cons}
use Rattle.span_tables.specs.Net.{AccountHoldings}
use Rattle.span_tables.specs.Tables.{AcceptedTables}
use Rattle.plan_compiler.specs.Compiled.{SetView}
use Rattle.step_scheduler.specs.Rows.{RowView}
use Rattle.statement_text.specs.Statement.{row_text, statement_text}
use Rattle.worker_teams.specs.near.OutcomeRows.{rows_of_accounts}

-- the text of the rows is the statement
pub text_of_batch : (set : SetView) (portfolios : List AccountHoldings)
    → flat_map (λ r. row_text r.set.tables r.portfolio) (rows_of_accounts set portfolios) ≡ statement_text set.tables portfolios
unfolding statement_text
text_of_batch set [] = refl
text_of_batch set (p ∷ portfolios) =
    flat_map-cons (λ (r : RowView). row_text r.set.tables r.portfolio) (record { set = set; portfolio = p })
    (rows_of_accounts set portfolios)
    ∙ ap (λ t. row_text set.tables p ++ t) (text_of_batch set portfolios)
    ∙ sym (flat_map-cons (row_text set.tables) p portfolios)

-- the statement of no accounts is empty
pub no_text : (t : AcceptedTables) → [] ≡ statement_text t []
unfolding statement_text
no_text t = refl

-- appending the lines of an account gives the statement of one more account
pub text_more : (t : AcceptedTables) (ps : List AccountHoldings) (p : AccountHoldings) (text more : List ℕ)
    → text ≡ statement_text t ps → more ≡ text ++ row_text t p → more ≡ statement_text t (ps ++ p ∷ [])
unfolding statement_text
text_more t ps p text more is are = are ∙ ap (λ so_far. so_far ++ row_text t p) is ∙ flat_map_more (row_text t) [] ps p

-- the statements of two slices of a list of accounts, joined, are the statement of the whole list
pub texts_joined : (t : AcceptedTables) (ps first last : List AccountHoldings) (n : ℕ) (text after : List ℕ)
    → first ≡ take n ps → last ≡ drop n ps → text ≡ statement_text t first → after ≡ statement_text t last
    → text ++ after ≡ statement_text t ps
unfolding statement_text
texts_joined t ps first last n text after is_first is_last is are =
    rw (is, are) (
    sym (flat_map-append (row_text t) first last)
    ∙ rw (is_first, is_last) (ap (flat_map (row_text t)) (take-append-drop n ps)))
