-- Answers about trades.
use Rattle.std.proofs.Common.{◌≡◌, ◌∙◌, ℕ, Bool, true, false, List, [], ◌∷◌, ◌++◌, ap, flat_map, length, map, subst, sym}
use Rattle.std.proofs.Common.{Option, Some, None, Result, Ok, Err, refl}
use Rattle.std.specs.Prelude.{All, IfOk, MatchBool, ⊤, bytes_eq, codes, find, if◌then◌else◌, option_map, pos, unwrap_or, ℤ}
use Rattle.std.specs.Fmt.{signed_decimal}
use Rattle.span_money.specs.LineFields.{line}
use Rattle.span_tables.specs.Faults.{ok_unless}
use Rattle.span_tables.specs.Gives.{Gives}
use Rattle.span_tables.specs.Holdings.{fits}
use Rattle.span_tables.specs.Net.{AccountHoldings}
use Rattle.span_tables.specs.Orders.{holdings_among}
use Rattle.span_tables.specs.Tables.{facts_in}
use Rattle.span_tables.specs.declared.portfolios.Holding.{Holding}
use Rattle.span_tables.specs.declared.records.Contract.{Contract}
use Rattle.span_tables.proofs.MergedLaws.{holdings_with_fits}
use Rattle.binding.specs.Binding.{is_memory as is_bind_memory}
use Rattle.binding.specs.OrderBinding.{TriedOrder}
use Rattle.binding.specs.Trades.{booked, held_after, trade_fault, traded}
use Rattle.binding.specs.declared.faults.BindFault.{BindFault}
use Rattle.binding.specs.declared.faults.BindFault.TheVariants as fault
use Rattle.binding.specs.declared.trades.Trade.{Trade}
use Rattle.explanation.proofs.FileLemmas.{found_fits}
use Rattle.inter_credit.specs.OptionValue.{excess_of}
use Rattle.plan_ir.specs.Figures.{option_value_of}
use Rattle.statement_text.specs.Statement.{total_line, total_numbers, total_of}
use Rattle.whatif.specs.Whatif.{change_line, change_of, changed_by, due_at, order_line, order_numbers, order_text}
use Rattle.session.specs.Answers.{Answered, State, answer_to, fill_answer, filled_answer, has_no_place, if_fit, order_on, tried}
use Rattle.session.specs.Answers.{tried_answer, unchanged, unfit, with_portfolio}
use Rattle.session.specs.Refusals.{refused_by}
use Rattle.session.specs.Refusals as refused
use Rattle.session.specs.Requests.{Fill, Try}
use Rattle.session.specs.declared.refusals.Refusal.{Refusal}
use Rattle.session.specs.near.Answering.{is_memory}
use Rattle.session.proofs.SessionLemmas.{if_either, if_memory, refuses_memory}

-- the holdings of an account among portfolios fit, if the portfolios do
pub among_fits : (n : ℕ) (all : List AccountHoldings) (name : List ℕ) → All (λ p. fits n p.holdings ≡ true) all
    → fits n (holdings_among all name) ≡ true
among_fits n all name fit = by (find (λ p. bytes_eq p.account name) all) refl
  where
    by : (o : Option AccountHoldings) → find (λ p. bytes_eq p.account name) all ≡ o
        → fits n (unwrap_or (option_map (λ (p : AccountHoldings). p.holdings) o) []) ≡ true
    by None e = refl
    by (Some p) e = found_fits n name all p e fit

-- the portfolio after trades fits
pub traded_fits : (contracts : List Contract) (held : List Holding) (account : List ℕ) (trades : List Trade)
    (r : Result AccountHoldings BindFault) → Gives is_bind_memory r (traded contracts held account trades)
    → IfOk r (λ after. fits (length contracts) after.holdings ≡ true)
unfolding traded
traded_fits contracts held account trades (Err e) given = tt
traded_fits contracts held account trades (Ok after) given = by (trade_fault contracts held account trades) given
  where
    there : AccountHoldings
    there = record { account = account; holdings = held_after contracts held account trades }

    by : (o : Option BindFault) → ok_unless o there ≡ Ok after → fits (length contracts) after.holdings ≡ true
    by (Some f) e = cc
    by None e =
        let same : there ≡ after = cc in
        subst (λ (p : AccountHoldings). fits (length contracts) p.holdings ≡ true) same
        (holdings_with_fits contracts held (map (booked account) trades) account)

unfit_memory : (names : ℕ) (e : BindFault) → is_bind_memory e ≡ true → unfit names e ≡ refused.Memory
unfit_memory names (fault.UnknownContract at account) memory = cc
unfit_memory names (fault.NetOutOfRange at account) memory = cc
unfit_memory names (fault.TooManyHeld at account) memory = cc
unfit_memory names fault.OutOfMemory memory = refl

-- trades that do not fit are rejected
pub unfit_refused : (names : ℕ) (answer : AccountHoldings → Answered) (tried : Result AccountHoldings BindFault)
    (e : BindFault) (r : Refusal) → MatchBool (is_bind_memory e) ⊤ (tried ≡ Err e) → refused_by r ≡ unfit names e
    → MatchBool (is_memory r) ⊤ (if_fit names answer tried ≡ Err (refused_by r))
unfit_refused names answer tried e r unfits refuses = by (is_bind_memory e) refl unfits
  where
    by : (b : Bool) → is_bind_memory e ≡ b → MatchBool b ⊤ (tried ≡ Err e)
        → MatchBool (is_memory r) ⊤ (if_fit names answer tried ≡ Err (refused_by r))
    by true memory unfits =
        if_memory (if_fit names answer tried ≡ Err (refused_by r)) (is_memory r)
        (refuses_memory r (refuses ∙ unfit_memory names e memory))
    by false named unfits = if_either (is_memory r) (ap (if_fit names answer) unfits ∙ ap Err (sym refuses))

if_no : {A : Type 0} (b : Bool) (x y : A) → b ≡ false → (if b then x else y) ≡ y
if_no true x y e = cc
if_no false x y e = refl

if_yes : {A : Type 0} (b : Bool) (x y : A) → b ≡ true → (if b then x else y) ≡ x
if_yes true x y e = refl
if_yes false x y e = cc

module _ (s : State) (account : List ℕ) (trades : List Trade) where
  -- an account for which there is no room is rejected
  pub no_place_refused : has_no_place s account ≡ true → fill_answer s account trades ≡ Err refused.TooManyAccounts
  no_place_refused =
      if_yes (has_no_place s account) (Err refused.TooManyAccounts) (if_fit 1 (filled_answer s) (tried s account trades))

  -- the answer to a FILL for which there is room
  pub fill_placed : has_no_place s account ≡ false → fill_answer s account trades ≡ if_fit 1 (filled_answer s) (tried s account trades)
  fill_placed = if_no (has_no_place s account) (Err refused.TooManyAccounts) (if_fit 1 (filled_answer s) (tried s account trades))

  tried_account : (after : AccountHoldings) → tried s account trades ≡ Ok after → after.account ≡ account
  unfolding traded
  tried_account after = by (trade_fault s.tables.contracts (holdings_among s.accounts account) account trades)
    where
      done : AccountHoldings
      done = record { account = account; holdings = held_after s.tables.contracts (holdings_among s.accounts account) account trades }

      by : (o : Option BindFault) → ok_unless o done ≡ Ok after → after.account ≡ account
      by (Some e) is = cc
      by None is = (let same : done ≡ after = cc in sym (ap (λ (p : AccountHoldings). p.account) same))

  both_answers : (order : List ℕ) (after : AccountHoldings) → has_no_place s account ≡ false → tried s account trades ≡ Ok after
      → (answer_to s None (Try order account trades) ≡ Ok (tried_answer s order account after))
      × (answer_to s None (Fill account trades) ≡ Ok (filled_answer s after))
  unfolding answer_to
  both_answers order after place is = (
    ap (if_fit 2 (tried_answer s order account)) is,
    fill_placed place ∙ ap (if_fit 1 (filled_answer s)) is,
  )

  -- both answers with their last lines written out
  pub both_total : (order : List ℕ) (after : AccountHoldings) → has_no_place s account ≡ false → tried s account trades ≡ Ok after
      → (changes : List ℕ) × (before : ℤ) × (total : ℤ) × (due_before : ℤ) × (due : ℤ) × (value : ℤ) × (excess : ℤ)
      × (answer_to s None (Try order account trades) ≡ unchanged s (changes ++ line (record {
        word = codes "ORDER";
        fields = order ∷ account ∷ s.tables.set_id ∷ map signed_decimal (change_of before total
            ++ (if (facts_in s.tables).options_have_value then change_of due_before due else []));
      })))
      × (answer_to s None (Fill account trades) ≡ Ok (record {
        state = with_portfolio s after;
        lines = line (record {
          word = codes "T";
          fields = account ∷ s.tables.set_id ∷ map signed_decimal
              (if (facts_in s.tables).options_have_value then total ∷ value ∷ due ∷ excess ∷ [] else total ∷ []);
        });
      }))
  unfolding order_text order_line total_line
  both_total order after place is =
      let both = both_answers order after place is in
      let t = s.tables in
      let change : TriedOrder = order_on s order account after in
      let changes = flat_map (λ c. line (change_line t change c)) (changed_by t change) in
      let total = total_of t after in
      let value = option_value_of t after.holdings in (
        changes,
        total_of t change.before,
        total,
        due_at t change.before,
        due_at t after,
        value,
        pos (excess_of total value),
        both.0 ∙ ap (λ name. unchanged s (changes ++ line (record {
          word = codes "ORDER";
          fields = order ∷ name ∷ t.set_id ∷ map signed_decimal (order_numbers t change);
        }))) (tried_account after is),
        both.1 ∙ ap (λ name. Ok (record {
          state = with_portfolio s after;
          lines = line (record {
            word = codes "T";
            fields = name ∷ t.set_id ∷ map signed_decimal (total_numbers t total value);
          });
        })) (tried_account after is),
      )

  pub both_refused : (order : List ℕ) (e : BindFault) → has_no_place s account ≡ false → tried s account trades ≡ Err e
      → (answer_to s None (Try order account trades) ≡ Err (unfit 2 e)) × (answer_to s None (Fill account trades) ≡ Err (unfit 1 e))
  unfolding answer_to
  both_refused order e place is = (
    ap (if_fit 2 (tried_answer s order account)) is,
    fill_placed place ∙ ap (if_fit 1 (filled_answer s)) is,
  )
