-- The held commodities with numbers from a given number on.
use Rattle.std.proofs.Common.{◌≡◌, ℕ, suc, ◌+◌, ◌<◌, ◌≤◌, true, List, [], ◌∷◌, length, drop, get_or, ap, sym, subst, add-one, arith, ◌∙◌}
use Rattle.std.specs.Prelude.{not}
use Rattle.std.proofs.lemmas.Bool.{ne_eqb}
use Rattle.std.proofs.lemmas.List.{drop_all}
use Rattle.std.proofs.Math.Seq.{drop-cons}
use Rattle.span_tables.specs.Accepted.{IsWithinLimits}
use Rattle.span_tables.specs.Holdings.{AreHoldings, ArePortfolio, fits}
use Rattle.span_tables.specs.Net.{held_contracts}
use Rattle.span_tables.specs.Tables.{AcceptedTables, commodity_id}
use Rattle.span_tables.specs.declared.portfolios.Holding.{Holding}
use Rattle.span_tables.specs.near.Runs.{AreLeft, IsNextRun}
use Rattle.span_tables.proofs.HeldLemmas.{are_holdings, held_in, length_held}
use Rattle.span_tables.proofs.RunLemmas.{none_left}
use Rattle.plan_ir.specs.Figures.{held_at}
use Rattle.step_scheduler.specs.declared.run_memory.Part.{Part}
use Rattle.step_scheduler.specs.near.Parts.{ArePartsFrom, IsEnd, IsNext, IsPart}

module _ (t : AcceptedTables) (holdings : List Holding) where
  -- a run has the held contracts of its commodity, the next that is held
  pub next_of_run : (next n : ℕ) (run left : List Holding) → fits (length t.contracts) holdings ≡ true → IsWithinLimits t
      → ArePortfolio holdings → n < length t.commodities → 0 < length run → IsNextRun t holdings next n run left
      → IsNext t holdings next n × (held_contracts t.contracts run ≡ held_at t holdings n)
  next_of_run next n run left known limits portfolio below some of =
      let same : held_contracts t.contracts run ≡ held_at t holdings n =
      ap (held_contracts t.contracts) of.is ∙ held_in t.contracts holdings (commodity_id t n) in
      let are : AreHoldings t.contracts run =
      subst (AreHoldings t.contracts) (sym of.is) (are_holdings t holdings (commodity_id t n) limits portfolio known) in
      let long : length (held_at t holdings n) ≡ length run = ap length (sym same) ∙ length_held t.contracts run are.known in (
        record {
          known = below;
          behind = of.behind;
          none = λ c le lt. sym (held_in t.contracts holdings (commodity_id t c)) ∙ ap (held_contracts t.contracts) (of.none c le lt);
          held = ap not (ne_eqb (length (held_at t holdings n)) 0 (omega (arith, long, some)));
        },
        same,
      )

  -- once all holdings are taken, no further commodity is held
  pub no_run : (next : ℕ) → IsWithinLimits t → next ≤ length t.commodities → AreLeft t holdings next [] → IsEnd t holdings next
  no_run next limits le left = record {
    behind = le;
    none = λ c from lt.
        sym (held_in t.contracts holdings (commodity_id t c))
        ∙ ap (held_contracts t.contracts) (none_left t limits holdings next left c from lt);
  }

  -- there are no more parts than commodities
  pub few_parts : (parts : List Part) (from : ℕ) → ArePartsFrom t holdings from parts → from + length parts ≤ length t.commodities
  few_parts [] from end = let b = end.behind in omega (arith, b)
  few_parts (p ∷ ps) from parts =
      let b = parts.0.behind in let rest = few_parts ps (p.commodity + 1) parts.2 in omega (arith, b, rest)

  -- the element at index i is the part of the next held commodity, and the elements after it are the later ones
  pub next_part : (parts : List Part) (i from : ℕ) (p : Part) → i < length parts → p ≡ get_or parts i p
      → ArePartsFrom t holdings from (drop i parts)
      → IsNext t holdings from p.commodity × IsPart t holdings p × ArePartsFrom t holdings (p.commodity + 1) (drop (i + 1) parts)
  next_part parts i from p lt is rest =
      rw (add-one i) (subst (λ x. ArePartsFrom t holdings from (x ∷ drop (suc i) parts)) (sym is)
      (subst (ArePartsFrom t holdings from) (drop-cons parts i p lt) rest))

  -- at the end of the list no held commodity is left
  pub no_part : (parts : List Part) (i from : ℕ) → length parts ≤ i → ArePartsFrom t holdings from (drop i parts)
      → IsEnd t holdings from
  no_part parts i from le rest = rw drop_all at rest
