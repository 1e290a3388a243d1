-- Each operation takes the meanings of the operations that it requires.
use Rattle.std.proofs.Common.{◌≡◌, ℕ, suc, ◌+◌, ◌-◌, ◌<◌, ◌≤◌, true, List, ◌∷◌, ◌++◌}
use Rattle.std.proofs.Common.{length, map, take, refl, sym, ap, ◌∙◌, arith, pos, nat_abs}
use Rattle.std.specs.Prelude.{All, Some, replicate, slice_get}
use Rattle.std.specs.List.{range_with_len}
use Rattle.span_tables.specs.Accepted.{IsWithinLimits}
use Rattle.span_tables.specs.Holdings.{ArePortfolio, fits}
use Rattle.span_tables.specs.Tables.{AcceptedTables, inters_of}
use Rattle.span_tables.specs.declared.limits.TheConstants.{MAX_SUM}
use Rattle.span_tables.specs.declared.portfolios.Holding.{Holding}
use Rattle.scan_risk.specs.Scenarios.{scenario_sums}
use Rattle.spread_stage.proofs.FallLemmas.{spreads_shrink}
use Rattle.inter_credit.proofs.CreditBounds.{length-after_inter_spreads}
use Rattle.scan_risk.proofs.ScanBounds as scan
use Rattle.plan_ir.proofs.FigureBounds.{delivery_at_small, held_at_are, length-inter_states, length-loaded_states}
use Rattle.plan_ir.proofs.FigureBounds.{minimum_at_small, next_total_is_money, next_value_is_money, price2_at_small, risk_at_small}
use Rattle.inter_credit.specs.Credits.{unspread_state}
use Rattle.std.proofs.lemmas.List.{length-append, length-replicate}
use Rattle.std.proofs.lemmas.List.Elements.{All-append, All-map, All-replicate}
use Rattle.std.proofs.lemmas.List.FromFn.{length-map-range_with_len}
use Rattle.inter_credit.specs.States.{IsNotLoaded, IsUnspread, IsUnspreadState}
use Rattle.inter_credit.specs.declared.requirement.TheConstants.{MAX_PART}
use Rattle.plan_ir.specs.Apply.{IsOp, Takes, inter_at, no_inter}
use Rattle.plan_ir.specs.Figures.{deltas_at, delivery_at, held_at, intras_at, state_of, loaded_states, minimum_at, scan_at}
use Rattle.plan_ir.specs.declared.ops.Op.{Op}
use Rattle.plan_ir.specs.declared.ops.Op.TheVariants as op
use Rattle.plan_compiler.specs.Meaning.{states_after_first, states_loaded, meaning, wanted}
use Rattle.plan_compiler.proofs.Meanings.{meaning-before_inter, meaning-before_load, meaning-before_spread, meaning-before_total}
use Rattle.plan_compiler.proofs.Meanings.{meaning-before_value, meaning-last_inter, meaning-last_tiers}
use Rattle.span_tables.proofs.NetLaws.{get_behind}

module _ (t : AcceptedTables) (holdings : List Holding) (limits : IsWithinLimits t) (portfolio : ArePortfolio holdings)
    (known : fits (length t.contracts) holdings ≡ true) where
  sums_small : (c : ℕ) → All (λ s. nat_abs s ≤ MAX_SUM) (scenario_sums (held_at t holdings c))
  sums_small c = scan.sums_small (held_at t holdings c) (held_at_are t holdings limits portfolio known c)

  risk_small : (c : ℕ) → nat_abs (scan_at t holdings c).risk ≤ MAX_PART
  risk_small c = let small = risk_at_small t holdings limits portfolio known c in omega (arith, small)

  delivery_small : (c : ℕ) → nat_abs (pos (delivery_at t holdings c)) ≤ MAX_PART
  delivery_small c = let small = delivery_at_small t holdings limits portfolio known c in omega (arith, small)

  minimum_small : (c : ℕ) → c < length t.commodities → nat_abs (pos (minimum_at t holdings c)) ≤ MAX_PART
  minimum_small c lt = let small = minimum_at_small t holdings limits portfolio known c lt in omega (arith, small)

  -- ---- the commodities

  length_states : (j : ℕ) → length (states_after_first t holdings j) ≡ length t.commodities
  length_states j =
      length-after_inter_spreads (take j (inters_of t)) (loaded_states t holdings)
      ∙ length-loaded_states t holdings limits portfolio known

  pub length_partly : (c : ℕ) → c ≤ length t.commodities → length (states_loaded t holdings c) ≡ length t.commodities
  length_partly c le =
      let front = map (state_of t holdings) (range_with_len 0 c) in
      let rest = replicate (length t.commodities - c) (unspread_state (pos 0) 0) in
      omega (
        arith,
        le,
        length-append front rest,
        length-map-range_with_len (state_of t holdings) 0 c,
        length-replicate (length t.commodities - c) (unspread_state (pos 0) 0),
      )

  legs_among : (j : ℕ) → j < length (inters_of t)
      → All (λ leg. leg.commodity < length (states_after_first t holdings j)) (inter_at t j).legs
  legs_among j lt =
      let known = (limits.inters_in_range j no_inter lt).known in
      λ i d in_range. let among = known i d in_range in omega (arith, among, length_states j)

  pub not_loaded : (c : ℕ) → c < length t.commodities → IsNotLoaded (states_loaded t holdings c) c
  not_loaded c lt =
      let front = map (state_of t holdings) (range_with_len 0 c) in
      let none = unspread_state (pos 0) 0 in
      let one_more : length t.commodities - c ≡ suc (length t.commodities - (c + 1)) = omega arith in
      let long : length front ≡ c = length-map-range_with_len (state_of t holdings) 0 c in
      let here : slice_get (states_loaded t holdings c) c ≡ Some none =
      ap (λ n. slice_get (front ++ replicate n none) c) one_more
      ∙ ap (slice_get (front ++ none ∷ replicate (length t.commodities - (c + 1)) none)) (sym long)
      ∙ get_behind front none (replicate (length t.commodities - (c + 1)) none) in
      rw here (refl, refl)

  pub unspread : (c : ℕ) → IsUnspread (states_loaded t holdings c)
  unspread c =
      All-append IsUnspreadState (map (state_of t holdings) (range_with_len 0 c)) _
      (All-map IsUnspreadState (state_of t holdings) (range_with_len 0 c) (λ i d lt. record { rest = refl; weight = refl }))
      (All-replicate IsUnspreadState (length t.commodities - c) (unspread_state (pos 0) 0) (record { rest = refl; weight = refl }))

  -- ---- each operation

  pub takes_meanings : (o : Op) → IsOp t o → Takes t o (map (meaning t holdings) (wanted t o))
  takes_meanings (op.Gather c) is = record { known = is; taken = record { count = refl } }
  takes_meanings (op.Sums c) is = record { known = is; taken = record { count = refl; held = tt } }
  takes_meanings (op.ScanMax c) is = record { known = is; taken = record { count = refl; sums = tt; small = sums_small c } }
  takes_meanings (op.Months c) is = record { known = is; taken = record { count = refl; held = tt } }
  takes_meanings (op.TierStart c) is = record { known = is; taken = record { count = refl; months = tt } }
  takes_meanings (op.Spread c j) is = rw (meaning-before_spread t holdings c j) (record {
    known = is;
    taken = record { count = refl; tiers = tt };
  })
  takes_meanings (op.Delivery c) is = rw (meaning-last_tiers t holdings c) (record {
    known = is;
    taken = record { count = refl; months = tt; tiers = tt; shrinks = spreads_shrink (intras_at t c) (deltas_at t holdings c) };
  })
  takes_meanings (op.Minimum c) is = record { known = is; taken = record { count = refl; held = tt } }
  takes_meanings (op.Final c) is = rw (meaning-last_tiers t holdings c, meaning-last_inter t holdings) (record {
    known = is;
    taken = record {
      count = refl;
      scan = tt;
      tiers = tt;
      delivery = tt;
      minimum = tt;
      states = tt;
      risk_small = risk_small c;
      delivery_small = delivery_small c;
      minimum_small = minimum_small c is;
      among = let long = length-inter_states t holdings limits portfolio known in omega (arith, is, long);
    };
  })
  takes_meanings op.InterStart is = record { known = tt; taken = record { count = refl } }
  takes_meanings (op.InterLoad c) is = rw (meaning-before_load t holdings c) (record {
    known = is;
    taken = record {
      count = refl;
      states = tt;
      months = tt;
      scan = tt;
      among = let long = length_partly c (omega (arith, is)) in omega (arith, long, is);
      not_loaded = not_loaded c is;
      unspread = unspread c;
      price2_small = price2_at_small t holdings limits portfolio known c;
    };
  })
  takes_meanings (op.InterSpread j) is = rw (meaning-before_inter t holdings j) (record {
    known = is;
    taken = record { count = refl; states = tt; among = legs_among j is };
  })
  takes_meanings op.TotalStart is = record { known = tt; taken = record { count = refl } }
  takes_meanings (op.TotalAdd c) is = rw (meaning-before_total t holdings c) (record {
    known = is;
    taken = record { count = refl; total = tt; figures = tt; small = next_total_is_money t holdings c limits portfolio known is };
  })
  takes_meanings (op.NetValue c) is = record { known = is; taken = record { count = refl; held = tt } }
  takes_meanings op.ValueStart is = record { known = tt; taken = record { count = refl } }
  takes_meanings (op.ValueAdd c) is = rw (meaning-before_value t holdings c) (record {
    known = is;
    taken = record { count = refl; premium = tt; amount = tt; small = next_value_is_money t holdings c limits portfolio known is };
  })
