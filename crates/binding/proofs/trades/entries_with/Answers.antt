use Rattle.std.proofs.Common.{◌∙◌, ◌+◌, ◌++◌, ◌∷◌, [], Some, ap, append_assoc, false, refl, map, sym, take}
use Rattle.std.specs.Prelude.{option_map}
use Rattle.std.specs.List.{list_any}
use Rattle.std.proofs.lemmas.Bool.{or_from}
use Rattle.std.proofs.lemmas.List.{map-append, take_more}
use Rattle.std.proofs.lemmas.List.Folds.{list_any-append}
use Rattle.binding.specs.Trades.{booked}
use Rattle.binding.specs.near.Ledgers.{held_entries}
use Rattle.binding.specs.near.Trades.{is_unlisted, trade_entry}
use Rattle.binding.specs.declared.faults.BindFault.TheVariants as bind
use Rattle.binding.proofs.LedgerLaws.{foreign_from_none, known_from_some}
use Rattle.binding.proofs.UnfitLaws.{position_at}
use Rattle.binding.proofs.trades.entries_with.Goals as goal

pub returns-in_default-clause-unknown : goal.returns-in_default-clause-unknown
returns-in_default-clause-unknown c =
    let ids = c.args.numbers.now.keys in
    let trade = c.index-trades-number.result in
    ap (option_map (λ i. bind.UnknownContract (i + 1) c.args.account.now))
    (position_at (is_unlisted ids) c.args.trades.now c.loop-number.number trade c.loop-number-test.true c.loop-number.invariant.known
    (ap (is_unlisted ids) (sym c.index-trades-number.is) ∙ foreign_from_none ids (booked [] trade) c.in_default.ensures.entry))
    ∙ (λ i. Some (bind.UnknownContract (c.loop-number.number + 1) (sym c.copied.ensures i)))

pub loop-number-preserved : goal.loop-number-preserved
loop-number-preserved c =
    let ids = c.args.numbers.now.keys in
    let trades = c.args.trades.now in
    let i = c.loop-number.number in
    let trade = c.index-trades-number.result in
    let lt = c.loop-number-test.true in
    let here = known_from_some ids (booked [] trade) c.in-Some.entry c.in-Some.ensures.entry in
    let next = take_more trades i trade lt ∙ ap (λ t. take i trades ++ t ∷ []) (sym c.index-trades-number.is) in
    record {
      entries =
          c.in_ok-push.ensures
          ∙ (λ k. c.loop-number.invariant.entries k ++ here.1 k ∷ [])
          ∙ append_assoc (held_entries c.args.held.now) (map (trade_entry ids) (take i trades)) (trade_entry ids trade ∷ [])
          ∙ ap (λ es. held_entries c.args.held.now ++ es) (sym (map-append (trade_entry ids) (take i trades) (trade ∷ [])))
          ∙ ap (λ ts. held_entries c.args.held.now ++ map (trade_entry ids) ts) (sym next);
      known =
          ap (list_any (is_unlisted ids)) next ∙ list_any-append (is_unlisted ids) (take i trades) (trade ∷ [])
          ∙ or_from _ _ c.loop-number.invariant.known (or_from (is_unlisted ids trade) false here.0 refl);
    }
