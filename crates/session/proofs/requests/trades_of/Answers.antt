use Rattle.std.proofs.Common.{◌∙◌, arith, subst, sym}
use Rattle.std.proofs.lemmas.List.{length-map, take_rest}
use Rattle.session.specs.Requests.{AreTradable, texts_of}
use Rattle.session.proofs.FieldLemmas.{few_trades, push_trade, trades_behind}
use Rattle.session.proofs.TradeLemmas.{tradable}
use Rattle.session.proofs.requests.trades_of.Goals as goal

pub loop-left-preserved : goal.loop-left-preserved
loop-left-preserved c =
    let left = c.loop-left.left.now in
    rw (take_rest left 2) (record {
      are = trades_behind left c.in-len2-up.len_at_least c.loop-left.invariant.are;
      same = rw c.in_ok-push.ensures.items
          (push_trade c.loop-left.trades.items left _ _ c.in-len2-up.len_at_least c.trade_of.ensures ∙ c.loop-left.invariant.same);
    })

pub returns-clause-value : goal.returns-clause-value
returns-clause-value c = few_trades c.loop-left.left.now c.loop-left.trades.items c.in_default.len_below ∙ c.loop-left.invariant.same

pub returns-clause-tradable : goal.returns-clause-tradable
returns-clause-tradable c =
    let fields = c.args.fields.now in
    subst AreTradable (sym (returns-clause-value c))
    (tradable (texts_of fields) c.requires.trades (omega (arith, length-map fields (λ field. field.now), c.requires.some)))
