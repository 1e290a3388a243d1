use Rattle.std.proofs.Common.{arith, length, subst}
use Rattle.std.proofs.lemmas.List.{drop-map, length-drop, take_rest}
use Rattle.session.specs.Requests.{texts_of}
use Rattle.session.specs.near.FieldTests.{AreTrades}
use Rattle.session.specs.declared.requests.Word.TheVariants as word
use Rattle.session.proofs.FormLemmas.{trades_behind_names}
use Rattle.session.proofs.TradeLemmas.{enough}
use Rattle.session.proofs.requests.request_for.Goals as goal

pub trades_of-requires : goal.trades_of-requires
trades_of-requires c =
    let fields = c.args.fields.now in
    let few = enough 2 (length fields) (rw c.in-Try-len3-up.is-0 at c.requires.count) in
    rw (take_rest fields 3) (record {
      trades = subst AreTrades (drop-map (λ field. field.now) 3 fields)
          (trades_behind_names word.Try (texts_of fields) (rw c.in-Try-len3-up.is-0 at c.requires.free));
      some = omega (arith, length-drop 3 fields, few);
    })

pub trades_of-requires-in-Fill-len2-up : goal.trades_of-requires-in-Fill-len2-up
trades_of-requires-in-Fill-len2-up c =
    let fields = c.args.fields.now in
    let few = enough 1 (length fields) (rw c.in-Fill-len2-up.is-0 at c.requires.count) in
    rw (take_rest fields 2) (record {
      trades = subst AreTrades (drop-map (λ field. field.now) 2 fields)
          (trades_behind_names word.Fill (texts_of fields) (rw c.in-Fill-len2-up.is-0 at c.requires.free));
      some = omega (arith, length-drop 2 fields, few);
    })
