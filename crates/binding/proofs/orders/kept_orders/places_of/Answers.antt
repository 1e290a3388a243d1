use Rattle.std.proofs.Common.{◌∙◌, ap, sym, cond, None, Some, take}
use Rattle.std.specs.Prelude.{bytes_eq}
use Rattle.std.specs.Option.{option_or}
use Rattle.binding.specs.near.Orders.{place_among}
use Rattle.binding.proofs.KeptOrderLaws.{place_push}
use Rattle.binding.proofs.orders.kept_orders.places_of.Goals as goal

pub loop-place-preserved : goal.loop-place-preserved
loop-place-preserved c = λ name.
    let portfolios = c.args.portfolios.now in
    let i = c.loop-place.place in
    c.in_ok-place_first.ensures name
    ∙ ap (λ o. option_or o (cond (bytes_eq c.account.result.now name) (Some i) None)) (c.loop-place.invariant name)
    ∙ ap (λ a. option_or (place_among (take i portfolios) name) (cond (bytes_eq a name) (Some i) None)) c.account.ensures
    ∙ sym (place_push portfolios i c.index-portfolios-place.result c.loop-place-test.true c.index-portfolios-place.is name)
