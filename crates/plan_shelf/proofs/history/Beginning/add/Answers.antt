use Rattle.std.proofs.Common.{sym, ◌∙◌, ap}
use Rattle.plan_shelf.proofs.HistoryLemmas.{adds-moves}
use Rattle.plan_shelf.proofs.history.Beginning.add.Goals as goal

pub compare_exchange-found-requires : goal.compare_exchange-found-requires
compare_exchange-found-requires g c =
    let counter = c.args.counter.now.of_shelf in
    let offer = c.plain-offer.ensures in
    let pen = c.no_pen-pen.ensures in
    let book = c.self.invariant.1 ∙ sym (ap (λ w. w.book) counter) in (
      ap (λ w. w.tracked) counter,
      book,
      pen.0 ∙ book,
      offer.0,
      rw (ap (λ w. w.key) counter, pen.1, offer.1, offer.3)
          (adds-moves c.self.inside.seen.log c.args.set.now c.self.inside.count (sym c.self.invariant.0)),
    )
