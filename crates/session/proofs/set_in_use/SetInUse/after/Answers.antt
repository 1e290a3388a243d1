use Rattle.std.proofs.Common.{◌∙◌, ap, sym}
use Rattle.binding.specs.near.Holdings.{ids_of}
use Rattle.session.proofs.AnswerLemmas.{traded_fits}
use Rattle.session.proofs.set_in_use.SetInUse.after.Goals as goal

pub returns-clause-fits : goal.returns-clause-fits
returns-clause-fits c =
    let contracts = c.args.self.now.tables.contracts in
    traded_fits contracts c.args.held.now c.args.account.now c.args.trades.now c.after.result (c.after.ensures.after contracts
    (ap (λ s. ids_of s.tables.contracts) (sym c.self.view_is) ∙ sym c.self.invariant.0.contracts))
