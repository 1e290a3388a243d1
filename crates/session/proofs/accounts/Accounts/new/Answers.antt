use Rattle.std.proofs.Common.{◌∙◌, ◌++◌, ap, sym}
use Rattle.session.proofs.AccountLemmas.{put-next}
use Rattle.session.proofs.accounts.Accounts.new.Goals as goal

pub loop-portfolio-preserved : goal.loop-portfolio-preserved
loop-portfolio-preserved c =
    let left = c.next.new.self.rest.items in
    ap (λ done. done ++ left) c.in_ok-put.ensures.put
    ∙ put-next c.loop-portfolio.accounts c.in-Some.portfolio left c.args.portfolios c.requires
    (ap (λ rest. c.loop-portfolio.accounts ++ rest) (sym c.in-Some.ensures.steps.0) ∙ c.loop-portfolio.invariant)
