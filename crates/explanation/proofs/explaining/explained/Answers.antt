use Rattle.std.proofs.Common.{length, Ok, Err, sym, ap, ◌∙◌, inr}
use Rattle.std.specs.Arc.{arc_value}
use Rattle.std.specs.Option.{option_copied}
use Rattle.std.specs.Prelude.{bytes_eq, find}
use Rattle.statement_text.specs.Gives.{is_memory}
use Rattle.explanation.specs.Explanation.{explained, named_text}
use Rattle.explanation.proofs.FileLemmas.{found_fits}
use Rattle.explanation.proofs.explaining.explained.Goals as goal

pub lines_of-requires : goal.lines_of-requires
lines_of-requires c =
    let name = c.in-Some.name.now in
    found_fits (length (arc_value c.args.set.now).tables.contracts) name c.args.portfolios c.in-Some-portfolio_of.portfolio
    (ap (λ ps. find (λ q. bytes_eq q.account name) ps) (sym c.into_vec-portfolios.ensures) ∙ sym c.portfolio_of.ensures
    ∙ c.in-Some-portfolio_of.is) c.requires

pub returns-in_ok-lines_of-in-Some-portfolio_of : goal.returns-in_ok-lines_of-in-Some-portfolio_of
returns-in_ok-lines_of-in-Some-portfolio_of c =
    let t = (arc_value c.args.set.now).tables in
    let name = c.in-Some.name.now in
    ap (λ a. explained t c.args.portfolios (option_copied a)) c.in-Some.is
    ∙ ap (named_text t name)
    (ap (λ ps. find (λ q. bytes_eq q.account name) ps) (sym c.into_vec-portfolios.ensures) ∙ sym c.portfolio_of.ensures
    ∙ c.in-Some-portfolio_of.is)
    ∙ ap Ok (sym c.in_ok-lines_of-in-Some-portfolio_of.ensures)

pub returns-in-None : goal.returns-in-None
returns-in-None c =
    let t = (arc_value c.args.set.now).tables in
    let name = c.in-Some.name.now in
    inr (
      ap is_memory c.unknown.ensures,
      ap (λ a. explained t c.args.portfolios (option_copied a)) c.in-Some.is
          ∙ ap (named_text t name)
          (ap (λ ps. find (λ q. bytes_eq q.account name) ps) (sym c.into_vec-portfolios.ensures) ∙ sym c.portfolio_of.ensures
          ∙ c.in-None.is)
          ∙ ap Err (sym c.unknown.ensures),
    )
