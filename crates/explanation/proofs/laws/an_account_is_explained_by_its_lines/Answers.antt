use Rattle.std.specs.Prelude.{bytes_eq}
use Rattle.std.proofs.lemmas.List.Elements.{All-from_recursion}
use Rattle.span_tables.specs.Net.{AccountHoldings}
use Rattle.reasons.proofs.SmallLaws.{found_is}
use Rattle.explanation.specs.Explanation.{account_lines}
use Rattle.explanation.proofs.AcceptedLemmas.{accounts_named, tables_read}
use Rattle.explanation.proofs.FileLemmas.{account_explained, account_unknown}
use Rattle.explanation.proofs.PlainLemmas.{account_plain}
use Rattle.explanation.proofs.ReadLemmas.{IsBetween, lines_are_read}
use Rattle.explanation.proofs.laws.an_account_is_explained_by_its_lines.Goals as goal

pub returns-clause-one : goal.returns-clause-one
returns-clause-one c = account_explained

pub returns-clause-read : goal.returns-clause-read
returns-clause-read c params positions name t records portfolios p a q b found =
    let named = (tables_read params t a).named in
    let account : IsBetween p.account =
    found_is (λ (x : AccountHoldings). IsBetween x.account) (λ x. bytes_eq x.account name) portfolios p found
    (All-from_recursion (λ (x : AccountHoldings). IsBetween x.account) portfolios (accounts_named t positions records portfolios q b)) in
    lines_are_read (account_lines t p) (account_plain t named p account)

pub returns-clause-none : goal.returns-clause-none
returns-clause-none c = account_unknown
