use Rattle.std.proofs.Common.{pos}
use Rattle.span_tables.specs.declared.records.PositionRecord.{PositionRecord}
use Rattle.parts.proofs.RearrangedLemmas.{accepted_rearranged, accounts_rearranged, lines_rearranged, statement_by_lines}
use Rattle.parts.proofs.SortedLemmas.{stable_by_key, stable_sort}
use Rattle.parts.proofs.laws.sorted_records_have_the_same_lines.Goals as goal

pub returns-clause-sorted : goal.returns-clause-sorted
returns-clause-sorted c = stable_sort (λ (p : PositionRecord). p.account)

pub returns-clause-stable : goal.returns-clause-stable
returns-clause-stable c ps sorted account stable =
    let one : PositionRecord = record { account = account; contract = account; quantity = pos 0 } in
    stable_by_key (λ (p : PositionRecord). p.account) ps sorted stable one

pub returns-clause-accounts : goal.returns-clause-accounts
returns-clause-accounts c = accounts_rearranged

pub returns-clause-lines : goal.returns-clause-lines
returns-clause-lines c t ps qs account same = λ i. lines_rearranged t ps qs same i account

pub returns-clause-accepted : goal.returns-clause-accepted
returns-clause-accepted c = accepted_rearranged

pub returns-clause-statement : goal.returns-clause-statement
returns-clause-statement c = statement_by_lines
