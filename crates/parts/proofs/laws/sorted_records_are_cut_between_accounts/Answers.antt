use Rattle.span_tables.specs.declared.records.PositionRecord.{PositionRecord}
use Rattle.parts.proofs.PartListLemmas.{parts_by_cuts, sorted_cut}
use Rattle.parts.proofs.laws.sorted_records_are_cut_between_accounts.Goals as goal

pub returns-clause-cut : goal.returns-clause-cut
returns-clause-cut c = sorted_cut (λ (p : PositionRecord). p.account)

pub returns-clause-all : goal.returns-clause-all
returns-clause-all c = parts_by_cuts
