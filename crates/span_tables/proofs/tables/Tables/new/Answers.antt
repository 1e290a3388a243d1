use Rattle.std.proofs.Common.{◌≡◌, ap, subst, sym, ◌∙◌, IfOk}
use Rattle.span_tables.specs.Tables.{AcceptedTables, set_in}
use Rattle.span_tables.proofs.WithinLimits.{readable}
use Rattle.span_tables.proofs.TablesMade.{accepted_as}
use Rattle.span_tables.proofs.tables.Tables.new.Goals as goal

pub set_record-set-requires : goal.set_record-set-requires
set_record-set-requires c = rw c.records.ensures.value (readable c.args.raw c.records.ensures.readable).begins

pub with_numbers-requires : goal.with_numbers-requires
with_numbers-requires c =
    let first = ap set_in (sym c.records.ensures.value) ∙ c.set_record-set.ensures in
    let same = rw c.into_records.ensures.value at c.in_ok-kinds.ensures _ first in
    accepted_as _ c.args.raw same c.records.ensures.readable c.requires

pub returns : goal.returns
returns c =
    let first = ap set_in (sym c.records.ensures.value) ∙ c.set_record-set.ensures in
    let same = rw c.into_records.ensures.value at c.in_ok-kinds.ensures _ first in
    subst (λ (t : AcceptedTables). IfOk c.with_numbers.result (λ tables. tables ≡ t)) same c.with_numbers.ensures
