use Rattle.csv.specs.Records.{fields_of}
use Rattle.span_csv.proofs.FieldLemmas.{field_present, field_same}
use Rattle.span_csv.proofs.row.field.Goals as goal

pub unwrap-requires : goal.unwrap-requires
unwrap-requires c =
    let same = rw c.if-row.false at c.row.view_is in
    field_present c.get.result (fields_of c.row.inside.copied) c.args.i (rw (← same) at c.requires) c.get.ensures.value

pub returns-else-row : goal.returns-else-row
returns-else-row c =
    let same = rw c.if-row.false at c.row.view_is in
    rw (← same) (field_same c.get.result c.unwrap.result (fields_of c.row.inside.copied) c.args.i c.get.ensures.value c.unwrap.ensures)
