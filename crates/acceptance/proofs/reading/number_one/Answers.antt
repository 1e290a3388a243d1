use Rattle.std.proofs.Common.{◌∙◌, List, Option, ap, option_to_list, subst}
use Rattle.std.proofs.lemmas.List.{append-nil}
use Rattle.span_tables.specs.declared.records.PositionRecord.{PositionRecord}
use Rattle.span_csv.specs.near.Pieces.{records_together, HasAccounts}
use Rattle.acceptance.proofs.reading.number_one.Goals as goal

pub numbered-requires : goal.numbered-requires
numbered-requires c =
    let one = ap (λ (piece : Option (List PositionRecord)). records_together (option_to_list piece)) c.in-Some.is in
    subst (HasAccounts c.args.accounts.now) (one ∙ append-nil c.in-Some.piece) c.requires
