use Rattle.std.proofs.Common.{◌∙◌, None}
use Rattle.std.specs.Prelude.{bytes_eq}
use Rattle.span_tables.proofs.Places.{position_or_length}
use Rattle.span_csv.proofs.together.place_of.Goals as goal

pub returns-in-None : goal.returns-in-None
returns-in-None c =
    c.len.ensures.len
    ∙ position_or_length (bytes_eq c.args.name.now) c.args.accounts.now.keys None c.in-None.ensures.index
