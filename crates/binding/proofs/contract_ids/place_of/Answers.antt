use Rattle.std.proofs.Common.{◌∙◌, None}
use Rattle.std.specs.Prelude.{bytes_eq}
use Rattle.span_tables.proofs.Places.{position_or_length}
use Rattle.binding.proofs.contract_ids.place_of.Goals as goal

pub returns-in-None : goal.returns-in-None
returns-in-None c =
    c.len.ensures.len
    ∙ position_or_length (bytes_eq c.args.contract.now) c.args.numbers.now.keys None c.in-None.ensures.index
