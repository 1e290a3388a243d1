use Rattle.std.proofs.Common.{◌∙◌, ◌==◌}
use Rattle.span_csv.proofs.CutPlaces.{found_any}
use Rattle.span_csv.proofs.cuts.has_quote.Goals as goal

pub returns : goal.returns
returns c = c.is_some.ensures ∙ found_any (λ b. b == 34) c.args.bytes.now c.memchr.result c.memchr.ensures
