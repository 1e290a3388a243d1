use Rattle.std.proofs.Common.{◌∙◌, ap, sym}
use Rattle.std.proofs.lemmas.Slice.Eq.{bytes_eq-Decides}
use Rattle.span_tables.specs.Accepted.{commodity_number}
use Rattle.span_tables.specs.declared.records.Commodity.{Commodity}
use Rattle.span_tables.proofs.Places.{place_at}
use Rattle.span_tables.proofs.groups.number_near.Goals as goal

pub returns-then-eq : goal.returns-then-eq
returns-then-eq c =
    let read = c.in-Some.ensures.lookup in
    let commodities = c.args.commodities.now in
    let here = c.in-Some.commodity.now in
    let id = c.args.id.now in
    let same = (bytes_eq-Decides here.id id).0 (sym c.eq.ensures ∙ c.if-eq.true) in
    sym (place_at (λ (x : Commodity). x.id) commodities c.args.near here c.requires (read.3).0)
    ∙ ap (commodity_number commodities) (ap (λ (x : Commodity). x.id) (sym read.1) ∙ same)
