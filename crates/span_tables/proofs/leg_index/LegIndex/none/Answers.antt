use Rattle.std.proofs.Common.{◌≡◌, ◌∙◌, ◌%◌, arith}
use Rattle.std.proofs.lemmas.List.{get_or-replicate}
use Rattle.span_money.specs.declared.bits.TheConstants.{BITS}
use Rattle.span_tables.specs.near.LegIndex.{no_words}
use Rattle.span_tables.proofs.leg_index.LegIndex.none.Goals as goal

pub returns : goal.returns
returns c number =
    let e = c.default.ensures in
    let same : c.default.result ≡ no_words =
    λ i. record { first = record { a = e.0.0 i; b = e.0.1 i }; last = record { a = e.1.0 i; b = e.1.1 i } } in
    get_or-replicate BITS (number % BITS) c.default.result no_words (omega arith) ∙ same
