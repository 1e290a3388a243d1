use Rattle.std.proofs.Common.{◌≡◌, refl, sym, ◌∙◌, arith}
use Rattle.inter_credit.proofs.NothingFormed.{nothing_formed}
use Rattle.inter_credit.proofs.SpreadLemmas.{formed_have_room}
use Rattle.inter_credit.proofs.forming.form.Goals as goal

pub use_legs-requires-clause-room : goal.use_legs-requires-clause-room
use_legs-requires-clause-room c =
    formed_have_room _ c.args.direction c.args.spread.now c.args.states.now c.legs-legs.result.now c.spreads_formed-formed.result
    c.requires.spread refl c.legs-legs.ensures c.spreads_formed-formed.ensures

pub returns-else-formed-gt0-clause-value : goal.returns-else-formed-gt0-clause-value
returns-else-formed-gt0-clause-value c =
    let none : c.spreads_formed-formed.result ≡ 0 = omega (arith, c.if-formed-gt0.false) in
    sym (nothing_formed c.args.spread.now c.args.direction c.args.states.now
    (rw c.legs-legs.ensures at (sym c.spreads_formed-formed.ensures ∙ none)))
