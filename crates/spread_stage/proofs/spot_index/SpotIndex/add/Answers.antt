use Rattle.std.proofs.Common.{◌*◌, ◌^◌, ◌%◌, ◌∙◌, ℕ, ap, arith, bit_or, get_or, refl, set, sym}
use Rattle.std.specs.Int.{bit_at, w16}
use Rattle.std.proofs.lemmas.List.{get_or-set_same}
use Rattle.std.proofs.lemmas.Nat.Bits.{bit_at_set_same}
use Rattle.span_tables.proofs.LegIndexLemmas.{left_word}
use Rattle.spread_stage.proofs.SpotLemmas.{spots_kept}
use Rattle.spread_stage.proofs.spot_index.SpotIndex.add.Goals as goal

pub returns-clause-added : goal.returns-clause-added
returns-clause-added c =
    let slots = c.args.self.now.slots in
    let slot = c.slot_of.result in
    let word : ℕ = bit_or (get_or slots slot 0) (1 * 2 ^ c.args.number % 65536) in
    ap (λ k. bit_at (get_or (set slots slot word) k 0) c.args.number) (sym c.slot_of.ensures.slot)
    ∙ ap (λ w. bit_at w c.args.number) (get_or-set_same slots slot word 0 (omega (arith, c.slot_of.ensures.small)))
    ∙ bit_at_set_same w16 (get_or slots slot 0) c.args.number (omega (arith, c.requires))

pub returns-clause-kept : goal.returns-clause-kept
returns-clause-kept c =
    spots_kept c.args.self.now _ c.slot_of.result _ (omega (arith, c.slot_of.ensures.small)) refl
    (left_word (get_or c.args.self.now.slots c.slot_of.result 0) (1 * 2 ^ c.args.number % 65536))
