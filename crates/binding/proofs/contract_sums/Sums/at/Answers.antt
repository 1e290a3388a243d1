use Rattle.std.proofs.Common.{◌/◌, ◌<◌, ◌∙◌, ap, sym, get_or, length, arith, rules, SFits, pos, ℤ}
use Rattle.std.specs.Int.{w128}
use Rattle.std.proofs.lemmas.Int.{to_z-of_z}
use Rattle.std.proofs.lemmas.List.{get_or_default}
use Rattle.binding.proofs.MarkLaws.{long_as, sum_marked, sum_unmarked}
use Rattle.binding.proofs.contract_sums.Sums.at.Goals as goal

pub index-requires : goal.index-requires
index-requires c =
    let long = long_as c.self.inside.marks.items c.self.inside.places.items c.self.view_is in
    omega (arith, c.requires, long, c.self.invariant.room, c.self.inside.marks.ok.0)

pub index-requires-then-is_set : goal.index-requires-then-is_set
index-requires-then-is_set c =
    let long = long_as c.self.inside.marks.items c.self.inside.places.items c.self.view_is in
    omega (arith, c.requires, long, c.self.inside.places.ok.0)

pub returns-then-is_set : goal.returns-then-is_set
returns-then-is_set c =
    let marks = c.self.inside.marks.items in
    let places = c.self.inside.places.items in
    let h : c.args.number < length places = omega (arith, c.requires, long_as marks places c.self.view_is) in
    let n : ℤ = c.index-then-is_set.result.now in
    let fits : SFits w128 n = search rules in
    to_z-of_z w128 n fits
    ∙ sum_marked marks places c.args.number c.index.result.now n h
    (c.index.ensures ∙ get_or_default marks (c.args.number / 64) _ 0 (omega (arith, h, c.self.invariant.room)))
    (sym c.is_set.ensures ∙ c.if-is_set.true) (c.index-then-is_set.ensures ∙ get_or_default places c.args.number _ (pos 0) h)
    ∙ ap (λ ss. get_or ss c.args.number (pos 0)) c.self.view_is

pub returns-else-is_set : goal.returns-else-is_set
returns-else-is_set c =
    let marks = c.self.inside.marks.items in
    let places = c.self.inside.places.items in
    let word : c.args.number / 64 < length marks =
    omega (arith, c.requires, long_as marks places c.self.view_is, c.self.invariant.room) in
    sum_unmarked marks places c.args.number c.index.result.now (c.index.ensures ∙ get_or_default marks (c.args.number / 64) _ 0 word)
    (sym c.is_set.ensures ∙ c.if-is_set.false)
    ∙ ap (λ ss. get_or ss c.args.number (pos 0)) c.self.view_is
