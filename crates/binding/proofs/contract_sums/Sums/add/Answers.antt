use Rattle.std.proofs.Common.{◌≡◌, ◌<◌, ◌≤◌, ◌/◌, ◌∙◌, ap, sym, subst, get_or, set, length, arith, rules, SFits, pos, ℤ, ◌+ℤ◌, to_z, of_z}
use Rattle.std.specs.Int.{w32, w128}
use Rattle.std.proofs.lemmas.Int.{to_z-of_z}
use Rattle.std.proofs.lemmas.List.{set_past, length-set, get_or_default}
use Rattle.binding.specs.near.Sums.{sums_of, AreMarks}
use Rattle.binding.proofs.MarkLaws.{long_as, sums_set, mark_set, marks_more}
use Rattle.binding.proofs.contract_sums.Sums.add.Goals as goal

pub returns-then-number-len : goal.returns-then-number-len
returns-then-number-len c =
    let long = long_as c.self.inside.marks.items c.self.inside.places.items c.self.view_is in
    let past : length c.args.self.now ≤ c.args.number =
    omega (arith, c.if-number-len.true, c.len.ensures, long, c.self.inside.places.ok.0) in
    sym (set_past c.args.self.now c.args.number _ past)

pub at-requires : goal.at-requires
at-requires c =
    let long = long_as c.self.inside.marks.items c.self.inside.places.items c.self.view_is in
    omega (arith, c.if-number-len.false, c.len.ensures, long, c.self.inside.places.ok.0)

pub invariant_of-self : goal.invariant_of-self
invariant_of-self c =
    let marks = c.self.inside.marks.items in
    let places = c.self.inside.places.items in
    let h : c.args.number < length places = omega (arith, c.if-number-len.false, c.len.ensures, c.self.inside.places.ok.0) in
    let word : c.args.number / 64 < length marks = omega (arith, h, c.self.invariant.room) in
    let size = length-set places c.args.number _ in
    subst (AreMarks _) (sym size) (marks_more marks c.args.number c.index_mut.result.now (length places) h word
    (c.index_mut.ensures.value ∙ get_or_default marks (c.args.number / 64) _ 0 word) c.self.invariant)

pub returns : goal.returns
returns c =
    let marks = c.self.inside.marks.items in
    let places = c.self.inside.places.items in
    let h : c.args.number < length places = omega (arith, c.if-number-len.false, c.len.ensures, c.self.inside.places.ok.0) in
    let word : c.args.number / 64 < length marks = omega (arith, h, c.self.invariant.room) in
    let n : ℤ = c.plus-sum.result in
    let fits : SFits w128 n = search rules in
    let before : ℤ = c.at.result in
    let before_fits : SFits w128 before = search rules in
    let more : ℤ = c.args.quantity in
    let more_fits : SFits w32 more = search rules in
    let amount : n ≡ get_or c.args.self.now c.args.number (pos 0) +ℤ more =
    c.plus-sum.ensures ∙ ap (λ z. z +ℤ to_z w32 (of_z w32 more)) (to_z-of_z w128 before before_fits)
    ∙ ap (λ z. before +ℤ z) (to_z-of_z w32 more more_fits)
    ∙ ap (λ z. z +ℤ more) c.at.ensures in
    sums_set marks _ places c.args.number _ h
    (mark_set marks c.args.number c.index_mut.result.now word
    (c.index_mut.ensures.value ∙ get_or_default marks (c.args.number / 64) _ 0 word))
    ∙ ap (set (sums_of marks places) c.args.number) (to_z-of_z w128 n fits ∙ amount)
    ∙ ap (λ ss. set ss c.args.number (get_or c.args.self.now c.args.number (pos 0) +ℤ c.args.quantity)) c.self.view_is
