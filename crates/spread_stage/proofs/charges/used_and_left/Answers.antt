use Rattle.std.proofs.Common.{◌≡◌, ap, arith, nat_abs, rules, ◌∙◌}
use Rattle.spread_stage.proofs.BesideLemmas.{left_at, length-rests, whole_at}
use Rattle.spread_stage.proofs.SizeLemmas.{left_le, units_at_le}
use Rattle.spread_stage.proofs.charges.used_and_left.Goals as goal

pub returns-then-not-is_at-clause-left : goal.returns-then-not-is_at-clause-left
returns-then-not-is_at-clause-left c =
    let none = ap nat_abs (c.is_at.ensures.none c.if-not-is_at.true) in
    let le = left_le c.args.months.now c.args.rests.now c.args.month c.requires.shrinks in omega (arith, none, le)

pub bounds-rests-first : goal.bounds-rests-first
bounds-rests-first c =
    let long = length-rests c.args.months.now c.args.rests.now c.requires.shrinks in
    let within = c.is_at.ensures.within c.if-not-is_at.false in omega (arith, long, within)

pub bounds-rests-first-else-not-is_at : goal.bounds-rests-first-else-not-is_at
bounds-rests-first-else-not-is_at c =
    let long = length-rests c.args.months.now c.args.rests.now c.requires.shrinks in
    let within = c.is_at.ensures.within c.if-not-is_at.false in omega (arith, long, within)

pub returns-clause-left : goal.returns-clause-left
returns-clause-left c =
    let size : c.unsigned_abs-left.result ≡ nat_abs c.get.result = search rules in
    left_at c.args.months.now c.args.rests.now c.requires.months.rise c.requires.shrinks c.args.first c.args.month
    (c.is_at.ensures.within c.if-not-is_at.false) (c.is_at.ensures.at c.if-not-is_at.false) c.unsigned_abs-left.result
    c.index-rests-first.result (size ∙ ap nat_abs c.get.ensures)

pub overflow_sub-result : goal.overflow_sub-result
overflow_sub-result c =
    let left = returns-clause-left c in
    let size : c.unsigned_abs-whole.result ≡ nat_abs c.get-2.result = search rules in
    let whole = whole_at c.args.months.now c.args.rests.now c.requires.months.rise c.requires.shrinks c.args.first c.args.month
    (c.is_at.ensures.within c.if-not-is_at.false) (c.is_at.ensures.at c.if-not-is_at.false) c.unsigned_abs-whole.result
    c.index-months-first.result (size ∙ ap nat_abs c.get-2.ensures) in
    let le = left_le c.args.months.now c.args.rests.now c.args.month c.requires.shrinks in omega (arith, left, whole, le)

pub returns-clause-used : goal.returns-clause-used
returns-clause-used c =
    let left = returns-clause-left c in
    let size : c.unsigned_abs-whole.result ≡ nat_abs c.get-2.result = search rules in
    let whole = whole_at c.args.months.now c.args.rests.now c.requires.months.rise c.requires.shrinks c.args.first c.args.month
    (c.is_at.ensures.within c.if-not-is_at.false) (c.is_at.ensures.at c.if-not-is_at.false) c.unsigned_abs-whole.result
    c.index-months-first.result (size ∙ ap nat_abs c.get-2.ensures) in omega (arith, left, whole)

pub returns-clause-bound : goal.returns-clause-bound
returns-clause-bound c =
    let size : c.unsigned_abs-whole.result ≡ nat_abs c.get-2.result = search rules in
    let whole = whole_at c.args.months.now c.args.rests.now c.requires.months.rise c.requires.shrinks c.args.first c.args.month
    (c.is_at.ensures.within c.if-not-is_at.false) (c.is_at.ensures.at c.if-not-is_at.false) c.unsigned_abs-whole.result
    c.index-months-first.result (size ∙ ap nat_abs c.get-2.ensures) in
    let le = overflow_sub-result c in
    let most = units_at_le c.args.months.now c.args.month in
    let small = c.requires.months.small in omega (arith, whole, le, most, small)
