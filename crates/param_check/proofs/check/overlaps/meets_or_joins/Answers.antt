use Rattle.std.proofs.Common.{◌≡◌, ◌∷◌, [], bytes_eq, None, refl, sym, arith}
use Rattle.indexmap.specs.IndexMap.{get}
use Rattle.param_check.proofs.OverlapLemmas.{begun}
use Rattle.param_check.proofs.check.overlaps.meets_or_joins.Goals as goal

pub returns-clause-joins : goal.returns-clause-joins
returns-clause-joins c = λ q.
    let up = c.in_ok-insert.ensures.updates.0 q in
    let old = c.get_mut.follows.holds-at-none in
    let one : c.push-2.new.self.items ≡ c.args.months ∷ [] = grind arith in
    let none : get bytes_eq c.args.tiers.now c.args.commodity.now ≡ None = sym c.in_default.ensures.value in
    let began = begun (λ v. v.items) (get bytes_eq c.args.tiers.now) c.args.commodity.now q c.push-2.new.self c.args.months one none
    (bytes_eq c.args.commodity.now q) refl in
    grind arith
