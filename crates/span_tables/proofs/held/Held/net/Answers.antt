use Rattle.std.proofs.Common.{◌≡◌, arith, get_or, subst, sym, of_z, to_z, w64, nat_abs, slice_get, IfSome, ◌≤◌}
use Rattle.std.proofs.lemmas.Int.{ints}
use Rattle.std.proofs.lemmas.List.{get_or_default}
use Rattle.span_tables.specs.declared.limits.TheConstants.{MAX_NET}
use Rattle.span_tables.proofs.HeldLemmas.{held_len, net_kept, net_told, nothing}
use Rattle.span_tables.proofs.held.Held.net.Goals as goal

pub bounds-holdings-place : goal.bounds-holdings-place
bounds-holdings-place c = let long = held_len _ _ _ c.self.view_is c.self.invariant in omega (arith, long, c.requires)

pub offset_bounds-holdings-place : goal.offset_bounds-holdings-place
offset_bounds-holdings-place c =
    let long = held_len _ _ _ c.self.view_is c.self.invariant in record { fits = omega (arith, long, c.requires, c.self.told) }

pub returns-clause-value : goal.returns-clause-value
returns-clause-value c =
    let hs = c.self.inside.holdings.now in
    let long = held_len _ _ _ c.self.view_is c.self.invariant in
    let h = get_or hs c.args.place nothing in
    let at = get_or_default hs c.args.place nothing h (omega (arith, long, c.requires)) in
    let kept = net_kept _ _ _ c.self.view_is c.self.invariant c.args.place c.requires h at in
    let same : to_z w64 (of_z w64 c.from.result) ≡ h.net = omega (arith, ints, kept, c.from.ensures) in
    subst (λ n. IfSome (slice_get c.args.self.now c.args.place) (λ held. n ≡ held.net)) (sym same)
    (net_told _ _ _ c.self.view_is c.self.invariant c.args.place c.requires h at)

pub returns-clause-in_range : goal.returns-clause-in_range
returns-clause-in_range c =
    let hs = c.self.inside.holdings.now in
    let long = held_len _ _ _ c.self.view_is c.self.invariant in
    let h = get_or hs c.args.place nothing in
    let at = get_or_default hs c.args.place nothing h (omega (arith, long, c.requires)) in
    let kept = net_kept _ _ _ c.self.view_is c.self.invariant c.args.place c.requires h at in
    let same : to_z w64 (of_z w64 c.from.result) ≡ h.net = omega (arith, ints, kept, c.from.ensures) in
    subst (λ n. nat_abs n ≤ MAX_NET) (sym same) kept
