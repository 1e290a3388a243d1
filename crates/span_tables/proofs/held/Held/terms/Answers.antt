use Rattle.std.proofs.Common.{arith, get_or}
use Rattle.std.proofs.lemmas.List.{get_or_default}
use Rattle.span_tables.specs.near.Terms.{AreTermsOf}
use Rattle.span_tables.proofs.HeldLemmas.{held_len, of_contract, place_known, terms_kept, nothing}
use Rattle.span_tables.proofs.held.Held.terms.Goals as goal

pub bounds-self-inside-place : goal.bounds-self-inside-place
bounds-self-inside-place c = let long = held_len _ _ _ c.self.view_is c.self.invariant in omega (arith, long, c.requires)

pub offset_bounds-self-inside-place : goal.offset_bounds-self-inside-place
offset_bounds-self-inside-place c =
    let long = held_len _ _ _ c.self.view_is c.self.invariant in record { fits = omega (arith, long, c.requires, c.self.told) }

pub terms-requires : goal.terms-requires
terms-requires c =
    let hs = c.self.inside.holdings.now in
    let long = held_len _ _ _ c.self.view_is c.self.invariant in
    let h = get_or hs c.args.place nothing in
    let at = get_or_default hs c.args.place nothing h (omega (arith, long, c.requires)) in
    place_known _ _ _ c.self.view_is c.self.invariant c.args.place c.requires h at

pub returns-clause-value : goal.returns-clause-value
returns-clause-value c =
    let hs = c.self.inside.holdings.now in
    let long = held_len _ _ _ c.self.view_is c.self.invariant in
    let h = get_or hs c.args.place nothing in
    let at = get_or_default hs c.args.place nothing h (omega (arith, long, c.requires)) in
    of_contract _ _ _ c.self.view_is c.self.invariant c.args.place c.requires (λ x. AreTermsOf x c.terms.result.now) h at c.terms.ensures

pub returns-clause-in_range : goal.returns-clause-in_range
returns-clause-in_range c =
    let hs = c.self.inside.holdings.now in
    let long = held_len _ _ _ c.self.view_is c.self.invariant in
    let h = get_or hs c.args.place nothing in
    let at = get_or_default hs c.args.place nothing h (omega (arith, long, c.requires)) in
    terms_kept _ _ _ c.self.view_is c.self.invariant c.args.place c.requires c.terms.result.now h at c.terms.ensures
