use Rattle.std.proofs.Common.{◌≡◌, ◌<◌, List, [], ◌∷◌, ◌++◌, get_or, length, ap, ◌∙◌, arith, map, sym, take}
use Rattle.std.proofs.lemmas.List.{map-append, take_more}
use Rattle.span_tables.specs.declared.contracts.Terms.{Terms}
use Rattle.span_tables.specs.near.Terms.{numbered_terms, terms_of}
use Rattle.span_tables.proofs.GroupLemmas.{number_within}
use Rattle.span_tables.proofs.contracts.all_terms.Goals as goal

pub numbered_terms-requires-clause-commodity : goal.numbered_terms-requires-clause-commodity
numbered_terms-requires-clause-commodity c =
    let within : c.number_near-number.result < length c.args.commodities.now =
    number_within (λ d. d.id) (λ x. x.commodity) c.args.commodities.now c.args.contracts.now _ _ _ c.requires.known
    c.loop-contract-test.true c.contract-item.is c.number_near-number.ensures in
    omega (arith, within, c.requires.few)

pub loop-contract-preserved : goal.loop-contract-preserved
loop-contract-preserved c =
    let x = c.contract-item.result in
    let f = terms_of c.args.commodities.now in
    let xs = c.args.contracts.now in
    let i = c.loop-contract.contract-index in
    let made : c.numbered_terms.result ≡ f (get_or xs i x) =
    c.numbered_terms.ensures ∙ ap (λ n. numbered_terms n x) c.number_near-number.ensures ∙ ap f c.contract-item.is in
    c.in_ok-push.ensures.items ∙ ap (λ (ys : List Terms). ys ++ c.numbered_terms.result ∷ []) c.loop-contract.invariant
    ∙ ap (λ (y : Terms). map f (take i xs) ++ y ∷ []) made
    ∙ sym (ap (map f) (take_more xs i x c.loop-contract-test.true) ∙ map-append f (take i xs) (get_or xs i x ∷ []))
