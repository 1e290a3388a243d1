use Rattle.std.proofs.Common.{◌≡◌, ℕ, ◌+◌, List, [], ◌∷◌, ◌++◌, length, map, take, sym, ap, ◌∙◌, arith, flat_map, min}
use Rattle.std.specs.List.{zip}
use Rattle.std.proofs.lemmas.List.{length-append, take_all}
use Rattle.std.proofs.lemmas.Slice.Zip.{length-zip, zip_end, zip_turn}
use Rattle.reasons.specs.Reasons.{inter_reason}
use Rattle.reasons.specs.near.Fields.{reasons_text}
use Rattle.reasons.specs.declared.shown.ShownInter.{ShownInter}
use Rattle.reasons.proofs.FormedLemmas.{inters_shown-zip, ways_in, ways_more}
use Rattle.reasons.proofs.ReasonLineLemmas.{lines-of-append}
use Rattle.reasons.proofs.commodities.push_inters.Goals as goal

pub loop-inter-preserved : goal.loop-inter-preserved
loop-inter-preserved c =
    let n = c.args.commodity in
    let spreads = c.args.inters.now in
    let formed = c.args.formed.now in
    let out = c.args.out.now.items in
    let ids = c.args.ids.now in
    let i = length c.loop-inter.yielded in
    let s = c.in-Some.inter.now in
    let f = c.in-Some.ways.now in
    let turn = zip_turn spreads formed c.loop-inter.yielded c.into_iter-inter-iterator.result
    c.loop-inter.inter-iterator c.next.new.self c.next.result (cc) (cc) c.loop-inter.yielded_by
    (c.in-Some.inter, c.in-Some.ways) c.in-Some.is c.next.ensures.steps in
    let long : length (c.loop-inter.yielded ++ (c.in-Some.inter, c.in-Some.ways) ∷ []) ≡ i + 1 = length-append _ _ in
    let lines : List ShownInter → List ℕ = λ xs. reasons_text ids (map inter_reason xs) in
    c.in_ok-push_inter_ways.ensures ∙ ap (λ o. o ++ lines (ways_in n (s, f))) c.loop-inter.invariant
    ∙ lines-of-append inter_reason ids out (flat_map (ways_in n) (take i (zip spreads formed))) (ways_in n (s, f))
    ∙ ap (λ xs. out ++ lines xs) (ways_more n spreads formed i s f turn.0 turn.1 (turn.2 s) (turn.3 f))
    ∙ ap (λ k. out ++ lines (flat_map (ways_in n) (take k (zip spreads formed)))) (sym long)

pub returns : goal.returns
returns c = λ all is.
    let n = c.args.commodity in
    let spreads = c.args.inters.now in
    let formed = c.args.formed.now in
    let i = length c.loop-inter.yielded in
    let pairs = zip spreads formed in
    let end : i ≡ min (length spreads) (length formed) =
    zip_end spreads formed c.loop-inter.yielded c.into_iter-inter-iterator.result c.loop-inter.inter-iterator
    c.next.new.self c.next.result (cc) (cc) c.loop-inter.yielded_by c.in-None.is c.next.ensures.steps in
    let whole : take i pairs ≡ pairs = take_all i pairs (omega (arith, end, length-zip spreads formed)) in
    c.loop-inter.invariant
    ∙ ap (λ xs. c.args.out.now.items ++ reasons_text c.args.ids.now (map inter_reason xs))
    (ap (flat_map (ways_in n)) whole ∙ ap (λ fs. flat_map (ways_in n) (zip spreads fs)) is
    ∙ inters_shown-zip n spreads all)
