-- The number of spreads that form, and what is shown of them, one record after another.
use Rattle.std.proofs.Common.{◌≡◌, ℕ, ◌+◌, ◌<◌, List, [], ◌∷◌, ◌++◌, length, take, get_or, refl, sym, ap, ◌∙◌}
use Rattle.std.proofs.Common.{append_assoc, arith, flat_map}
use Rattle.std.specs.List.{zip}
use Rattle.std.specs.Prelude.{fold}
use Rattle.std.proofs.lemmas.List.{append-nil, flat_map_more, take_more}
use Rattle.std.proofs.lemmas.List.Sums.{fold_more}
use Rattle.std.proofs.lemmas.Slice.Zip.{get_or-zip, length-zip}
use Rattle.span_tables.specs.declared.records.Inter.{Inter}
use Rattle.span_tables.specs.declared.records.Intra.{Intra}
use Rattle.span_tables.specs.declared.sides.SpreadsFormed.{SpreadsFormed}
use Rattle.spread_stage.specs.Spreads.{TierRests, spread_both_ways}
use Rattle.spread_stage.specs.Spreads as months
use Rattle.inter_credit.specs.Credits.{inter_both_ways}
use Rattle.inter_credit.specs.Credits as commodities
use Rattle.inter_credit.specs.declared.commodity_state.CommodityState.{CommodityState}
use Rattle.reasons.specs.Shown.{inter_ways, inters_shown, intra_ways, intras_shown, ratio_in}
use Rattle.reasons.specs.near.Stages.{inters_formed}
use Rattle.reasons.specs.declared.shown.ShownInter.{ShownInter}

-- one more step of a fold over a prefix of a list
pub fold_step : {S A : Type 0} (f : S → A → S) (start now next : S) (xs : List A) (i : ℕ) (x : A) → i < length xs
    → x ≡ get_or xs i x → next ≡ f now x → now ≡ fold f start (take i xs) → next ≡ fold f start (take (i + 1) xs)
fold_step f start now next xs i x lt at step so_far =
    step ∙ (λ k. f (so_far k) (at k)) ∙ sym (fold_more f start xs i x lt)

intras_shown-push : (spreads : List Intra) (s : Intra) (t : TierRests)
    → intras_shown (spreads ++ s ∷ []) t
    ≡ intras_shown spreads t ++ intra_ways s (months.formed_both (fold spread_both_ways t spreads) s)
intras_shown-push [] s t = append-nil (intra_ways s (months.formed_both t s))
intras_shown-push (x ∷ spreads) s t =
    let next = spread_both_ways t x in
    let first = intra_ways x (months.formed_both t x) in
    let last = intra_ways s (months.formed_both (fold spread_both_ways next spreads) s) in
    ap (λ others. first ++ others) (intras_shown-push spreads s next)
    ∙ sym (append_assoc first (intras_shown spreads next) last)

-- the spreads shown for a prefix of the list, extended by the next spread
pub intras_shown_more : (spreads : List Intra) (i : ℕ) (s : Intra) (t : TierRests) → i < length spreads
    → s ≡ get_or spreads i s
    → intras_shown (take i spreads) t ++ intra_ways s (months.formed_both (fold spread_both_ways t (take i spreads)) s)
    ≡ intras_shown (take (i + 1) spreads) t
intras_shown_more spreads i s t lt at =
    sym (intras_shown-push (take i spreads) s t)
    ∙ ap (λ x. intras_shown (take i spreads ++ x ∷ []) t) at
    ∙ ap (λ xs. intras_shown xs t) (sym (take_more spreads i s lt))

inters_formed-push : (spreads : List Inter) (s : Inter) (states : List CommodityState)
    → inters_formed (spreads ++ s ∷ []) states
    ≡ inters_formed spreads states ++ commodities.inter_formed_both (fold inter_both_ways states spreads) s ∷ []
inters_formed-push [] s states = refl
inters_formed-push (x ∷ spreads) s states =
    ap (λ fs. commodities.inter_formed_both states x ∷ fs) (inters_formed-push spreads s (inter_both_ways states x))

-- the numbers of spreads formed for a prefix of the list, extended by the next spread
pub inters_formed_more : (spreads : List Inter) (i : ℕ) (s : Inter) (states : List CommodityState) → i < length spreads
    → s ≡ get_or spreads i s
    → inters_formed (take i spreads) states ++ commodities.inter_formed_both (fold inter_both_ways states (take i spreads)) s ∷ []
    ≡ inters_formed (take (i + 1) spreads) states
inters_formed_more spreads i s states lt at =
    sym (inters_formed-push (take i spreads) s states)
    ∙ ap (λ x. inters_formed (take i spreads ++ x ∷ []) states) at
    ∙ ap (λ xs. inters_formed xs states) (sym (take_more spreads i s lt))

-- what is shown of a spread, with the numbers that formed, in the commodity of index c
abbrev pub ways_in : ℕ → Inter × SpreadsFormed → List ShownInter
ways_in c p = inter_ways p.0 p.1 (ratio_in c (p.0).legs)

-- the spreads shown follow from the list of spreads, each paired with the numbers that formed
pub inters_shown-zip : (c : ℕ) (spreads : List Inter) (states : List CommodityState)
    → flat_map (ways_in c) (zip spreads (inters_formed spreads states)) ≡ inters_shown c spreads states
inters_shown-zip c [] states = refl
inters_shown-zip c (s ∷ spreads) states =
    ap (λ others. inter_ways s (commodities.inter_formed_both states s) (ratio_in c s.legs) ++ others)
    (inters_shown-zip c spreads (inter_both_ways states s))

-- the spreads shown for a prefix of the pairs, extended by the next pair
pub ways_more : (c : ℕ) (spreads : List Inter) (formed : List SpreadsFormed) (i : ℕ) (s : Inter) (f : SpreadsFormed)
    → i < length spreads → i < length formed → s ≡ get_or spreads i s → f ≡ get_or formed i f
    → flat_map (ways_in c) (take i (zip spreads formed)) ++ ways_in c (s, f)
    ≡ flat_map (ways_in c) (take (i + 1) (zip spreads formed))
ways_more c spreads formed i s f in_spreads in_formed s_is f_is =
    let pairs = zip spreads formed in
    let pair : Inter × SpreadsFormed = (s, f) in
    let among : i < length pairs = omega (arith, length-zip spreads formed, in_spreads, in_formed) in
    let at : pair ≡ get_or pairs i pair =
    (λ k. (s_is k, f_is k)) ∙ sym (get_or-zip spreads formed i pair in_spreads in_formed) in
    flat_map_more (ways_in c) [] (take i pairs) pair
    ∙ ap (λ p. flat_map (ways_in c) (take i pairs ++ p ∷ [])) at
    ∙ ap (flat_map (ways_in c)) (sym (take_more pairs i pair among))
