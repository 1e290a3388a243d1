-- Each spread has its lines, with the number of spreads that form from what the spreads before it left.
use Rattle.std.proofs.Common.{◌≡◌, ℕ, zero, suc, List, [], ◌∷◌, ◌++◌, take, Some, sym, ap, ◌∙◌, append_assoc}
use Rattle.std.specs.Prelude.{fold, slice_get}
use Rattle.span_tables.specs.declared.records.Inter.{Inter}
use Rattle.span_tables.specs.declared.records.Intra.{Intra}
use Rattle.spread_stage.specs.Spreads.{TierRests, spread_both_ways}
use Rattle.spread_stage.specs.Spreads as months
use Rattle.inter_credit.specs.Credits.{inter_both_ways}
use Rattle.inter_credit.specs.Credits as commodities
use Rattle.inter_credit.specs.declared.commodity_state.CommodityState.{CommodityState}
use Rattle.reasons.specs.Laws.{StandsIn}
use Rattle.reasons.specs.Shown.{inter_ways, inters_shown, intra_ways, intras_shown, ratio_in}

-- a list contained in another is still contained in it after others are put in front
stands_behind : {A : Type 0} (others part whole : List A) → StandsIn part whole → StandsIn part (others ++ whole)
stands_behind others part whole (before, (behind, is)) =
    (others ++ before, (behind, ap (λ xs. others ++ xs) is ∙ sym (append_assoc others before (part ++ behind))))

pub intra_stands : (spreads : List Intra) (t : TierRests) (k : ℕ) (spread : Intra) → slice_get spreads k ≡ Some spread
    → StandsIn (intra_ways spread (months.formed_both (fold spread_both_ways t (take k spreads)) spread))
    (intras_shown spreads t)
intra_stands [] t k spread found = cc
intra_stands (s ∷ spreads) t zero spread found =
    let same : s ≡ spread = cc in
    let others = intras_shown spreads (spread_both_ways t s) in
    ([], (others, ap (λ x. intra_ways x (months.formed_both t x) ++ others) same))
intra_stands (s ∷ spreads) t (suc k) spread found =
    let next = spread_both_ways t s in
    stands_behind (intra_ways s (months.formed_both t s))
    (intra_ways spread (months.formed_both (fold spread_both_ways next (take k spreads)) spread))
    (intras_shown spreads next) (intra_stands spreads next k spread found)

pub inter_stands : (c : ℕ) (spreads : List Inter) (states : List CommodityState) (k : ℕ) (spread : Inter)
    → slice_get spreads k ≡ Some spread
    → StandsIn (inter_ways spread (commodities.inter_formed_both (fold inter_both_ways states (take k spreads)) spread)
    (ratio_in c spread.legs)) (inters_shown c spreads states)
inter_stands c [] states k spread found = cc
inter_stands c (s ∷ spreads) states zero spread found =
    let same : s ≡ spread = cc in
    let others = inters_shown c spreads (inter_both_ways states s) in
    ([], (others, ap (λ x. inter_ways x (commodities.inter_formed_both states x) (ratio_in c x.legs) ++ others) same))
inter_stands c (s ∷ spreads) states (suc k) spread found =
    let next = inter_both_ways states s in
    let formed = commodities.inter_formed_both (fold inter_both_ways next (take k spreads)) spread in
    stands_behind (inter_ways s (commodities.inter_formed_both states s) (ratio_in c s.legs))
    (inter_ways spread formed (ratio_in c spread.legs)) (inters_shown c spreads next)
    (inter_stands c spreads next k spread found)
