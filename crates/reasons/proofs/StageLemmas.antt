-- The reasons of a commodity are the lines of its stages.
use Rattle.std.proofs.Common.{◌≡◌, ℕ, ◌<◌, List, [], ◌∷◌, ◌++◌, length, map, get_or, refl, sym, ap, ◌∙◌, append_assoc}
use Rattle.std.specs.Prelude.{Some, fold, pos, slice_get, unwrap_or}
use Rattle.std.proofs.lemmas.Option.{slice_get-get_or}
use Rattle.span_money.specs.declared.line_fields.Field.{Field}
use Rattle.span_money.specs.LineFields.{Line}
use Rattle.span_tables.specs.Net.{HeldContract}
use Rattle.span_tables.specs.Tables.{AcceptedTables, inters_of}
use Rattle.span_tables.specs.declared.portfolios.Holding.{Holding}
use Rattle.span_tables.specs.declared.records.Commodity.{Commodity}
use Rattle.span_tables.specs.declared.records.Inter.{Inter}
use Rattle.span_tables.specs.declared.records.Intra.{Intra}
use Rattle.span_tables.specs.declared.records.Spot.{Spot}
use Rattle.scan_risk.specs.Scenarios.{scan_of, scenario_sums}
use Rattle.spread_stage.specs.Spreads.{TierRests, spread_both_ways, unspread}
use Rattle.spread_stage.specs.declared.months.MonthUnits.{MonthUnits}
use Rattle.inter_credit.specs.Credits.{unspread_state, state_at}
use Rattle.inter_credit.specs.declared.commodity_state.CommodityState.{CommodityState}
use Rattle.plan_ir.specs.Figures.{commodity_at, deltas_at, held_at, intras_at, loaded_states, spots_at, tiers_at}
use Rattle.plan_compiler.proofs.StageLemmas.{tiers_are}
use Rattle.reasons.specs.Reasons.{credit_reason, held_reason, held_reasons, inter_reason, inters_shown_at, intra_reason}
use Rattle.reasons.specs.Reasons.{state_after_all, month_reason, month_reasons, reasons_of, scan_reason, scan_reasons}
use Rattle.reasons.specs.Reasons.{short_reason, spot_reason, sums_reason}
use Rattle.reasons.specs.Shown.{inters_shown, intras_shown, months_shown, spots_shown}
use Rattle.reasons.specs.declared.shown.ShownIntra.{ShownIntra}
use Rattle.reasons.specs.near.Fields.{reason_text, reasons_text}
use Rattle.reasons.proofs.ReasonLineLemmas.{lines-append, one_line}

regrouped : (a b c d e f : List Line) → ((((a ++ b) ++ c) ++ d) ++ e) ++ f ≡ a ++ (b ++ (c ++ ((d ++ e) ++ f)))
regrouped a b c d e f = simp append_assoc refl

-- the lines of a commodity's months follow from what the code appends for each part
pub month_reasons_are : (t : AcceptedTables) (holdings : List Holding) (c : ℕ) (ids : List Field) (o o1 o2 o3 : List ℕ)
    (months : List MonthUnits) (begun tiers : TierRests) (spreads : List Intra) (shown : List ShownIntra)
    (spots : List Spot)
    → months ≡ deltas_at t holdings c → begun ≡ unspread months → spreads ≡ intras_at t c
    → tiers ≡ fold spread_both_ways begun spreads → shown ≡ intras_shown spreads begun → spots ≡ spots_at t c
    → o1 ≡ o ++ reasons_text ids (map month_reason (months_shown months tiers.rests))
    → o2 ≡ o1 ++ reasons_text ids (map intra_reason shown)
    → o3 ≡ o2 ++ reasons_text ids (map spot_reason (spots_shown months tiers.rests spots))
    → o3 ≡ o ++ reasons_text ids (month_reasons t holdings c)
month_reasons_are t holdings c ids o o1 o2 o3 months begun tiers spreads shown spots m b s ts f sp e1 e2 e3 =
    let one = map month_reason (months_shown months tiers.rests) in
    let two = map intra_reason shown in
    let three = map spot_reason (spots_shown months tiers.rests spots) in
    let from : begun ≡ unspread (deltas_at t holdings c) = b ∙ ap unspread m in
    let after : tiers ≡ tiers_at t holdings c = tiers_are t holdings c months begun tiers spreads m b ts s in
    let formed : shown ≡ intras_shown (intras_at t c) (unspread (deltas_at t holdings c)) =
    f ∙ (λ k. intras_shown (s k) (from k)) in
    e3 ∙ ap (λ x. x ++ reasons_text ids three) (e2 ∙ ap (λ x. x ++ reasons_text ids two) e1)
    ∙ ap (λ x. x ++ reasons_text ids three) (lines-append ids o one two) ∙ lines-append ids o (one ++ two) three
    ∙ ap (λ rs. o ++ reasons_text ids rs) (append_assoc one two three)
    ∙ (λ k. o ++ reasons_text ids (map month_reason (months_shown (m k) (after k).rests)
    ++ (map intra_reason (formed k) ++ map spot_reason (spots_shown (m k) (after k).rests (sp k)))))

-- all lines of a commodity follow from the lines of its parts
pub reasons_are : (t : AcceptedTables) (holdings : List Holding) (c : ℕ) (ids : List Field) (o o1 o2 o3 o4 o5 o6 : List ℕ)
    (held : List HeldContract) (spreads : List Inter) (state : CommodityState) (commodity : Commodity)
    → held ≡ held_at t holdings c → spreads ≡ inters_of t → state ≡ state_after_all t holdings c
    → commodity ≡ commodity_at t c
    → o1 ≡ o ++ reasons_text ids (map (held_reason t) held)
    → o2 ≡ o1 ++ reasons_text ids (sums_reason (scenario_sums held) ∷ scan_reason (scan_of (scenario_sums held)) ∷ [])
    → o3 ≡ o2 ++ reasons_text ids (month_reasons t holdings c)
    → o4 ≡ o3 ++ reasons_text ids (map inter_reason (inters_shown c spreads (loaded_states t holdings)))
    → o5 ≡ o4 ++ reason_text ids (credit_reason state) → o6 ≡ o5 ++ reason_text ids (short_reason commodity held)
    → o6 ≡ o ++ reasons_text ids (reasons_of t holdings c)
unfolding reasons_of
reasons_are t holdings c ids o o1 o2 o3 o4 o5 o6 held spreads state commodity h s l cm e1 e2 e3 e4 e5 e6 =
    let one = held_reasons t holdings c in
    let two = scan_reasons t holdings c in
    let three = month_reasons t holdings c in
    let four = map inter_reason (inters_shown_at t holdings c) in
    let five = credit_reason (state_after_all t holdings c) ∷ [] in
    let six = short_reason (commodity_at t c) (held_at t holdings c) ∷ [] in
    let text = reasons_text ids in
    let d1 : o1 ≡ o ++ text one = e1 ∙ ap (λ x. o ++ text (map (held_reason t) x)) h in
    let d2 : o2 ≡ o1 ++ text two =
    e2 ∙ ap (λ x. o1 ++ text (sums_reason (scenario_sums x) ∷ scan_reason (scan_of (scenario_sums x)) ∷ [])) h in
    let d4 : o4 ≡ o3 ++ text four =
    e4 ∙ ap (λ xs. o3 ++ text (map inter_reason (inters_shown c xs (loaded_states t holdings)))) s in
    let d5 : o5 ≡ o4 ++ text five =
    e5 ∙ ap (λ x. o4 ++ reason_text ids (credit_reason x)) l
    ∙ one_line ids o4 (credit_reason (state_after_all t holdings c)) in
    let d6 : o6 ≡ o5 ++ text six =
    e6 ∙ (λ k. o5 ++ reason_text ids (short_reason (cm k) (h k)))
    ∙ one_line ids o5 (short_reason (commodity_at t c) (held_at t holdings c)) in
    let b1 = lines-append ids o one two in
    let u2 : o2 ≡ o ++ text (one ++ two) = d2 ∙ ap (λ x. x ++ text two) d1 ∙ b1 in
    let u3 : o3 ≡ o ++ text ((one ++ two) ++ three) =
    e3 ∙ ap (λ x. x ++ text three) u2 ∙ lines-append ids o (one ++ two) three in
    let u4 : o4 ≡ o ++ text (((one ++ two) ++ three) ++ four) =
    d4 ∙ ap (λ x. x ++ text four) u3 ∙ lines-append ids o ((one ++ two) ++ three) four in
    let u5 : o5 ≡ o ++ text ((((one ++ two) ++ three) ++ four) ++ five) =
    d5 ∙ ap (λ x. x ++ text five) u4 ∙ lines-append ids o (((one ++ two) ++ three) ++ four) five in
    let u6 : o6 ≡ o ++ text (((((one ++ two) ++ three) ++ four) ++ five) ++ six) =
    d6 ∙ ap (λ x. x ++ text six) u5 ∙ lines-append ids o ((((one ++ two) ++ three) ++ four) ++ five) six in
    u6 ∙ ap (λ rs. o ++ text rs) (regrouped one two three four five six)

-- a state that is read from the list is the one at its index
pub state_read : (states : List CommodityState) (i : ℕ) (state : CommodityState) → i < length states → state ≡ get_or states i state
    → state ≡ state_at states i
state_read states i state lt at =
    let there : slice_get states i ≡ Some state = slice_get-get_or states i state lt ∙ ap Some (sym at) in
    sym (ap (λ o. unwrap_or o (unspread_state (pos 0) 0)) there)
