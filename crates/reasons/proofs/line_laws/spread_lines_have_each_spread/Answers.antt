use Rattle.std.proofs.Common.{◌≡◌, ◌*◌, ◌==◌, ℕ, List, [], ◌∷◌, Option, Some, None, find, map, option_map, get_or, refl, sym, ap, ◌∙◌}
use Rattle.std.proofs.Common.{arith, subst}
use Rattle.std.specs.Prelude.{All, Contains, ◌*ℤ◌, bytes_eq, pos}
use Rattle.std.specs.Fmt.{decimal}
use Rattle.std.proofs.lemmas.Bool.Decides.{nat_tests}
use Rattle.std.proofs.lemmas.List.Elements.{All-append, All-contains_itself, All-head, All-map, All-nil, All-tail}
use Rattle.span_money.specs.LineFields.{Line}
use Rattle.span_money.proofs.ExactLaws.{exact_read_back}
use Rattle.span_tables.specs.Tables.{inters_of}
use Rattle.span_tables.specs.declared.records.CommodityLeg.{CommodityLeg}
use Rattle.span_tables.specs.declared.records.Inter.{Inter}
use Rattle.span_tables.specs.declared.sides.Direction.{Direction}
use Rattle.span_tables.specs.declared.sides.Direction.TheVariants.{ALong, AShort}
use Rattle.span_tables.specs.declared.sides.SpreadsFormed.{SpreadsFormed}
use Rattle.inter_credit.specs.Credits.{inter_both_ways, inter_formed_both}
use Rattle.inter_credit.specs.declared.commodity_state.CommodityState.{CommodityState}
use Rattle.plan_ir.specs.Figures.{loaded_states}
use Rattle.reasons.specs.Laws.{IsOfRecord, is_long_in, side_letter}
use Rattle.reasons.specs.Lines.{number_at, text_at}
use Rattle.reasons.specs.Reasons.{inter_reason, inters_shown_at, intra_reason, intras_shown_at}
use Rattle.reasons.specs.Shown.{inter_in, inter_ways, inters_shown, ratio_in}
use Rattle.reasons.specs.declared.shown.ShownInter.{ShownInter}
use Rattle.reasons.proofs.AcceptedLaws.{inters_are_small, intras_are_small}
use Rattle.reasons.proofs.FieldLaws.{count_read, each_read}
use Rattle.reasons.proofs.SmallLaws.{found_has, in_if}
use Rattle.reasons.proofs.WordLaws.{inter_lines, intra_lines, letter_of_sides}
use Rattle.reasons.proofs.line_laws.spread_lines_have_each_spread.Goals as goal

pub returns-clause-intra_priorities : goal.returns-clause-intra_priorities
returns-clause-intra_priorities c t holdings n =
    ap (map (λ (l : Line). text_at l 0)) (intra_lines t holdings n)
    ∙ each_read intra_reason (λ l. text_at l 0) (λ s. decimal s.priority) (intras_shown_at t holdings n) (λ k d lt. refl)

pub returns-clause-intra_sides : goal.returns-clause-intra_sides
returns-clause-intra_sides c t holdings n side =
    let intras = intras_shown_at t holdings n in
    ap (map (λ (l : Line). bytes_eq (text_at l 1) (side_letter side))) (intra_lines t holdings n)
    ∙ each_read intra_reason (λ l. bytes_eq (text_at l 1) (side_letter side)) (λ s. is_long_in s.direction side) intras
    (λ k d lt. letter_of_sides (get_or intras k d).direction side)

pub returns-clause-intra_spreads : goal.returns-clause-intra_spreads
returns-clause-intra_spreads c t holdings n ok =
    let intras = intras_shown_at t holdings n in
    ap (map (λ (l : Line). number_at 4 l 2)) (intra_lines t holdings n)
    ∙ each_read intra_reason (λ l. number_at 4 l 2) (λ s. pos s.formed) intras
    (λ k d lt. let few = (intras_are_small t holdings ok n k d lt).formed in
    exact_read_back 4 (pos (get_or intras k d).formed) (omega (arith, few)))

pub returns-clause-intra_rates : goal.returns-clause-intra_rates
returns-clause-intra_rates c t holdings n =
    ap (map (λ (l : Line). text_at l 3)) (intra_lines t holdings n)
    ∙ each_read intra_reason (λ l. text_at l 3) (λ s. decimal s.rate) (intras_shown_at t holdings n) (λ k d lt. refl)

pub returns-clause-inter_priorities : goal.returns-clause-inter_priorities
returns-clause-inter_priorities c t holdings n =
    ap (map (λ (l : Line). text_at l 0)) (inter_lines t holdings n)
    ∙ each_read inter_reason (λ l. text_at l 0) (λ s. decimal s.priority) (inters_shown_at t holdings n) (λ k d lt. refl)

pub returns-clause-inter_sides : goal.returns-clause-inter_sides
returns-clause-inter_sides c t holdings n side =
    let inters = inters_shown_at t holdings n in
    ap (map (λ (l : Line). bytes_eq (text_at l 1) (side_letter side))) (inter_lines t holdings n)
    ∙ each_read inter_reason (λ l. bytes_eq (text_at l 1) (side_letter side)) (λ s. is_long_in s.direction side) inters
    (λ k d lt. letter_of_sides (get_or inters k d).direction side)

pub returns-clause-inter_spreads : goal.returns-clause-inter_spreads
returns-clause-inter_spreads c t holdings n ok =
    let inters = inters_shown_at t holdings n in
    ap (map (λ (l : Line). number_at 4 l 2)) (inter_lines t holdings n)
    ∙ each_read inter_reason (λ l. number_at 4 l 2) (λ s. pos s.formed) inters
    (λ k d lt. let few = (inters_are_small t holdings ok n k d lt).formed in
    exact_read_back 4 (pos (get_or inters k d).formed) (omega (arith, few)))

-- ---- the record of an INTER line

-- a spread shown belongs to a record that has a leg in the commodity
record IsShownOf (all : List Inter) (c : ℕ) (s : ShownInter) : Type 0 where
  spread : Inter
  leg : CommodityLeg
  recorded : Contains all spread
  has_leg : Contains spread.legs leg
  of_commodity : leg.commodity ≡ c
  priority : s.priority ≡ spread.priority
  used : s.used ≡ s.formed * leg.ratio
  basis_points : s.basis_points ≡ spread.basis_points

module _ (all : List Inter) (c : ℕ) where
  ways_of : (s : Inter) (f : SpreadsFormed) → Contains all s → (o : Option CommodityLeg) → find (λ leg. leg.commodity == c) s.legs ≡ o
      → All (IsShownOf all c) (inter_ways s f (option_map (λ leg. leg.ratio) o))
  ways_of s f recorded None e = All-nil (IsShownOf all c)
  ways_of s f recorded (Some leg) e =
      All-append (IsShownOf all c) (inter_in s leg.ratio ALong f.a_long) (inter_in s leg.ratio AShort f.a_short)
      (one_way ALong f.a_long) (one_way AShort f.a_short) where
        found : Contains s.legs leg × (leg.commodity ≡ c)
        found =
            found_has (λ x. Contains s.legs x × (x.commodity ≡ c)) (λ x. x.commodity == c) s.legs leg e
            (λ k d lt passes. (All-contains_itself s.legs k d lt, grind (arith, nat_tests, passes)))

        one_way : (d : Direction) (n : ℕ) → All (IsShownOf all c) (inter_in s leg.ratio d n)
        one_way d n =
            in_if (IsShownOf all c) (n == 0) n
            (record { priority = s.priority; direction = d; formed = n; used = n * leg.ratio; basis_points = s.basis_points }) refl
            (λ some. record {
              spread = s;
              leg = leg;
              recorded = recorded;
              has_leg = found.0;
              of_commodity = found.1;
              priority = refl;
              used = refl;
              basis_points = refl;
            })

  shown_of : (spreads : List Inter) (states : List CommodityState) → All (Contains all) spreads
      → All (IsShownOf all c) (inters_shown c spreads states)
  shown_of [] states in_all = All-nil (IsShownOf all c)
  shown_of (s ∷ spreads) states in_all =
      let formed = inter_formed_both states s in
      let next = inter_both_ways states s in
      All-append (IsShownOf all c) (inter_ways s formed (ratio_in c s.legs)) (inters_shown c spreads next)
      (ways_of s formed (All-head (Contains all) s spreads in_all) (find (λ leg. leg.commodity == c) s.legs) refl)
      (shown_of spreads next (All-tail (Contains all) s spreads in_all))

pub returns-clause-inter_records : goal.returns-clause-inter_records
returns-clause-inter_records c t holdings n ok =
    let inters = inters_shown_at t holdings n in
    let all = inters_of t in
    subst (All (IsOfRecord t n)) (sym (inter_lines t holdings n))
    (All-map (IsOfRecord t n) inter_reason inters
    (λ k d lt. let s = get_or inters k d in
    let small = inters_are_small t holdings ok n k d lt in
    let is = shown_of all n all (loaded_states t holdings) (All-contains_itself all) k d lt in
    let formed = exact_read_back 4 (pos s.formed) (omega (arith, small.formed)) in
    record {
      spread = is.spread;
      leg = is.leg;
      recorded = is.recorded;
      has_leg = is.has_leg;
      of_commodity = is.of_commodity;
      priority = ap decimal is.priority;
      used = exact_read_back 8 (pos s.used) (omega (arith, small.used)) ∙ ap pos is.used ∙ (λ i. sym formed i *ℤ pos (is.leg).ratio);
      basis_points = count_read s.basis_points (omega (arith, small.basis_points)) ∙ ap pos is.basis_points;
    }))
