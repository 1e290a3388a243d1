use Rattle.std.proofs.Common.{◌≡◌, ◌+◌, ℕ, List, ap, arith, get_or, subst, sym}
use Rattle.std.proofs.lemmas.List.Sums.{sum_by_from}
use Rattle.span_tables.specs.declared.records.Spot.{Spot}
use Rattle.span_tables.proofs.WordFolds.{all_formed, formed_more, formed_past, none_formed}
use Rattle.spread_stage.specs.Charges.{spot_charge}
use Rattle.spread_stage.specs.near.SpotIndex.{HasSpot}
use Rattle.spread_stage.specs.declared.months.MonthUnits.{MonthUnits}
use Rattle.spread_stage.proofs.SpotLemmas.{charges_small, no_charge}
use Rattle.spread_stage.proofs.charges.spot_charges.Goals as goal

module _ (months rests : List MonthUnits) where
  -- the sum with the charge of one more spot month
  abbrev step : ℕ → Spot → ℕ
  step s x = s + spot_charge months rests x

  abbrev None : ℕ → Spot → Type 0
  None s x = spot_charge months rests x ≡ 0

  same : (s : ℕ) (x : Spot) → None s x → step s x ≡ s
  same s x none = omega (arith, none)

pub loop-number-init : goal.loop-number-init
loop-number-init c =
    let months = c.args.months.now in
    let rests = c.args.rests.now in
    let spots = c.args.spots.now in
    record {
      formed = none_formed (step months rests) (None months rests) (same months rests) spots 0 c.among-left.result
          (λ k e lt out. no_charge months rests c.requires.months c.requires.shrinks (get_or spots k e)
          (λ i m short is. let found = c.among-left.ensures k i m short
          (subst (HasSpot c.args.index.now k) (sym is) (c.requires.index k e lt)) in absurd (omega (arith, out, found))));
      small = omega arith;
    }

pub loop-number-preserved-in-Some-get : goal.loop-number-preserved-in-Some-get
loop-number-preserved-in-Some-get c =
    let months = c.args.months.now in
    let rests = c.args.rests.now in
    let spots = c.args.spots.now in
    let read = c.in-Some-get.ensures.lookup in
    let before = c.loop-number.invariant in
    let formed = formed_more (step months rests) (None months rests) (same months rests) spots 0 c.loop-number.sum c.loop-number.left
    c.in-Some.number c.take_first.new.word before.formed c.in-Some.ensures.first (c.loop-number.sum + c.use_of-sum.result.charge)
    c.in-Some-get.spot.now read.3.0 read.1 (ap (λ n. c.loop-number.sum + n) c.use_of-sum.ensures.charge) (λ k x above short none. none) in
    record {
      formed = formed;
      small = charges_small months rests c.requires.months c.requires.shrinks spots c.requires.few c.requires.spots formed.next _
          formed.so_far;
    }

pub loop-number-preserved : goal.loop-number-preserved
loop-number-preserved c =
    let months = c.args.months.now in
    let rests = c.args.rests.now in
    let before = c.loop-number.invariant in
    record {
      formed = formed_past (step months rests) (None months rests) (same months rests) c.args.spots.now 0 c.loop-number.sum
          c.loop-number.left c.in-Some.number c.take_first.new.word before.formed c.in-Some.ensures.first c.in_default-get.ensures.lookup.3;
      small = before.small;
    }

pub returns-clause-value : goal.returns-clause-value
returns-clause-value c =
    let months = c.args.months.now in
    let rests = c.args.rests.now in
    let all = all_formed (step months rests) (None months rests) (same months rests) c.args.spots.now 0 c.loop-number.sum
    c.loop-number.left c.loop-number.invariant.formed c.in_default.ensures.none in
    let sum = sum_by_from (spot_charge months rests) 0 c.args.spots.now in omega (arith, all, sum)
