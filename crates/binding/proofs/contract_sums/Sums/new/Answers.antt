use Rattle.std.proofs.Common.{◌≡◌, ◌+◌, ◌/◌, ◌∙◌, ap, length, arith}
use Rattle.std.specs.Prelude.{pos, replicate}
use Rattle.binding.specs.near.Sums.{sums_of}
use Rattle.binding.proofs.MarkLaws.{sums_clear}
use Rattle.binding.proofs.contract_sums.Sums.new.Goals as goal

pub returns : goal.returns
returns c =
    let places = c.in_ok-places.places.items in
    let long : length places ≡ c.args.count = omega (arith, c.in_ok-places.ensures.len, c.in_ok-places.places.ok.0) in
    ap (λ ms. sums_of ms places) (c.in_ok-marks.ensures.items_if_clones_equal (λ y e. e))
    ∙ sums_clear (c.args.count / 64 + 1) places
    ∙ ap (λ n. replicate n (pos 0)) long
