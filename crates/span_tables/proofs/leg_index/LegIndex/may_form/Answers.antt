use Rattle.std.proofs.Common.{ℕ, ap, arith, refl}
use Rattle.std.specs.Int.{bit_at}
use Rattle.span_tables.specs.Sides.{market_side}
use Rattle.span_tables.specs.Slots.{IsMarked, numbers_on}
use Rattle.span_tables.specs.declared.sides.MarketSide.{MarketSide}
use Rattle.span_tables.specs.declared.sides.MarketSide.TheVariants.{Long, Short}
use Rattle.span_tables.specs.near.LegIndex.{HasMore, words_at}
use Rattle.span_tables.proofs.LegIndexLemmas.{found_words, has_bit, is_found, words_on}
use Rattle.span_tables.proofs.leg_index.LegIndex.may_form.Goals as goal

pub returns : goal.returns
returns c spread f l ends d none f_open l_open =
    let long = c.words_of-long.result in
    let short = c.words_of-short.result in
    let first = has_bit _ _ spread ((found (market_side d f.side) f.number f_open).first f.side) ends.first in
    let last = has_bit _ _ spread ((found (market_side d l.side) l.number l_open).last l.side) ends.last in
    let is = ap (λ w. bit_at w spread) (found_words _ long short refl refl d) in
    omega (arith, none, is, is_found long short spread d f.side l.side first last)
  where
    found : (on : MarketSide) (number : ℕ) → IsMarked (numbers_on on c.args.sides.now) number
        → HasMore (words_on on c.words_of-long.result c.words_of-short.result) (words_at c.args.self.now number)
    found Long number marked = c.words_of-long.ensures number marked
    found Short number marked = c.words_of-short.ensures number marked
