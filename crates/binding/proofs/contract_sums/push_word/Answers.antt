use Rattle.std.proofs.Common.{◌<◌, ◌*◌, ◌^◌, ◌%◌, ◌∙◌, ℕ, refl, sym, get_or, arith, rules, bit_and}
use Rattle.std.specs.Int.{w64, bit_not, trailing_zeros}
use Rattle.std.proofs.lemmas.Nat.Bits.{bit_at-trailing_zeros}
use Rattle.binding.proofs.MarkLaws.{below_lowest, lowest_le, next_lowest, word_begun, word_done, lowest_marked, held_more, marks_left}
use Rattle.binding.proofs.contract_sums.push_word.Goals as goal

pub loop-left-init : goal.loop-left-init
loop-left-init c =
    let marks = c.args.marks.now in
    let left = get_or marks c.args.word 0 in
    let fits : left < 2 ^ 64 = search rules in
    record {
      so_far =
          c.requires.so_far ∙ sym (word_begun marks c.args.places.now c.args.word (trailing_zeros w64 left) (lowest_le left fits)
          (below_lowest left fits));
      same = λ i x y. refl;
    }

pub push_held-requires : goal.push_held-requires
push_held-requires c =
    let fits : c.loop-left.left < 2 ^ 64 = search rules in
    record {
      number = lowest_marked c.args.marks.now c.args.places.now c.args.word c.loop-left.left c.requires.marks fits
          (omega (arith, c.loop-left-test.true)) c.loop-left.invariant.same;
      few = c.requires.marks.few;
    }

pub loop-left-smaller : goal.loop-left-smaller
loop-left-smaller c =
    let n = c.loop-left.left in
    let some : 0 < n = omega (arith, c.loop-left-test.true) in
    let fits : n < 2 ^ 64 = search rules in
    let low = (bit_at-trailing_zeros w64 n some fits).0 in
    let m : ℕ = bit_and n (bit_not w64 (1 * 2 ^ trailing_zeros w64 n % 2 ^ 64)) in
    let small : m < 2 ^ 64 = search rules in
    let up = next_lowest n m some fits small refl in
    omega (arith, up, low)

pub loop-left-preserved : goal.loop-left-preserved
loop-left-preserved c =
    let n = c.loop-left.left in
    let some : 0 < n = omega (arith, c.loop-left-test.true) in
    let fits : n < 2 ^ 64 = search rules in
    let m : ℕ = bit_and n (bit_not w64 (1 * 2 ^ trailing_zeros w64 n % 2 ^ 64)) in
    let small : m < 2 ^ 64 = search rules in
    let same = c.loop-left.invariant.same in
    record {
      so_far =
          held_more c.args.marks.now c.args.places.now c.args.word n c.requires.marks fits some same m small refl c.loop-left.held.items
          c.push_held.new.held.items
          c.loop-left.invariant.so_far c.in_ok-push_held.ensures;
      same = marks_left c.args.marks.now c.args.places.now c.args.word n c.requires.marks fits some same m small refl;
    }

pub returns : goal.returns
returns c =
    word_done c.args.marks.now c.args.places.now c.args.word c.loop-left.left c.loop-left.held.items c.loop-left-test.false
    c.loop-left.invariant.so_far
