use Rattle.std.proofs.Common.{arith, ◌≡◌, ◌++◌, ◌∷◌, ◌<◌, ◌≤◌, List, ℕ, ◌+◌, ◌-◌, ◌∙◌, ap, drop, get_or, length, replicate, suc, sym, take}
use Rattle.std.proofs.Common.{drop-cons, get_or-take, take-take}
use Rattle.std.specs.Fmt.{decimal}
use Rattle.std.proofs.Math.Seq.{take-append-add, take-append_seam}
use Rattle.std.proofs.lemmas.List.{get_or-replicate}
use Rattle.std.proofs.lemmas.Fmt.{length-decimal-le}
use Rattle.span_money.specs.LineFields.{field}
use Rattle.span_money.proofs.line_fields.push_short.Goals as goal

pub write_digits-comma-requires : goal.write_digits-comma-requires
write_digits-comma-requires c =
    let short = length-decimal-le 15 c.args.n (omega arith) c.requires (omega (arith, c.requires)) in
    let within : length (decimal c.args.n) ≤ 16 = omega (arith, short) in
    (within, omega arith)

pub overflow_sub-comma : goal.overflow_sub-comma
overflow_sub-comma c =
    let short = length-decimal-le 15 c.args.n (omega arith) c.requires (omega (arith, c.requires)) in
    let start = c.write_digits-comma.ensures.start in
    omega (arith, short, start)

pub returns : goal.returns
returns c =
    let start : ℕ = c.write_digits-comma.result in
    let digits : List ℕ = decimal c.args.n in
    let text : List ℕ = c.write_digits-comma.new.buf in
    let ends : start + length digits ≡ 16 = c.write_digits-comma.ensures.start in
    let short = length-decimal-le 15 c.args.n (omega arith) c.requires (omega (arith, c.requires)) in
    let lt : start - 1 < start = omega (arith, ends, short) in
    let comma : get_or text (start - 1) 0 ≡ 44 =
    sym (get_or-take start text (start - 1) 0 lt) ∙ ap (λ l. get_or l (start - 1) 0) c.write_digits-comma.ensures.before
    ∙ get_or-take start (replicate 32 44) (start - 1) 0 lt ∙ get_or-replicate 32 (start - 1) 44 0 (omega (arith, ends, short)) in
    let next : suc (start - 1) ≡ start = omega (arith, ends, short) in
    let number : drop (start - 1) text ≡ 44 ∷ (digits ++ drop 16 (replicate 32 44)) =
    drop-cons text (start - 1) 0 (omega (arith, ends, short, c.write_digits-comma.auto.buf))
    ∙ ap (λ x. x ∷ drop (suc (start - 1)) text) comma
    ∙ ap (λ k. 44 ∷ drop k text) next
    ∙ ap (λ l. 44 ∷ l) c.write_digits-comma.ensures.written in
    let long : 16 - (start - 1) ≡ suc (length digits) = omega (arith, ends, short) in
    let whole : take (16 - (start - 1)) (take (start - 1 + 16 - (start - 1)) (drop (start - 1) text)) ≡ field digits =
    take-take (16 - (start - 1)) (start - 1 + 16 - (start - 1)) (drop (start - 1) text) (omega arith)
    ∙ ap (take (16 - (start - 1))) number
    ∙ ap (λ k. take k (44 ∷ (digits ++ drop 16 (replicate 32 44)))) long
    ∙ take-append_seam (44 ∷ digits) (drop 16 (replicate 32 44)) in
    c.truncate.ensures.items ∙ ap (take _) (c.in_ok-extend_from_slice.ensures.items)
    ∙ ap (λ k. take (k + (16 - (start - 1))) (c.args.out.now.items ++ take (start - 1 + 16 - (start - 1)) (drop (start - 1) text)))
    (c.len.ensures ∙ c.args.out.now.ok.0)
    ∙ take-append-add c.args.out.now.items _ (16 - (start - 1)) ∙ ap (λ ys. c.args.out.now.items ++ ys) whole
