use Rattle.std.proofs.Common.{◌≡◌, ◌≤◌, ◌∙◌, ap, arith, cond, rules}
use Rattle.span_money.specs.Numbers.{negative_part}
use Rattle.span_tables.specs.declared.limits.TheConstants.{MAX_NET}
use Rattle.inter_credit.specs.Requirement.{is_call, is_put}
use Rattle.inter_credit.proofs.MinimumLaws.{one_kind, short_count_more}
use Rattle.inter_credit.proofs.requirement.short_counts.Goals as goal

pub loop-place-preserved : goal.loop-place-preserved
loop-place-preserved c =
    let kind = c.terms.result.now.kind in
    let calls = short_count_more is_call c.args.held.now c.loop-place.place c.terms.result.now c.net.result
    (omega arith) c.terms.ensures.value c.net.ensures.value in
    let puts = short_count_more is_put c.args.held.now c.loop-place.place c.terms.result.now c.net.result
    (omega arith) c.terms.ensures.value c.net.ensures.value in
    let before = c.loop-place.invariant in
    let short : c.short_part-short.result ≡ negative_part c.net.result = search rules in
    let small : c.short_part-short.result ≤ MAX_NET = search rules in
    let call : c.short_if-calls.result ≡ cond (is_call kind) (negative_part c.net.result) 0 =
    c.short_if-calls.ensures ∙ ap (λ b. cond b c.short_part-short.result 0) c.is_call.ensures
    ∙ ap (λ n. cond (is_call kind) n 0) short in
    let put : c.short_if-puts.result ≡ cond (is_put kind) (negative_part c.net.result) 0 =
    c.short_if-puts.ensures ∙ ap (λ b. cond b c.short_part-short.result 0) c.is_put.ensures
    ∙ ap (λ n. cond (is_put kind) n 0) short in
    let both = one_kind kind (negative_part c.net.result) in
    record {
      calls = omega (arith, calls, call, before.calls);
      puts = omega (arith, puts, put, before.puts);
      bound = omega (arith, before.bound, call, put, both, short, small);
    }
