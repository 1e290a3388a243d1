use Rattle.std.proofs.Common.{◌≡◌, ◌+◌, ◌<◌, ◌∙◌, ◌++◌, ◌∷◌, [], ap, sym, length, arith}
use Rattle.std.proofs.lemmas.List.{length-append}
use Rattle.binding.proofs.PortfolioLaws.{paired_more}
use Rattle.binding.proofs.positions.portfolios_from.Goals as goal

pub loop-held-preserved : goal.loop-held-preserved
loop-held-preserved c =
    let was = c.loop-held.invariant in
    let i = c.len.result in
    let name = c.index-accounts-len.result in
    let size = ap length c.in-Some.ensures.steps.0 in
    let lt : i < length c.args.accounts.now = omega (arith, size, c.len.ensures, was.left) in
    let at : i ≡ length c.loop-held.yielded = omega (arith, c.len.ensures, was.many) in
    let pushed = ap length c.in_ok-push.ensures.items ∙ length-append c.loop-held.all.items (c.new.result ∷ []) in
    let made = c.new.ensures ∙ ap (λ a. record { account = a; holdings = c.into_vec.result.items }) c.copied-account.ensures
    ∙ ap (λ h. record { account = name; holdings = h }) c.into_vec.ensures in
    record {
      are =
          c.in_ok-push.ensures.items
          ∙ ap (λ p. c.loop-held.all.items ++ p ∷ []) made
          ∙ paired_more c.args.accounts.now c.loop-held.yielded i name c.in-Some.held lt at c.index-accounts-len.is c.loop-held.all.items
          was.are;
      many = pushed ∙ ap (λ n. n + 1) was.many ∙ sym (length-append c.loop-held.yielded (c.in-Some.held ∷ []));
      left = omega (arith, pushed, size, was.left);
    }
