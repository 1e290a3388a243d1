use Rattle.std.proofs.Common.{◌≡◌, ◌∙◌, ◌<◌, length, sym, refl, arith, true, false}
use Rattle.std.specs.Prelude.{slice_get, Some}
use Rattle.span_csv.proofs.OrderSteps.{of_another, of_same}
use Rattle.span_csv.proofs.orders.take_account.Goals as goal

pub returns-then-not-stands_at-clause-same : goal.returns-then-not-stands_at-clause-same
returns-then-not-stands_at-clause-same c =
    let accounts = c.args.accounts.now.items in
    let within : c.args.place < length accounts = omega (arith, c.requires.known, c.if-place-len.false, c.len.ensures) in (
      refl,
      of_another accounts c.args.place c.args.account.now within (λ there.
          let here : slice_get c.deref.result.now c.args.place ≡ Some c.args.account.now = rw c.deref.ensures.value there in
          let e : true ≡ false = sym (c.stands_at.ensures.at.1 here) ∙ c.if-not-stands_at.true in cc),
    )

pub returns-clause-same : goal.returns-clause-same
returns-clause-same c =
    of_same c.args.accounts.now.items c.args.place c.args.account.now
    (rw c.deref.ensures.value at c.stands_at.ensures.at.0 c.if-not-stands_at.false)
