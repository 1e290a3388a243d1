use Rattle.std.proofs.Common.{◌≤◌, ◌<◌, length, sym, arith}
use Rattle.std.proofs.lemmas.Result.{err_from_is_err_and}
use Rattle.span_tables.specs.declared.limits.TheConstants.{MAX_ACCOUNTS}
use Rattle.span_csv.proofs.AccountLemmas.{checked_full, checked_past, checked_refused, checked_taken}
use Rattle.span_csv.proofs.positions.check_row.Goals as goal

pub returns-in_err-quantity : goal.returns-in_err-quantity
returns-in_err-quantity c = λ rs count are.
    let p = err_from_is_err_and c.from_residual.result c.from_residual.ensures.1 in
    rw (p.1, p.2) (checked_refused rs c.args.row.now c.args.at c.args.accounts.now.keys count are c.in_err-quantity.field-0.0
    (sym c.in_err-quantity.ensures.value))

pub returns-then-len-gt-MAX_ACCOUNTS : goal.returns-then-len-gt-MAX_ACCOUNTS
returns-then-len-gt-MAX_ACCOUNTS c = λ rs count are.
    let past : MAX_ACCOUNTS < length c.args.accounts.now.keys = omega (arith, c.len.ensures.len, c.if-len-gt-MAX_ACCOUNTS.true) in
    checked_past rs c.args.row.now c.args.at c.args.accounts.now.keys count are c.in_ok-quantity.field-0
    (sym c.in_ok-quantity.ensures.value) past

pub returns-in_err-place : goal.returns-in_err-place
returns-in_err-place c = λ rs count are.
    let few : length c.args.accounts.now.keys ≤ MAX_ACCOUNTS = omega (arith, c.len.ensures.len, c.if-len-gt-MAX_ACCOUNTS.false) in
    let p = err_from_is_err_and c.from_residual-in_err-place.result c.from_residual-in_err-place.ensures.1 in
    rw (p.1, p.2) (checked_full rs c.args.row.now c.args.at c.args.accounts.now.keys count are c.in_ok-quantity.field-0
    (sym c.in_ok-quantity.ensures.value) c.in_err-place.field-0.0 c.place.new.known.keys few
    (rw c.field-2.ensures at c.in_err-place.ensures.room))

pub returns : goal.returns
returns c = λ rs count are.
    let few : length c.args.accounts.now.keys ≤ MAX_ACCOUNTS = omega (arith, c.len.ensures.len, c.if-len-gt-MAX_ACCOUNTS.false) in
    checked_taken rs c.args.row.now c.args.at c.args.accounts.now.keys count are c.in_ok-quantity.field-0
    (sym c.in_ok-quantity.ensures.value) c.place.new.known.keys few (rw c.field-2.ensures at c.in_ok-place.ensures.room)
    (rw c.field-2.ensures at c.in_ok-place.ensures.taken)
