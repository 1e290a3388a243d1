use Rattle.std.proofs.Common.{◌≡◌, ◌∙◌, ◌<◌, suc, ap, sym, rules, arith, true, length, slice_get, Some, SFits}
use Rattle.std.specs.Int.{w32}
use Rattle.std.specs.Result.{is_ok}
use Rattle.std.proofs.lemmas.Int.{to_z-of_z}
use Rattle.std.proofs.lemmas.Option.{slice_get-get_or}
use Rattle.span_tables.specs.declared.limits.TheConstants.{MAX_ACCOUNTS}
use Rattle.span_csv.proofs.NumberedLemmas.{plain_numbered, plain_read}
use Rattle.span_csv.proofs.positions.read_same_account.Goals as goal

pub loop-contract-preserved : goal.loop-contract-preserved
loop-contract-preserved c =
    let good : is_ok c.push.result ≡ true = search rules in
    let q = c.in-Some-next_of.quantity in
    let fits : SFits w32 q = search rules in
    let items = rw (to_z-of_z w32 q fits) at (rw good at c.push.ensures.items) in
    let keys = c.args.accounts.now in
    let number = c.in-Some.last.now.account in
    let account = c.index-accounts-number.result in
    let within : number < length keys = search rules in
    let at : slice_get keys number ≡ Some account =
    slice_get-get_or keys number account within ∙ ap Some (sym c.index-accounts-number.is) in
    let is = c.in-Some-next_of.ensures.found in
    let kept = c.loop-contract.invariant in
    let fewer : length c.loop-contract.rows ≡ suc (length c.next_of.new.self) = ap length is.rows_are in
    let earlier = c.loop-contract.records.items in
    rw items (record {
      numbered = plain_numbered MAX_ACCOUNTS keys earlier kept.numbered number account c.in-Some-next_of.contract q
          c.next_of.new.self c.loop-contract.rows at is;
      left = omega (arith, fewer, kept.left);
      read = plain_read MAX_ACCOUNTS keys earlier kept.numbered number account c.in-Some-next_of.contract q
          c.next_of.new.self c.loop-contract.rows at is ∙ kept.read;
    })
