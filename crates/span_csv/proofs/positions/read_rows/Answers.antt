use Rattle.std.proofs.Common.{◌≡◌, ◌∙◌, sym, rules, true}
use Rattle.std.specs.Result.{is_ok}
use Rattle.std.proofs.lemmas.Result.{err_from_is_err_and}
use Rattle.span_csv.specs.PositionFaults.{is_memory}
use Rattle.span_csv.specs.near.NumberedReading.{next_position}
use Rattle.span_csv.specs.declared.positions.TheConstants.{POSITION_NAMES}
use Rattle.span_tables.specs.declared.limits.TheConstants.{MAX_ACCOUNTS}
use Rattle.span_tables.specs.near.Positions.{named_position, named_positions}
use Rattle.span_csv.proofs.RecordLemmas.{records_after-ok, records_after-refused, records_after-end}
use Rattle.span_csv.proofs.positions.read_rows.Goals as goal

pub returns-in_err-position-clause-read : goal.returns-in_err-position-clause-read
returns-in_err-position-clause-read c =
    let p = err_from_is_err_and c.from_residual-in_err-position.result c.from_residual-in_err-position.ensures.1 in
    let next = rw c.if-branch.true at c.in_ok-next.ensures.found in
    let earlier = named_positions c.loop-records.accounts.keys c.loop-records.records.items in
    rw (p.1, p.2, ← c.loop-records.invariant.rest, next)
    (records_after-refused (next_position POSITION_NAMES MAX_ACCOUNTS) is_memory earlier c.next.new.row c.next.new.self
    _ (rw c.deref.ensures.value at c.in_err-position.ensures.found))

pub loop-records-preserved : goal.loop-records-preserved
loop-records-preserved c =
    let good : is_ok c.push.result ≡ true = search rules in
    let items = rw good at c.push.ensures.items in
    let next = rw c.if-branch.true at c.in_ok-next.ensures.found in
    let rest = rw next at c.loop-records.invariant.rest in
    let earlier = named_positions c.loop-records.accounts.keys c.loop-records.records.items in
    let position = named_position c.next_position.new.known.keys c.in_ok-position.position in
    let named = rw c.deref.ensures.value at c.in_ok-position.ensures.named in
    let read = rw c.deref.ensures.value at c.in_ok-position.ensures.found in
    let more = c.in_ok-read_same_account.ensures in
    record {
      numbered = rw c.as_slice.ensures.keys at more.numbered;
      few = c.in_ok-position.ensures.few;
      rest = (rw c.as_slice.ensures.keys at more.read)
          ∙ rw (items, named) (sym (records_after-ok (next_position POSITION_NAMES MAX_ACCOUNTS) earlier c.next.new.row
          c.next.new.self position read) ∙ rest);
    }

pub returns-clause-read : goal.returns-clause-read
returns-clause-read c =
    let none = rw c.if-branch.false at c.in_ok-next.ensures.found in
    let rest = rw none at c.loop-records.invariant.rest in
    sym rest ∙ records_after-end (next_position POSITION_NAMES MAX_ACCOUNTS)
    (named_positions c.loop-records.accounts.keys c.loop-records.records.items)
