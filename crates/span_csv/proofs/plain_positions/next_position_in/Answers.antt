use Rattle.std.proofs.Common.{rules, SFits}
use Rattle.std.specs.Int.{w32}
use Rattle.std.proofs.lemmas.Int.{to_z-of_z}
use Rattle.span_csv.proofs.PlainLines.{plain_line}
use Rattle.span_csv.proofs.plain_positions.next_position_in.Goals as goal

pub returns-clause-found : goal.returns-clause-found
returns-clause-found c =
    let position = c.in_ok-contract.field-0 in
    let fits : SFits w32 position.quantity = search rules in
    rw (to_z-of_z w32 position.quantity fits)
    (plain_line c.args.account.now position.contract position.quantity position.rest.now c.args.left.now.now
    c.as_bytes.ensures.is_name (rw c.as_bytes.ensures.value at c.in_ok-contract.ensures))
