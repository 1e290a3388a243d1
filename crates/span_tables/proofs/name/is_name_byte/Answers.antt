-- The table is compared with the definition at each of the 256 bytes, by computation.
use Rattle.std.proofs.Common.{not, nat_eq, get_or, refl, arith}
use Rattle.std.proofs.lemmas.Bool.{agree_below_at}
use Rattle.span_tables.specs.Names.{is_name_byte}
use Rattle.span_tables.specs.declared.name.TheConstants.{NAME_BYTES}
use Rattle.span_tables.proofs.name.is_name_byte.Goals as goal

pub returns : goal.returns
returns c =
    let byte = c.args.byte in
    rw c.from.ensures (agree_below_at (λ k. not (nat_eq (get_or NAME_BYTES k 0) 46)) is_name_byte 256 byte refl (omega arith))
