use Rattle.std.proofs.Common.{◌≡◌, ◌++◌, arith, length}
use Rattle.desks.specs.Requests.{Kept}
use Rattle.desks.proofs.KeepLemmas.{added_front, added_whole}
use Rattle.desks.proofs.kept_lines.KeptLine.add.Goals as goal

pub returns-then-bytes-room : goal.returns-then-bytes-room
returns-then-bytes-room c =
    let kept : Kept = record { bytes = c.self.inside.bytes.items; more = c.self.inside.more } in
    let items : c.extend_from_slice.new.self.items ≡ kept.bytes ++ c.args.bytes.now =
    rw c.unwrap.ensures at c.extend_from_slice.ensures.items in
    rw (items, ← c.self.view_is) (added_whole kept c.args.bytes.now (omega arith) (omega (arith, c.self.inside.bytes.ok.0)))

pub returns-else-bytes-room : goal.returns-else-bytes-room
returns-else-bytes-room c =
    let kept : Kept = record { bytes = c.self.inside.bytes.items; more = c.self.inside.more } in
    let items = rw c.unwrap-else-bytes-room.ensures at c.extend_from_slice-else-bytes-room.ensures.items in
    let room : c.len-room.result ≡ length kept.bytes = omega (arith, c.len-room.ensures, c.self.inside.bytes.ok.0) in
    rw (items, room, ← c.self.view_is) (added_front kept c.args.bytes.now (omega arith) (omega (arith, c.self.inside.bytes.ok.0)))
