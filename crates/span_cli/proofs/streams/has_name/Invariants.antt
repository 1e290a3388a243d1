use Rattle.std.proofs.Common.{◌≡◌, drop, map, string_bytes}
use Rattle.span_tables.specs.Names.{is_among}
use Rattle.span_cli.proofs.streams.has_name.Given as goal

abbrev pub invariant-loop-other : goal.invariant-loop-other
invariant-loop-other l =
    is_among (map string_bytes (drop l.other-index l.names)) l.name ≡ is_among (map string_bytes l.names) l.name
