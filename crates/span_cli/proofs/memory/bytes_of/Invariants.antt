use Rattle.std.proofs.Common.{◌≡◌, drop}
use Rattle.span_cli.specs.near.Memory.{bytes_in}
use Rattle.span_cli.proofs.memory.bytes_of.Given as goal

abbrev pub invariant-loop-file : goal.invariant-loop-file
invariant-loop-file l = bytes_in (drop l.file-index l.files) l.name ≡ bytes_in l.files l.name
