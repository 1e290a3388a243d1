-- Files in memory.
use Rattle.std.specs.Prelude.{ℕ, List, Option, Some, None, Ok, Err, length, nat_le, find, option_map, bytes_eq, if◌then◌else◌}
use Rattle.std.proofs.Common.{Bor}
use Rattle.sources.specs.Files.{File}
use Rattle.sources.specs.declared.ReadFault.TheVariants as fault

-- the bytes of the first file with this name
abbrev pub bytes_in : List (Bor (List ℕ) × Bor (List ℕ)) → List ℕ → Option (List ℕ)
bytes_in files name = option_map (λ f. f.1.now) (find (λ f. bytes_eq f.0.now name) files)

-- a file is missing, or too long, or has at most `cap` bytes
abbrev pub capped : ℕ → Option (List ℕ) → File
capped cap None = Err fault.Failed
capped cap (Some bytes) = if nat_le (length bytes) cap then Ok bytes else Err fault.TooLong
