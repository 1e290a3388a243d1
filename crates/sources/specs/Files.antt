-- The file that a source has under a name.
use Rattle.std.specs.Prelude.{◌≡◌, ℕ, List, Result, Ok, Err, ⊤}
use Rattle.sources.specs.declared.ReadFault.{ReadFault}
use Rattle.sources.specs.declared.ReadFault.TheVariants as fault

-- the bytes of a file, or the reason why it cannot be read
abbrev pub File : Type 0
File = Result (List ℕ) ReadFault

-- a read returns the file, unless memory ran out
abbrev pub ReadGives : {X : Type 0} → (X → List ℕ) → File → Result X ReadFault → Type 0
ReadGives view file (Ok bytes) = file ≡ Ok (view bytes)
ReadGives view file (Err fault.OutOfMemory) = ⊤
ReadGives view file (Err fault.Failed) = file ≡ Err fault.Failed
ReadGives view file (Err fault.TooLong) = file ≡ Err fault.TooLong
