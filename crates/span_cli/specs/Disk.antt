-- What is known of a file that a disk opened.
use Rattle.std.specs.Prelude.{◌≡◌, ◌++◌, ℕ, List, [], ◌∷◌}
use Rattle.std.specs.Fs.{IsFile, file_type}
use Rattle.std.specs.declared.fs.attrs.Metadata.{Metadata}

-- The file of a name was opened, and P is true of it. `opens` says which file and which metadata the name has. `old`
-- and `new` are the names of the streams that were read, before and after. The name is added unless it is a plain file.
pub record IsOpened {F : Type 0} (opens : F → Metadata → Type 0) (old : List (List ℕ)) (name : List ℕ) (new : List (List ℕ))
    (P : F → Type 0) : Type 0 where
  pub file : F
  pub metadata : Metadata
  pub opened : opens file metadata
  pub plain : IsFile (file_type metadata) → new ≡ old
  pub stream : (IsFile (file_type metadata) → ⊥) → new ≡ old ++ name ∷ []
  pub holds : P file
