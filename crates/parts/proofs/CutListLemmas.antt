-- The records of the files into which bytes are cut after line feeds.
use Rattle.std.proofs.Common.{◌≡◌, ◌∙◌, ℕ, Bool, true, false, ◌&&◌, ◌==◌, if◌then◌else◌}
use Rattle.std.proofs.Common.{List, [], ◌∷◌, ◌++◌, length, refl, sym, ap, subst, arith}
use Rattle.std.specs.Prelude.{flat_map}
use Rattle.std.specs.List.{AllByRecursion, concat}
use Rattle.std.proofs.lemmas.Bool.{or_parts}
use Rattle.std.proofs.lemmas.List.Folds.{list_any-append}
use Rattle.csv.specs.Machine.{next_record}
use Rattle.csv.specs.Reading.{is_bom, records_from, strip_bom}
use Rattle.span_csv.specs.Cuts.{BeginsWithNoMark, EndsInLineFeed, has_quote}
use Rattle.span_csv.specs.Records.{records_of}
use Rattle.span_csv.proofs.CutLemmas.{records_joined}

never : (t : Bool) → (t && false) ≡ false
never true = refl
never false = refl

-- if bytes that end in a line feed do not begin with a mark, they do not begin with one when more bytes follow
still_unmarked : (front more : List ℕ) → strip_bom (front ++ 10 ∷ []) ≡ front ++ 10 ∷ []
    → strip_bom ((front ++ 10 ∷ []) ++ more) ≡ (front ++ 10 ∷ []) ++ more
unfolding strip_bom
still_unmarked [] [] e = refl
still_unmarked [] (m ∷ []) e = refl
still_unmarked [] (m ∷ n ∷ more) e = refl
still_unmarked (x ∷ []) [] e = refl
still_unmarked (x ∷ []) (m ∷ more) e = ap (λ b. if (b && (m == 0xBF)) then more else x ∷ 10 ∷ m ∷ more) (never (x == 0xEF))
still_unmarked (x ∷ y ∷ []) more e = ap (λ b. if b then more else x ∷ y ∷ 10 ∷ more) (never ((x == 0xEF) && (y == 0xBB)))
still_unmarked (x ∷ y ∷ z ∷ front) more e = by (is_bom x y z) e where
  by : (b : Bool) → (if b then front ++ 10 ∷ [] else x ∷ y ∷ z ∷ (front ++ 10 ∷ [])) ≡ x ∷ y ∷ z ∷ (front ++ 10 ∷ [])
      → (if b then (front ++ 10 ∷ []) ++ more else x ∷ y ∷ z ∷ ((front ++ 10 ∷ []) ++ more))
      ≡ x ∷ y ∷ z ∷ ((front ++ 10 ∷ []) ++ more)
  by true e = let long = ap length e in absurd (omega (arith, long))
  by false e = refl

unmarked_joined : (file more : List ℕ) → EndsInLineFeed file → BeginsWithNoMark file → BeginsWithNoMark (file ++ more)
unmarked_joined file more ends unmarked =
    subst (λ bytes. BeginsWithNoMark (bytes ++ more)) (sym ends.1)
    (still_unmarked ends.0 more (subst BeginsWithNoMark ends.1 unmarked))

unmarked_all : (files : List (List ℕ)) → AllByRecursion EndsInLineFeed files → AllByRecursion BeginsWithNoMark files
    → BeginsWithNoMark (concat files)
unfolding strip_bom
unmarked_all [] ends unmarked = refl
unmarked_all (file ∷ files) ends unmarked = unmarked_joined file (concat files) ends.0 unmarked.0

no_bytes : records_of [] ≡ []
unfolding records_of strip_bom records_from next_record
no_bytes = refl

-- the records of bytes without a quote are the records of the files into which they are cut after line feeds
pub records_of_files : (files : List (List ℕ)) → AllByRecursion EndsInLineFeed files → has_quote (concat files) ≡ false
    → AllByRecursion BeginsWithNoMark files → records_of (concat files) ≡ flat_map records_of files
records_of_files [] ends free unmarked = no_bytes
records_of_files (file ∷ files) ends free unmarked =
    let parts = or_parts (has_quote file) (has_quote (concat files))
    (sym (list_any-append (λ b. b == 34) file (concat files)) ∙ free) in
    records_joined file (concat files) ends.0 parts.0 (unmarked_all files ends.1 unmarked.1)
    ∙ ap (λ rs. records_of file ++ rs) (records_of_files files ends.1 parts.1 unmarked.1)
