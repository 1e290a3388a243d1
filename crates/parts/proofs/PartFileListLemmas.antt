-- Position files in another order, and lists of position files that pairwise have no account in common.
use Rattle.std.proofs.Common.{◌≡◌, ◌∙◌, ℕ, ◌≤◌, Bool, true, false, not, List, [], ◌∷◌, ◌++◌, map}
use Rattle.std.proofs.Common.{Option, Some, None, Ok, Err, Result, refl, sym, ap, subst, arith, append_assoc}
use Rattle.std.specs.Prelude.{All, AllPairs, IsPermutation, flat_map, is_none, is_ok}
use Rattle.std.specs.List.{AllByRecursion, concat, list_any}
use Rattle.std.specs.Cmp.{both_ways}
use Rattle.std.proofs.lemmas.Bool.{not_from_true, or_from, or_parts, true≢false}
use Rattle.std.proofs.lemmas.List.Elements.{All-from_recursion, recursion_from_All}
use Rattle.std.proofs.lemmas.List.Folds.{flat_map-map, list_any-append}
use Rattle.std.proofs.lemmas.List.Kept.{AllPairs-cons}
use Rattle.std.proofs.lemmas.List.Sorted.{IsPermutation-map, IsPermutation-sym, length_permutation, list_any-IsPermutation}
use Rattle.span_csv.specs.PositionFaults.{exceeds_accounts, is_formed, form_faults, position_faults, positions_of, record_fault}
use Rattle.span_csv.specs.Records.{Fields, position_record, records_of, text_at}
use Rattle.span_csv.specs.declared.faults.PositionFault.{PositionFault}
use Rattle.span_csv.specs.declared.faults.PositionFault.TheVariants as position
use Rattle.span_csv.proofs.CountedLaws.{free_formed}
use Rattle.span_tables.specs.Faults.{first_fault, first_that_holds, ok_unless}
use Rattle.span_tables.specs.Laws.{IsFaultFree}
use Rattle.span_tables.specs.Net.{accounts_of}
use Rattle.span_tables.specs.Tables.{AcceptedTables}
use Rattle.span_tables.specs.declared.limits.TheConstants.{MAX_ACCOUNTS}
use Rattle.span_tables.specs.declared.records.PositionRecord.{PositionRecord}
use Rattle.parts.specs.Parts.{AreApart, AreFilesApart, accounts_in, lines_of, positions_in}
use Rattle.statement_text.specs.Statement.{accepted_of, and_then, same, statement_bound, statement_of, statement_under}
use Rattle.statement_text.specs.declared.faults.SpanFault.{SpanFault}
use Rattle.statement_text.specs.declared.faults.SpanFault.TheVariants as fault
use Rattle.parts.proofs.PartFileLemmas.{count, count_within, fault_of, not_exceeded, of_file, of_records, positions_apart}
use Rattle.parts.proofs.PartListLemmas.{list_joined, list_parted, map_joined, pairs_first, pairs_rest}
use Rattle.parts.proofs.RearrangedLemmas.{accounts_rearranged, lines_rearranged, names_rearranged, statement_by_lines, still_ok}

-- ---- records without a fault, by their form and by their number of accounts

-- some record has one of the faults Q1 to Q4
abbrev has_unformed : List Fields → Bool
has_unformed rs = list_any (λ r. not (is_formed r)) rs

formed_of_free : (earlier rs : List Fields) → IsFaultFree fault_of earlier rs → has_unformed rs ≡ false
formed_of_free earlier [] free = refl
formed_of_free earlier (r ∷ rs) free =
    or_from _ _ (not_from_true (is_formed r) (free_formed earlier r free.0)) (formed_of_free (earlier ++ r ∷ []) rs free.1)

-- if no fault of a list is present, and neither is one more, none of both is present
none_behind : {F : Type 0} (fs : List (Bool × F)) (f : F) → not (is_none (first_that_holds fs)) ≡ false
    → first_that_holds (fs ++ (false, f) ∷ []) ≡ None
none_behind [] f none = refl
none_behind {F = F} (x ∷ fs) f none = by x.0 refl none (none_behind fs f)
  where
    by : (b : Bool) → x.0 ≡ b → not (is_none (first_that_holds (x ∷ fs))) ≡ false
        → (not (is_none (first_that_holds fs)) ≡ false → first_that_holds (fs ++ (false, f) ∷ []) ≡ None)
        → first_that_holds ((x ∷ fs) ++ (false, f) ∷ []) ≡ None
    by true e none behind = absurd (true≢false (rw e at none))
    by false e none behind = rw e (behind (rw e at none))

free_of_formed : (earlier rs : List Fields) → has_unformed rs ≡ false → count (earlier ++ rs) ≤ MAX_ACCOUNTS
    → IsFaultFree fault_of earlier rs
free_of_formed earlier [] formed within = tt
free_of_formed earlier (r ∷ rs) formed within =
    let parts = or_parts (not (is_formed r)) (has_unformed rs) formed in
    let fits : exceeds_accounts earlier r ≡ false = not_exceeded earlier rs r within in
    let all : count ((earlier ++ r ∷ []) ++ rs) ≡ count (earlier ++ r ∷ rs) = ap count (append_assoc earlier (r ∷ []) rs) in (
      ap (λ b. first_that_holds (form_faults r ++ (b, position.TooManyAccounts) ∷ [])) fits
          ∙ none_behind (form_faults r) position.TooManyAccounts parts.0,
      free_of_formed (earlier ++ r ∷ []) rs parts.1 (omega (arith, all, within)),
    )

-- ---- lists

-- a property of all elements carries over to their images
every_map : {X Y : Type 0} (P : X → Type 0) (Q : Y → Type 0) (f : X → Y) → ((x : X) → P x → Q (f x)) → (xs : List X)
    → AllByRecursion P xs → AllByRecursion Q (map f xs)
every_map P Q f turn [] every = tt
every_map P Q f turn (x ∷ xs) every = (turn x every.0, every_map P Q f turn xs every.1)

pairs_map : {X Y : Type 0} (R : X → X → Type 0) (S : Y → Y → Type 0) (f : X → Y) → ((x z : X) → R x z → S (f x) (f z))
    → (xs : List X) → AllPairs R xs → AllPairs S (map f xs)
pairs_map R S f turn [] pairs = λ i j d lt within. absurd (omega arith)
pairs_map R S f turn (x ∷ xs) pairs =
    AllPairs-cons S (f x) (map f xs)
    (All-from_recursion (S (f x)) (map f xs) (every_map (R x) (S (f x)) f (turn x) xs (pairs_first R x xs pairs)))
    (pairs_map R S f turn xs (pairs_rest R x xs pairs))

-- the positions of files that share no account share none
all_apart : (files : List (List ℕ)) → AllPairs AreFilesApart files → AllPairs AreApart (map positions_in files)
all_apart files apart =
    pairs_map AreFilesApart AreApart positions_in (λ one other. positions_apart (records_of one) (records_of other)) files apart

-- the positions of the records of all files are the positions of each file, joined
said_by_all : (files : List (List ℕ)) → map position_record (flat_map records_of files) ≡ flat_map positions_in files
said_by_all files = map_joined position_record records_of files

-- ---- a file in another order

module _ (rs ss : List Fields) (same_records : IsPermutation rs ss) where
  count_rearranged : count rs ≡ count ss
  count_rearranged =
      sym (length_permutation _ _ (names_rearranged (accounts_in rs) (accounts_in ss)
      (IsPermutation-map (λ (r : Fields). text_at r 0) rs ss same_records)))

  free_rearranged : IsFaultFree fault_of [] rs → IsFaultFree fault_of [] ss
  free_rearranged free =
      let few = count_within [] rs (omega arith) free in
      let alike = count_rearranged in
      free_of_formed [] ss (sym (list_any-IsPermutation (λ r. not (is_formed r)) rs ss same_records) ∙ formed_of_free [] rs free)
      (omega (arith, few, alike))

-- the text of a file that is accepted
text_of_ok : {F : Type 0} (r : Result (List ℕ) F) → is_ok r ≡ true → (text : List ℕ) × (r ≡ Ok text)
text_of_ok (Ok text) ok = (text, refl)
text_of_ok (Err f) ok = absurd (true≢false (sym ok))

module _ (params : List ℕ) where
  file_still_ok : (one other : List ℕ) → IsPermutation (records_of one) (records_of other)
      → is_ok (statement_of params one) ≡ true → is_ok (statement_of params other) ≡ true
  unfolding statement_of
  file_still_ok one other same_records ok = by (accepted_of params) ok where
    by : (r : Result AcceptedTables SpanFault) → is_ok (and_then same r (λ tables. statement_under tables one)) ≡ true
        → is_ok (and_then same r (λ tables. statement_under tables other)) ≡ true
    by (Ok t) ok =
        let said = text_of_ok (statement_under t one) ok in
        let of_one = of_records t one said.0 said.1 in
        let bound = still_ok t (positions_in one) (positions_in other)
        (IsPermutation-map position_record (records_of one) (records_of other) same_records) (ap is_ok of_one.1) in
        let text = text_of_ok (statement_bound t (positions_in other)) bound in
        ap is_ok (of_file t other text.0 (free_rearranged (records_of one) (records_of other) same_records of_one.0) text.1)
    by (Err e) ok = absurd (true≢false (sym ok))

  -- a file with the same records in another order is accepted exactly if this one is
  pub file_accepted_rearranged : (one other : List ℕ) → IsPermutation (records_of one) (records_of other)
      → is_ok (statement_of params one) ≡ is_ok (statement_of params other)
  file_accepted_rearranged one other same_records =
      both_ways _ _ (file_still_ok one other same_records) (file_still_ok other one (IsPermutation-sym _ _ same_records))

  module _ (t : AcceptedTables) (accepted : accepted_of params ≡ Ok t) where
    under_tables : (bytes : List ℕ) → statement_of params bytes ≡ statement_under t bytes
    unfolding statement_of
    under_tables bytes = ap (λ r. and_then same r (λ tables. statement_under tables bytes)) accepted

    of_file_records : (bytes text : List ℕ) → statement_of params bytes ≡ Ok text
        → IsFaultFree fault_of [] (records_of bytes) × (statement_bound t (positions_in bytes) ≡ Ok text)
    of_file_records bytes text is = of_records t bytes text (sym (under_tables bytes) ∙ is)

    -- the statement of a file has the lines that its accounts have by the same records in another order
    pub file_lines_rearranged : (one other text : List ℕ) → IsPermutation (records_of one) (records_of other)
        → statement_of params other ≡ Ok text
        → text ≡ flat_map (lines_of t (positions_in one)) (accounts_of (positions_in other))
    file_lines_rearranged one other text same_records is =
        statement_by_lines t (positions_in other) text (of_file_records other text is).1
        ∙ ap (λ lines. flat_map lines (accounts_of (positions_in other)))
        (sym (lines_rearranged t (positions_in one) (positions_in other)
        (IsPermutation-map position_record (records_of one) (records_of other) same_records)))

    -- ---- lists of files

    each_bound : (files : List (List ℕ)) (texts : List (List ℕ)) → map (statement_of params) files ≡ map Ok texts
        → map (statement_bound t) (map positions_in files) ≡ map Ok texts
    each_bound [] [] each = refl
    each_bound [] (text ∷ texts) each = absurd cc
    each_bound (file ∷ files) [] each = absurd cc
    each_bound (file ∷ files) (text ∷ texts) each =
        let here : statement_of params file ≡ Ok text = cc in
        let behind : map (statement_of params) files ≡ map Ok texts = cc in
        let first = (of_file_records file text here).1 in
        let rest = each_bound files texts behind in
        λ i. first i ∷ rest i

    each_formed : (files : List (List ℕ)) (texts : List (List ℕ)) → map (statement_of params) files ≡ map Ok texts
        → has_unformed (flat_map records_of files) ≡ false
    each_formed [] texts each = refl
    each_formed (file ∷ files) [] each = absurd cc
    each_formed (file ∷ files) (text ∷ texts) each =
        let here : statement_of params file ≡ Ok text = cc in
        let behind : map (statement_of params) files ≡ map Ok texts = cc in
        list_any-append (λ r. not (is_formed r)) (records_of file) (flat_map records_of files)
        ∙ or_from _ _ (formed_of_free [] (records_of file) (of_file_records file text here).0) (each_formed files texts behind)

    -- a file that can be read has the statement of its positions
    of_readable : (file text : List ℕ) → is_ok (positions_of file) ≡ true → statement_bound t (positions_in file) ≡ Ok text
        → statement_under t file ≡ Ok text
    unfolding statement_under positions_of position_faults
    of_readable file text readable is = by (first_fault record_fault (records_of file)) readable
      where
        by : (o : Option PositionFault) → is_ok (ok_unless o (positions_in file)) ≡ true
            → and_then fault.Positions (ok_unless o (positions_in file)) (λ records. statement_bound t records) ≡ Ok text
        by (Some f) ok = absurd (true≢false (sym ok))
        by None ok = is

    each_read : (files : List (List ℕ)) (texts : List (List ℕ)) → AllByRecursion (λ file. is_ok (positions_of file) ≡ true) files
        → map (statement_bound t) (map positions_in files) ≡ map Ok texts → map (statement_of params) files ≡ map Ok texts
    each_read [] [] readable each = refl
    each_read [] (text ∷ texts) readable each = absurd cc
    each_read (file ∷ files) [] readable each = absurd cc
    each_read (file ∷ files) (text ∷ texts) readable each =
        let here : statement_bound t (positions_in file) ≡ Ok text = cc in
        let behind : map (statement_bound t) (map positions_in files) ≡ map Ok texts = cc in
        let first = under_tables file ∙ of_readable file text readable.0 here in
        let rest = each_read files texts readable.1 behind in
        λ i. first i ∷ rest i

    -- the statements of files, joined, are the statement of their records joined
    pub file_list_joined : (files : List (List ℕ)) (texts : List (List ℕ)) → AllPairs AreFilesApart files
        → map (statement_of params) files ≡ map Ok texts
        → statement_bound t (flat_map positions_in files) ≡ Ok (concat texts)
    file_list_joined files texts apart each =
        ap (statement_bound t) (sym (flat_map-map (λ (part : List PositionRecord). part) positions_in files))
        ∙ list_joined t (map positions_in files) texts (all_apart files apart) (each_bound files texts each)

    -- if each file can be read, the joined records have a statement only if each file has one
    pub file_list_parted : (files : List (List ℕ)) (text : List ℕ) → AllPairs AreFilesApart files
        → All (λ file. is_ok (positions_of file) ≡ true) files
        → statement_bound t (flat_map positions_in files) ≡ Ok text
        → (texts : List (List ℕ)) × (map (statement_of params) files ≡ map Ok texts) × (text ≡ concat texts)
    file_list_parted files text apart readable is =
        let parted = list_parted t (map positions_in files) text (all_apart files apart)
        (ap (statement_bound t) (flat_map-map (λ (part : List PositionRecord). part) positions_in files) ∙ is) in
        (parted.0, each_read files parted.0 (recursion_from_All _ files readable) parted.1, parted.2)

    -- the statements of files, joined, are the statement of a file with their records, if that has no more accounts
    -- than the limit
    pub file_list_whole : (whole : List ℕ) (files : List (List ℕ)) (texts : List (List ℕ))
        → records_of whole ≡ flat_map records_of files → AllPairs AreFilesApart files → count (records_of whole) ≤ MAX_ACCOUNTS
        → map (statement_of params) files ≡ map Ok texts → statement_of params whole ≡ Ok (concat texts)
    file_list_whole whole files texts cut apart few each =
        under_tables whole
        ∙ of_file t whole (concat texts)
        (free_of_formed [] (records_of whole) (ap has_unformed cut ∙ each_formed files texts each) few)
        (ap (λ rs. statement_bound t (map position_record rs)) cut
        ∙ ap (statement_bound t) (said_by_all files) ∙ file_list_joined files texts apart each)

    -- The statements of files, joined, are the lines of the accounts of a whole file, each account once. The whole file
    -- has the records of these files in any order.
    pub file_list_lines : (whole : List ℕ) (files : List (List ℕ)) (texts : List (List ℕ))
        → IsPermutation (records_of whole) (flat_map records_of files) → AllPairs AreFilesApart files
        → map (statement_of params) files ≡ map Ok texts
        → (accounts : List (List ℕ)) × IsPermutation (accounts_of (positions_in whole)) accounts
        × (concat texts ≡ flat_map (lines_of t (positions_in whole)) accounts)
    file_list_lines whole files texts same_records apart each =
        let parts = flat_map positions_in files in
        let said : IsPermutation (positions_in whole) parts =
        subst (IsPermutation (positions_in whole)) (said_by_all files)
        (IsPermutation-map position_record (records_of whole) (flat_map records_of files) same_records) in (
          accounts_of parts,
          accounts_rearranged (positions_in whole) parts said,
          statement_by_lines t parts (concat texts) (file_list_joined files texts apart each)
              ∙ ap (λ lines. flat_map lines (accounts_of parts)) (sym (lines_rearranged t (positions_in whole) parts said)),
        )
