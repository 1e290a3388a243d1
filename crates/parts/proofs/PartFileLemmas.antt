-- Position files that have no account in common.
use Rattle.std.proofs.Common.{◌≡◌, ◌∙◌, ℕ, ◌≤◌, Bool, true, false, not, ◌&&◌, ◌==◌, List, [], ◌∷◌, ◌++◌, map, length}
use Rattle.std.proofs.Common.{Option, Some, None, Ok, Err, Result, refl, sym, ap, subst, arith, append_assoc, inl, inr}
use Rattle.std.proofs.lemmas.Bool.{cases_Bool, ne_eqb}
use Rattle.std.proofs.lemmas.Bool.Decides.{nat_tests}
use Rattle.std.proofs.lemmas.List.{append-nil, length-append, map-append}
use Rattle.span_csv.specs.PositionFaults.{exceeds_accounts, position_faults, positions_of, record_fault}
use Rattle.span_csv.specs.Records.{Fields, position_record, records_of, text_at}
use Rattle.span_csv.specs.declared.faults.PositionFault.{PositionFault}
use Rattle.span_csv.specs.declared.faults.PositionFault.TheVariants as position
use Rattle.span_tables.specs.Faults.{first_fault, first_that_holds, ok_unless}
use Rattle.span_tables.specs.Laws.{IsFaultFree}
use Rattle.span_tables.specs.Names.{distinct, is_among}
use Rattle.span_tables.specs.Tables.{AcceptedTables}
use Rattle.span_tables.specs.declared.limits.TheConstants.{MAX_ACCOUNTS}
use Rattle.span_csv.specs.Cuts.{BeginsWithNoMark, EndsInLineFeed, has_quote}
use Rattle.span_csv.proofs.CountedLaws.{fault_where_all_count, free_from_all_count, free_where_all_count}
use Rattle.span_csv.proofs.CutLemmas.{records_joined}
use Rattle.span_tables.proofs.FaultLaws.{first_fault_free, first_fault_none}
use Rattle.span_tables.proofs.NameLemmas.{distinct-push}
use Rattle.parts.specs.Parts.{AreApart, AreFilesApart, ShareNoName, accounts_in}
use Rattle.statement_text.specs.Statement.{accepted_of, and_then, same, statement_bound, statement_of, statement_under}
use Rattle.statement_text.specs.declared.faults.SpanFault.{SpanFault}
use Rattle.statement_text.specs.declared.faults.SpanFault.TheVariants as fault
use Rattle.parts.proofs.PartLemmas.{distinct_joined, statements_joined, statements_parted}

-- ---- the number of accounts

-- one more name adds at most one distinct name
one_more : (names : List (List ℕ)) (a : List ℕ) → length (distinct names) ≤ length (distinct (names ++ a ∷ []))
one_more names a =
    elim (cases_Bool (is_among names a)) [
      | inl old ↦ rw (distinct-push names a, old) (omega arith)
      | inr new ↦ let long = length-append (distinct names) (a ∷ []) in rw (distinct-push names a, new) (omega (arith, long))
    ]

-- more names do not have fewer distinct names
names_grow : (names more : List (List ℕ)) → length (distinct names) ≤ length (distinct (names ++ more))
names_grow names [] = rw (append-nil names) (omega arith)
names_grow names (a ∷ more) =
    let here = one_more names a in
    let rest = names_grow (names ++ a ∷ []) more in
    let all : length (distinct ((names ++ a ∷ []) ++ more)) ≡ length (distinct (names ++ a ∷ more)) =
    ap (λ ns. length (distinct ns)) (append_assoc names (a ∷ []) more) in
    omega (arith, here, rest, all)

-- the number of accounts of the records
abbrev pub count : List Fields → ℕ
count rs = length (distinct (accounts_in rs))

-- the number with one more record, and with more records
count_push : (earlier : List Fields) (r : Fields) → count (earlier ++ r ∷ [])
    ≡ length (distinct (accounts_in earlier ++ text_at r 0 ∷ []))
count_push earlier r = ap (λ ns. length (distinct ns)) (map-append (λ (x : Fields). text_at x 0) earlier (r ∷ []))

count_grows : (rs more : List Fields) → count rs ≤ count (rs ++ more)
count_grows rs more =
    let grown = names_grow (accounts_in rs) (accounts_in more) in
    let all = ap (λ ns. length (distinct ns)) (map-append (λ (x : Fields). text_at x 0) rs more) in
    omega (arith, grown, all)

-- records that share no account with earlier records have no more accounts than both together
count_behind : (rs more : List Fields) → ShareNoName (accounts_in rs) (accounts_in more) → count more ≤ count (rs ++ more)
count_behind rs more apart =
    let all = ap (λ ns. length (distinct ns)) (map-append (λ (x : Fields). text_at x 0) rs more) in
    let joined = ap length (distinct_joined (accounts_in rs) (accounts_in more) apart) in
    let sum = length-append (distinct (accounts_in rs)) (distinct (accounts_in more)) in
    omega (arith, all, joined, sum)

-- ---- records without a fault

-- the fault of a record after earlier ones, which are all counted if none has a fault
abbrev pub fault_of : List Fields → Fields → Option (ℕ → PositionFault)
fault_of earlier r = fault_where_all_count earlier r

-- if all records together stay within the account limit, no record is one too many
pub not_exceeded : (earlier more : List Fields) (r : Fields) → count (earlier ++ r ∷ more) ≤ MAX_ACCOUNTS
    → exceeds_accounts earlier r ≡ false
not_exceeded earlier more r within = by (is_among (accounts_in earlier) (text_at r 0)) refl where
  by : (b : Bool) → is_among (accounts_in earlier) (text_at r 0) ≡ b
      → (not (is_among (accounts_in earlier) (text_at r 0)) && (count earlier == MAX_ACCOUNTS)) ≡ false
  by true old = rw old refl
  by false new =
      let grown = count_grows (earlier ++ r ∷ []) more in
      let all : count ((earlier ++ r ∷ []) ++ more) ≡ count (earlier ++ r ∷ more) = ap count (append_assoc earlier (r ∷ []) more) in
      let pushed : count (earlier ++ r ∷ []) ≡ length (distinct (accounts_in earlier) ++ text_at r 0 ∷ []) =
      count_push earlier r ∙ (rw (distinct-push (accounts_in earlier) (text_at r 0), new) refl) in
      let long = length-append (distinct (accounts_in earlier)) (text_at r 0 ∷ []) in
      let less : count earlier ≡ MAX_ACCOUNTS → ⊥ = λ e. absurd (omega (arith, grown, all, pushed, long, within, e)) in
      rw new (ne_eqb (count earlier) MAX_ACCOUNTS less)

-- only the last of the five tests of a record depends on the records before it
last_test : (a b c d e f : Bool) → f ≡ false
    → first_that_holds {F = ℕ → PositionFault} ((a, position.FieldCount) ∷ (b, position.BadName) ∷ (c, position.BadNumber)
    ∷ (d, position.OutOfRange) ∷ (e, position.TooManyAccounts) ∷ []) ≡ None
    → first_that_holds {F = ℕ → PositionFault} ((a, position.FieldCount) ∷ (b, position.BadName) ∷ (c, position.BadNumber)
    ∷ (d, position.OutOfRange) ∷ (f, position.TooManyAccounts) ∷ []) ≡ None
last_test true b c d e f is none = cc
last_test false true c d e f is none = cc
last_test false false true d e f is none = cc
last_test false false false true e f is none = cc
last_test false false false false e f is none = rw is refl

-- a record without a fault has none after other records, if its account is not one too many
fault_behind : (earlier others : List Fields) (r : Fields) → exceeds_accounts others r ≡ false → fault_of earlier r ≡ None
    → fault_of others r ≡ None
fault_behind earlier others r within none = last_test _ _ _ _ (exceeds_accounts earlier r) (exceeds_accounts others r) within none

-- records without a fault have none after other records, if there are no more accounts than the limit
free_behind : (earlier others rs : List Fields) → count (others ++ rs) ≤ MAX_ACCOUNTS → IsFaultFree fault_of earlier rs
    → IsFaultFree fault_of others rs
free_behind earlier others [] within free = tt
free_behind earlier others (r ∷ rs) within free =
    let all : count ((others ++ r ∷ []) ++ rs) ≡ count (others ++ r ∷ rs) = ap count (append_assoc others (r ∷ []) rs) in (
      fault_behind earlier others r (not_exceeded others rs r within) free.0,
      free_behind (earlier ++ r ∷ []) (others ++ r ∷ []) rs (omega (arith, all, within)) free.1,
    )

-- two lists without a fault, one after the other, have no fault
free_joined : (earlier rs ss : List Fields) → IsFaultFree fault_of earlier rs → IsFaultFree fault_of (earlier ++ rs) ss
    → IsFaultFree fault_of earlier (rs ++ ss)
free_joined earlier [] ss free more = subst (λ es. IsFaultFree fault_of es ss) (append-nil earlier) more
free_joined earlier (r ∷ rs) ss free more = (
  free.0,
  free_joined (earlier ++ r ∷ []) rs ss free.1
      (subst (λ es. IsFaultFree fault_of es ss) (sym (append_assoc earlier (r ∷ []) rs)) more),
)

-- both parts of a list without a fault have no fault
free_parts : (earlier rs ss : List Fields) → IsFaultFree fault_of earlier (rs ++ ss)
    → IsFaultFree fault_of earlier rs × IsFaultFree fault_of (earlier ++ rs) ss
free_parts earlier [] ss free = (tt, subst (λ es. IsFaultFree fault_of es ss) (sym (append-nil earlier)) free)
free_parts earlier (r ∷ rs) ss free =
    let rest = free_parts (earlier ++ r ∷ []) rs ss free.1 in
    ((free.0, rest.0), subst (λ es. IsFaultFree fault_of es ss) (append_assoc earlier (r ∷ []) rs) rest.1)

-- the last test is false for a record without a fault
fifth_test : (a b c d e : Bool)
    → first_that_holds {F = ℕ → PositionFault} ((a, position.FieldCount) ∷ (b, position.BadName) ∷ (c, position.BadNumber)
    ∷ (d, position.OutOfRange) ∷ (e, position.TooManyAccounts) ∷ []) ≡ None → e ≡ false
fifth_test true b c d e none = cc
fifth_test false true c d e none = cc
fifth_test false false true d e none = cc
fifth_test false false false true e none = cc
fifth_test false false false false true none = cc
fifth_test false false false false false none = refl

-- one more record without a fault stays within the account limit
one_more_within : (earlier : List Fields) (r : Fields) → count earlier ≤ MAX_ACCOUNTS → fault_of earlier r ≡ None
    → count (earlier ++ r ∷ []) ≤ MAX_ACCOUNTS
one_more_within earlier r within none = by (is_among (accounts_in earlier) (text_at r 0)) refl where
  fits : exceeds_accounts earlier r ≡ false
  fits = fifth_test _ _ _ _ (exceeds_accounts earlier r) none

  by : (b : Bool) → is_among (accounts_in earlier) (text_at r 0) ≡ b → count (earlier ++ r ∷ []) ≤ MAX_ACCOUNTS
  by true old =
      let pushed : count (earlier ++ r ∷ []) ≡ count earlier =
      count_push earlier r ∙ (rw (distinct-push (accounts_in earlier) (text_at r 0), old) refl) in
      omega (arith, pushed, within)
  by false new =
      let pushed : count (earlier ++ r ∷ []) ≡ length (distinct (accounts_in earlier) ++ text_at r 0 ∷ []) =
      count_push earlier r ∙ (rw (distinct-push (accounts_in earlier) (text_at r 0), new) refl) in
      let long = length-append (distinct (accounts_in earlier)) (text_at r 0 ∷ []) in
      let other : (count earlier == MAX_ACCOUNTS) ≡ false = rw new at fits in
      let less : count earlier ≡ MAX_ACCOUNTS → ⊥ = λ e. grind (arith, nat_tests, other, e) in
      grind (arith, pushed, long, within, less)

-- records without a fault stay within the account limit
pub count_within : (earlier rs : List Fields) → count earlier ≤ MAX_ACCOUNTS → IsFaultFree fault_of earlier rs
    → count (earlier ++ rs) ≤ MAX_ACCOUNTS
count_within earlier [] within free = rw (append-nil earlier) within
count_within earlier (r ∷ rs) within free =
    let rest = count_within (earlier ++ r ∷ []) rs (one_more_within earlier r within free.0) free.1 in
    let all : count ((earlier ++ r ∷ []) ++ rs) ≡ count (earlier ++ r ∷ rs) = ap count (append_assoc earlier (r ∷ []) rs) in
    omega (arith, rest, all)

-- ---- the statement of a file

-- the accounts of the position records are the accounts of the file's records
accounts_are : (rs : List Fields) → map (λ p. p.account) (map position_record rs) ≡ accounts_in rs
unfolding position_record
accounts_are [] = refl
accounts_are (r ∷ rs) = ap (λ names. text_at r 0 ∷ names) (accounts_are rs)

-- the positions of records that share no account share none
pub positions_apart : (rs ss : List Fields) → ShareNoName (accounts_in rs) (accounts_in ss)
    → AreApart (map position_record rs) (map position_record ss)
positions_apart rs ss apart = λ name among.
    ap (λ names. is_among names name) (accounts_are ss)
    ∙ apart name (ap (λ names. is_among names name) (sym (accounts_are rs)) ∙ among)

-- the records of a file with a statement have no fault, and the file has the statement of its positions
pub of_records : (t : AcceptedTables) (bytes text : List ℕ) → statement_under t bytes ≡ Ok text
    → IsFaultFree fault_of [] (records_of bytes) × (statement_bound t (map position_record (records_of bytes)) ≡ Ok text)
unfolding statement_under positions_of position_faults
of_records t bytes text is = by (first_fault record_fault (records_of bytes)) refl is where
  by : (o : Option PositionFault) → first_fault record_fault (records_of bytes) ≡ o
      → and_then fault.Positions (ok_unless o (map position_record (records_of bytes)))
      (λ records. statement_bound t records) ≡ Ok text
      → IsFaultFree fault_of [] (records_of bytes) × (statement_bound t (map position_record (records_of bytes)) ≡ Ok text)
  by (Some f) e is = cc
  by None e is = (free_where_all_count [] (records_of bytes) refl (first_fault_none record_fault [] (records_of bytes) e), is)

-- a file whose records have no fault has the statement of its positions
pub of_file : (t : AcceptedTables) (bytes text : List ℕ) → IsFaultFree fault_of [] (records_of bytes)
    → statement_bound t (map position_record (records_of bytes)) ≡ Ok text → statement_under t bytes ≡ Ok text
unfolding statement_under positions_of position_faults
of_file t bytes text free is =
    let none : first_fault record_fault (records_of bytes) ≡ None =
    first_fault_free record_fault [] (records_of bytes) (free_from_all_count [] (records_of bytes) refl free) in
    rw none is

module _ (whole first second : List ℕ) (cut : records_of whole ≡ records_of first ++ records_of second)
    (apart : AreFilesApart first second) where
  rs : List Fields
  rs = records_of first

  ss : List Fields
  ss = records_of second

  said : map position_record (records_of whole) ≡ map position_record rs ++ map position_record ss
  unfolding rs ss
  said = ap (map position_record) cut ∙ map-append position_record rs ss

  under_joined : (t : AcceptedTables) (one other : List ℕ) → count (records_of whole) ≤ MAX_ACCOUNTS
      → statement_under t first ≡ Ok one → statement_under t second ≡ Ok other → statement_under t whole ≡ Ok (one ++ other)
  unfolding rs ss
  under_joined t one other few is_one is_other =
      let of_one = of_records t first one is_one in
      let of_other = of_records t second other is_other in
      let few_joined : count (rs ++ ss) ≤ MAX_ACCOUNTS = subst (λ all. count all ≤ MAX_ACCOUNTS) cut few in
      let free : IsFaultFree fault_of [] (rs ++ ss) = free_joined [] rs ss of_one.0 (free_behind [] rs ss few_joined of_other.0) in
      of_file t whole (one ++ other) (subst (λ all. IsFaultFree fault_of [] all) (sym cut) free)
      (subst (λ ps. statement_bound t ps ≡ Ok (one ++ other)) (sym said)
      (statements_joined t (map position_record rs) (map position_record ss) one other (positions_apart rs ss apart)
      of_one.1 of_other.1))

  under_parted : (t : AcceptedTables) (text : List ℕ) → statement_under t whole ≡ Ok text
      → (one : List ℕ) × (other : List ℕ) × (statement_under t first ≡ Ok one) × (statement_under t second ≡ Ok other)
      × (text ≡ one ++ other)
  unfolding rs ss
  under_parted t text is =
      let of_whole = of_records t whole text is in
      let free : IsFaultFree fault_of [] (rs ++ ss) = subst (λ all. IsFaultFree fault_of [] all) cut of_whole.0 in
      let few : count (rs ++ ss) ≤ MAX_ACCOUNTS = count_within [] (rs ++ ss) (omega arith) free in
      let few_behind = count_behind rs ss apart in
      let parts = free_parts [] rs ss free in
      let free_second : IsFaultFree fault_of [] ss = free_behind rs [] ss (omega (arith, few, few_behind)) parts.1 in
      let texts = statements_parted t (map position_record rs) (map position_record ss) text (positions_apart rs ss apart)
      (subst (λ ps. statement_bound t ps ≡ Ok text) said of_whole.1) in (
        texts.0,
        texts.1,
        of_file t first texts.0 parts.0 texts.2,
        of_file t second texts.1 free_second texts.3,
        texts.4,
      )

  -- the statements of two files, joined, are the statement of a file with the records of both
  pub files_joined : (params one other : List ℕ) → count (records_of whole) ≤ MAX_ACCOUNTS
      → statement_of params first ≡ Ok one → statement_of params second ≡ Ok other
      → statement_of params whole ≡ Ok (one ++ other)
  unfolding statement_of
  files_joined params one other few is_one is_other = by (accepted_of params) is_one is_other where
    by : (r : Result AcceptedTables SpanFault) → and_then same r (λ tables. statement_under tables first) ≡ Ok one
        → and_then same r (λ tables. statement_under tables second) ≡ Ok other
        → and_then same r (λ tables. statement_under tables whole) ≡ Ok (one ++ other)
    by (Ok t) is_one is_other = under_joined t one other few is_one is_other
    by (Err e) is_one is_other = cc

  -- the whole file has a statement only if both parts have one
  pub files_parted : (params text : List ℕ) → statement_of params whole ≡ Ok text
      → (one : List ℕ) × (other : List ℕ) × (statement_of params first ≡ Ok one) × (statement_of params second ≡ Ok other)
      × (text ≡ one ++ other)
  unfolding statement_of
  files_parted params text is = by (accepted_of params) is where
    by : (r : Result AcceptedTables SpanFault) → and_then same r (λ tables. statement_under tables whole) ≡ Ok text
        → (one : List ℕ) × (other : List ℕ) × (and_then same r (λ tables. statement_under tables first) ≡ Ok one)
        × (and_then same r (λ tables. statement_under tables second) ≡ Ok other) × (text ≡ one ++ other)
    by (Ok t) is = under_parted t text is
    by (Err e) is = cc

-- the statement of two files joined is the statement of the first, then the statement of the second
pub bytes_joined : (params first second one other : List ℕ) → EndsInLineFeed first → has_quote first ≡ false
    → BeginsWithNoMark second → AreFilesApart first second → count (records_of (first ++ second)) ≤ MAX_ACCOUNTS
    → statement_of params first ≡ Ok one → statement_of params second ≡ Ok other
    → statement_of params (first ++ second) ≡ Ok (one ++ other)
bytes_joined params first second one other ends free unmarked apart few =
    files_joined (first ++ second) first second (records_joined first second ends free unmarked) apart params one other few

-- two files joined have a statement only if each has one
pub bytes_parted : (params first second text : List ℕ) → EndsInLineFeed first → has_quote first ≡ false
    → BeginsWithNoMark second → AreFilesApart first second → statement_of params (first ++ second) ≡ Ok text
    → (one : List ℕ) × (other : List ℕ) × (statement_of params first ≡ Ok one) × (statement_of params second ≡ Ok other)
    × (text ≡ one ++ other)
bytes_parted params first second text ends free unmarked apart =
    files_parted (first ++ second) first second (records_joined first second ends free unmarked) apart params text
