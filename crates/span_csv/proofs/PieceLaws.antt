-- Pieces without a fault, with no more accounts than the limit, together have the records of the whole file.
use Rattle.std.proofs.Common.{◌≡◌, ◌∙◌, refl, sym, ap, ap₂, subst, ℕ, ◌≤◌, Bool, true, false, not, ◌&&◌, ◌==◌}
use Rattle.std.proofs.Common.{List, [], ◌∷◌, ◌++◌, length, map, Option, Some, None, Result, Ok, Err, append_assoc}
use Rattle.std.specs.Prelude.{flat_map, is_none}
use Rattle.std.specs.List.{AllByRecursion}
use Rattle.std.specs.Result.{result_ok}
use Rattle.std.proofs.lemmas.List.{map-append}
use Rattle.span_tables.specs.Faults.{first_of, first_that_holds, ok_unless}
use Rattle.span_tables.specs.Laws.{IsFaultFree}
use Rattle.span_tables.specs.Names.{distinct}
use Rattle.span_tables.specs.Net.{accounts_of}
use Rattle.span_tables.specs.declared.limits.TheConstants.{MAX_ACCOUNTS}
use Rattle.span_tables.specs.declared.records.PositionRecord.{PositionRecord}
use Rattle.span_tables.proofs.FaultLaws.{first_fault_free, first_fault_none, ok_parts}
use Rattle.span_tables.proofs.NameLemmas.{is_among-distinct}
use Rattle.span_csv.specs.PositionFaults.{counted, exceeds_accounts, form_faults, is_formed, position_faults, positions_of, record_fault}
use Rattle.span_csv.specs.Records.{Fields, position_record, records_of, text_at}
use Rattle.span_csv.specs.near.NumberedReading.{is_one_too_many}
use Rattle.span_csv.specs.near.Pieces.{piece_of, records_together, AreTogether}
use Rattle.span_csv.specs.declared.faults.PositionFault.{PositionFault}
use Rattle.span_csv.specs.declared.faults.PositionFault.TheVariants as fault
use Rattle.span_csv.proofs.CheckLemmas.{first_append}
use Rattle.span_csv.proofs.CountedLaws.{all_count, fault_where_all_count, free_formed}
use Rattle.span_csv.proofs.PositionLemmas.{names_of, record_accounts}
use Rattle.span_csv.proofs.TogetherLaws.{too_many}

-- ---- records without any of Q1 to Q4

abbrev pub AreFormed : List Fields → Type 0
AreFormed rs = AllByRecursion (λ r. is_formed r ≡ true) rs

formed_both : (rs more : List Fields) → AreFormed rs → AreFormed more → AreFormed (rs ++ more)
formed_both [] more formed others = others
formed_both (r ∷ rs) more formed others = (formed.0, formed_both rs more formed.1 others)

-- records without a fault have none of Q1 to Q4
free_all_formed : (before rs : List Fields) → IsFaultFree record_fault before rs → AreFormed rs
free_all_formed before [] free = tt
free_all_formed before (r ∷ rs) free = (free_formed (counted before) r free.0, free_all_formed (before ++ r ∷ []) rs free.1)

-- ---- the limit

-- the accounts of these records as positions
abbrev pub accounts_in : List Fields → List (List ℕ)
accounts_in rs = accounts_of (map position_record rs)

-- the limit in the definition is the limit on the accounts of positions
limit_is : (before : List Fields) (r : Fields) → exceeds_accounts before r ≡ is_one_too_many MAX_ACCOUNTS (accounts_in before) (text_at r 0)
limit_is before r =
    ap (λ b. not b && (length (distinct (names_of before)) == MAX_ACCOUNTS)) (sym (is_among-distinct (names_of before) (text_at r 0)))
    ∙ ap (λ names. is_one_too_many MAX_ACCOUNTS (distinct names) (text_at r 0)) (sym (record_accounts before))

module _ (before : List Fields) (r : Fields) (rs : List Fields) (few : length (accounts_in (before ++ r ∷ rs)) ≤ MAX_ACCOUNTS) where
  abbrev whole : List PositionRecord
  whole = map position_record before

  split : map position_record (before ++ r ∷ rs) ≡ (whole ++ position_record r ∷ []) ++ map position_record rs
  split = map-append position_record before (r ∷ rs) ∙ sym (append_assoc whole (position_record r ∷ []) (map position_record rs))

  -- if all records together stay within the account limit, no record among them is one too many
  within_limit : exceeds_accounts before r ≡ false
  unfolding position_record
  within_limit = by (exceeds_accounts before r) refl where
    by : (b : Bool) → exceeds_accounts before r ≡ b → exceeds_accounts before r ≡ false
    by false e = e
    by true e = absurd (too_many whole (map position_record rs) (position_record r)
        (subst (λ ps. length (accounts_of ps) ≤ MAX_ACCOUNTS) split few) (sym (limit_is before r) ∙ e))

-- ---- the whole file

none_is : {X : Type 0} (o : Option X) → is_none o ≡ true → o ≡ None
none_is None e = refl
none_is (Some x) e = cc

-- records with none of Q1 to Q4, and no more accounts than the limit, have no fault
pub free_behind : (before rs : List Fields) → counted before ≡ before → AreFormed rs → length (accounts_in (before ++ rs)) ≤ MAX_ACCOUNTS
    → IsFaultFree record_fault before rs
free_behind before [] all formed few = tt
free_behind before (r ∷ rs) all formed few = (
  subst (λ zs. fault_where_all_count zs r ≡ None) (sym all)
      (first_append (form_faults r) ((exceeds_accounts before r, fault.TooManyAccounts) ∷ [])
      (none_is (first_that_holds (form_faults r)) formed.0)
      ∙ ap (λ b. first_that_holds ((b, fault.TooManyAccounts) ∷ [])) (within_limit before r rs few)),
  free_behind (before ++ r ∷ []) rs (all_count before r all formed.0) formed.1
      (subst (λ zs. length (accounts_in zs) ≤ MAX_ACCOUNTS) (sym (append_assoc before (r ∷ []) rs)) few),
)

-- the records of a piece without a fault are its positions, and none has one of Q1 to Q4
one_piece : (bytes : List ℕ) (ps : List PositionRecord) → piece_of bytes ≡ Some ps
    → AreFormed (records_of bytes) × (map position_record (records_of bytes) ≡ ps)
unfolding positions_of position_faults
one_piece bytes ps is =
    let parts = ok_parts (first_of (position_faults bytes)) (map position_record (records_of bytes)) ps (by (positions_of bytes) is) in
    (free_all_formed [] (records_of bytes) (first_fault_none record_fault [] (records_of bytes) parts.0), parts.1)
  where
    by : (o : Result (List PositionRecord) PositionFault) → result_ok o ≡ Some ps → o ≡ Ok ps
    by (Ok all) is = let same : all ≡ ps = cc in ap Ok same
    by (Err e) is = cc

all_pieces : (parts : List (List ℕ)) (pieces : List (List PositionRecord)) → map piece_of parts ≡ map Some pieces
    → AreFormed (flat_map records_of parts) × (map position_record (flat_map records_of parts) ≡ records_together pieces)
all_pieces [] [] are = (tt, refl)
all_pieces [] (piece ∷ pieces) are = cc
all_pieces (bytes ∷ parts) [] are = cc
all_pieces (bytes ∷ parts) (piece ∷ pieces) are =
    let here : piece_of bytes ≡ Some piece = cc in
    let others : map piece_of parts ≡ map Some pieces = cc in
    let one = one_piece bytes piece here in
    let rest = all_pieces parts pieces others in (
      formed_both (records_of bytes) (flat_map records_of parts) one.0 rest.0,
      map-append position_record (records_of bytes) (flat_map records_of parts) ∙ ap₂ (λ ps more. ps ++ more) one.1 rest.1,
    )

-- if no piece has a fault and there are not too many accounts, the pieces have the positions of the file
pub together_are : (bytes : List ℕ) (parts : List (List ℕ)) (pieces : List (List PositionRecord)) (accounts : List (List ℕ))
    → map piece_of parts ≡ map Some pieces → flat_map records_of parts ≡ records_of bytes → AreTogether accounts pieces
    → positions_of bytes ≡ Ok (records_together pieces)
unfolding positions_of position_faults
together_are bytes parts pieces accounts are same together =
    let all = all_pieces parts pieces are in
    let records = ap (map position_record) (sym same) ∙ all.1 in
    let few : length (accounts_in (records_of bytes)) ≤ MAX_ACCOUNTS =
    subst (λ ks. length ks ≤ MAX_ACCOUNTS) (together.accounts_are ∙ ap accounts_of (sym records)) together.few in
    let free = free_behind [] (records_of bytes) refl (subst AreFormed same all.0) few in
    ap (λ o. ok_unless o (map position_record (records_of bytes))) (first_fault_free record_fault [] (records_of bytes) free)
    ∙ ap Ok records
