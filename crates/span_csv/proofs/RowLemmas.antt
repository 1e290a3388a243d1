-- The record that one read of `csv` takes from the records that are left.
use Rattle.std.proofs.Common.{Bor, ◌≡◌, ◌≤◌, ◌+◌, ◌-◌, ◌==◌, ◌&&◌, ap, refl}
use Rattle.std.proofs.Common.{arith, inl, inr, ℕ, zero, suc, Bool, true, false, if◌then◌else◌}
use Rattle.std.proofs.Common.{List, [], ◌∷◌, ◌++◌, length, Option, Some, None, IsSome, add-one}
use Rattle.std.specs.Bool.{MatchBool}
use Rattle.std.proofs.lemmas.Bool.{false≢true, cases_Bool}
use Rattle.csv.specs.Machine.{Read, next_record, step, in_field, start_field, start_record, is_end}
use Rattle.csv.specs.Machine.{ends_at_end, ends_with, after_end, carriage_return, fields_after, field_after}
use Rattle.csv.specs.Reading.{records_from, records_next, default_config, source_of, pending_of, ReadRecord, ReadsNext, NextIs, has_failed}
use Rattle.csv.specs.declared.parser.Action.{Action}
use Rattle.csv.specs.declared.parser.Action.TheVariants as act
use Rattle.csv.specs.declared.parser.State.{State}
use Rattle.csv.specs.declared.parser.State.TheVariants as st
use Rattle.csv.specs.declared.parser.Terminator.TheVariants as term
use Rattle.csv.specs.declared.reader.Reader.{Reader}
use Rattle.span_csv.specs.Records.{Fields}
use Rattle.span_csv.specs.near.Rows.{rows_from, rows_left, IsPlain}

-- after a byte that ends a record, the state is between records
abbrev Closes : State × Action → Type 0
Closes after = is_end after.1 ≡ true → ends_at_end after.0 ≡ false

closes_if : (b : Bool) (x y : State × Action) → Closes x → Closes y → Closes (if b then x else y)
closes_if true x y first second = first
closes_if false x y first second = second

closes_end : (c : ℕ) → ends_at_end (after_end term.CRLF c) ≡ false
closes_end c =
    elim (c == carriage_return) as (λ b. ends_at_end (if b then st.AfterCr else st.StartRecord) ≡ false) [
      | true ↦ refl
      | false ↦ refl
    ]

closes_in_field : (c : ℕ) → Closes (in_field default_config c)
closes_in_field c =
    closes_if (c == 44) _ _ (λ e. absurd (false≢true e))
    (closes_if (ends_with term.CRLF c) (after_end term.CRLF c, act.EndRecord) (st.InField, act.Copy) (λ _. closes_end c)
    (λ e. absurd (false≢true e)))

closes_start_field : (c : ℕ) → Closes (start_field default_config c)
closes_start_field c = closes_if (true && (c == 34)) _ _ (λ e. absurd (false≢true e)) (closes_in_field c)

closes_start_record : (c : ℕ) → Closes (start_record default_config c)
closes_start_record c = closes_if (ends_with term.CRLF c) _ _ (λ e. absurd (false≢true e)) (closes_start_field c)

closes_step : (s : State) (c : ℕ) → Closes (step default_config s c)
closes_step st.StartRecord c = closes_start_record c
closes_step st.StartField c = closes_start_field c
closes_step st.InField c = closes_in_field c
closes_step st.InQuoted c = closes_if (c == 34) _ _ (λ e. absurd (false≢true e)) (λ e. absurd (false≢true e))
closes_step st.InEscape c = λ e. absurd (false≢true e)
closes_step st.AfterQuote c = closes_if (c == 34) _ _ (λ e. absurd (false≢true e)) (closes_in_field c)
closes_step st.InComment c = closes_if (c == 10) _ _ (λ e. absurd (false≢true e)) (λ e. absurd (false≢true e))
closes_step st.AfterCr c = closes_if (c == 10) _ _ (λ e. absurd (false≢true e)) (closes_start_record c)

-- a record takes the bytes up to its end, at least one of them if there is any
record Takes (bytes : List ℕ) (found : Read) : Type 0 where
  closed : ends_at_end found.1 ≡ false
  fewer : length found.2 ≤ length bytes - 1

takes_at_end : (b : Bool) (fields : Fields) (found : Read) → (if b then Some (fields, st.StartRecord, []) else None) ≡ Some found
    → Takes [] found
takes_at_end true fields found e =
    let same : (fields, st.StartRecord, []) ≡ found = cc in rw (← same) (record { closed = refl; fewer = omega arith })
takes_at_end false fields found e = cc

takes_step : (after : State × Action) (fields : Fields) (more : Option Read) (c : ℕ) (rest : List ℕ) (found : Read)
    → Closes after → (more ≡ Some found → Takes rest found)
    → (if is_end after.1 then Some (fields, after.0, rest) else more) ≡ Some found → Takes (c ∷ rest) found
takes_step after fields more c rest found closes later e =
    elim (cases_Bool (is_end after.1)) [
      | inl ends ↦
          let chosen = rw ends at e in
          let same : (fields, after.0, rest) ≡ found = cc in
          rw (← same) (record { closed = closes ends; fewer = omega arith })
      | inr goes ↦
          let takes = later (rw goes at e) in
          record { closed = takes.closed; fewer = omega (arith, takes.fewer) }
    ]

takes_next : (s : State) (fields : Fields) (field bytes : List ℕ) (found : Read)
    → next_record default_config s fields field bytes ≡ Some found → Takes bytes found
unfolding next_record
takes_next s fields field [] found e = takes_at_end (ends_at_end s) (fields ++ (field ∷ [])) found e
takes_next s fields field (c ∷ rest) found e =
    takes_step (step default_config s c) (fields_after (step default_config s c).1 fields field)
    (next_record default_config (step default_config s c).0 (fields_after (step default_config s c).1 fields field)
    (field_after (step default_config s c).1 c field) rest)
    c rest found (closes_step s c)
    (takes_next (step default_config s c).0 (fields_after (step default_config s c).1 fields field)
    (field_after (step default_config s c).1 c field) rest found) e

-- between records, an empty text has no record
none_left : (s : State) → ends_at_end s ≡ false → next_record default_config s [] [] [] ≡ None
unfolding next_record
none_left s closed = rw closed refl

same_next : (o : Option Read) (f g : State → List ℕ → List Fields)
    → ((found : Read) → o ≡ Some found → f found.1 found.2 ≡ g found.1 found.2) → records_next f o ≡ records_next g o
same_next None f g same = refl
same_next (Some found) f g same = ap (λ (more : List Fields). found.0 ∷ more) (same found refl)

-- between records, as many reads as there are bytes return every record
same_turns : (m n : ℕ) (s : State) (bytes : List ℕ) → ends_at_end s ≡ false → length bytes ≤ m → length bytes ≤ n
    → records_from default_config m s bytes ≡ records_from default_config n s bytes
unfolding records_from
same_turns zero zero s bytes closed few fit = refl
same_turns zero (suc n) s [] closed few fit = rw (none_left s closed) refl
same_turns zero (suc n) s (c ∷ rest) closed few fit = absurd (omega arith)
same_turns (suc m) zero s [] closed few fit = rw (none_left s closed) refl
same_turns (suc m) zero s (c ∷ rest) closed few fit = absurd (omega arith)
same_turns (suc m) (suc n) s bytes closed few fit =
    same_next (next_record default_config s [] [] bytes) (records_from default_config m) (records_from default_config n)
    (λ found e. same_turns m n found.1 found.2 (takes_next s [] [] bytes found e).closed
    (omega (arith, (takes_next s [] [] bytes found e).fewer)) (omega (arith, (takes_next s [] [] bytes found e).fewer)))

-- the records that are left are the next record and the records after it
first_left : (s : State) (bytes : List ℕ) (found : Read) → next_record default_config s [] [] bytes ≡ Some found
    → rows_from s (Some bytes) ≡ found.0 ∷ rows_from found.1 (Some found.2)
unfolding records_from
first_left s bytes found e =
    let takes = takes_next s [] [] bytes found e in
    let turns : records_from default_config (length bytes) found.1 found.2
    ≡ records_from default_config (length found.2 + 1) found.1 found.2 =
    same_turns (length bytes) (length found.2 + 1) found.1 found.2 takes.closed (omega (arith, takes.fewer)) (omega arith) in
    rw (add-one (length bytes), e, turns) refl

none_more : (s : State) (bytes : List ℕ) → next_record default_config s [] [] bytes ≡ None → rows_from s (Some bytes) ≡ []
unfolding records_from
none_more s bytes e = rw (add-one (length bytes), e) refl

-- if a record is found, it is the first row and the others are left; otherwise no row was left
abbrev Leaves : Bool → List Fields → Fields → List Fields → Type 0
Leaves found rows fields after = MatchBool found (rows ≡ fields ∷ after) (rows ≡ [])

row_next : (found : Bool) (s after : State) (bytes rest : List ℕ) (fields : Fields) (o : Option Read)
    → next_record default_config s [] [] bytes ≡ o → NextIs o found fields after rest
    → Leaves found (rows_from s (Some bytes)) fields (rows_from after (Some rest))
row_next true s after bytes rest fields None e next = cc
row_next true s after bytes rest fields (Some found) e next = rw (next.1, next.2, next.3) (first_left s bytes found e)
row_next false s after bytes rest fields None e next = none_more s bytes e
row_next false s after bytes rest fields (Some found) e next = cc

row_read : (found : Bool) (s after : State) (bytes rest : Option (List ℕ)) (fields : Fields) → IsSome bytes
    → ReadsNext default_config s bytes rest found fields after → Leaves found (rows_from s bytes) fields (rows_from after rest)
row_read found s after None rest fields known r = absurd (false≢true known)
row_read found s after (Some bytes) None fields known r = absurd r
row_read found s after (Some bytes) (Some rest) fields known r = row_next found s after bytes rest fields _ refl r

abbrev given : Bor (List ℕ) → Option (List ℕ)
given s = Some s.now

-- the record that a read finds is the first of the rows that were left
pub rows_left-found : (a b : Reader (Bor (List ℕ))) (found : Bool) (fields : Fields) → IsPlain a → ReadRecord given a b found fields
    → Leaves found (rows_left a) fields (rows_left b)
rows_left-found a b found fields plain read =
    let next = rw plain.config at read.0 in
    rw read.1 (row_read found a.state b.state (source_of given a) (pending_of (given b.rdr) b) fields plain.known next)

-- a reader that has failed has no records left
pub rows_left-failed_read : (a b : Reader (Bor (List ℕ))) (found : Bool) (fields : Fields) → has_failed a ≡ true → found ≡ false
    → Leaves found (rows_left a) fields (rows_left b)
rows_left-failed_read a b true fields failed none = cc
rows_left-failed_read a b false fields failed none = rw failed refl
