-- The records of two files joined.
use Rattle.std.proofs.Common.{◌≡◌, ◌∙◌, ℕ, zero, suc, ◌+◌, ◌≤◌, ◌<◌, Bool, true, false, ◌&&◌, ◌||◌, ◌==◌}
use Rattle.std.proofs.Common.{if◌then◌else◌, inl, inr, List, [], ◌∷◌, ◌++◌, Some, None, length, refl, sym, ap, subst, arith, append_assoc}
use Rattle.std.specs.List.{list_any}
use Rattle.std.proofs.Math.Bool.{and-false}
use Rattle.std.proofs.lemmas.Bool.{cases_Bool, eqb-true, or_parts}
use Rattle.std.proofs.lemmas.List.Folds.{list_any-append}
use Rattle.csv.specs.Machine.{ends_at_end, field_after, fields_after, is_end, next_record, step}
use Rattle.csv.specs.Reading.{default_config, is_bom, records_from, records_next, strip_bom}
use Rattle.csv.specs.declared.parser.State.{State}
use Rattle.csv.specs.declared.parser.State.TheVariants as state
use Rattle.csv.specs.declared.parser.Action.{Action}
use Rattle.csv.specs.declared.parser.Action.TheVariants as act
use Rattle.span_csv.specs.Records.{Fields, records_of}
use Rattle.span_csv.specs.Cuts.{BeginsWithNoMark, EndsInLineFeed, has_quote}
use Rattle.span_csv.specs.near.Rows.{rows, rows_by}

-- ---- the records of a text, byte by byte

-- at the end of a text no record is left
none_at_end : (n : ℕ) → records_from default_config n state.StartRecord [] ≡ []
unfolding records_from next_record
none_at_end zero = refl
none_at_end (suc n) = refl

-- after a record, one read fewer is enough for the bytes that are left
behind_record : (n : ℕ) (s : State) (rest : List ℕ) → length rest < n
    → ((m : ℕ) → length rest ≤ m
    → records_next (records_from default_config m) (next_record default_config s [] [] rest) ≡ rows s [] [] rest)
    → records_from default_config n s rest ≡ rows s [] [] rest
unfolding records_from
behind_record zero s rest lt more = absurd (omega (arith, lt))
behind_record (suc n) s rest lt more = more n (omega (arith, lt))

-- as many reads as there are bytes return all records
rows_are : (xs : List ℕ) (n : ℕ) (s : State) (fields : Fields) (field : List ℕ) → length xs ≤ n
    → records_next (records_from default_config n) (next_record default_config s fields field xs) ≡ rows s fields field xs
unfolding next_record
rows_are [] n s fields field le = by (ends_at_end s) where
  by : (b : Bool) → records_next (records_from default_config n)
      (if b then Some (fields ++ field ∷ [], state.StartRecord, []) else None) ≡ (if b then (fields ++ field ∷ []) ∷ [] else [])
  by true = ap (λ rs. (fields ++ field ∷ []) ∷ rs) (none_at_end n)
  by false = refl
rows_are (c ∷ rest) n s fields field le =
    by (step default_config s c).0 (step default_config s c).1
    (λ s2 fields2 field2. rows_are rest n s2 fields2 field2 (omega (arith, le)))
    (λ s2. behind_record n s2 rest (omega (arith, le)) (λ m short. rows_are rest m s2 [] [] short))
  where
    by : (s2 : State) (a : Action)
        → ((s3 : State) (fields3 : Fields) (field3 : List ℕ)
        → records_next (records_from default_config n) (next_record default_config s3 fields3 field3 rest)
        ≡ rows s3 fields3 field3 rest)
        → ((s3 : State) → records_from default_config n s3 rest ≡ rows s3 [] [] rest)
        → records_next (records_from default_config n)
        (if is_end a then Some (fields_after a fields field, s2, rest)
        else next_record default_config s2 (fields_after a fields field) (field_after a c field) rest)
        ≡ rows_by s2 a fields field c (λ s3 fields3 field3. rows s3 fields3 field3 rest)
    by s2 act.EndRecord more behind = ap (λ rs. (fields ++ field ∷ []) ∷ rs) (behind s2)
    by s2 act.Skip more behind = more s2 fields field
    by s2 act.Copy more behind = more s2 fields (field ++ c ∷ [])
    by s2 act.EndField more behind = more s2 (fields ++ field ∷ []) []

-- the records of a file, byte by byte
pub records_are : (xs : List ℕ) → records_of xs ≡ rows state.StartRecord [] [] (strip_bom xs)
unfolding records_of
records_are xs =
    behind_record (length (strip_bom xs) + 1) state.StartRecord (strip_bom xs) (omega arith)
    (λ m short. rows_are (strip_bom xs) m state.StartRecord [] [] short)

-- ---- bytes without a quote

-- no quoted field is open, and between two records nothing of the next one has been read
abbrev IsPlain : State → Fields → List ℕ → Type 0
IsPlain state.StartRecord fields field = (fields ≡ []) × (field ≡ [])
IsPlain state.AfterCr fields field = (fields ≡ []) × (field ≡ [])
IsPlain state.StartField fields field = Unit {0}
IsPlain state.InField fields field = Unit {0}
IsPlain _ fields field = ⊥

-- the state and the fields are plain after one more byte and the reader's action for it
abbrev IsPlainBehind : State → Action → Fields → List ℕ → ℕ → Type 0
IsPlainBehind s act.EndRecord fields field c = IsPlain s [] []
IsPlainBehind s act.Skip fields field c = IsPlain s fields field
IsPlainBehind s act.Copy fields field c = IsPlain s fields (field ++ c ∷ [])
IsPlainBehind s act.EndField fields field c = IsPlain s (fields ++ field ∷ []) []

-- a byte keeps the state plain
abbrev StaysPlain : State → Fields → List ℕ → ℕ → Type 0
StaysPlain s fields field c = IsPlainBehind (step default_config s c).0 (step default_config s c).1 fields field c

-- a byte is a comma, an end of a line, or none of these
by_kind : (P : ℕ → Type 0) (c : ℕ) → P 44 → P 13 → P 10
    → ((c == 44) ≡ false → (c == 13) ≡ false → (c == 10) ≡ false → P c) → P c
by_kind P c comma carriage line other =
    elim (cases_Bool (c == 44)) [
      | inl is ↦ subst P (sym (eqb-true c 44 is)) comma
      | inr a ↦ elim (cases_Bool (c == 13)) [
        | inl is ↦ subst P (sym (eqb-true c 13 is)) carriage
        | inr b ↦ elim (cases_Bool (c == 10)) [
          | inl is ↦ subst P (sym (eqb-true c 10 is)) line
          | inr d ↦ other a b d
        ]
      ]
    ]

-- each byte except a double quote keeps the state plain
stays_plain : (s : State) (fields : Fields) (field : List ℕ) (c : ℕ) → IsPlain s fields field → (c == 34) ≡ false
    → StaysPlain s fields field c
stays_plain state.StartRecord fields field c plain free =
    by_kind (StaysPlain state.StartRecord fields field) c tt plain plain (λ a b d. rw (a, b, d, free) tt)
stays_plain state.AfterCr fields field c plain free =
    by_kind (StaysPlain state.AfterCr fields field) c tt plain plain (λ a b d. rw (a, b, d, free) tt)
stays_plain state.StartField fields field c plain free =
    by_kind (StaysPlain state.StartField fields field) c tt (refl, refl) (refl, refl) (λ a b d. rw (a, b, d, free) tt)
stays_plain state.InField fields field c plain free =
    by_kind (StaysPlain state.InField fields field) c tt (refl, refl) (refl, refl) (λ a b d. rw (a, b, d) tt)
stays_plain _ fields field c plain free = absurd plain

-- after a line feed the records start anew
line_cut : (s : State) (fields : Fields) (field ys : List ℕ) → IsPlain s fields field
    → rows s fields field (10 ∷ ys) ≡ rows s fields field (10 ∷ []) ++ rows state.StartRecord [] [] ys
line_cut state.StartRecord fields field ys plain = rw (plain.0, plain.1) refl
line_cut state.AfterCr fields field ys plain = rw (plain.0, plain.1) refl
line_cut state.StartField fields field ys plain = refl
line_cut state.InField fields field ys plain = refl
line_cut _ fields field ys plain = absurd plain

-- the rows after quote-free bytes and a line feed are the rows of the further bytes by themselves
rows_cut : (front : List ℕ) (s : State) (fields : Fields) (field ys : List ℕ) → IsPlain s fields field → has_quote front ≡ false
    → rows s fields field (front ++ 10 ∷ ys) ≡ rows s fields field (front ++ 10 ∷ []) ++ rows state.StartRecord [] [] ys
rows_cut [] s fields field ys plain free = line_cut s fields field ys plain
rows_cut (c ∷ front) s fields field ys plain free =
    let parts = or_parts (c == 34) (has_quote front) free in
    by (step default_config s c).0 (step default_config s c).1 (stays_plain s fields field c plain parts.0)
    (λ s2 fields2 field2 h. rows_cut front s2 fields2 field2 ys h parts.1)
  where
    by : (s2 : State) (a : Action) → IsPlainBehind s2 a fields field c
        → ((s3 : State) (fields3 : Fields) (field3 : List ℕ) → IsPlain s3 fields3 field3
        → rows s3 fields3 field3 (front ++ 10 ∷ ys) ≡ rows s3 fields3 field3 (front ++ 10 ∷ []) ++ rows state.StartRecord [] [] ys)
        → rows_by s2 a fields field c (λ s3 fields3 field3. rows s3 fields3 field3 (front ++ 10 ∷ ys))
        ≡ rows_by s2 a fields field c (λ s3 fields3 field3. rows s3 fields3 field3 (front ++ 10 ∷ []))
        ++ rows state.StartRecord [] [] ys
    by s2 act.EndRecord h more = ap (λ rs. (fields ++ field ∷ []) ∷ rs) (more s2 [] [] h)
    by s2 act.Skip h more = more s2 fields field h
    by s2 act.Copy h more = more s2 fields (field ++ c ∷ []) h
    by s2 act.EndField h more = more s2 (fields ++ field ∷ []) [] h

-- ---- the byte order mark

-- a line feed is no part of the mark
mark_first : (ys : List ℕ) → strip_bom (10 ∷ ys) ≡ 10 ∷ ys
unfolding strip_bom
mark_first [] = refl
mark_first (b ∷ []) = refl
mark_first (b ∷ c ∷ ys) = refl

mark_second : (a : ℕ) (ys : List ℕ) → strip_bom (a ∷ 10 ∷ ys) ≡ a ∷ 10 ∷ ys
unfolding strip_bom
mark_second a [] = refl
mark_second a (c ∷ ys) = ap (λ b. if (b && (c == 0xBF)) then ys else a ∷ 10 ∷ c ∷ ys) (and-false (a == 0xEF))

-- removing the mark from bytes with a line feed after them removes it from the bytes before the line feed
mark_front : (front ys : List ℕ) → strip_bom (front ++ 10 ∷ ys) ≡ strip_bom front ++ 10 ∷ ys
unfolding strip_bom
mark_front [] ys = mark_first ys
mark_front (a ∷ []) ys = mark_second a ys
mark_front (a ∷ b ∷ []) ys = ap (λ z. if z then ys else a ∷ b ∷ 10 ∷ ys) (and-false ((a == 0xEF) && (b == 0xBB)))
mark_front (a ∷ b ∷ c ∷ front) ys = by (is_bom a b c) where
  by : (z : Bool) → (if z then front ++ 10 ∷ ys else a ∷ b ∷ c ∷ (front ++ 10 ∷ ys))
      ≡ (if z then front else a ∷ b ∷ c ∷ front) ++ 10 ∷ ys
  by true = refl
  by false = refl

-- if no byte passes a test, none does after the mark is removed
pub mark_free : (test : ℕ → Bool) (front : List ℕ) → list_any test front ≡ false → list_any test (strip_bom front) ≡ false
unfolding strip_bom
mark_free test [] free = free
mark_free test (a ∷ []) free = free
mark_free test (a ∷ b ∷ []) free = free
mark_free test (a ∷ b ∷ c ∷ front) free = by (is_bom a b c) where
  rest_free : list_any test front ≡ false
  rest_free =
      (or_parts (test c) (list_any test front)
      (or_parts (test b) (list_any test (c ∷ front)) (or_parts (test a) (list_any test (b ∷ c ∷ front)) free).1).1).1

  by : (z : Bool) → list_any test (if z then front else a ∷ b ∷ c ∷ front) ≡ false
  by true = rest_free
  by false = free

-- ---- records and mark together

-- the records of quote-free bytes, then a line feed, then further bytes
lines_cut : (front second : List ℕ) → has_quote front ≡ false → BeginsWithNoMark second
    → records_of (front ++ 10 ∷ second) ≡ records_of (front ++ 10 ∷ []) ++ records_of second
lines_cut front second free unmarked =
    records_are (front ++ 10 ∷ second)
    ∙ ap (rows state.StartRecord [] []) (mark_front front second)
    ∙ rows_cut (strip_bom front) state.StartRecord [] [] second (refl, refl) (mark_free (λ b. b == 34) front free)
    ∙ (λ i. sym one i ++ sym other i)
  where
    one : records_of (front ++ 10 ∷ []) ≡ rows state.StartRecord [] [] (strip_bom front ++ 10 ∷ [])
    one = records_are (front ++ 10 ∷ []) ∙ ap (rows state.StartRecord [] []) (mark_front front [])

    other : records_of second ≡ rows state.StartRecord [] [] second
    other = records_are second ∙ ap (rows state.StartRecord [] []) unmarked

-- after a file that ends in a line feed and has no quote, the records of another file are the same as by themselves
pub records_joined : (first second : List ℕ) → EndsInLineFeed first → has_quote first ≡ false → BeginsWithNoMark second
    → records_of (first ++ second) ≡ records_of first ++ records_of second
records_joined first second ends free unmarked =
    let front = ends.0 in
    let parted : (has_quote front || has_quote (10 ∷ [])) ≡ false =
    sym (list_any-append (λ b. b == 34) front (10 ∷ [])) ∙ ap has_quote (sym ends.1) ∙ free in
    let plain = (or_parts (has_quote front) (has_quote (10 ∷ [])) parted).0 in
    ap (λ bytes. records_of (bytes ++ second)) ends.1
    ∙ ap records_of (append_assoc front (10 ∷ []) second)
    ∙ lines_cut front second plain unmarked
    ∙ ap (λ bytes. records_of bytes ++ records_of second) (sym ends.1)
