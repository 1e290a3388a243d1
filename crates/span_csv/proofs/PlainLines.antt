-- The records of bytes of lines: each comma ends a field, and each line feed a record.
use Rattle.std.proofs.Common.{◌≡◌, ◌∙◌, refl, sym, ap, subst, inl, inr, arith, ℕ, ◌+◌, ◌<◌, Bool, true, false, true≢false, add-one, Decides}
use Rattle.std.proofs.Common.{◌&&◌, ◌==◌, ℤ, List, [], ◌∷◌, ◌++◌, length, take, drop, get_or, Some, None, append_assoc}
use Rattle.std.specs.Char.{is_ascii_digit}
use Rattle.std.specs.List.{AllByRecursion, list_all, list_any, starts_with}
use Rattle.std.specs.Prelude.{if◌then◌else◌, nat_eq, nat_le}
use Rattle.std.proofs.Math.Bool.{and-false, and-true, and_assoc, or-false}
use Rattle.std.proofs.Math.Seq.{drop-cons}
use Rattle.std.proofs.lemmas.Bool.{and_parts, cases_Bool, eqb-true, or_parts}
use Rattle.std.proofs.lemmas.List.{append-nil, get_or-take, length-take, take-append-drop}
use Rattle.std.proofs.lemmas.List.Elements.{All-from_get_or}
use Rattle.std.proofs.lemmas.List.Folds.{list_any-append, list_any_none}
use Rattle.std.proofs.lemmas.Slice.Eq.{bytes_eq-Decides}
use Rattle.memchr.specs.Find.{IsFirstByte, is_byte2}
use Rattle.csv.specs.Reading.{is_bom, strip_bom}
use Rattle.csv.specs.declared.parser.State.TheVariants as state
use Rattle.span_money.specs.Numbers.{are_digits, whole_number, without_minus}
use Rattle.span_tables.specs.Names.{is_name, is_name_byte}
use Rattle.span_csv.specs.Records.{Fields}
use Rattle.span_csv.specs.near.PlainPositions.{IsPlainLine, IsPositionIn, line_of}
use Rattle.span_csv.specs.near.Rows.{rows, rows_in, AreLines}
use Rattle.span_csv.proofs.CutPlaces.{found_any}
use Rattle.std.proofs.lemmas.Bool.Decides.{Decides-eqb, same_from_decides}

-- ---- bytes that only extend the current field

-- a byte that ends no field and no line, and opens no quotes
pub record Joins (b : ℕ) : Type 0 where
  pub comma : (b == 44) ≡ false
  pub carriage : (b == 13) ≡ false
  pub line : (b == 10) ≡ false
  pub quote : (b == 34) ≡ false

abbrev pub AllJoin : List ℕ → Type 0
AllJoin text = AllByRecursion Joins text

-- such bytes are appended to the current field
joined : (text rest : List ℕ) (fields : Fields) (field : List ℕ) → AllJoin text
    → rows state.InField fields field (text ++ rest) ≡ rows state.InField fields (field ++ text) rest
joined [] rest fields field joins = ap (λ f. rows state.InField fields f rest) (sym (append-nil field))
joined (b ∷ text) rest fields field joins =
    rw (joins.0.comma, joins.0.carriage, joins.0.line)
    (joined text rest fields (field ++ b ∷ []) joins.1
    ∙ ap (λ f. rows state.InField fields f rest) (append_assoc field (b ∷ []) text))

-- the first byte of such bytes starts a field, and the others extend it
field_joined : (b : ℕ) (text rest : List ℕ) (fields : Fields) → AllJoin (b ∷ text)
    → rows state.StartField fields [] (b ∷ (text ++ rest)) ≡ rows state.InField fields (b ∷ text) rest
field_joined b text rest fields joins =
    rw (joins.0.comma, joins.0.carriage, joins.0.line, joins.0.quote) (joined text rest fields (b ∷ []) joins.1)

-- a comma ends a field
pub field_ends : (text rest : List ℕ) (fields : Fields) → AllJoin text
    → rows state.StartField fields [] (text ++ 44 ∷ rest) ≡ rows state.StartField (fields ++ text ∷ []) [] rest
field_ends [] rest fields joins = refl
field_ends (b ∷ text) rest fields joins = field_joined b text (44 ∷ rest) fields joins

-- a line feed ends a record
pub line_ends : (text rest : List ℕ) (fields : Fields) → AllJoin text
    → rows state.StartField fields [] (text ++ 10 ∷ rest) ≡ (fields ++ text ∷ []) ∷ rows_in rest
line_ends [] rest fields joins = refl
line_ends (b ∷ text) rest fields joins = field_joined b text (10 ∷ rest) fields joins

-- the end of the bytes ends a record
text_ends : (text : List ℕ) (fields : Fields) → AllJoin text
    → rows state.StartField fields [] text ≡ (fields ++ text ∷ []) ∷ rows_in []
text_ends [] fields joins = refl
text_ends (b ∷ text) fields joins =
    ap (rows state.StartField fields []) (sym (append-nil (b ∷ text))) ∙ field_joined b text [] fields joins

-- a non-empty line begins with a field
pub line_begins : (b : ℕ) (rest : List ℕ) → (b == 13) ≡ false → (b == 10) ≡ false
    → rows_in (b ∷ rest) ≡ rows state.StartField [] [] (b ∷ rest)
line_begins b rest carriage line = rw (carriage, line) refl

-- ---- the results of a search

-- no byte before the first one that passes a test passes it
before_first : (test : ℕ → Bool) (bytes : List ℕ) (end : ℕ) → IsFirstByte test bytes (Some end) → list_any test (take end bytes) ≡ false
before_first test bytes end first =
    list_any_none test (take end bytes) (All-from_get_or (λ b. test b ≡ false) (take end bytes) 0 (λ k within.
    let early : k < end = omega (arith, length-take end bytes, within) in
    rw (get_or-take end bytes k 0 early)
    (elim (cases_Bool (test (get_or bytes k 0))) [
      | inl passes ↦ absurd (first.0.before k (omega arith) early passes)
      | inr fails ↦ fails
    ])))

-- bytes of lines without a comma and a line feed only extend the current field
all_join : (text : List ℕ) → AreLines text → list_any (is_byte2 44 10) text ≡ false → AllJoin text
all_join [] lines none = tt
all_join (b ∷ text) lines none =
    let plain = or_parts (is_byte2 34 13 b) (list_any (is_byte2 34 13) text) lines in
    let inner = or_parts (is_byte2 44 10 b) (list_any (is_byte2 44 10) text) none in
    let quotes = or_parts (b == 34) (b == 13) plain.0 in
    let ends = or_parts (b == 44) (b == 10) inner.0 in
    (record { comma = ends.0; carriage = quotes.1; line = ends.1; quote = quotes.0 }, all_join text plain.1 inner.1)

-- both parts of bytes of lines are bytes of lines
lines_parted : (front back : List ℕ) → AreLines (front ++ back) → AreLines front × AreLines back
lines_parted front back lines =
    or_parts (list_any (is_byte2 34 13) front) (list_any (is_byte2 34 13) back)
    (sym (list_any-append (is_byte2 34 13) front back) ∙ lines)

-- ---- the first field

module _ (bytes : List ℕ) (lines : AreLines bytes) where
  -- bytes without a comma and a line feed are the last field
  pub rows_at_end : (fields : Fields) → IsFirstByte (is_byte2 44 10) bytes None
      → rows state.StartField fields [] bytes ≡ (fields ++ bytes ∷ []) ∷ rows_in []
  rows_at_end fields none = text_ends bytes fields (all_join bytes lines (sym (found_any (is_byte2 44 10) bytes None none)))

  module _ (end : ℕ) (first : IsFirstByte (is_byte2 44 10) bytes (Some end)) where
    abbrev text : List ℕ
    text = take end bytes

    abbrev behind : List ℕ
    behind = drop (end + 1) bytes

    parts : bytes ≡ text ++ get_or bytes end 0 ∷ behind
    parts =
        sym (take-append-drop end bytes)
        ∙ ap (λ rest. text ++ rest)
        (drop-cons bytes end 0 first.0.high ∙ ap (λ n. get_or bytes end 0 ∷ drop n bytes) (sym (add-one end)))

    both : AreLines text × AreLines (get_or bytes end 0 ∷ behind)
    both = lines_parted text (get_or bytes end 0 ∷ behind) (subst AreLines parts lines)

    text_joins : AllJoin text
    text_joins = all_join text both.0 (before_first (is_byte2 44 10) bytes end first)

    -- the bytes after the field are also bytes of lines
    pub lines_behind : AreLines behind
    lines_behind = (or_parts (is_byte2 34 13 (get_or bytes end 0)) (list_any (is_byte2 34 13) behind) both.1).1

    -- a line feed after the field ends the record
    pub rows_at_line : (fields : Fields) → get_or bytes end 0 ≡ 10
        → rows state.StartField fields [] bytes ≡ (fields ++ text ∷ []) ∷ rows_in behind
    rows_at_line fields is =
        ap (rows state.StartField fields []) (subst (λ b. bytes ≡ text ++ b ∷ behind) is parts)
        ∙ line_ends text behind fields text_joins

    -- otherwise a comma ends the field, and more fields follow
    pub rows_at_comma : (fields : Fields) → (get_or bytes end 0 ≡ 10 → ⊥)
        → rows state.StartField fields [] bytes ≡ rows state.StartField (fields ++ text ∷ []) [] behind
    rows_at_comma fields other =
        let apart : (get_or bytes end 0 == 10) ≡ false =
        elim (cases_Bool (get_or bytes end 0 == 10)) [
          | inl is ↦ absurd (other (eqb-true (get_or bytes end 0) 10 is))
          | inr differs ↦ differs
        ] in
        let comma : (get_or bytes end 0 == 44) ≡ true = sym (or-false (get_or bytes end 0 == 44)) ∙ rw apart at first.1 in
        ap (rows state.StartField fields []) (subst (λ b. bytes ≡ text ++ b ∷ behind) (eqb-true (get_or bytes end 0) 44 comma) parts)
        ∙ field_ends text behind fields text_joins

-- ---- positions

-- a byte that passes a test differs from a byte that fails it
unlike : (test : ℕ → Bool) (b other : ℕ) → test b ≡ true → test other ≡ false → (b == other) ≡ false
unlike test b other passes fails =
    elim (cases_Bool (b == other)) [
      | inl same ↦ absurd (true≢false (sym (subst (λ x. test x ≡ true) (eqb-true b other same) passes) ∙ fails))
      | inr apart ↦ apart
    ]

all_pass : (test : ℕ → Bool) (text : List ℕ) → ((b : ℕ) → test b ≡ true → Joins b) → list_all test text ≡ true → AllJoin text
all_pass test [] each all = tt
all_pass test (b ∷ text) each all =
    let both = and_parts (test b) (list_all test text) all in (each b both.0, all_pass test text each both.1)

name_byte_joins : (b : ℕ) → is_name_byte b ≡ true → Joins b
name_byte_joins b is = record {
  comma = unlike is_name_byte b 44 is refl;
  carriage = unlike is_name_byte b 13 is refl;
  line = unlike is_name_byte b 10 is refl;
  quote = unlike is_name_byte b 34 is refl;
}

digit_joins : (b : ℕ) → is_ascii_digit b ≡ true → Joins b
digit_joins b is = record {
  comma = unlike is_ascii_digit b 44 is refl;
  carriage = unlike is_ascii_digit b 13 is refl;
  line = unlike is_ascii_digit b 10 is refl;
  quote = unlike is_ascii_digit b 34 is refl;
}

name_joins : (name : List ℕ) → is_name name ≡ true → AllJoin name
name_joins name is =
    all_pass is_name_byte name name_byte_joins
    (and_parts (nat_le 1 (length name) && nat_le (length name) 16) (list_all is_name_byte name) is).1

digits_join : (text : List ℕ) → are_digits 18 text ≡ true → AllJoin text
digits_join text are =
    all_pass is_ascii_digit text digit_joins
    (and_parts (nat_le 1 (length text) && nat_le (length text) 18) (list_all is_ascii_digit text) are).1

minus_joins : (text : List ℕ) → AllJoin (without_minus text) → AllJoin text
minus_joins [] joins = tt
minus_joins (b ∷ text) joins =
    elim (cases_Bool (b == 45)) [
      | inl is ↦
          let sign : Joins 45 = record { comma = refl; carriage = refl; line = refl; quote = refl } in
          let minus : Joins b = subst Joins (sym (eqb-true b 45 is)) sign in
          (minus, rw is at joins)
      | inr other ↦ rw other at joins
    ]

number_joins : (text : List ℕ) (z : ℤ) → whole_number text ≡ Some z → AllJoin text
number_joins text z is =
    elim (cases_Bool (are_digits 18 (without_minus text))) [
      | inl digits ↦ minus_joins text (digits_join (without_minus text) digits)
      | inr none ↦ let never = rw none at is in cc
    ]

-- bytes that begin with a field and then a comma are the field, the comma and the bytes after it
pub behind_comma : (bytes field : List ℕ) → starts_with nat_eq bytes field ≡ true → length field < length bytes
    → get_or bytes (length field) 0 ≡ 44 → bytes ≡ field ++ 44 ∷ drop (length field + 1) bytes
behind_comma bytes field begins short comma =
    sym (take-append-drop (length field) bytes)
    ∙ ap (λ front. front ++ drop (length field) bytes) (sym ((bytes_eq-Decides field (take (length field) bytes)).0 begins))
    ∙ ap (λ rest. field ++ rest)
    (drop-cons bytes (length field) 0 short ∙ rw (comma, sym (add-one (length field))) refl)

-- a name before a comma is the first field of a line
named_line : (name rest : List ℕ) → is_name name ≡ true
    → rows_in (name ++ 44 ∷ rest) ≡ rows state.StartField (name ∷ []) [] rest
named_line [] rest is = absurd (true≢false (sym is))
named_line (b ∷ name) rest is =
    let joins = name_joins (b ∷ name) is in
    line_begins b (name ++ 44 ∷ rest) joins.0.carriage joins.0.line ∙ field_ends (b ∷ name) rest [] joins

-- two names and a number in a line are the fields of a record
pub fields_read : (account contract text rest : List ℕ) (quantity : ℤ) → is_name account ≡ true → is_name contract ≡ true
    → whole_number text ≡ Some quantity
    → rows_in (line_of account contract text rest) ≡ (account ∷ contract ∷ text ∷ []) ∷ rows_in rest
fields_read account contract text rest quantity named known number =
    named_line account (contract ++ 44 ∷ (text ++ 10 ∷ rest)) named
    ∙ field_ends contract (text ++ 10 ∷ rest) (account ∷ []) (name_joins contract known)
    ∙ line_ends text rest (account ∷ contract ∷ []) (number_joins text quantity number)

-- a plain line is a position record
pub plain_line : (account contract : List ℕ) (quantity : ℤ) (rest bytes : List ℕ) → is_name account ≡ true
    → IsPlainLine account contract quantity rest bytes → IsPositionIn account contract quantity (rows_in rest) (rows_in bytes)
plain_line account contract quantity rest bytes named line = record {
  text = line.text;
  rows_are = ap rows_in line.bytes_are ∙ fields_read account contract line.text rest quantity named line.named line.number;
  account_named = named;
  contract_named = line.named;
  number = line.number;
  small = line.small;
}

-- ---- the byte order mark

turned : (a b : ℕ) → (a == b) ≡ (b == a)
turned a b =
    let other : Decides (b == a) (a ≡ b) = ((λ e. sym ((Decides-eqb b a).0 e)), (λ e. (Decides-eqb b a).1 (sym e))) in
    same_from_decides _ _ (Decides-eqb a b) other

same_mark : (a b c : ℕ) → ((239 == a) && ((187 == b) && ((191 == c) && true))) ≡ is_bom a b c
same_mark a b c =
    rw (turned a 239, turned b 187, turned c 191, and-true (191 == c)) (sym (and_assoc (239 == a) (187 == b) (191 == c)))

-- the bytes after a mark are the bytes that `csv` reads
pub mark_taken : (bytes : List ℕ)
    → (if starts_with nat_eq bytes (239 ∷ 187 ∷ 191 ∷ []) then drop 3 bytes else bytes) ≡ strip_bom bytes
unfolding strip_bom
mark_taken [] = refl
mark_taken (a ∷ []) = rw (and-false (239 == a)) refl
mark_taken (a ∷ b ∷ []) = rw (and-false (187 == b), and-false (239 == a)) refl
mark_taken (a ∷ b ∷ c ∷ rest) = ap (λ is. if is then rest else a ∷ b ∷ c ∷ rest) (same_mark a b c)
