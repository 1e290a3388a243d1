-- The request that a line of a session makes, or why the line is rejected.
use Rattle.std.specs.Prelude.{ℕ, ◌+◌, ◌-◌, ◌*◌, ◌%◌, Bool, not, ◌&&◌, ◌||◌, ◌==◌, nat_le, nat_lt, if◌then◌else◌, false, true}
use Rattle.std.specs.Prelude.{List, [], ◌∷◌, drop, length, map, find, codes, bytes_eq, ℤ, pos, nat_abs}
use Rattle.std.specs.Prelude.{◌<◌, ◌≤◌, ⊤, All, Option, Some, None, is_some, option_map, unwrap_or, Result, Ok, Err}
use Rattle.std.specs.Borrow.{Bor}
use Rattle.std.specs.List.{enumerate_from, slice_split}
use Rattle.std.specs.Str.{is_utf8}
use Rattle.span_money.specs.Numbers.{whole_number}
use Rattle.span_tables.specs.Names.{is_name}
use Rattle.span_tables.specs.declared.limits.TheConstants.{MAX_QUANTITY}
use Rattle.span_csv.specs.Records.{text_at}
use Rattle.session.specs.declared.faults.RequestFault.{RequestFault}
use Rattle.session.specs.declared.faults.RequestFault.TheVariants as fault
use Rattle.session.specs.declared.requests.Request.{Request}
use Rattle.session.specs.declared.requests.Request.TheVariants as request
use Rattle.binding.specs.declared.trades.Trade.{Trade}
use Rattle.session.specs.declared.requests.Word.{Word}
use Rattle.session.specs.declared.requests.Word.TheVariants as word
use Rattle.desks.specs.declared.desk.TheConstants.{MAX_LINE}
use Rattle.session.specs.declared.requests.TheConstants.{MAX_TRADES}

-- ---- fields

-- the fields of a line: the bytes between its commas
abbrev pub fields_of : List ℕ → List (List ℕ)
fields_of line = slice_split (λ b. b == 44) line

-- the bytes of borrowed fields
abbrev pub texts_of : List (Bor (List ℕ)) → List (List ℕ)
texts_of fields = map (λ field. field.now) fields

-- the word that a field spells
abbrev pub word_named : List ℕ → Option Word
word_named field =
    if bytes_eq field (codes "MARGIN") then Some word.Margin
    else if bytes_eq field (codes "EXPLAIN") then Some word.Explain
    else if bytes_eq field (codes "TRY") then Some word.Try
    else if bytes_eq field (codes "FILL") then Some word.Fill
    else if bytes_eq field (codes "SET") then Some word.Set
    else if bytes_eq field (codes "POSITIONS") then Some word.Positions
    else None

-- ---- the fields that a request may have

-- the number of names between the word of a request and its pairs of contract and quantity
abbrev pub names_of : Word → ℕ
names_of word.Margin = 1
names_of word.Explain = 1
names_of word.Try = 2
names_of word.Fill = 1
names_of word.Set = 0
names_of word.Positions = 0

-- this number of fields is a word, `names` names, and pairs of contract and quantity, at least one and not too many
abbrev pub has_trades : ℕ → ℕ → Bool
has_trades names count =
    nat_lt (names + 1) count && nat_le count (names + 1 + 2 * MAX_TRADES) && ((count - (names + 1)) % 2 == 0)

-- a request with the word may have this number of fields, including the word; the fields of a SET are checked with its
-- file name
abbrev pub may_have : Word → ℕ → Bool
may_have word.Margin count = count == 1 || (count == 2)
may_have word.Explain count = count == 2
may_have word.Try count = has_trades 2 count
may_have word.Fill count = has_trades 1 count
may_have word.Set count = false
may_have word.Positions count = count == 1

-- the field with this number, from 1, is a quantity, if this many names follow the word
abbrev pub is_quantity_field : ℕ → ℕ → Bool
is_quantity_field names n = nat_lt (names + 1) n && ((n - (names + 1)) % 2 == 0)

-- a quantity is in its range
abbrev pub is_quantity : ℤ → Bool
is_quantity quantity = nat_le (nat_abs quantity) MAX_QUANTITY

-- ---- faults

-- the field with this number must be a name, and is not
abbrev pub is_bad_name : Word → ℕ → List ℕ → Bool
is_bad_name w n text = not (is_quantity_field (names_of w) n) && not (is_name text)

-- the field with this number must be a quantity, and is not a whole number
abbrev pub is_bad_number : Word → ℕ → List ℕ → Bool
is_bad_number w n text = is_quantity_field (names_of w) n && not (is_some (whole_number text))

-- the field with this number is a quantity out of range
abbrev pub is_out_of_range : Word → ℕ → List ℕ → Bool
is_out_of_range w n text =
    is_quantity_field (names_of w) n && not (is_quantity (unwrap_or (whole_number text) (pos 0)))

-- the number of the first field after the word that passes a test
abbrev pub field_where : (ℕ → List ℕ → Bool) → List (List ℕ) → Option ℕ
field_where test fields = option_map (λ f. f.0) (find (λ f. test f.0 f.1) (enumerate_from 2 (drop 1 fields)))

-- the first of two faults
abbrev pub or_else : Option RequestFault → Option RequestFault → Option RequestFault
or_else None other = other
or_else (Some e) other = Some e

-- the fault of the fields: first a malformed name, then a malformed number, then a quantity out of range
abbrev pub form_fault : Word → List (List ℕ) → Option RequestFault
form_fault w fields =
    or_else (option_map fault.BadName (field_where (is_bad_name w) fields))
    (or_else (option_map fault.BadNumber (field_where (is_bad_number w) fields))
    (option_map fault.OutOfRange (field_where (is_out_of_range w) fields)))

-- ---- requests

-- the request: the statement of all accounts or of one, the explanation of one, the effect of an order, trades to book,
-- another parameter set, the positions of all accounts
pub data Asked : Type 0 where
  Margin : Asked
  MarginOf : List ℕ → Asked
  Explain : List ℕ → Asked
  Try : List ℕ → List ℕ → List Trade → Asked
  Fill : List ℕ → List Trade → Asked
  Set : List ℕ → Asked
  Positions : Asked

-- pairs of contract and quantity
abbrev pub trades_of : List (List ℕ) → List Trade
trades_of [] = []
trades_of (contract ∷ []) = []
trades_of (contract ∷ quantity ∷ rest) =
    record { contract = contract; quantity = unwrap_or (whole_number quantity) (pos 0) } ∷ trades_of rest

-- the request of fields without a fault
abbrev pub asked_for : Word → List (List ℕ) → Asked
asked_for word.Margin fields = if length fields == 1 then Margin else MarginOf (text_at fields 1)
asked_for word.Explain fields = Explain (text_at fields 1)
asked_for word.Try fields = Try (text_at fields 1) (text_at fields 2) (trades_of (drop 3 fields))
asked_for word.Fill fields = Fill (text_at fields 1) (trades_of (drop 2 fields))
asked_for _ fields = Positions

-- the request, unless its fields have a fault
abbrev pub unless : Option RequestFault → Asked → Result Asked RequestFault
unless None asked = Ok asked
unless (Some e) asked = Err e

-- the request of a line that begins with a word
abbrev pub request_by : Word → List (List ℕ) → Result Asked RequestFault
request_by w fields = if may_have w (length fields) then unless (form_fault w fields) (asked_for w fields) else Err fault.FieldCount

-- the text is the name of a file: UTF-8, and not empty
abbrev pub is_file_name : List ℕ → Bool
is_file_name text = not (length text == 0) && is_utf8 text

-- The file name in a line is everything after its first comma, including further commas.
abbrev pub file_request : List ℕ → Result Asked RequestFault
file_request line =
    if length (fields_of line) == 1 then Err fault.FieldCount
    else if is_file_name (drop 4 line) then Ok (Set (drop 4 line))
    else Err (fault.BadName 2)

-- the request of a line with its word, if it has one
abbrev pub request_with : Option Word → List ℕ → Result Asked RequestFault
request_with None line = Err fault.UnknownRequest
request_with (Some word.Set) line = file_request line
request_with (Some w) line = request_by w (fields_of line)

-- the request of a line, or its lowest-numbered fault
unfoldable pub request_of : List ℕ → Result Asked RequestFault
request_of line =
    if nat_lt MAX_LINE (length line) then Err fault.LineTooLong else request_with (word_named (text_at (fields_of line) 0)) line

-- the meaning of a request
abbrev pub asked_by : Request → Asked
asked_by request.Margin = Margin
asked_by (request.MarginOf account) = MarginOf account
asked_by (request.Explain account) = Explain account
asked_by (request.Try order account trades) = Try order account trades.items
asked_by (request.Fill account trades) = Fill account trades.items
asked_by (request.Set file) = Set file.now
asked_by request.Positions = Positions

-- the fault is out of memory, which the definition says nothing about
abbrev pub is_memory : RequestFault → Bool
is_memory fault.OutOfMemory = true
is_memory _ = false

-- ---- trades that can be bound

-- there are trades, and each quantity is in range
pub record AreTradable (trades : List Trade) : Type 0 where
  pub some : 0 < length trades
  pub small : All (λ t. nat_abs t.quantity ≤ MAX_QUANTITY) trades

-- if a request has trades, they can be bound
abbrev pub IsTradable : Request → Type 0
IsTradable (request.Try order account trades) = AreTradable trades.items
IsTradable (request.Fill account trades) = AreTradable trades.items
IsTradable _ = ⊤
