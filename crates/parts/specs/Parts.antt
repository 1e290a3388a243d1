-- Parts of a position file that have no account in common.
use Rattle.std.specs.Prelude.{◌≡◌, ℕ, true, false, List, map, filter, flat_map, bytes_eq}
use Rattle.span_csv.specs.Records.{Fields, position_record, records_of, text_at}
use Rattle.span_tables.specs.Names.{is_among}
use Rattle.span_tables.specs.Net.{holdings_of}
use Rattle.span_tables.specs.Tables.{AcceptedTables}
use Rattle.span_tables.specs.declared.records.PositionRecord.{PositionRecord}
use Rattle.statement_text.specs.Statement.{row_text}

-- no name is in both lists
abbrev pub ShareNoName : List (List ℕ) → List (List ℕ) → Type 0
ShareNoName names others = (name : List ℕ) → is_among names name ≡ true → is_among others name ≡ false

-- no account has records in both parts
abbrev pub AreApart : List PositionRecord → List PositionRecord → Type 0
AreApart ps qs = ShareNoName (map (λ p. p.account) ps) (map (λ p. p.account) qs)

-- the records of an account, in their order
abbrev pub records_of_account : List PositionRecord → List ℕ → List PositionRecord
records_of_account ps account = filter (λ p. bytes_eq p.account account) ps

-- the account of each record of a file
abbrev pub accounts_in : List Fields → List (List ℕ)
accounts_in rs = map (λ r. text_at r 0) rs

-- no account has records in both files
abbrev pub AreFilesApart : List ℕ → List ℕ → Type 0
AreFilesApart first second = ShareNoName (accounts_in (records_of first)) (accounts_in (records_of second))

-- the records of the lists, one list after the other
abbrev pub records_joined : List (List PositionRecord) → List PositionRecord
records_joined parts = flat_map (λ part. part) parts

-- the positions of the records of a file
abbrev pub positions_in : List ℕ → List PositionRecord
positions_in bytes = map position_record (records_of bytes)

-- the lines of an account by these records
abbrev pub lines_of : AcceptedTables → List PositionRecord → List ℕ → List ℕ
lines_of t ps account = row_text t (record { account = account; holdings = holdings_of t.contracts ps account })
