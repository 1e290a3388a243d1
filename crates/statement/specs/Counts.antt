-- The result of checking a parameter file by itself: the counts of its tables.
use Rattle.std.specs.Prelude.{ℕ, List, [], ◌∷◌, codes, decimal, length, Result, Ok}
use Rattle.span_money.specs.LineFields.{Line, line}
use Rattle.span_tables.specs.Tables.{AcceptedTables}
use Rattle.statement_text.specs.Statement.{accepted_of, and_then, same}
use Rattle.statement_text.specs.declared.faults.SpanFault.{SpanFault}

-- the line of accepted tables: the id of the parameter set, and the number of records of each kind
unfoldable pub counts_line : AcceptedTables → Line
counts_line t = record {
  word = codes "OK";
  fields = t.set_id ∷ decimal (length t.commodities) ∷ decimal (length t.contracts) ∷ decimal (length t.tiers)
      ∷ decimal (length t.intra_records) ∷ decimal (length t.spots) ∷ decimal (length t.inter_records) ∷ [];
}

-- the counts of a parameter file, or its first fault in reading, then in checking
unfoldable pub counts_of : List ℕ → Result (List ℕ) SpanFault
counts_of params = and_then same (accepted_of params) (λ tables. Ok (line (counts_line tables)))
