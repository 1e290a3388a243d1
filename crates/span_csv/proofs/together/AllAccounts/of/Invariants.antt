use Rattle.std.proofs.Common.{◌≡◌, take}
use Rattle.span_tables.specs.Net.{accounts_of}
use Rattle.span_csv.specs.near.Pieces.{records_together}
use Rattle.span_csv.proofs.together.AllAccounts.of.Given as goal

abbrev pub invariant-loop-piece : goal.invariant-loop-piece
invariant-loop-piece l = l.accounts.keys ≡ accounts_of (records_together (take l.piece-index l.pieces))
