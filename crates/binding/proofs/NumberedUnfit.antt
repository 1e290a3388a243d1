-- The faults of nets, with the account of each record given by number.
use Rattle.std.proofs.Common.{◌≡◌, ℕ, ◌<◌, List, [], length, get_or, Some, position, sym, ap}
use Rattle.std.specs.Prelude.{All, bytes_eq}
use Rattle.span_tables.specs.Net.{accounts_of}
use Rattle.span_tables.specs.near.Positions.{named_position, named_positions}
use Rattle.span_tables.specs.declared.records.NumberedPosition.{NumberedPosition}
use Rattle.span_tables.specs.declared.records.PositionRecord.{PositionRecord}
use Rattle.binding.specs.near.Holdings.{exceeds, exceeds_at}
use Rattle.binding.specs.declared.over_limits.Excess.{Excess}
use Rattle.binding.specs.declared.over_limits.Limit.{Limit}
use Rattle.binding.proofs.AccountLaws.{place_is}
use Rattle.binding.proofs.LedgerLaws.{account_at, apart}

module _ (positions : List PositionRecord) (records : List NumberedPosition)
    (named : named_positions (accounts_of positions) records ≡ positions)
    (known : All (λ (p : NumberedPosition). p.account < length (accounts_of positions)) records) (excesses : List Excess) where
  place : (i : ℕ) (r : NumberedPosition) → i < length records → r ≡ get_or records i r
      → position (bytes_eq (get_or (accounts_of positions) r.account [])) (accounts_of positions) ≡ Some r.account
  place i r lt at =
      place_is (accounts_of positions) r.account (get_or (accounts_of positions) r.account []) (apart positions)
      (account_at positions records named known i r lt at)

  -- a record exceeds a limit
  pub exceeds_numbered : (l : Limit) (ids : List (List ℕ)) (i : ℕ) (r : NumberedPosition) → i < length records → r ≡ get_or records i r
      → exceeds_at l (Some r.account) (position (bytes_eq r.contract) ids) excesses
      ≡ exceeds l ids (accounts_of positions) excesses (named_position (accounts_of positions) r)
  exceeds_numbered l ids i r lt at = ap (λ o. exceeds_at l o (position (bytes_eq r.contract) ids) excesses) (sym (place i r lt at))
