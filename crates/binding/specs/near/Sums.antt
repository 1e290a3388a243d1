-- Sums by contract number. A mark for each number records whether anything was added.
use Rattle.std.specs.Prelude.{◌≡◌, ℕ, ◌+◌, ◌*◌, ◌/◌, ◌%◌, ◌^◌, ◌<◌, ◌≤◌, ◌==◌, Bool}
use Rattle.std.specs.Prelude.{true, nat_lt, nat_abs, if◌then◌else◌, List, map, length, slice_index_or, ℤ, pos}
use Rattle.std.specs.Int.{bit_at}
use Rattle.std.specs.List.{range_with_len}
use Rattle.span_tables.specs.declared.limits.TheConstants.{MAX_NET}
use Rattle.span_tables.specs.declared.portfolios.Holding.{Holding}
use Rattle.binding.specs.near.Nets.{entry_holdings, holdings_from}
use Rattle.binding.specs.declared.ledgers.Entry.{Entry}
use Rattle.binding.specs.declared.contract_sums.TheConstants.{MARKS}

-- the mark of a number is set
abbrev pub is_marked : List ℕ → ℕ → Bool
is_marked marks k = bit_at (slice_index_or marks (k / MARKS) 0) (k % MARKS) == 1

-- the sum of a number: the value in its slot if it is marked, and 0 if not
abbrev pub sum_at : List ℕ → List ℤ → ℕ → ℤ
sum_at marks places k = if is_marked marks k then slice_index_or places k (pos 0) else pos 0

-- the sums of all numbers
unfoldable pub sums_of : List ℕ → List ℤ → List ℤ
sums_of marks places = map (sum_at marks places) (range_with_len 0 (length places))

-- there is a mark for each number below n, and no other mark is set; n has at most 32 bits
pub record AreMarks (marks : List ℕ) (n : ℕ) : Type 0 where
  pub room : n ≤ MARKS * length marks
  pub within : (k : ℕ) → is_marked marks k ≡ true → k < n
  pub few : n < 2 ^ 32

-- a stored net: a net over the limit, long or short, is stored as `MAX_NET + 1`
abbrev pub kept_net : ℤ → ℤ
kept_net net = if nat_lt MAX_NET (nat_abs net) then pos (MAX_NET + 1) else net

abbrev pub kept_holding : Holding → Holding
kept_holding h = record { contract = h.contract; net = kept_net h.net }

-- the stored nets of an account with these entries, in the first n contracts
abbrev pub kept_holdings : ℕ → List Entry → List Holding
kept_holdings n entries = map kept_holding (entry_holdings n entries)

-- the stored nets of the contracts with numbers below n
abbrev pub held_below : List ℕ → List ℤ → ℕ → List Holding
held_below marks places n = map kept_holding (holdings_from (sums_of marks places) n)
