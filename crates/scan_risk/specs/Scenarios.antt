-- Scenario sums and their scan.
use Rattle.std.specs.Prelude.{ℕ, ◌+◌, ◌-◌, ◌%◌, Bool, ◌==◌, nat_lt, if◌then◌else◌, List, map, fold, position}
use Rattle.std.specs.Prelude.{unwrap_or, slice_index_or, ℤ, pos, ◌+ℤ◌, ◌-ℤ◌, ◌*ℤ◌, int_le}
use Rattle.std.specs.Int.{int_max}
use Rattle.std.specs.List.{list_all, range_with_len}
use Rattle.span_money.specs.Numbers.{int_sum_by, positive_part}
use Rattle.span_tables.specs.Net.{HeldContract}
use Rattle.scan_risk.specs.declared.Scan.{Scan}

-- the value of a scenario, numbered from 1
abbrev pub at_scenario : List ℤ → ℕ → ℤ
at_scenario values s = slice_index_or values (s - 1) (pos 0)

-- the sum of a scenario: net quantity times array value, over the held contracts
abbrev pub scenario_sum : List HeldContract → ℕ → ℤ
scenario_sum held s = int_sum_by (λ h. h.net *ℤ at_scenario (h.contract).values s) held

-- the sums of the sixteen scenarios
unfoldable pub scenario_sums : List HeldContract → List ℤ
scenario_sums held = map (scenario_sum held) (range_with_len 1 16)

-- scan risk: the least number that is at least 0 and at least every sum
abbrev pub scan_risk : List ℤ → ℤ
scan_risk sums = fold int_max (pos 0) sums

-- a sum is at least every sum
abbrev pub is_largest : List ℤ → ℤ → Bool
is_largest sums z = list_all (λ t. int_le t z) sums

-- the active scenario: the lowest-numbered one whose sum is at least every sum
abbrev pub active_scenario : List ℤ → ℕ
active_scenario sums = unwrap_or (position (is_largest sums) sums) 0 + 1

-- the paired scenario, with the opposite volatility move: 1 with 2, up to 13 with 14; 15 and 16 with themselves
abbrev pub paired_scenario : ℕ → ℕ
paired_scenario s = if nat_lt 14 s then s else if s % 2 == 1 then s + 1 else s - 1

-- twice the price risk: the active and the paired sum less sums 1 and 2, or 0 if that is negative
abbrev pub price2 : List ℤ → ℕ
price2 sums =
    let active = active_scenario sums in
    let both = at_scenario sums active +ℤ at_scenario sums (paired_scenario active) in
    positive_part ((both -ℤ at_scenario sums 1) -ℤ at_scenario sums 2)

-- the scan of sixteen sums
unfoldable pub scan_of : List ℤ → Scan
scan_of sums = record {
  risk = scan_risk sums;
  active = active_scenario sums;
  paired = paired_scenario (active_scenario sums);
  price2 = price2 sums;
}
