-- How accounts are kept: each under its name.
use Rattle.std.specs.Prelude.{◌≡◌, ℕ, List, bytes_eq, map}
use Rattle.std.specs.List.{AllByRecursion, IsDistinct}
use Rattle.span_tables.specs.Net.{AccountHoldings}

-- the accounts are distinct
abbrev pub AreOnce : List AccountHoldings → Type 0
AreOnce accounts = IsDistinct bytes_eq (map (λ p. p.account) accounts)

-- each account is kept under its name
abbrev pub AreUnderNames : List (List ℕ × AccountHoldings) → Type 0
AreUnderNames entries = AllByRecursion (λ entry. entry.0 ≡ (entry.1).account) entries
