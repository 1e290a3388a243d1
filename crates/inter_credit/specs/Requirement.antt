-- The short option minimum, and the requirement.
use Rattle.std.specs.Prelude.{ℕ, ◌+◌, ◌*◌, max, Bool, true, false, List, filter, sum_by, ℤ, ◌+ℤ◌, ◌-ℤ◌}
use Rattle.std.specs.Int.{int_max}
use Rattle.span_money.specs.Numbers.{negative_part}
use Rattle.span_tables.specs.declared.records.ProductKind.{ProductKind}
use Rattle.span_tables.specs.declared.records.ProductKind.TheVariants as product
use Rattle.span_tables.specs.declared.records.MinimumMethod.{MinimumMethod}
use Rattle.span_tables.specs.declared.records.MinimumMethod.TheVariants as method
use Rattle.span_tables.specs.Net.{HeldContract}

-- the contract is a call
abbrev pub is_call : ProductKind → Bool
is_call product.Future = false
is_call product.Call = true
is_call product.Put = false

-- the contract is a put
abbrev pub is_put : ProductKind → Bool
is_put product.Future = false
is_put product.Call = false
is_put product.Put = true

-- the number of short contracts of a kind: the sum of the sizes of the negative nets
abbrev pub short_count : (ProductKind → Bool) → List HeldContract → ℕ
short_count is_kind held = sum_by (λ h. negative_part h.net) (filter (λ h. is_kind (h.contract).kind) held)

-- the count of short option contracts: short calls plus short puts, or the larger of the two
abbrev pub short_options : MinimumMethod → List HeldContract → ℕ
short_options method.Sum held = short_count is_call held + short_count is_put held
short_options method.Max held = max (short_count is_call held) (short_count is_put held)

-- the short option minimum: the rate times the count of short option contracts
unfoldable pub minimum_of : ℕ → MinimumMethod → List HeldContract → ℕ
minimum_of rate count_method held = rate * short_options count_method held

-- the requirement: the larger of scan risk and both charges less the credit, and the minimum
unfoldable pub requirement_of : ℤ → ℤ → ℤ → ℤ → ℤ → ℤ
requirement_of scan intra delivery credit minimum = int_max (((scan +ℤ intra) +ℤ delivery) -ℤ credit) minimum
