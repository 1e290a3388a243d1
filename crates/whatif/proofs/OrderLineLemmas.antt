-- The lines of the commodities whose requirement an order changes.
use Rattle.std.proofs.Common.{◌≡◌, flat_map, length, sym}
use Rattle.std.specs.List.{range_with_len}
use Rattle.span_money.specs.LineFields.{line}
use Rattle.span_tables.specs.Tables.{AcceptedTables}
use Rattle.binding.specs.OrderBinding.{TriedOrder}
use Rattle.whatif.specs.Whatif.{change_line, changed_by, changes}
use Rattle.whatif.specs.near.Trials.{change_text}
use Rattle.whatif.proofs.TextLemmas.{flat_map-filter}

-- the lines of all commodities are the lines of the commodities that change
pub all_changes : (t : AcceptedTables) (o : TriedOrder)
    → flat_map (change_text t o) (range_with_len 0 (length t.commodities)) ≡ flat_map (λ c. line (change_line t o c)) (changed_by t o)
all_changes t o = sym (flat_map-filter (changes t o) (λ c. line (change_line t o c)) (range_with_len 0 (length t.commodities)))
