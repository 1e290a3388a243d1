use Rattle.std.proofs.Common.{◌<◌, ℕ, get_or}
use Rattle.span_tables.specs.declared.records.Inter.{Inter}
use Rattle.inter_credit.specs.near.Index.{HasSpread}
use Rattle.inter_credit.proofs.index.block_of.Given as goal

abbrev pub invariant-loop-number : goal.invariant-loop-number
invariant-loop-number l = (k : ℕ) (d : Inter) → k < l.number → HasSpread l.block k (get_or l.spreads k d).legs
