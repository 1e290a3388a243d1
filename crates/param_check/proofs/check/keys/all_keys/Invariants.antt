use Rattle.std.proofs.Common.{◌≡◌, Some, take}
use Rattle.param_check.specs.near.Keys.{has_key, is_key_among}
use Rattle.param_check.specs.declared.check.keys.Key.{Key}
use Rattle.param_check.proofs.check.keys.all_keys.Given as goal

abbrev pub invariant-loop-item : goal.invariant-loop-item
invariant-loop-item l = (key : Key) → is_key_among l.keys.keys (Some key) ≡ has_key l.identity (take l.item-index l.records) key
