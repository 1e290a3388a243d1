use Rattle.std.proofs.Common.{◌≡◌, ℕ, List, bytes_eq, take}
use Rattle.indexmap.specs.IndexMap.{get}
use Rattle.binding.specs.near.Orders.{place_among}
use Rattle.binding.proofs.orders.kept_orders.places_of.Given as goal

abbrev pub invariant-loop-place : goal.invariant-loop-place
invariant-loop-place l = (name : List ℕ) → get bytes_eq l.places name ≡ place_among (take l.place l.portfolios) name
