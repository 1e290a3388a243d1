-- What an account holds of each commodity, and the state that its commodities share.
use Rattle.std.specs.Prelude.{List, [], ◌∷◌, map}
use Rattle.span_tables.specs.Net.{HeldContract, held_of}
use Rattle.span_tables.specs.Tables.{AcceptedTables, inters_of}
use Rattle.span_tables.specs.declared.portfolios.Holding.{Holding}
use Rattle.span_tables.specs.declared.records.Inter.{Inter}
use Rattle.span_tables.specs.declared.sides.SpreadsFormed.{SpreadsFormed}
use Rattle.inter_credit.specs.Credits.{inter_formed_both, inter_both_ways}
use Rattle.inter_credit.specs.declared.commodity_state.CommodityState.{CommodityState}
use Rattle.plan_ir.specs.Figures.{inter_states, loaded_states}

-- the held contracts of each commodity, the commodities after all spreads between them, and the number of each spread
-- that formed
pub record StagesView : Type 0 where
  pub held : List (List HeldContract)
  pub states : List CommodityState
  pub formed : List SpreadsFormed

-- the held contracts of each commodity
abbrev pub all_held : AcceptedTables → List Holding → List (List HeldContract)
all_held t holdings = map (λ c. held_of t.contracts holdings c.id) t.commodities

-- how many of each spread form in each direction, from the residual deltas that the spreads before it left
abbrev pub inters_formed : List Inter → List CommodityState → List SpreadsFormed
inters_formed [] states = []
inters_formed (s ∷ spreads) states = inter_formed_both states s ∷ inters_formed spreads (inter_both_ways states s)

-- the stages of an account with these holdings
abbrev pub stages_of : AcceptedTables → List Holding → StagesView
stages_of t holdings = record {
  held = all_held t holdings;
  states = inter_states t holdings;
  formed = inters_formed (inters_of t) (loaded_states t holdings);
}
