-- An order that is evaluated, with the data for its lines.
use Rattle.std.specs.Prelude.{◌≡◌, ℕ, if◌then◌else◌, List, []}
use Rattle.span_money.specs.LineFields.{line}
use Rattle.span_tables.specs.Net.{AccountHoldings}
use Rattle.span_tables.specs.Tables.{AcceptedTables}
use Rattle.binding.specs.OrderBinding.{TriedOrder}
use Rattle.whatif.specs.Whatif.{change_line, changes}

-- the tables, the order's name, and the account's portfolio before the order and after it
pub record TrialView : Type 0 where
  pub tables : AcceptedTables
  pub order : List ℕ
  pub before : AccountHoldings
  pub after : AccountHoldings

-- the trial is the evaluation of an order, whatever account its portfolio before the order names
pub record IsTried (trial : TrialView) (o : TriedOrder) : Type 0 where
  pub order_is : trial.order ≡ o.order
  pub before_is : trial.before.holdings ≡ o.before.holdings
  pub after_is : trial.after ≡ o.after

-- the line of the commodity of number c, or nothing if the order does not change its requirement
abbrev pub change_text : AcceptedTables → TriedOrder → ℕ → List ℕ
change_text t o c = if changes t o c then line (change_line t o c) else []
