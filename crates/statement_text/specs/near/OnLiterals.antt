-- The definitions that a proof unfolds to compute on literals.
use Rattle.std.specs.Prelude.{⊤}
use Rattle.std.specs.Fmt.{digits}
use Rattle.span_csv.specs.near.OnLiterals.{reading_on_literals}
use Rattle.span_tables.specs.Rules.{keeps_rules}
use Rattle.param_check.specs.CheckFaults.{check_fault, check_faults, checked}
use Rattle.span_tables.specs.near.Limits.{is_readable}
use Rattle.span_tables.specs.Tables.{tables_of, intras_of, spots_of, inters_of}
use Rattle.span_tables.specs.Net.{portfolios_of, held_of}
use Rattle.binding.specs.Binding.{bind_fault, bind_faults, bindings_of}
use Rattle.scan_risk.specs.Scenarios.{scenario_sums, scan_of}
use Rattle.spread_stage.specs.Deltas.{month_deltas}
use Rattle.spread_stage.specs.Spreads.{spread_both_ways, after_spreads}
use Rattle.spread_stage.specs.Charges.{intra_charge, delivery_charge}
use Rattle.inter_credit.specs.Credits.{inter_both_ways, after_inter_spreads, credit_of}
use Rattle.inter_credit.specs.Requirement.{minimum_of, requirement_of}
use Rattle.inter_credit.specs.OptionValue.{net_value_of}
use Rattle.plan_ir.specs.Figures.{inter_states, figures_of, total_to, value_to}
use Rattle.statement_text.specs.Statement.{figures_line, total_line, row_text, statement_text, accepted_of, portfolios_under}
use Rattle.statement_text.specs.Statement.{statement_bound, statement_under, statement_of}

-- all names that a computation on literals unfolds
unfoldable pub on_literals : ⊤
unfolding digits reading_on_literals keeps_rules is_readable check_fault check_faults checked tables_of intras_of spots_of inters_of
    portfolios_of held_of bind_fault bind_faults bindings_of scenario_sums scan_of month_deltas spread_both_ways after_spreads intra_charge
    delivery_charge inter_both_ways after_inter_spreads credit_of minimum_of requirement_of net_value_of inter_states figures_of total_to
    value_to figures_line total_line row_text statement_text accepted_of portfolios_under statement_bound statement_under statement_of
on_literals = tt
