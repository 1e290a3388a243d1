use Rattle.std.proofs.Common.{◌∙◌}
use Rattle.std.proofs.lemmas.Result.{IfOk-weaker}
use Rattle.span_tables.proofs.GatherLemmas.{all_held_of, all_in_range}
use Rattle.span_tables.proofs.held.gather_all.Goals as goal

pub with_records-requires : goal.with_records-requires
with_records-requires c =
    all_in_range c.args.tables.now c.known.ensures c.args.portfolio.now.holdings (λ v. v.items) _ _ c.in_ok-lists.ensures
    c.known-2.ensures c.requires

pub returns : goal.returns
returns c = IfOk-weaker c.with_records.result _ _
    (λ held is. is ∙ all_held_of c.args.tables.now c.known.ensures c.args.portfolio.now.holdings (λ v. v.items) _ _ c.in_ok-lists.ensures)
    c.with_records.ensures
