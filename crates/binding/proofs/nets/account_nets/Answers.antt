use Rattle.std.proofs.Common.{◌≡◌, ◌∙◌, ap, sym, subst, map}
use Rattle.std.specs.List.Sorted.{IsStrictlyIncreasing}
use Rattle.binding.specs.near.Nets.{entry_holdings}
use Rattle.binding.specs.near.Sums.{kept_holding, kept_holdings}
use Rattle.binding.proofs.KeptLaws.{kept_rise}
use Rattle.binding.proofs.NetLaws.{table_holds}
use Rattle.binding.proofs.OrderLaws.{entry_holdings_rise}
use Rattle.binding.proofs.nets.account_nets.Goals as goal

pub returns : goal.returns
returns c =
    c.in_ok-holdings.ensures
    ∙ ap (map kept_holding) (table_holds c.args.contracts c.as_slice-entries.result.now c.args.ledger.now c.start.new.self
    c.add_all.new.nets c.in_ok-start.ensures c.as_slice-entries.ensures.value c.add_all.ensures)

pub invariant_of-result : goal.invariant_of-result
invariant_of-result c =
    let n = c.args.contracts in
    let ledger = c.args.ledger.now in
    let held : c.in_ok-holdings.holdings.items ≡ kept_holdings n ledger =
    c.in_ok-holdings.ensures ∙ ap (map kept_holding)
    (table_holds n c.as_slice-entries.result.now ledger c.start.new.self c.add_all.new.nets c.in_ok-start.ensures
    c.as_slice-entries.ensures.value c.add_all.ensures) in
    subst (λ hs. IsStrictlyIncreasing (map (λ h. h.contract) hs)) (sym held)
    (kept_rise (entry_holdings n ledger) (entry_holdings_rise n ledger))
