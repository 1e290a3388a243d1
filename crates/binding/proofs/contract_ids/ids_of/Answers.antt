use Rattle.std.proofs.Common.{◌≡◌, ◌∙◌, ap, subst, sym}
use Rattle.std.specs.Prelude.{bytes_eq}
use Rattle.std.proofs.lemmas.List.{take_all}
use Rattle.indexmap.specs.IndexSet.{insert_key}
use Rattle.binding.specs.near.Holdings.{ids_of}
use Rattle.binding.specs.near.Ledgers.{AreNumbers}
use Rattle.binding.proofs.IdLaws.{next_id, numbers_of}
use Rattle.binding.proofs.contract_ids.ids_of.Goals as goal

pub loop-contract-preserved : goal.loop-contract-preserved
loop-contract-preserved c =
    let x = c.contract-item.result in
    let i = c.loop-contract.contract-index in
    let keys = c.loop-contract.numbers.keys in
    let contracts = c.contracts-contract-items in
    c.in_ok-insert.ensures.keys
    ∙ ap (insert_key bytes_eq keys) (c.copied.ensures ∙ ap (λ z. z.id) c.contract-item.is)
    ∙ next_id contracts.result.now i x keys (rw contracts.ensures.value contracts.ensures.limits.contracts_apart)
    c.loop-contract-test.true c.loop-contract.invariant

pub returns-clause-known : goal.returns-clause-known
returns-clause-known c =
    let contracts = c.contracts-contract-items in
    let are : c.loop-contract.numbers.keys ≡ ids_of c.args.tables.now.contracts =
    c.loop-contract.invariant ∙ ap ids_of (take_all _ _ c.loop-contract-test.false ∙ contracts.ensures.value) in
    subst AreNumbers (sym are) (numbers_of _ contracts.ensures.limits.contracts_apart contracts.ensures.limits.contracts)
