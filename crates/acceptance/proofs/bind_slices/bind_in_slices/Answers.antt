use Rattle.std.proofs.Common.{◌∙◌, ℕ, List, ap, length, sym}
use Rattle.binding.specs.near.Ledgers.{slice_nets}
use Rattle.acceptance.proofs.BindingLemmas.{found_of_records, none_foreign}
use Rattle.acceptance.proofs.bind_slices.bind_in_slices.Goals as goal

pub nets_in_slices-requires-clause-found : goal.nets_in_slices-requires-clause-found
nets_in_slices-requires-clause-found g c =
    λ κs lives.
    found_of_records c.in_ok-binder.binder c.args.positions.now c.records.result.now c.deref-2.result.now c.records.ensures.value
    (c.deref-2.ensures.value ∙ c.in_ok-found.ensures)

pub bound-requires : goal.bound-requires
bound-requires g c = record {
  contracts = c.args.tables.now.contracts;
  ids_are = sym c.in_ok-binder.ensures;
  all_known = none_foreign _ _ (c.knows_all.ensures c.args.positions.now
      (found_of_records c.in_ok-binder.binder c.args.positions.now c.records.result.now c.deref.result.now c.records.ensures.value
      (c.deref.ensures.value ∙ c.in_ok-found.ensures))) c.if-not-knows_all.false;
  nets_are = c.in_ok-nets.ensures
      ∙ ap (λ (xs : List (List ℕ)). slice_nets c.in_ok-binder.binder c.args.positions.now 0 (length xs))
      c.accounts-accounts.ensures.value;
}
