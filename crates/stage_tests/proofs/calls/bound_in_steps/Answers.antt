use Rattle.std.proofs.Common.{◌≡◌, ◌∙◌, ℕ, List, ap, length, map, not, refl, sym}
use Rattle.std.specs.Prelude.{Bool, true, false}
use mathlib.Core.List.{map-map}
use Rattle.span_tables.specs.Net.{accounts_of}
use Rattle.span_tables.specs.declared.records.NumberedPosition.{NumberedPosition}
use Rattle.span_tables.specs.declared.records.PositionRecord.{PositionRecord}
use Rattle.span_tables.specs.near.Positions.{named_position, named_positions}
use Rattle.binding.specs.near.Ledgers.{contract_place, slice_nets}
use Rattle.stage_tests.proofs.calls.bound_in_steps.Goals as goal

-- the contracts found for numbered records are the contracts of the positions that they denote
found_of_records : (ids : List (List ℕ)) (positions : List PositionRecord) (records : List NumberedPosition) (found : List ℕ)
    → named_positions (accounts_of positions) records ≡ positions
    → found ≡ map (λ p. contract_place ids p.contract) records → found ≡ map (λ p. contract_place ids p.contract) positions
found_of_records ids positions records found are is =
    is
    ∙ sym (map-map (λ (p : PositionRecord). contract_place ids p.contract) (named_position (accounts_of positions)) records)
    ∙ ap (map (λ (p : PositionRecord). contract_place ids p.contract)) are

-- if all contracts are known, no record has an unknown contract
none_foreign : (told foreign : Bool) → told ≡ not foreign → told ≡ true → foreign ≡ false
none_foreign told true e h = cc
none_foreign told false e h = refl

pub nets-requires-clause-found : goal.nets-requires-clause-found
nets-requires-clause-found c =
    found_of_records c.in_ok-binder.binder c.args.positions.now c.records.result.now c.deref-2.result.now c.records.ensures.value
    (c.deref-2.ensures.value ∙ c.in_ok-found.ensures)

pub bound-requires : goal.bound-requires
bound-requires c = record {
  contracts = c.args.tables.now.contracts;
  ids_are = sym c.in_ok-binder.ensures;
  all_known = none_foreign _ _ (c.knows_all.ensures c.args.positions.now
      (found_of_records c.in_ok-binder.binder c.args.positions.now c.records.result.now c.deref.result.now c.records.ensures.value
      (c.deref.ensures.value ∙ c.in_ok-found.ensures))) c.if-not-knows_all.false;
  nets_are = c.in_ok-nets.ensures
      ∙ ap (λ (xs : List (List ℕ)). slice_nets c.in_ok-binder.binder c.args.positions.now 0 (length xs))
      c.accounts-accounts.ensures.value;
}
