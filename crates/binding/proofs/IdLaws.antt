-- Lemmas about distinct contract ids.
use Rattle.std.proofs.Common.{◌≡◌, ℕ, zero, suc, ◌+◌, ◌<◌, ◌||◌, false, cond, List, []}
use Rattle.std.proofs.Common.{◌∷◌, ◌++◌, ◌≤◌, length, get_or, map, take, refl, sym, ap, subst, ◌∙◌, arith}
use Rattle.std.specs.Prelude.{bytes_eq}
use Rattle.std.specs.List.{list_any}
use Rattle.std.proofs.lemmas.Bool.{or_parts, or_from, true≢false, false_from_ne_true}
use Rattle.std.proofs.lemmas.List.{length-map, map_more}
use Rattle.std.proofs.lemmas.List.Folds.{list_any_at}
use Rattle.indexmap.specs.IndexSet.{insert_key}
use Rattle.span_tables.specs.Names.{has_repeat}
use Rattle.span_tables.specs.declared.records.Contract.{Contract}
use Rattle.span_tables.specs.declared.limits.TheConstants.{MAX_CONTRACTS}
use Rattle.binding.specs.near.Holdings.{ids_of}
use Rattle.binding.specs.near.Ledgers.{AreNumbers}
use Rattle.binding.specs.near.Samples.{contract_of}
use Rattle.binding.proofs.AccountLaws.{bytes_eq-flip}

-- no earlier contract has the id of a contract
new_id : (contracts : List Contract) (i : ℕ) (d : Contract) → has_repeat (λ x y. bytes_eq x.id y.id) contracts ≡ false
    → i < length contracts
    → list_any (bytes_eq (get_or contracts i d).id) (ids_of (take i contracts)) ≡ false
new_id [] i d h lt = absurd (omega (arith, lt))
new_id (x ∷ contracts) zero d h lt = refl
new_id (x ∷ contracts) (suc i) d h lt =
    let parts = or_parts (list_any (λ y. bytes_eq x.id y.id) contracts) (has_repeat (λ y z. bytes_eq y.id z.id) contracts) h in
    let within : i < length contracts = omega (arith, lt) in
    let y = get_or contracts i d in
    let other : bytes_eq x.id y.id ≡ false =
    false_from_ne_true (bytes_eq x.id y.id)
    (λ t. true≢false (sym (list_any_at (λ (z : Contract). bytes_eq x.id z.id) contracts i d within t) ∙ parts.0)) in
    or_from (bytes_eq y.id x.id) (list_any (bytes_eq y.id) (ids_of (take i contracts))) (bytes_eq-flip y.id x.id ∙ other)
    (new_id contracts i d parts.1 within)

-- the next id is appended
pub next_id : (contracts : List Contract) (i : ℕ) (d : Contract) (keys : List (List ℕ))
    → has_repeat (λ x y. bytes_eq x.id y.id) contracts ≡ false → i < length contracts
    → keys ≡ ids_of (take i contracts) → insert_key bytes_eq keys (get_or contracts i d).id ≡ ids_of (take (i + 1) contracts)
next_id contracts i d keys h lt are =
    ap (λ ks. insert_key bytes_eq ks (get_or contracts i d).id) are
    ∙ ap (λ b. cond b (ids_of (take i contracts)) (ids_of (take i contracts) ++ (get_or contracts i d).id ∷ []))
    (new_id contracts i d h lt)
    ∙ sym (map_more (λ (x : Contract). x.id) contracts i d lt)

any_ids : (name : List ℕ) (contracts : List Contract)
    → list_any (λ (y : Contract). bytes_eq name y.id) contracts ≡ list_any (bytes_eq name) (ids_of contracts)
any_ids name [] = refl
any_ids name (y ∷ contracts) = ap (λ b. bytes_eq name y.id || b) (any_ids name contracts)

-- contracts are distinct by id exactly if their ids are distinct
pub ids_apart : (contracts : List Contract)
    → has_repeat (λ x y. bytes_eq x.id y.id) contracts ≡ has_repeat bytes_eq (ids_of contracts)
ids_apart [] = refl
ids_apart (x ∷ contracts) = let here = any_ids x.id contracts in let rest = ids_apart contracts in λ i. here i || rest i

-- contracts with distinct ids are distinct by id
pub apart_by_ids : (contracts : List Contract) (ids : List (List ℕ)) → ids_of contracts ≡ ids → has_repeat bytes_eq ids ≡ false
    → has_repeat (λ x y. bytes_eq x.id y.id) contracts ≡ false
apart_by_ids contracts ids are apart = ids_apart contracts ∙ ap (has_repeat bytes_eq) are ∙ apart

-- contracts with these ids
pub contracts_of : List (List ℕ) → List Contract
contracts_of ids = map contract_of ids

pub contracts_of_are : (ids : List (List ℕ)) → ids_of (contracts_of ids) ≡ ids
unfolding contracts_of
contracts_of_are [] = refl
contracts_of_are (id ∷ ids) = ap (λ rest. id ∷ rest) (contracts_of_are ids)

-- the ids of the contracts of tables are valid for binding
pub numbers_of : (contracts : List Contract) → has_repeat (λ x y. bytes_eq x.id y.id) contracts ≡ false
    → length contracts ≤ MAX_CONTRACTS → AreNumbers (ids_of contracts)
numbers_of contracts apart few = record {
  apart = sym (ids_apart contracts) ∙ apart;
  few = subst (λ n. n ≤ MAX_CONTRACTS) (sym (length-map contracts (λ x. x.id))) few;
}
