-- The terms of contracts have the fields of the contracts' records.
use Rattle.std.proofs.Common.{◌≡◌, ℕ, suc, zero, ◌<◌, ◌*◌, ◌≤◌, pos, nat_abs, List, [], ◌∷◌, length, map, refl, ap, ◌∙◌, arith}
use Rattle.std.specs.Prelude.{◌*ℤ◌, All, option_map, slice_get, unwrap_or}
use Rattle.std.proofs.Math.Nat.{mul-le-mul}
use Rattle.std.proofs.lemmas.Int.{unsigned_abs-mul}
use Rattle.std.proofs.lemmas.List.Elements.{All-head, All-tail}
use Rattle.span_tables.specs.Accepted.{IsContract, IsWithinLimits, commodity_number}
use Rattle.span_tables.specs.Tables.{AcceptedTables}
use Rattle.span_tables.specs.declared.contracts.Terms.{Terms}
use Rattle.span_tables.specs.declared.limits.TheConstants.{MAX_DELTA, MAX_SCALE}
use Rattle.span_tables.specs.declared.records.Commodity.{Commodity}
use Rattle.span_tables.specs.declared.records.Contract.{Contract}
use Rattle.span_tables.specs.near.Gathered.{number_of}
use Rattle.span_tables.specs.near.Terms.{AreTermsOf, IsTerms, number_at, terms_of}

number_there : (cs : List Commodity) (xs : List Contract) (k : ℕ)
    → number_at (map (terms_of cs) xs) k ≡ unwrap_or (option_map (λ x. commodity_number cs x.commodity) (slice_get xs k)) 0
number_there cs [] k = refl
number_there cs (x ∷ xs) zero = refl
number_there cs (x ∷ xs) (suc k) = number_there cs xs k

-- the terms of a contract in range are in range
pub terms_in_range : (x : Contract) (t : Terms) → IsContract x → AreTermsOf x t → IsTerms t
terms_in_range x t kept of =
    let size : nat_abs (x.delta *ℤ pos x.scale) ≤ MAX_DELTA * MAX_SCALE =
    rw (unsigned_abs-mul x.delta (pos x.scale)) (mul-le-mul kept.delta kept.scale) in
    record {
      units = rw of.units size;
      sixteen = rw of.values kept.sixteen;
      values = rw of.values kept.values;
      option_value = rw of.option_value kept.option_value;
    }

-- the commodity number of a contract; s is t as stored
pub number_told : (s t : AcceptedTables) (ts : List Terms) (k : ℕ) → s ≡ t → ts ≡ map (terms_of s.commodities) s.contracts
    → number_at ts k ≡ number_of t k
number_told s t ts k same are =
    ap (λ (us : List Terms). number_at us k) are ∙ number_there s.commodities s.contracts k
    ∙ ap (λ (u : AcceptedTables). number_of u k) same

below_at : {X : Type 0} (f : X → ℕ) (b : ℕ) (xs : List X) (k : ℕ) → k < length xs → All (λ x. f x < b) xs
    → unwrap_or (option_map f (slice_get xs k)) 0 < b
below_at f b [] k lt all = absurd (omega arith)
below_at f b (x ∷ xs) zero lt all = All-head (λ y. f y < b) x xs all
below_at f b (x ∷ xs) (suc k) lt all = below_at f b xs k (omega arith) (All-tail (λ y. f y < b) x xs all)

-- the commodity of a contract is known
pub number_known : (t : AcceptedTables) (k : ℕ) → IsWithinLimits t → k < length t.contracts → number_of t k < length t.commodities
number_known t k limits lt =
    below_at (λ (x : Contract). commodity_number t.commodities x.commodity) (length t.commodities) t.contracts k lt limits.contracts_known
