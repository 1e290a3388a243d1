-- Indexes of names, and contracts by their indexes.
use Rattle.std.proofs.Common.{◌≡◌, ℕ, suc, ◌+◌, ◌<◌, Bool, true, false, cond, not, ◌||◌, List, [], ◌∷◌, length, get_or, map, Some, None}
use Rattle.std.proofs.Common.{position, refl, sym, ap, ◌∙◌, arith}
use Rattle.std.specs.Prelude.{bytes_eq}
use Rattle.std.specs.List.{list_any, position_or_len}
use Rattle.std.proofs.lemmas.Bool.{false≢true, lt-ltb, or_parts, le-ltb}
use Rattle.span_tables.specs.declared.records.Contract.{Contract}
use Rattle.span_tables.specs.declared.records.PositionRecord.{PositionRecord}
use Rattle.span_tables.proofs.NameLemmas.{same_name}
use Rattle.binding.specs.Binding.{is_known}
use Rattle.binding.specs.near.Holdings.{ids_of}
use Rattle.binding.specs.near.Ledgers.{is_listed}
use Rattle.binding.proofs.AccountLaws.{bytes_eq-flip}

pub within : (ks : List (List ℕ)) (name : List ℕ) → list_any (bytes_eq name) ks ≡ true
    → position_or_len (bytes_eq name) ks < length ks
within [] name h = absurd (false≢true h)
within (k ∷ ks) name h = by (bytes_eq name k) h (within ks name)
  where
    by : (b : Bool) → (b || list_any (bytes_eq name) ks) ≡ true
        → (list_any (bytes_eq name) ks ≡ true → position_or_len (bytes_eq name) ks < length ks)
        → cond (not b) (1 + position_or_len (bytes_eq name) ks) 0 < suc (length ks)
    by true h more = omega arith
    by false h more = let lt = more h in omega (arith, lt)

pub position_is : (ks : List (List ℕ)) (name : List ℕ) → list_any (bytes_eq name) ks ≡ true
    → position (bytes_eq name) ks ≡ Some (position_or_len (bytes_eq name) ks)
position_is ks name h =
    ap (λ b. cond b (Some (position_or_len (bytes_eq name) ks)) None)
    (lt-ltb (position_or_len (bytes_eq name) ks) (length ks) (within ks name h))

pub position_none : (ks : List (List ℕ)) (name : List ℕ) → list_any (bytes_eq name) ks ≡ false → position (bytes_eq name) ks ≡ None
position_none ks name h =
    let past = absent ks name h in
    ap (λ b. cond b (Some (position_or_len (bytes_eq name) ks)) None)
    (le-ltb (position_or_len (bytes_eq name) ks) (length ks) (omega (arith, past)))
  where
    absent : (xs : List (List ℕ)) (n : List ℕ) → list_any (bytes_eq n) xs ≡ false → position_or_len (bytes_eq n) xs ≡ length xs
    absent [] n e = refl
    absent (x ∷ xs) n e =
        let parts = or_parts (bytes_eq n x) (list_any (bytes_eq n) xs) e in
        let more = absent xs n parts.1 in
        ap (λ b. cond (not b) (1 + position_or_len (bytes_eq n) xs) 0) parts.0 ∙ omega (arith, more)

pub at_place : {H : Type 0} (f : List ℕ → H) (ks : List (List ℕ)) (name : List ℕ) (d : H) → list_any (bytes_eq name) ks ≡ true
    → get_or (map f ks) (position_or_len (bytes_eq name) ks) d ≡ f name
at_place f [] name d h = absurd (false≢true h)
at_place {H} f (k ∷ ks) name d h = by (bytes_eq name k) refl h (at_place f ks name d)
  where
    by : (b : Bool) → bytes_eq name k ≡ b → (b || list_any (bytes_eq name) ks) ≡ true
        → (list_any (bytes_eq name) ks ≡ true → get_or (map f ks) (position_or_len (bytes_eq name) ks) d ≡ f name)
        → get_or (f k ∷ map f ks) (cond (not b) (1 + position_or_len (bytes_eq name) ks) 0) d ≡ f name
    by true e h more = ap f (sym (same_name name k e))
    by false e h more =
        (let up : 1 + position_or_len (bytes_eq name) ks ≡ suc (position_or_len (bytes_eq name) ks) = omega arith in
        ap (λ n. get_or (f k ∷ map f ks) n d) up) ∙ more h

-- a contract is among the ids exactly if the tables have it
pub listed_is : (contracts : List Contract) (p : PositionRecord) → is_listed (ids_of contracts) p ≡ is_known contracts p
listed_is [] p = refl
listed_is (x ∷ xs) p =
    ap (λ b. b || is_listed (ids_of xs) p) (bytes_eq-flip p.contract x.id) ∙ ap (λ b. bytes_eq x.id p.contract || b) (listed_is xs p)
