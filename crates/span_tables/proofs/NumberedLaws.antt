-- Records numbered by account, when one more record is appended.
use Rattle.std.proofs.Common.{◌≡◌, ◌∙◌, refl, sym, ap, inl, inr, arith, ℕ, zero, suc, ◌<◌}
use Rattle.std.proofs.Common.{◌≤◌, true, List, [], ◌∷◌, ◌++◌, length, get_or, map, Some, slice_get}
use Rattle.std.specs.Prelude.{All, bytes_eq, nat_abs}
use Rattle.std.proofs.lemmas.Bool.{cases_Bool}
use Rattle.std.proofs.lemmas.Slice.Eq.{bytes_eq-Decides}
use Rattle.std.proofs.lemmas.List.{map-append, length-append, get_or_append_left}
use Rattle.std.proofs.lemmas.List.Elements.{All-head, All-tail, All-push, All-weaker}
use Rattle.std.proofs.lemmas.Map.Keys.{any_passes_from_place}
use Rattle.std.proofs.lemmas.Option.{slice_get_within, slice_get-get_or}
use Rattle.indexmap.specs.IndexSet.{insert_key}
use Rattle.span_tables.specs.Names.{is_among}
use Rattle.span_tables.specs.Net.{accounts_of}
use Rattle.span_tables.specs.near.Positions.{named_position, named_positions, AreNumbered}
use Rattle.span_tables.specs.declared.limits.TheConstants.{MAX_ORDERS, MAX_QUANTITY}
use Rattle.span_tables.specs.declared.records.NumberedPosition.{NumberedPosition}
use Rattle.span_tables.specs.declared.records.PositionRecord.{PositionRecord}
use Rattle.span_tables.proofs.NameLemmas.{same_name, is_among-distinct, distinct-push}

-- ---- indexes

-- a name that equals the name at an index is the name at that index
pub name_at : (keys : List (List ℕ)) (a : ℕ) (known name : List ℕ) → a < length keys → known ≡ get_or keys a known
    → bytes_eq known name ≡ true → slice_get keys a ≡ Some name
name_at keys a known name within is same = slice_get-get_or keys a known within ∙ ap Some (sym is ∙ same_name known name same)

-- a name at an index is in the list
pub among_at : (keys : List (List ℕ)) (a : ℕ) (name : List ℕ) → slice_get keys a ≡ Some name → is_among keys name ≡ true
among_at keys a name at = any_passes_from_place (bytes_eq name) keys a name at ((bytes_eq-Decides name name).1 refl)

-- reading the index of a name with a default gives the name
pub name_there : (keys : List (List ℕ)) (a : ℕ) (name : List ℕ) → slice_get keys a ≡ Some name → get_or keys a [] ≡ name
name_there [] a name at = cc
name_there (k ∷ keys) zero name at = cc
name_there (k ∷ keys) (suc a) name at = name_there keys a name at

-- the accounts so far keep their indexes
pub stays : (keys : List (List ℕ)) (name : List ℕ) (i : ℕ) → i < length keys
    → get_or (insert_key bytes_eq keys name) i [] ≡ get_or keys i []
stays keys name i within =
    elim (cases_Bool (is_among keys name)) [
      | inl old ↦ rw old refl
      | inr new ↦ rw new (get_or_append_left keys (name ∷ []) [] i within)
    ]

longer : (keys : List (List ℕ)) (name : List ℕ) → length keys ≤ length (insert_key bytes_eq keys name)
longer keys name =
    elim (cases_Bool (is_among keys name)) [
      | inl old ↦ rw old (omega arith)
      | inr new ↦ rw new (let e = length-append keys (name ∷ []) in omega (arith, e))
    ]

-- the records so far name the same accounts
same_named : (keys : List (List ℕ)) (name : List ℕ) (records : List NumberedPosition)
    → All (λ (p : NumberedPosition). p.account < length keys) records
    → named_positions (insert_key bytes_eq keys name) records ≡ named_positions keys records
same_named keys name [] known = refl
same_named keys name (r ∷ records) known =
    let here = stays keys name r.account (All-head (λ (p : NumberedPosition). p.account < length keys) r records known) in
    let rest = same_named keys name records (All-tail (λ (p : NumberedPosition). p.account < length keys) r records known) in
    λ i. record { account = here i; contract = r.contract; quantity = r.quantity } ∷ rest i

-- ---- one more record

-- the accounts of the positions with one more position appended
pub accounts_of-push : (positions : List PositionRecord) (p : PositionRecord)
    → accounts_of (positions ++ p ∷ []) ≡ insert_key bytes_eq (accounts_of positions) p.account
accounts_of-push positions p =
    rw (
      map-append (λ (q : PositionRecord). q.account) positions (p ∷ []),
      distinct-push (map (λ (q : PositionRecord). q.account) positions) p.account,
      is_among-distinct (map (λ (q : PositionRecord). q.account) positions) p.account,
    ) refl

module _ (keys keys' : List (List ℕ)) (records : List NumberedPosition) (p : NumberedPosition) (name : List ℕ)
    (was : AreNumbered keys records)
    (more : keys' ≡ insert_key bytes_eq keys name) (at : slice_get keys' p.account ≡ Some name) where
  -- the records with account names gain the new record with its account name
  pub named_more : named_positions keys' (records ++ p ∷ []) ≡ named_positions keys records ++ named_position keys' p ∷ []
  named_more =
      map-append (named_position keys') records (p ∷ [])
      ∙ ap (λ front. front ++ named_position keys' p ∷ [])
      (ap (λ ks. named_positions ks records) more ∙ same_named keys name records was.known)

  -- the records with one more are numbered by account
  pub numbered_more : length keys' ≤ MAX_ORDERS → nat_abs p.quantity ≤ MAX_QUANTITY → AreNumbered keys' (records ++ p ∷ [])
  numbered_more few small = record {
    accounts_are =
        more
        ∙ ap (λ ks. insert_key bytes_eq ks name) was.accounts_are
        ∙ ap (insert_key bytes_eq (accounts_of (named_positions keys records))) (sym (name_there keys' p.account name at))
        ∙ sym (accounts_of-push (named_positions keys records) (named_position keys' p))
        ∙ sym (ap accounts_of named_more);
    few = few;
    known = All-push (λ (q : NumberedPosition). q.account < length keys') records p
        (All-weaker (λ (q : NumberedPosition). q.account < length keys) (λ (q : NumberedPosition). q.account < length keys')
        (λ q within. let e = ap length more in let le = longer keys name in omega (arith, within, e, le)) records was.known)
        (slice_get_within keys' p.account name at);
    small = All-push (λ (q : NumberedPosition). nat_abs q.quantity ≤ MAX_QUANTITY) records p was.small small;
  }
