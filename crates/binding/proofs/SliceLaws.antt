-- The entries gathered for a range of accounts.
use Rattle.std.proofs.Common.{◌≡◌, ℕ, zero, suc, ◌+◌, ◌-◌, ◌<◌, ◌≤◌, Bool, true, false, cond, not, ◌&&◌, ◌||◌, List, [], ◌∷◌, ◌++◌}
use Rattle.std.proofs.Common.{Some, None, length, get_or, drop, map, pos, set, take, refl, sym, ap, subst, ◌∙◌, arith, true≢false}
use Rattle.std.specs.Prelude.{All, bytes_eq, nat_lt}
use Rattle.std.specs.List.{AllWithin, list_all, list_any, position_or_len}
use Rattle.std.proofs.Math.Seq.{take-length}
use Rattle.std.proofs.lemmas.Bool.{le-leb, lt-ltb}
use Rattle.std.proofs.lemmas.List.{get_or-map, get_or_default}
use Rattle.span_tables.specs.Net.{accounts_of}
use Rattle.span_tables.specs.near.Positions.{named_position, named_positions}
use Rattle.span_tables.specs.declared.records.NumberedPosition.{NumberedPosition}
use Rattle.span_tables.specs.declared.records.PositionRecord.{PositionRecord}
use Rattle.binding.specs.near.Ledgers.{contract_place, is_foreign, is_of, slice_nets}
use Rattle.binding.specs.near.Nets.{entry_of, entries_of}
use Rattle.binding.specs.near.Sums.{kept_holdings}
use Rattle.binding.specs.declared.ledgers.Entry.{Entry}
use Rattle.binding.proofs.AccountLaws.{entered, entries_push, left_out}
use Rattle.binding.proofs.LedgerLaws.{apart, as_many, number_within, record_at, taken_next}
use Rattle.binding.proofs.PlaceLaws.{position_none, within}

-- ---- known contracts, by the indexes of the records' contracts

-- the index of a name is below the number of names exactly if the name is among them
below_is : (ids : List (List ℕ)) (name : List ℕ) (b : Bool) → list_any (bytes_eq name) ids ≡ b
    → nat_lt (position_or_len (bytes_eq name) ids) (length ids) ≡ b
below_is ids name true h = lt-ltb (position_or_len (bytes_eq name) ids) (length ids) (within ids name h)
below_is ids name false h = by (nat_lt (position_or_len (bytes_eq name) ids) (length ids)) (position_none ids name h)
  where
    by : (t : Bool) → cond t (Some (position_or_len (bytes_eq name) ids)) None ≡ None → t ≡ false
    by true e = cc
    by false e = refl

each_known : (ids : List (List ℕ)) (positions : List PositionRecord)
    → list_all (λ place. nat_lt place (length ids)) (map (λ (p : PositionRecord). contract_place ids p.contract) positions)
    ≡ not (list_any (is_foreign ids) positions)
each_known ids [] = refl
each_known ids (p ∷ positions) =
    (λ i. below_is ids p.contract (list_any (bytes_eq p.contract) ids) refl i && each_known ids positions i)
    ∙ by (list_any (bytes_eq p.contract) ids) (list_any (is_foreign ids) positions)
  where
    by : (b r : Bool) → (b && not r) ≡ not (not b || r)
    by true r = refl
    by false r = refl

-- all records are of contracts among the ids exactly if all found indexes are below the number of ids
pub all_known_by_places : (ids : List (List ℕ)) (found : List ℕ) (positions : List PositionRecord)
    → found ≡ map (λ (p : PositionRecord). contract_place ids p.contract) positions
    → list_all (λ place. nat_lt place (length ids)) found ≡ not (list_any (is_foreign ids) positions)
all_known_by_places ids found positions are =
    ap (list_all (λ place. nat_lt place (length ids))) are ∙ each_known ids positions

-- the nets of all accounts
pub whole_nets : (ids : List (List ℕ)) (positions : List PositionRecord)
    → slice_nets ids positions 0 (length (accounts_of positions))
    ≡ map (kept_holdings (length ids)) (map (entries_of ids positions) (accounts_of positions))
unfolding slice_nets
whole_nets ids positions =
    ap (λ ks. map (kept_holdings (length ids)) (map (entries_of ids positions) ks)) (take-length (accounts_of positions))

-- ---- records by the numbers of their accounts

module _ (positions : List PositionRecord) (records : List NumberedPosition)
    (named : named_positions (accounts_of positions) records ≡ positions)
    (known : All (λ (p : NumberedPosition). p.account < length (accounts_of positions)) records) (ids : List (List ℕ)) (f c : ℕ) where
  pub entry_is : (i : ℕ) (r : NumberedPosition) (found : List ℕ) (e : Entry) → i < length records → r ≡ get_or records i r
      → found ≡ map (λ (p : PositionRecord). contract_place ids p.contract) positions
      → e ≡ record { contract = get_or found i 0; quantity = r.quantity } → e ≡ entry_of ids (named_position (accounts_of positions) r)
  entry_is i r found e lt at are is =
      let p = named_position (accounts_of positions) r in
      let place : get_or found i 0 ≡ contract_place ids p.contract = ap (λ xs. get_or xs i 0) are
      ∙ get_or-map (λ (q : PositionRecord). contract_place ids q.contract) positions i p 0
      (omega (arith, lt, as_many positions records named known))
      ∙ ap (λ (q : PositionRecord). contract_place ids q.contract) (sym (record_at positions records named known i r lt at)) in
      is ∙ ap (λ (n : ℕ). record { contract = n; quantity = r.quantity }) place

  module _ (within : f + c ≤ length (accounts_of positions)) (i : ℕ) (r : NumberedPosition) (ledgers : List (List Entry))
      (lt : i < length records) (at : r ≡ get_or records i r)
      (was : ledgers ≡ map (entries_of ids (take i positions)) (take c (drop f (accounts_of positions)))) where
    abbrev p : PositionRecord
    p = named_position (accounts_of positions) r

    abbrev before : List PositionRecord
    before = take i positions

    abbrev some : List (List ℕ)
    some = take c (drop f (accounts_of positions))

    next : map (entries_of ids (before ++ p ∷ [])) some ≡ map (entries_of ids (take (i + 1) positions)) some
    next = ap (λ ps. map (entries_of ids ps) some) (sym (taken_next positions records named known i r lt at))

    -- the ledgers after the record at index i, if its account is in the range
    pub slice_step : (ledgers' : List (List Entry)) (e : Entry) → f ≤ r.account → r.account < f + c
        → e ≡ entry_of ids (named_position (accounts_of positions) r)
        → ledgers' ≡ set ledgers (r.account - f) (get_or ledgers (r.account - f) [] ++ e ∷ [])
        → ledgers' ≡ map (entries_of ids (take (i + 1) positions)) (take c (drop f (accounts_of positions)))
    slice_step ledgers' e le below is more =
        let k = r.account - f in
        more
        ∙ ap (λ bs. set bs k (get_or bs k [] ++ e ∷ [])) was
        ∙ ap (λ x. set (map (entries_of ids before) some) k (get_or (map (entries_of ids before) some) k [] ++ x ∷ [])) is
        ∙ entered (accounts_of positions) (apart positions) f c within (entries_of ids before)
        (entries_of ids (before ++ p ∷ [])) r.account (entry_of ids p) (number_within positions records named known i r lt at)
        (entries_push ids before p) k (omega (arith, le, below)) (omega (arith, le))
        ∙ next

    -- the ledgers after the record at index i, if its account is not in the range
    pub slice_stay : ((k : ℕ) → k < c → r.account ≡ f + k → ⊥)
        → ledgers ≡ map (entries_of ids (take (i + 1) positions)) (take c (drop f (accounts_of positions)))
    slice_stay other =
        was
        ∙ left_out (accounts_of positions) (apart positions) f c within (entries_of ids before)
        (entries_of ids (before ++ p ∷ [])) r.account (entry_of ids p) (number_within positions records named known i r lt at)
        (entries_push ids before p) other
        ∙ next

  module _ (within : f + c ≤ length (accounts_of positions)) (ledgers : List (List Entry)) where
    -- the ledgers have the entries of the first i records
    abbrev Hold : ℕ → Type 0
    Hold i = ledgers ≡ map (entries_of ids (take i positions)) (take c (drop f (accounts_of positions)))

    pub other_account : (r : NumberedPosition) → is_of f c r ≡ false → (k : ℕ) → k < c → r.account ≡ f + k → ⊥
    other_account r other k less is =
        let first : f ≤ r.account = omega (arith, is) in
        let last : r.account - f < c = omega (arith, is, less) in
        true≢false (rw (le-leb f r.account first, lt-ltb (r.account - f) c last) at other)

    -- records of other accounts do not change the ledgers
    pub others_stay : (n i j : ℕ) → i + n ≡ j → j ≤ length records → AllWithin (λ p. is_of f c p ≡ false) records i j → Hold i → Hold j
    others_stay zero i j e le others was = subst Hold (omega (arith, e)) was
    others_stay (suc n) i j e le others was =
        let none : NumberedPosition = record { contract = []; account = 0; quantity = pos 0 } in
        let r = get_or records i none in
        let lt : i < length records = omega (arith, e, le) in
        let at : r ≡ get_or records i r = get_or_default records i none r lt in
        let next : Hold (i + 1) =
        slice_stay within i r ledgers lt at was (other_account r (others i none (omega arith) (omega (arith, e)))) in
        others_stay n (i + 1) j (omega (arith, e)) le (λ k d low high. others k d (omega (arith, low)) high) next
