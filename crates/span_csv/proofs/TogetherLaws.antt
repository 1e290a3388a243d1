-- Joined pieces of a position file: their accounts, their records, and the numbers of the records.
use Rattle.std.proofs.Common.{◌≡◌, ◌∙◌, refl, sym, ap, subst, inl, inr, arith, ℕ, zero, suc, ◌+◌, ◌<◌, ◌≤◌, Bool, true, false, not, cond}
use Rattle.std.proofs.Common.{◌&&◌, ◌||◌, ◌==◌, List, [], ◌∷◌, ◌++◌, length, get_or, map, append_assoc, drop, set, take}
use Rattle.std.specs.Prelude.{All, bytes_eq, filter, nat_abs}
use Rattle.std.proofs.lemmas.Bool.{cases_Bool, eqb-true, or_right}
use Rattle.std.proofs.Math.Seq.{drop-append_seam, take-append_seam}
use Rattle.std.proofs.lemmas.List.{append-nil, drop-set-lt, flat_map_more, length-append, map-append, take-append-drop}
use Rattle.std.proofs.lemmas.List.{drop_more, take_more, take_more_set}
use Rattle.std.proofs.lemmas.Grind.{flat_map-append}
use Rattle.std.proofs.lemmas.List.Elements.{All-append, All-cons, All-drop, All-head, All-tail, All-take}
use Rattle.std.proofs.lemmas.List.Folds.{list_any-append}
use Rattle.std.proofs.lemmas.List.Sums.{passes_at_first}
use Rattle.std.proofs.lemmas.Slice.Eq.{bytes_eq-Decides}
use Rattle.span_tables.specs.Names.{distinct, is_among}
use Rattle.span_tables.specs.Net.{accounts_of}
use Rattle.span_tables.specs.near.Positions.{named_position, named_positions}
use Rattle.span_tables.specs.declared.limits.TheConstants.{MAX_ACCOUNTS, MAX_QUANTITY}
use Rattle.span_tables.specs.declared.records.NumberedPosition.{NumberedPosition}
use Rattle.span_tables.specs.declared.records.PositionRecord.{PositionRecord}
use Rattle.span_tables.proofs.GroupLemmas.{at_map}
use Rattle.span_tables.proofs.NameLemmas.{is_among-distinct, same_name}
use Rattle.span_tables.proofs.NumberedLaws.{accounts_of-push}
use Rattle.span_csv.specs.near.NumberedReading.{is_one_too_many, with_name}
use Rattle.span_csv.specs.near.Pieces.{place_among, records_together}
use Rattle.span_csv.specs.near.Pieces.{renumbered, with_names, AreOfAccounts, AreTogether, HasAccounts, StandFor}

-- ---- names after others

-- no name is lost
longer : (keys : List (List ℕ)) (name : List ℕ) → length keys ≤ length (with_name keys name)
longer keys name =
    elim (cases_Bool (is_among keys name)) [
      | inl old ↦ rw old (omega arith)
      | inr new ↦ rw new (let e = length-append keys (name ∷ []) in omega (arith, e))
    ]

-- a known name stays known when another is added
among_more : (known : List (List ℕ)) (x name : List ℕ) → is_among known name ≡ true → is_among (with_name known x) name ≡ true
among_more known x name there =
    elim (cases_Bool (is_among known x)) [
      | inl old ↦ rw old there
      | inr new ↦ rw new (list_any-append (bytes_eq name) known (x ∷ []) ∙ (rw there refl))
    ]

-- a name is known after it is added
among_itself : (known : List (List ℕ)) (name : List ℕ) → is_among (with_name known name) name ≡ true
among_itself known name =
    elim (cases_Bool (is_among known name)) [
      | inl old ↦ rw old old
      | inr new ↦ rw new (list_any-append (bytes_eq name) known (name ∷ []) ∙ (rw (new, (bytes_eq-Decides name name).1 refl) refl))
    ]

-- adding a known name again has no effect
skip : (xs known : List (List ℕ)) (name : List ℕ) → is_among known name ≡ true
    → with_names known xs ≡ with_names known (filter (λ other. not (bytes_eq other name)) xs)
skip [] known name there = refl
skip (x ∷ xs) known name there =
    elim (cases_Bool (bytes_eq x name)) [
      | inl same ↦
          let old : is_among known x ≡ true = ap (is_among known) (same_name x name same) ∙ there in
          rw (same, old) (skip xs known name there)
      | inr other ↦ rw other (skip xs (with_name known x) name (among_more known x name there))
    ]

-- adding only the first occurrence of each name is enough
once : (xs known : List (List ℕ)) → with_names known xs ≡ with_names known (distinct xs)
once [] known = refl
once (x ∷ xs) known = once xs (with_name known x) ∙ skip (distinct xs) (with_name known x) x (among_itself known x)

pushed : (b a : List PositionRecord) → accounts_of (a ++ b) ≡ with_names (accounts_of a) (map (λ (p : PositionRecord). p.account) b)
pushed [] a = ap accounts_of (append-nil a)
pushed (p ∷ b) a =
    ap accounts_of (sym (append_assoc a (p ∷ []) b))
    ∙ pushed b (a ++ p ∷ [])
    ∙ ap (λ known. with_names known (map (λ (q : PositionRecord). q.account) b)) (accounts_of-push a p)

-- the accounts of two lists joined are the accounts of the first, then the new ones of the second
pub accounts_behind : (a b : List PositionRecord) → accounts_of (a ++ b) ≡ with_names (accounts_of a) (accounts_of b)
accounts_behind a b = pushed b a ∙ once (map (λ (p : PositionRecord). p.account) b) (accounts_of a)

never_fewer : (names known : List (List ℕ)) → length known ≤ length (with_names known names)
never_fewer [] known = omega arith
never_fewer (x ∷ xs) known =
    let one = longer known x in
    let more = never_fewer xs (with_name known x) in
    omega (arith, one, more)

-- the records of a prefix have no more accounts than the limit if the whole list has no more
fewer_in_front : (a b : List PositionRecord) → length (accounts_of (a ++ b)) ≤ MAX_ACCOUNTS → length (accounts_of a) ≤ MAX_ACCOUNTS
fewer_in_front a b few =
    let same : length (accounts_of (a ++ b)) ≡ length (with_names (accounts_of a) (accounts_of b)) = ap length (accounts_behind a b) in
    let more = never_fewer (accounts_of b) (accounts_of a) in
    omega (arith, same, more, few)

-- ---- the records of the whole file

full : (b : Bool) (n : ℕ) → (not b && (n == MAX_ACCOUNTS)) ≡ true → (b ≡ false) × (n ≡ MAX_ACCOUNTS)
full true n e = let bad : false ≡ true = e in cc
full false n e = (refl, eqb-true n MAX_ACCOUNTS e)

-- no record's account is one too many if all records together stay within the limit
pub too_many : (whole ps : List PositionRecord) (p : PositionRecord) → length (accounts_of ((whole ++ p ∷ []) ++ ps)) ≤ MAX_ACCOUNTS
    → is_one_too_many MAX_ACCOUNTS (accounts_of whole) p.account ≡ true → ⊥
too_many whole ps p few over =
    let h = full (is_among (accounts_of whole) p.account) (length (accounts_of whole)) over in
    let more : accounts_of (whole ++ p ∷ []) ≡ accounts_of whole ++ p.account ∷ [] = accounts_of-push whole p ∙ (rw h.0 refl) in
    let count : length (accounts_of (whole ++ p ∷ [])) ≡ length (accounts_of whole ++ p.account ∷ []) = ap length more in
    let long = length-append (accounts_of whole) (p.account ∷ []) in
    let most = fewer_in_front (whole ++ p ∷ []) ps few in
    let size = h.1 in
    omega (arith, count, long, most, size)

any_at : (ps : List PositionRecord) (k : ℕ) (d : PositionRecord) → k < length ps
    → is_among (map (λ (p : PositionRecord). p.account) ps) (get_or ps k d).account ≡ true
any_at [] k d lt = absurd (omega (arith, lt))
any_at (p ∷ ps) zero d lt = rw ((bytes_eq-Decides p.account p.account).1 refl) refl
any_at (p ∷ ps) (suc k) d lt =
    or_right (bytes_eq (get_or ps k d).account p.account) (is_among (map (λ (q : PositionRecord). q.account) ps) (get_or ps k d).account)
    (any_at ps k d (omega (arith, lt)))

-- the account of each record is among the accounts of all pieces
pub together_known : (pieces : List (List PositionRecord)) (accounts : List (List ℕ)) → AreTogether accounts pieces
    → HasAccounts accounts (records_together pieces)
together_known pieces accounts together =
    let ps = records_together pieces in
    subst (λ all. HasAccounts all ps) (sym together.accounts_are)
    (λ k d lt. is_among-distinct (map (λ (p : PositionRecord). p.account) ps) (get_or ps k d).account ∙ any_at ps k d lt)

-- ---- numbers

-- an empty list denotes the records of no pieces
pub stand_none : (accounts : List (List ℕ)) → StandFor accounts [] []
stand_none accounts = record {
  named = refl;
  of = record { known = λ k d lt. absurd (omega (arith, lt)); small = λ k d lt. absurd (omega (arith, lt)) };
}

-- the index of a known name is within the list
place_within : (ks : List (List ℕ)) (name : List ℕ) → is_among ks name ≡ true → place_among ks name < length ks
place_within [] name there = let bad : false ≡ true = there in cc
place_within (k ∷ ks) name there = by (bytes_eq name k) there (place_within ks name)
  where
    by : (b : Bool) → (b || is_among ks name) ≡ true → (is_among ks name ≡ true → place_among ks name < length ks)
        → cond (not b) (1 + place_among ks name) 0 < suc (length ks)
    by true there more = omega arith
    by false there more = let lt = more there in omega (arith, lt)

-- the name at the index of a known name is that name
name_at_place : (ks : List (List ℕ)) (name : List ℕ) → is_among ks name ≡ true → get_or ks (place_among ks name) [] ≡ name
name_at_place ks name there =
    sym (same_name name (get_or ks (place_among ks name) []) (passes_at_first (bytes_eq name) ks [] (place_within ks name there)))

module _ (accounts names : List (List ℕ)) where
  abbrev places : List ℕ
  places = map (place_among accounts) names

  abbrev again : NumberedPosition → NumberedPosition
  again r = renumbered places r

  place_is : (r : NumberedPosition) → r.account < length names → (again r).account ≡ place_among accounts (get_or names r.account [])
  place_is r within = at_map (place_among accounts) names r.account [] 0 within

  one_named : (r : NumberedPosition) → r.account < length names → is_among accounts (get_or names r.account []) ≡ true
      → named_position accounts (again r) ≡ named_position names r
  one_named r within there =
      let at = ap (λ n. get_or accounts n []) (place_is r within) ∙ name_at_place accounts (get_or names r.account []) there in
      ap (λ a. (let it : PositionRecord = record { account = a; contract = r.contract; quantity = r.quantity } in it)) at

  one_within : (r : NumberedPosition) → r.account < length names → is_among accounts (get_or names r.account []) ≡ true
      → (again r).account < length accounts
  one_within r within there =
      let is = place_is r within in
      let lt = place_within accounts (get_or names r.account []) there in
      omega (arith, is, lt)

  -- records numbered by their own accounts denote the same records when numbered by all accounts
  pub stand_for : (rs : List NumberedPosition) → AreOfAccounts names rs → HasAccounts accounts (named_positions names rs)
      → StandFor accounts (named_positions names rs) (map (renumbered (map (place_among accounts) names)) rs)
  stand_for [] of has = stand_none accounts
  stand_for (r ∷ rs) of has =
      let within = All-head (λ (q : NumberedPosition). q.account < length names) r rs of.known in
      let there = All-head (λ (p : PositionRecord). is_among accounts p.account ≡ true) (named_position names r)
      (named_positions names rs) has in
      let rest = stand_for rs (record {
        known = All-tail (λ (q : NumberedPosition). q.account < length names) r rs of.known;
        small = All-tail (λ (q : NumberedPosition). nat_abs q.quantity ≤ MAX_QUANTITY) r rs of.small;
      })
      (All-tail (λ (p : PositionRecord). is_among accounts p.account ≡ true) (named_position names r) (named_positions names rs) has) in
      record {
        named = λ i. one_named r within there i ∷ rest.named i;
        of = record {
          known = All-cons (λ (q : NumberedPosition). q.account < length accounts) (again r) (map again rs) (one_within r within there)
              rest.of.known;
          small = All-cons (λ (q : NumberedPosition). nat_abs q.quantity ≤ MAX_QUANTITY) (again r) (map again rs)
              (All-head (λ (q : NumberedPosition). nat_abs q.quantity ≤ MAX_QUANTITY) r rs of.small) rest.of.small;
        };
      }

-- ---- halves

module _ (accounts : List (List ℕ)) (pieces : List (List PositionRecord)) (n : ℕ) where
  abbrev front : List PositionRecord
  front = records_together (take n pieces)

  abbrev back : List PositionRecord
  back = records_together (drop n pieces)

  abbrev IsKnown : PositionRecord → Type 0
  IsKnown p = is_among accounts p.account ≡ true

  halves : records_together pieces ≡ front ++ back
  halves =
      ap records_together (sym (take-append-drop n pieces))
      ∙ flat_map-append (λ (piece : List PositionRecord). piece) (take n pieces) (drop n pieces)

  -- if all pieces have their accounts in the list, so have the first n pieces and the other pieces
  pub known_front : HasAccounts accounts (records_together pieces) → HasAccounts accounts (records_together (take n pieces))
  known_front known =
      subst (All IsKnown) (take-append_seam front back) (All-take IsKnown (length front) (front ++ back) (subst (All IsKnown) halves known))

  pub known_back : HasAccounts accounts (records_together pieces) → HasAccounts accounts (records_together (drop n pieces))
  known_back known =
      subst (All IsKnown) (drop-append_seam front back) (All-drop IsKnown (length front) (front ++ back) (subst (All IsKnown) halves known))

  -- numbered records for the first n pieces and for the others, joined, denote the records of all pieces
  pub stand_both : (xs ys : List NumberedPosition) → StandFor accounts (records_together (take n pieces)) xs
      → StandFor accounts (records_together (drop n pieces)) ys → StandFor accounts (records_together pieces) (xs ++ ys)
  stand_both xs ys first second = record {
    named =
        map-append (named_position accounts) xs ys
        ∙ ap (λ ps. ps ++ named_positions accounts ys) first.named
        ∙ ap (λ ps. front ++ ps) second.named
        ∙ sym halves;
    of = record {
      known = All-append (λ (q : NumberedPosition). q.account < length accounts) xs ys first.of.known second.of.known;
      small = All-append (λ (q : NumberedPosition). nat_abs q.quantity ≤ MAX_QUANTITY) xs ys first.of.small second.of.small;
    };
  }

-- ---- iterations of the loops

-- one more element is changed
pub changed_more : {X : Type 0} (f : X → X) (xs : List X) (i : ℕ) (d : X) → i < length xs
    → take (i + 1) (set xs i (f (get_or xs i d))) ++ map f (drop (i + 1) (set xs i (f (get_or xs i d)))) ≡ take i xs ++ map f (drop i xs)
changed_more f xs i d lt =
    ap (λ front. front ++ map f (drop (i + 1) (set xs i (f (get_or xs i d))))) (take_more_set xs i (f (get_or xs i d)) lt)
    ∙ append_assoc (take i xs) (f (get_or xs i d) ∷ []) (map f (drop (i + 1) (set xs i (f (get_or xs i d)))))
    ∙ ap (λ back. take i xs ++ f (get_or xs i d) ∷ map f back) (drop-set-lt (i + 1) xs i (f (get_or xs i d)) (omega arith))
    ∙ ap (λ back. take i xs ++ map f back) (sym (drop_more xs i d lt))

-- the elements after the changed one stay as before
pub left_behind : {X : Type 0} (P : X → Type 0) (xs : List X) (i : ℕ) (y d : X) → i < length xs → All P (drop i xs)
    → All P (drop (i + 1) (set xs i y))
left_behind P xs i y d lt all =
    subst (All P) (sym (drop-set-lt (i + 1) xs i y (omega arith)))
    (All-tail P (get_or xs i d) (drop (i + 1) xs) (subst (All P) (drop_more xs i d lt) all))

module _ (pieces : List (List PositionRecord)) (i : ℕ) (piece : List PositionRecord) (lt : i < length pieces)
    (is : piece ≡ get_or pieces i piece) where
  taken_more : take (i + 1) pieces ≡ take i pieces ++ piece ∷ []
  taken_more = take_more pieces i piece lt ∙ ap (λ one. take i pieces ++ one ∷ []) (sym is)

  pub accounts_more : (known names now : List (List ℕ)) → known ≡ accounts_of (records_together (take i pieces))
      → names ≡ accounts_of piece → now ≡ with_names known names → now ≡ accounts_of (records_together (take (i + 1) pieces))
  accounts_more known names now are of with =
      with
      ∙ ap (λ ks. with_names ks names) are
      ∙ ap (with_names (accounts_of (records_together (take i pieces)))) of
      ∙ sym (accounts_behind (records_together (take i pieces)) piece)
      ∙ ap accounts_of (flat_map_more (λ (one : List PositionRecord). one) [] (take i pieces) piece ∙ ap records_together (sym taken_more))
