-- Order records stored as position records under their orders' names: both forms read back as the order records.
use Rattle.std.proofs.Common.{◌≡◌, ◌∙◌, refl, sym, ap, inl, inr, arith, ℕ, suc, ◌+◌, true, false, List, [], ◌∷◌, length, get_or, map, subst}
use Rattle.std.specs.Prelude.{bytes_eq, All}
use Rattle.std.specs.List.{list_any, position_or_len}
use Rattle.std.proofs.lemmas.Bool.{cases_Bool, or_parts}
use Rattle.std.proofs.lemmas.List.{get_or-map, length-map}
use Rattle.std.proofs.lemmas.List.Elements.{All-map}
use Rattle.std.proofs.lemmas.List.Folds.{list_any_at}
use Rattle.span_tables.specs.Names.{is_among, has_repeat}
use Rattle.span_tables.specs.Net.{accounts_of}
use Rattle.span_tables.specs.Orders.{orders_in, account_of_order}
use Rattle.span_tables.specs.near.Orders.{order_record, order_records, under_order}
use Rattle.span_tables.specs.declared.records.OrderRecord.{OrderRecord}
use Rattle.span_tables.specs.declared.records.PositionRecord.{PositionRecord}
use Rattle.span_tables.proofs.GroupLemmas.{name_sym}
use Rattle.span_tables.proofs.NameLaws.{distinct_once}
use Rattle.span_tables.proofs.NameLemmas.{is_among-distinct}
use Rattle.span_tables.proofs.NameLemmas as names
use Rattle.span_tables.proofs.Places.{same_name}

-- the account at the index of an order's name
abbrev at_place : List (List ℕ) → List (List ℕ) → List ℕ → List ℕ
at_place orders accounts order = get_or accounts (position_or_len (bytes_eq order) orders) []

-- a name in a list differs from a name that is not in it
other_name : (gone name : List ℕ) (names : List (List ℕ)) → list_any (bytes_eq gone) names ≡ false → is_among names name ≡ true
    → bytes_eq name gone ≡ false
other_name gone name others none among =
    elim (cases_Bool (bytes_eq name gone)) [
      | inl same ↦
          let here : is_among others gone ≡ true = subst (λ n. is_among others n ≡ true) (names.same_name name gone same) among in
          let e : true ≡ false = sym here ∙ none in cc
      | inr other ↦ other
    ]

-- a name that is not the first is looked up in the remaining lists
at_next : (order account : List ℕ) (orders accounts : List (List ℕ)) (name : List ℕ) → bytes_eq name order ≡ false
    → at_place (order ∷ orders) (account ∷ accounts) name ≡ at_place orders accounts name
at_next order account orders accounts name other =
    let one : 1 + position_or_len (bytes_eq name) orders ≡ suc (position_or_len (bytes_eq name) orders) = omega arith in
    rw (other, one) refl

-- looking up distinct names in order gives the whole list of accounts
pub all_places : (answer : List ℕ → List ℕ) (orders accounts : List (List ℕ)) → has_repeat bytes_eq orders ≡ false
    → length accounts ≡ length orders
    → ((order : List ℕ) → is_among orders order ≡ true → answer order ≡ at_place orders accounts order)
    → map answer orders ≡ accounts
all_places answer [] [] apart same is = refl
all_places answer [] (a ∷ accounts) apart same is = absurd (omega (arith, same))
all_places answer (o ∷ orders) [] apart same is = absurd (omega (arith, same))
all_places answer (o ∷ orders) (a ∷ accounts) apart same is =
    let once = or_parts (list_any (bytes_eq o) orders) (has_repeat bytes_eq orders) apart in
    let here : answer o ≡ a = is o (rw (same_name o) refl) ∙ rw (same_name o) refl in
    let rest : map answer orders ≡ accounts =
    all_places answer orders accounts once.1 (omega (arith, same)) (λ order among.
    let other = other_name o order orders once.0 among in
    is order (rw other among) ∙ at_next o a orders accounts order other) in
    λ i. here i ∷ rest i

-- the account of an order is the account at its index
module _ (orders accounts : List (List ℕ)) where
  account_there : (positions : List PositionRecord) (order : List ℕ)
      → is_among (map (λ (p : PositionRecord). p.account) positions) order ≡ true
      → account_of_order (map (order_record orders accounts) positions) order ≡ at_place orders accounts order
  account_there [] order among = cc
  account_there (p ∷ positions) order among =
      elim (cases_Bool (bytes_eq p.account order)) [
        | inl same ↦ rw same (ap (at_place orders accounts) (names.same_name p.account order same))
        | inr other ↦
            let flipped : bytes_eq order p.account ≡ false = name_sym order p.account ∙ other in
            let rest : is_among (map (λ (q : PositionRecord). q.account) positions) order ≡ true = rw flipped at among in
            rw other (account_there positions order rest)
      ]

  order_names : (positions : List PositionRecord) → map (λ (r : OrderRecord). r.order) (map (order_record orders accounts) positions)
      ≡ map (λ (p : PositionRecord). p.account) positions
  order_names [] = refl
  order_names (p ∷ positions) = ap (λ rest. p.account ∷ rest) (order_names positions)

  under_again : (positions : List PositionRecord) → map under_order (map (order_record orders accounts) positions) ≡ positions
  under_again [] = refl
  under_again (p ∷ positions) = ap (λ rest. p ∷ rest) (under_again positions)

-- the order records, stored under their orders' names, are the positions
pub under_orders : (accounts : List (List ℕ)) (positions : List PositionRecord)
    → positions ≡ map under_order (order_records accounts positions)
under_orders accounts positions = sym (under_again (accounts_of positions) accounts positions)

-- the account of each order, in the order of first appearance
pub accounts_of_orders : (accounts : List (List ℕ)) (positions : List PositionRecord) → length accounts ≡ length (accounts_of positions)
    → accounts ≡ map (account_of_order (order_records accounts positions)) (orders_in (order_records accounts positions))
accounts_of_orders accounts positions same =
    let orders = accounts_of positions in
    let names = map (λ (p : PositionRecord). p.account) positions in
    rw (order_names orders accounts positions) (sym (all_places (account_of_order (order_records accounts positions)) orders accounts
    (distinct_once names) same
    (λ order among. account_there orders accounts positions order (sym (is_among-distinct names order) ∙ among))))

-- each record of an order has the order's account
pub one_account : (accounts : List (List ℕ)) (positions : List PositionRecord)
    → All (λ r. r.account ≡ account_of_order (order_records accounts positions) r.order) (order_records accounts positions)
one_account accounts positions =
    let orders = accounts_of positions in
    let name_of = λ (p : PositionRecord). p.account in
    All-map (λ (r : OrderRecord). r.account ≡ account_of_order (order_records accounts positions) r.order) (order_record orders accounts)
    positions
    (λ k d lt.
    let name : List ℕ = (get_or positions k d).account in
    let among : is_among (map name_of positions) name ≡ true =
    list_any_at (bytes_eq name) (map name_of positions) k [] (omega (arith, lt, length-map positions name_of))
    (ap (bytes_eq name) (get_or-map name_of positions k d [] lt) ∙ same_name name) in
    sym (account_there orders accounts positions name among))
