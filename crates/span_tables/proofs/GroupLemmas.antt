-- Lists by commodity: for each commodity, the elements that name it.
use Rattle.std.proofs.Common.{◌≡◌, ℕ, suc, zero, ◌+◌, ◌<◌, Bool, true, false, cond, not, List, [], ◌∷◌}
use Rattle.std.proofs.Common.{◌++◌, length, map, filter, get_or, set, take, refl, sym, ap, ◌∙◌, subst, arith, Decides}
use Rattle.std.specs.Prelude.{bytes_eq, All}
use Rattle.std.specs.List.{list_any}
use Rattle.std.proofs.lemmas.Bool.Decides.{same_from_decides}
use Rattle.std.proofs.lemmas.List.{append-nil, length-map, map-append, map-id, map-set, take_more}
use Rattle.std.proofs.Math.ListN.{replicate}
use Rattle.std.proofs.lemmas.List.Elements.{filter-append}
use Rattle.std.proofs.lemmas.Slice.Eq.{bytes_eq-Decides}
use Rattle.span_tables.specs.Names.{has_repeat}
use Rattle.span_tables.proofs.Places.{place}
use Rattle.std.proofs.lemmas.Bool.{or_parts}

-- equality of names is symmetric
pub name_sym : (a b : List ℕ) → bytes_eq a b ≡ bytes_eq b a
name_sym a b =
    let other : Decides (bytes_eq b a) (a ≡ b) = ((λ e. sym ((bytes_eq-Decides b a).0 e)), (λ e. (bytes_eq-Decides b a).1 (sym e))) in
    same_from_decides _ _ (bytes_eq-Decides a b) other

module _ {C X Y : Type 0} (id : C → List ℕ) (key : X → List ℕ) (f : X → Y) where
  -- the elements that name c
  abbrev pub group : List X → C → List Y
  group xs c = map f (filter (λ x. bytes_eq (key x) (id c)) xs)

  -- the elements that name each of cs
  abbrev pub groups : List C → List X → List (List Y)
  groups cs xs = map (group xs) cs

  last_if : (b d : Bool) (x : X) → d ≡ b → map f (cond d (x ∷ []) []) ≡ cond b (f x ∷ []) []
  last_if true d x e = rw e refl
  last_if false d x e = rw e refl

  group_if : (b : Bool) (x : X) (xs : List X) (c : C) → bytes_eq (key x) (id c) ≡ b
      → group (xs ++ x ∷ []) c ≡ group xs c ++ cond b (f x ∷ []) []
  group_if b x xs c is =
      ap (map f) (filter-append (λ y. bytes_eq (key y) (id c)) xs (x ∷ []))
      ∙ map-append f (filter (λ y. bytes_eq (key y) (id c)) xs) (filter (λ y. bytes_eq (key y) (id c)) (x ∷ []))
      ∙ ap (λ ys. group xs c ++ ys) (last_if b (bytes_eq (key x) (id c)) x is)

  -- none of cs has the name of the new element
  groups_other : (x : X) (xs : List X) (cs : List C) → list_any (λ c. bytes_eq (key x) (id c)) cs ≡ false
      → groups cs (xs ++ x ∷ []) ≡ groups cs xs
  groups_other x xs [] none = refl
  groups_other x xs (c ∷ cs) none =
      let e = or_parts (bytes_eq (key x) (id c)) (list_any (λ d. bytes_eq (key x) (id d)) cs) none in
      let here : group (xs ++ x ∷ []) c ≡ group xs c = group_if false x xs c e.0 ∙ append-nil (group xs c) in
      let rest = groups_other x xs cs e.1 in
      λ i. here i ∷ rest i

  -- the lists with y appended to the list at index n
  abbrev pub pushed : List (List Y) → ℕ → Y → List (List Y)
  pushed lists n y = set lists n (get_or lists n [] ++ y ∷ [])

  push_if : (b : Bool) (x : X) (xs : List X) (c : C) (cs : List C) → bytes_eq (id c) (key x) ≡ b
      → list_any (λ d. bytes_eq (id c) (id d)) cs ≡ false
      → (place id cs (key x) < length cs → groups cs (xs ++ x ∷ []) ≡ pushed (groups cs xs) (place id cs (key x)) (f x))
      → cond (not b) (1 + place id cs (key x)) 0 < length (c ∷ cs)
      → groups (c ∷ cs) (xs ++ x ∷ []) ≡ pushed (groups (c ∷ cs) xs) (cond (not b) (1 + place id cs (key x)) 0) (f x)
  push_if true x xs c cs is none more lt =
      let same : id c ≡ key x = (bytes_eq-Decides (id c) (key x)).0 is in
      let other : list_any (λ d. bytes_eq (key x) (id d)) cs ≡ false =
      subst (λ n. list_any (λ d. bytes_eq n (id d)) cs ≡ false) same none in
      let here : group (xs ++ x ∷ []) c ≡ group xs c ++ f x ∷ [] = group_if true x xs c (name_sym (key x) (id c) ∙ is) in
      let rest = groups_other x xs cs other in
      λ i. here i ∷ rest i
  push_if false x xs c cs is none more lt =
      let one : 1 + place id cs (key x) ≡ suc (place id cs (key x)) = omega arith in
      let here : group (xs ++ x ∷ []) c ≡ group xs c = group_if false x xs c (name_sym (key x) (id c) ∙ is)
      ∙ append-nil (group xs c) in
      let rest = more (omega arith) in
      subst (λ n. groups (c ∷ cs) (xs ++ x ∷ []) ≡ pushed (groups (c ∷ cs) xs) n (f x)) (sym one) (λ i. here i ∷ rest i)

  pub groups_push : (cs : List C) (xs : List X) (x : X) → has_repeat (λ c d. bytes_eq (id c) (id d)) cs ≡ false
      → place id cs (key x) < length cs
      → groups cs (xs ++ x ∷ []) ≡ pushed (groups cs xs) (place id cs (key x)) (f x)
  groups_push [] xs x apart lt = absurd (omega arith)
  groups_push (c ∷ cs) xs x apart lt =
      let e = or_parts (list_any (λ d. bytes_eq (id c) (id d)) cs) (has_repeat (λ c d. bytes_eq (id c) (id d)) cs) apart in
      push_if (bytes_eq (id c) (key x)) x xs c cs refl e.0 (groups_push cs xs x e.1) lt

  -- the next element is appended to the list of its name; d is any element
  pub groups_more : (cs : List C) (xs : List X) (i : ℕ) (d : X) (now next : List (List Y)) (n : ℕ) (y : Y)
      → has_repeat (λ c d. bytes_eq (id c) (id d)) cs ≡ false
      → i < length xs → All (λ x. place id cs (key x) < length cs) xs → now ≡ groups cs (take i xs)
      → n ≡ place id cs (key (get_or xs i d)) → y ≡ f (get_or xs i d) → next ≡ pushed now n y
      → next ≡ groups cs (take (i + 1) xs)
  groups_more cs xs i d now next n y apart lt known so_far at is step =
      step ∙ ap (λ lists. pushed lists n y) so_far ∙ ap (λ m. pushed (groups cs (take i xs)) m y) at
      ∙ ap (λ z. pushed (groups cs (take i xs)) (place id cs (key (get_or xs i d))) z) is
      ∙ sym (groups_push cs (take i xs) (get_or xs i d) apart (known i d lt))
      ∙ ap (groups cs) (sym (take_more xs i d lt))

  -- the lists before any element
  pub groups_none : (cs : List C) → replicate (length cs) [] ≡ groups cs []
  groups_none [] = refl
  groups_none (c ∷ cs) = ap (λ zs. [] ∷ zs) (groups_none cs)

pub at_map : {V W : Type 0} (f : V → W) (vs : List V) (n : ℕ) (d : V) (e : W) → n < length vs
    → get_or (map f vs) n e ≡ f (get_or vs n d)
at_map f [] n d e lt = absurd (omega arith)
at_map f (v ∷ vs) zero d e lt = refl
at_map f (v ∷ vs) (suc n) d e lt = at_map f vs n d e (omega arith)

-- appending to one list among several, where each list is the `items` of a value
pub pushed_list : {V Y : Type 0} (items : V → List Y) (lists : List V) (n : ℕ) (was now : V) (y : Y) → n < length lists
    → was ≡ get_or lists n was → items now ≡ items was ++ y ∷ []
    → map items (set lists n now) ≡ set (map items lists) n (get_or (map items lists) n [] ++ y ∷ [])
pushed_list items lists n was now y lt at is =
    let there : get_or (map items lists) n [] ≡ items was = at_map items lists n was [] lt ∙ sym (ap items at) in
    map-set items lists n now ∙ ap (λ zs. set (map items lists) n zs) (is ∙ ap (λ zs. zs ++ y ∷ []) (sym there))

pub lengths : {V W Y : Type 0} (f : V → Y) (g : W → Y) (vs : List V) (ws : List W) → map f vs ≡ map g ws → length vs ≡ length ws
lengths f g vs ws e = sym (length-map vs f) ∙ ap length e ∙ length-map ws g

-- the index of a known name
pub number_within : {C X : Type 0} (id : C → List ℕ) (key : X → List ℕ) (cs : List C) (xs : List X) (i n : ℕ) (x : X)
    → All (λ y. place id cs (key y) < length cs) xs → i < length xs → x ≡ get_or xs i x → n ≡ place id cs (key x) → n < length cs
number_within id key cs xs i n x known lt at there =
    let below : place id cs (key (get_or xs i x)) < length cs = known i x lt in
    let same : place id cs (key x) ≡ place id cs (key (get_or xs i x)) = ap (λ y. place id cs (key y)) at in
    omega (arith, below, same, there)

-- the index of a known name is an index of the lists
pub place_within : {C X V Y : Type 0} (id : C → List ℕ) (key : X → List ℕ) (items : V → List Y) (g : C → List Y) (cs : List C)
    (xs : List X) (lists : List V) (i n : ℕ) (x : X)
    → map items lists ≡ map g cs → All (λ y. place id cs (key y) < length cs) xs → i < length xs → x ≡ get_or xs i x
    → n ≡ place id cs (key x) → n < length lists
place_within id key items g cs xs lists i n x is known lt at there =
    let long : length lists ≡ length cs = lengths items g lists cs is in
    let below : n < length cs = number_within id key cs xs i n x known lt at there in
    omega (arith, long, below)

module _ {C X : Type 0} (id : C → List ℕ) (key : X → List ℕ) where
  abbrev copies : List X → C → List X
  copies xs c = filter (λ x. bytes_eq (key x) (id c)) xs

  copies_are : (cs : List C) (xs : List X) → groups id key (λ x. x) cs xs ≡ map (copies xs) cs
  copies_are [] xs = refl
  copies_are (c ∷ cs) xs = let here = map-id (copies xs c) in let rest = copies_are cs xs in λ i. here i ∷ rest i

  -- the next element is appended unchanged to the list of its name
  pub copies_more : (cs : List C) (xs : List X) (i : ℕ) (now next : List (List X)) (n : ℕ) (x y : X)
      → has_repeat (λ c d. bytes_eq (id c) (id d)) cs ≡ false
      → i < length xs → All (λ x. place id cs (key x) < length cs) xs
      → now ≡ map (λ c. filter (λ x. bytes_eq (key x) (id c)) (take i xs)) cs
      → x ≡ get_or xs i x → n ≡ place id cs (key x) → y ≡ x → next ≡ set now n (get_or now n [] ++ y ∷ [])
      → next ≡ map (λ c. filter (λ x. bytes_eq (key x) (id c)) (take (i + 1) xs)) cs
  copies_more cs xs i now next n x y apart lt known so_far at there is step =
      groups_more id key (λ x. x) cs xs i x now next n y apart lt known (so_far ∙ sym (copies_are cs (take i xs)))
      (there ∙ ap (λ z. place id cs (key z)) at) (is ∙ at) step
      ∙ copies_are cs (take (i + 1) xs)

  pub copies_none : (cs : List C) → replicate (length cs) [] ≡ map (λ c. filter (λ x. bytes_eq (key x) (id c)) []) cs
  copies_none cs = groups_none id key (λ x. x) cs
