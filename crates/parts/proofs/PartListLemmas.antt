-- Lists of parts that pairwise have no account in common, and the points at which a sorted list can be cut.
use Rattle.std.proofs.Common.{◌≡◌, ◌∙◌, ℕ, suc, ◌<◌, Bool, true, false, ◌||◌, take, drop}
use Rattle.std.proofs.Common.{List, [], ◌∷◌, ◌++◌, map, Ok, refl, sym, ap, subst, arith}
use Rattle.std.specs.Prelude.{AllPairs, IsSortedByKey, bytes_eq, flat_map, length}
use Rattle.std.specs.Cmp.Lexicographic.{slice_cmp}
use Rattle.std.specs.List.{AllByRecursion, concat}
use Rattle.std.specs.Ordering.{nat_cmp}
use Rattle.std.proofs.lemmas.Bool.{or_from, or_parts, or_right, true≢false}
use Rattle.std.proofs.lemmas.List.{append-nil, map-append}
use Rattle.std.proofs.lemmas.List.Elements.{All-from_recursion, recursion_from_All}
use Rattle.std.proofs.lemmas.List.Folds.{list_any-append}
use Rattle.std.proofs.lemmas.List.Kept.{AllPairs-cons}
use Rattle.span_csv.specs.Records.{Fields, records_of, text_at}
use Rattle.span_tables.specs.Names.{is_among}
use Rattle.span_tables.specs.Net.{portfolios_of}
use Rattle.span_tables.specs.Tables.{AcceptedTables}
use Rattle.span_tables.specs.declared.records.PositionRecord.{PositionRecord}
use Rattle.span_tables.proofs.NameLemmas.{same_name}
use Rattle.binding.proofs.AcceptedLaws.{IsFit}
use Rattle.parts.specs.Parts.{AreApart, AreFilesApart, ShareNoName, accounts_in, records_joined}
use Rattle.statement_text.specs.Statement.{statement_bound, statement_text}
use Rattle.parts.proofs.PartLemmas.{fit_of_text, statements_joined, statements_parted, text_of_fit}
use Rattle.parts.proofs.SortedLemmas.{Above, Rises, apart_by_cut, less, not_below_itself, rises_sorted}

-- ---- each element and each later one

module _ {X : Type 0} (R : X → X → Type 0) (x : X) (xs : List X) (pairs : AllPairs R (x ∷ xs)) where
  pub pairs_first : AllByRecursion (R x) xs
  pairs_first = recursion_from_All (R x) xs (λ k d lt. pairs 0 (suc k) d (omega arith) (omega arith))

  pub pairs_rest : AllPairs R xs
  pairs_rest = λ i j d lt within. pairs (suc i) (suc j) d (omega arith) (omega arith)

-- ---- statements of lists of parts

-- a part that shares no account with any of the parts shares none with all of them joined
apart_joined : (part : List PositionRecord) (parts : List (List PositionRecord)) → AllByRecursion (AreApart part) parts
    → AreApart part (records_joined parts)
apart_joined part [] apart = λ name among. refl
apart_joined part (one ∷ parts) apart = λ name among.
    ap (λ names. is_among names name) (map-append (λ (p : PositionRecord). p.account) one (records_joined parts))
    ∙ list_any-append (bytes_eq name) (map (λ (p : PositionRecord). p.account) one)
    (map (λ (p : PositionRecord). p.account) (records_joined parts))
    ∙ or_from _ _ (apart.0 name among) (apart_joined part parts apart.1 name among)

module _ (t : AcceptedTables) where
  no_records_fit : IsFit t.contracts []
  no_records_fit = record { known = refl; within = refl; few = refl }

  nothing_said : statement_text t (portfolios_of t.contracts []) ≡ []
  unfolding statement_text portfolios_of
  nothing_said = refl

  -- the statements of parts, joined, are the statement of their records joined
  pub list_joined : (parts : List (List PositionRecord)) (texts : List (List ℕ)) → AllPairs AreApart parts
      → map (statement_bound t) parts ≡ map Ok texts → statement_bound t (records_joined parts) ≡ Ok (concat texts)
  list_joined [] [] apart each = text_of_fit t [] no_records_fit ∙ ap Ok nothing_said
  list_joined [] (text ∷ texts) apart each = absurd cc
  list_joined (part ∷ parts) [] apart each = absurd cc
  list_joined (part ∷ parts) (text ∷ texts) apart each =
      let here : statement_bound t part ≡ Ok text = cc in
      let behind : map (statement_bound t) parts ≡ map Ok texts = cc in
      statements_joined t part (records_joined parts) text (concat texts)
      (apart_joined part parts (pairs_first AreApart part parts apart)) here
      (list_joined parts texts (pairs_rest AreApart part parts apart) behind)

  -- the joined records have a statement only if each part has one
  pub list_parted : (parts : List (List PositionRecord)) (text : List ℕ) → AllPairs AreApart parts
      → statement_bound t (records_joined parts) ≡ Ok text
      → (texts : List (List ℕ)) × (map (statement_bound t) parts ≡ map Ok texts) × (text ≡ concat texts)
  list_parted [] text apart is = ([], refl, (fit_of_text t [] text is).1 ∙ nothing_said)
  list_parted (part ∷ parts) text apart is =
      let cut = statements_parted t part (records_joined parts) text
      (apart_joined part parts (pairs_first AreApart part parts apart)) is in
      let rest = list_parted parts cut.1 (pairs_rest AreApart part parts apart) cut.3 in (
        cut.0 ∷ rest.0,
        (λ i. cut.2 i ∷ rest.1 i),
        cut.4 ∙ ap (λ z. cut.0 ++ z) rest.2,
      )

-- ---- cuts

-- mapping joined lists is joining the mapped lists
pub map_joined : {X A B : Type 0} (f : A → B) (g : X → List A) (xs : List X) → map f (flat_map g xs) ≡ flat_map (λ x. map f (g x)) xs
map_joined f g [] = refl
map_joined f g (x ∷ xs) = map-append f (g x) (flat_map g xs) ∙ ap (λ more. map f (g x) ++ more) (map_joined f g xs)

module _ {X : Type 0} (names : X → List (List ℕ)) where
  abbrev Apart : X → X → Type 0
  Apart x y = ShareNoName (names x) (names y)

  -- an element that shares no name with all others joined shares none with each of them
  apart_each : (x : X) (xs : List X) → ShareNoName (names x) (flat_map names xs) → AllByRecursion (Apart x) xs
  apart_each x [] apart = tt
  apart_each x (y ∷ xs) apart =
      let both = λ (name : List ℕ) (among : is_among (names x) name ≡ true).
      or_parts (is_among (names y) name) (is_among (flat_map names xs) name)
      (sym (list_any-append (bytes_eq name) (names y) (flat_map names xs)) ∙ apart name among) in
      ((λ name among. (both name among).0), apart_each x xs (λ name among. (both name among).1))

  -- if no cut has a name on both sides, no two elements share a name
  pub apart_by_cuts : (xs : List X)
      → ((n : ℕ) → n < length xs → ShareNoName (flat_map names (take n xs)) (flat_map names (drop n xs))) → AllPairs Apart xs
  apart_by_cuts [] cuts = λ i j d lt within. absurd (omega arith)
  apart_by_cuts (x ∷ xs) cuts =
      AllPairs-cons Apart x xs (All-from_recursion (Apart x) xs (first xs (cuts 1)))
      (apart_by_cuts xs (λ n lt name among. cuts (suc n) (omega arith) name
      (list_any-append (bytes_eq name) (names x) (flat_map names (take n xs)) ∙ or_right _ _ among)))
    where
      first : (rest : List X)
          → (1 < length (x ∷ rest) → ShareNoName (flat_map names (take 1 (x ∷ rest))) (flat_map names (drop 1 (x ∷ rest))))
          → AllByRecursion (Apart x) rest
      first [] cut = tt
      first (y ∷ rest) cut =
          apart_each x (y ∷ rest)
          (subst (λ front. ShareNoName front (flat_map names (y ∷ rest))) (append-nil (names x)) (cut (omega arith)))

  -- the same if the names are keys of further elements
  pub apart_by_joined : {A : Type 0} (key : A → List ℕ) (g : X → List A) → ((x : X) → names x ≡ map key (g x)) → (xs : List X)
      → ((n : ℕ) → n < length xs → ShareNoName (map key (flat_map g (take n xs))) (map key (flat_map g (drop n xs))))
      → AllPairs Apart xs
  apart_by_joined key g are xs cuts =
      apart_by_cuts xs (λ n lt name among.
      sym (ap (λ ns. is_among ns name) (same (drop n xs)))
      ∙ cuts n lt name (ap (λ ns. is_among ns name) (same (take n xs)) ∙ among))
    where
      same_names : (λ x. map key (g x)) ≡ names
      same_names = λ i x. sym (are x) i

      same : (ys : List X) → map key (flat_map g ys) ≡ flat_map names ys
      same ys = map_joined key g ys ∙ ap (λ f. flat_map f ys) same_names

-- if no cut between parts has an account on both sides, no account is in two of them
pub parts_by_cuts : (parts : List (List PositionRecord))
    → ((n : ℕ) → n < length parts → AreApart (records_joined (take n parts)) (records_joined (drop n parts)))
    → AllPairs AreApart parts
parts_by_cuts =
    apart_by_joined (map (λ (p : PositionRecord). p.account)) (λ (p : PositionRecord). p.account)
    (λ (part : List PositionRecord). part) (λ part. refl)

-- the same for files
pub files_by_cuts : (files : List (List ℕ))
    → ((n : ℕ) → n < length files
    → ShareNoName (accounts_in (flat_map records_of (take n files))) (accounts_in (flat_map records_of (drop n files))))
    → AllPairs AreFilesApart files
files_by_cuts =
    apart_by_joined (λ (file : List ℕ). accounts_in (records_of file)) (λ (r : Fields). text_at r 0) records_of (λ file. refl)

-- ---- cuts of a sorted list

module _ {A : Type 0} (key : A → List ℕ) where
  above_behind : (x : A) (xs ys : List A) → Above key x (xs ++ ys) → Above key x ys
  above_behind x [] ys above = above
  above_behind x (y ∷ xs) ys above = above_behind x xs ys above.1

  -- after a cut of a rising list, the elements rise and none is below an element before the cut
  rises_parts : (xs ys : List A) → Rises key (xs ++ ys) → AllByRecursion (λ x. Above key x ys) xs × Rises key ys
  rises_parts [] ys up = (tt, up)
  rises_parts (x ∷ xs) ys up =
      let rest = rises_parts xs ys up.1 in ((above_behind x xs ys up.0, rest.0), rest.1)

  module _ (p q : A) (up : less key q p ≡ false) (apart : bytes_eq (key p) (key q) ≡ false) where
    none_behind : (u : A) (vs : List A) → less key p u ≡ false → Above key q vs → is_among (map key vs) (key u) ≡ false
    none_behind u [] low above = refl
    none_behind u (v ∷ vs) low above =
        or_from _ _ (apart_by_cut key p q u v low up above.0 apart) (none_behind u vs low above.1)

    parts_of_cut : (us vs : List A) → AllByRecursion (λ u. less key p u ≡ false) us → Above key q vs
        → ShareNoName (map key us) (map key vs)
    parts_of_cut [] vs low above = λ name among. absurd (true≢false (sym among))
    parts_of_cut (u ∷ us) vs low above = λ name among.
        by name (bytes_eq name (key u)) refl among (parts_of_cut us vs low.1 above name)
      where
        by : (name : List ℕ) (b : Bool) → bytes_eq name (key u) ≡ b → (b || is_among (map key us) name) ≡ true
            → (is_among (map key us) name ≡ true → is_among (map key vs) name ≡ false)
            → is_among (map key vs) name ≡ false
        by name true e among rest = ap (is_among (map key vs)) (same_name name (key u) e) ∙ none_behind u vs low.0 above
        by name false e among rest = rest among

  -- the elements up to the cut are not above the element at the cut
  in_front : (ps : List A) (p : A) (more : List A) → AllByRecursion (λ x. Above key x (p ∷ more)) ps
      → AllByRecursion (λ u. less key p u ≡ false) (ps ++ p ∷ [])
  in_front [] p more above = (not_below_itself key p, tt)
  in_front (x ∷ ps) p more above = (above.0.0, in_front ps p more above.1)

  -- a list sorted by a text and cut at a change of the text gives two lists that share no text
  pub sorted_cut : (ps qs : List A) (p q : A) → IsSortedByKey key (slice_cmp nat_cmp) (ps ++ p ∷ q ∷ qs)
      → bytes_eq (key p) (key q) ≡ false → ShareNoName (map key (ps ++ p ∷ [])) (map key (q ∷ qs))
  sorted_cut ps qs p q sorted apart =
      let up = rises_parts ps (p ∷ q ∷ qs) (rises_sorted key (ps ++ p ∷ q ∷ qs) sorted) in
      parts_of_cut p q up.1.0.0 apart (ps ++ p ∷ []) (q ∷ qs) (in_front ps p (q ∷ qs) up.0)
      (not_below_itself key q, up.1.1.0)
