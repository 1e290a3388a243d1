-- A line that is written in parts is the line of its fields.
use Rattle.std.proofs.Common.{◌≡◌, ℕ, List, [], ◌∷◌, ◌++◌, ◌+◌, flat_map, refl, sym, ap, ◌∙◌, arith}
use Rattle.std.specs.List.{join_with_byte, range_with_len}
use Rattle.std.proofs.lemmas.List.{append_assoc, append-nil, flat_map_more, map-id}
use Rattle.std.proofs.lemmas.List.FromFn.{map-range_with_len_more}
use Rattle.std.proofs.lemmas.Grind.{flat_map-append}
use Rattle.span_money.specs.LineFields.{Line, field, line}

-- a word, ids, fields and a line feed, written one after another
pub in_parts : (old word : List ℕ) (ids fields : List (List ℕ))
    → ((old ++ word ++ flat_map field ids) ++ flat_map field fields) ++ 10 ∷ []
    ≡ old ++ line (record { word = word; fields = ids ++ fields })
in_parts old word ids fields =
    grouped (flat_map field ids) (flat_map field fields) (10 ∷ [])
    ∙ ap (λ t. old ++ (word ++ (t ++ 10 ∷ []))) (sym (flat_map-append field ids fields)) where
      grouped : (i f e : List ℕ) → ((old ++ word ++ i) ++ f) ++ e ≡ old ++ (word ++ ((i ++ f) ++ e))
      grouped i f e = simp append_assoc refl

-- a field, more fields and a line feed, written one after another
pub rest_in_parts : (old id : List ℕ) (fields : List (List ℕ))
    → ((old ++ field id) ++ flat_map field fields) ++ 10 ∷ [] ≡ old ++ (flat_map field (id ∷ fields) ++ 10 ∷ [])
rest_in_parts old id fields = grouped (field id) (flat_map field fields) (10 ∷ []) where
  grouped : (i f e : List ℕ) → ((old ++ i) ++ f) ++ e ≡ old ++ ((i ++ f) ++ e)
  grouped i f e = simp append_assoc refl

-- fields joined by commas are the first field, followed by each other field with a comma in front of it
pub joined : (first : List ℕ) (rest : List (List ℕ)) → join_with_byte 44 (first ∷ rest) ≡ first ++ flat_map field rest
joined first [] = sym (append-nil first)
joined first (x ∷ rest) = ap (λ t. first ++ (44 ∷ t)) (joined x rest)

pub line_joined : (l : Line) → line l ≡ join_with_byte 44 (l.word ∷ l.fields) ++ 10 ∷ []
line_joined l =
    sym (append_assoc l.word (flat_map field l.fields) (10 ∷ [])) ∙ ap (λ t. t ++ 10 ∷ []) (sym (joined l.word l.fields))

-- the bytes written for the numbers below n, followed by those for n
pub numbered_more : (f : ℕ → List ℕ) (old : List ℕ) (n : ℕ)
    → (old ++ flat_map f (range_with_len 0 n)) ++ f n ≡ old ++ flat_map f (range_with_len 0 (n + 1))
numbered_more f old n =
    flat_map_more f old (range_with_len 0 n) n ∙ ap (λ ns. old ++ flat_map f ns) (sym one_more) where
      one_more : range_with_len 0 (n + 1) ≡ range_with_len 0 n ++ n ∷ []
      one_more =
          sym (map-id (range_with_len 0 (n + 1))) ∙ map-range_with_len_more (λ k. k) 0 n n (omega arith)
          ∙ ap (λ ns. ns ++ n ∷ []) (map-id (range_with_len 0 n))

-- the text of the lines of a list of items is the concatenation of the texts of each item's lines
pub texts_of : {A : Type 0} (f : A → List Line) (xs : List A) → flat_map line (flat_map f xs) ≡ flat_map (λ x. flat_map line (f x)) xs
texts_of f [] = refl
texts_of f (x ∷ xs) = flat_map-append line (f x) (flat_map f xs) ∙ ap (λ t. flat_map line (f x) ++ t) (texts_of f xs)
