-- Lanes of 64 bits: the results of the code for small numbers, lane by lane.
use Rattle.std.proofs.Common.{◌≡◌, ℕ, ◌+◌, ◌≤◌, ◌<◌, ◌^◌, List, [], ◌∷◌, length, map, replicate}
use Rattle.std.proofs.Common.{ℤ, ◌+ℤ◌, ◌*ℤ◌, refl, arith, w32, w64, to_z, of_z, FitsSigned, lit<}
use Rattle.std.specs.Prelude.{All, nat_abs}
use Rattle.std.specs.Simd.Lanes.{Each2, zip2}
use Rattle.std.proofs.lemmas.Int.{ints, to_z-of_z, fits_signed_from_abs}
use Rattle.std.proofs.lemmas.List.Elements.{All-nil, All-cons, All-head, All-tail, All-map}
use Rattle.span_money.proofs.WordLemmas.{same_64}
use Rattle.span_tables.specs.declared.limits.TheConstants.{MAX_ARRAY_VALUE, MAX_NET, MAX_SUM, MAX_TERM}
use Rattle.scan_risk.proofs.SumLemmas.{term_size, terms_of, with_terms}

-- a number of size at most n
abbrev pub IsWithin : ℕ → ℤ → Type 0
IsWithin n z = nat_abs z ≤ n

-- a sum that has room for one more term
abbrev pub HasRoom : ℤ → Type 0
HasRoom s = nat_abs s + MAX_TERM ≤ MAX_SUM

-- the bits of numbers in lanes, and the numbers that bits in lanes represent
abbrev pub bits_of : List ℤ → List ℕ
bits_of zs = map (of_z w64) zs

abbrev pub numbers_in : List ℕ → List ℤ
numbers_in bits = map (to_z w64) bits

pub lanes_kept : (zs : List ℤ) (n : ℕ) → n < 2 ^ 63 → All (IsWithin n) zs → numbers_in (bits_of zs) ≡ zs
lanes_kept [] n lt small = refl
lanes_kept (z ∷ zs) n lt small =
    rw (
      same_64 z n (All-head (IsWithin n) z zs small) lt,
      lanes_kept zs n lt (All-tail (IsWithin n) z zs small),
    ) refl

-- array values fit in 32 bits, and keep their values there
value_fits : (v : ℤ) → IsWithin MAX_ARRAY_VALUE v → FitsSigned w32 v
value_fits v small = let below : nat_abs v < 2 ^ 31 = omega arith in fits_signed_from_abs w32 v below

pub values_kept : (vs : List ℤ) → All (IsWithin MAX_ARRAY_VALUE) vs
    → numbers_in (map (λ (b : ℕ). of_z w64 (to_z w32 b)) (map (of_z w32) vs)) ≡ vs
values_kept [] small = refl
values_kept (v ∷ vs) small =
    let one = All-head (IsWithin MAX_ARRAY_VALUE) v vs small in
    let same = same_64 v MAX_ARRAY_VALUE one (lit< tt) in
    let rest = values_kept vs (All-tail (IsWithin MAX_ARRAY_VALUE) v vs small) in
    rw (to_z-of_z w32 v (value_fits v one), same, rest) refl

-- the terms of a net quantity fit in 64 bits
term_fits : (net v : ℤ) → IsWithin MAX_NET net → IsWithin MAX_ARRAY_VALUE v
    → FitsSigned w64 (to_z w64 (of_z w64 net) *ℤ to_z w64 (of_z w64 v))
term_fits net v small one =
    let below : nat_abs (net *ℤ v) < 2 ^ 63 = omega (arith, term_size net v small one) in
    rw (same_64 net MAX_NET small (lit< tt), same_64 v MAX_ARRAY_VALUE one (lit< tt)) (fits_signed_from_abs w64 (net *ℤ v) below)

pub terms_fit : (net : ℤ) (vs : List ℤ) → IsWithin MAX_NET net → All (IsWithin MAX_ARRAY_VALUE) vs
    → Each2 (λ (a b : ℕ). FitsSigned w64 (to_z w64 a *ℤ to_z w64 b)) (bits_of (replicate (length vs) net)) (bits_of vs)
terms_fit net [] small all = tt
terms_fit net (v ∷ vs) small all = (
  term_fits net v small (All-head (IsWithin MAX_ARRAY_VALUE) v vs all),
  terms_fit net vs small (All-tail (IsWithin MAX_ARRAY_VALUE) v vs all),
)

pub terms_are : (net : ℤ) (vs : List ℤ) → IsWithin MAX_NET net → All (IsWithin MAX_ARRAY_VALUE) vs
    → numbers_in (zip2 (λ (a b : ℕ). of_z w64 (to_z w64 a *ℤ to_z w64 b)) (bits_of (replicate (length vs) net)) (bits_of vs))
    ≡ terms_of net vs
terms_are net [] small all = refl
terms_are net (v ∷ vs) small all =
    let one = All-head (IsWithin MAX_ARRAY_VALUE) v vs all in
    rw (
      same_64 net MAX_NET small (lit< tt),
      same_64 v MAX_ARRAY_VALUE one (lit< tt),
      same_64 (net *ℤ v) MAX_TERM (term_size net v small one) (lit< tt),
      terms_are net vs small (All-tail (IsWithin MAX_ARRAY_VALUE) v vs all),
    ) refl

pub terms_small : (net : ℤ) (vs : List ℤ) → IsWithin MAX_NET net → All (IsWithin MAX_ARRAY_VALUE) vs
    → All (IsWithin MAX_TERM) (terms_of net vs)
terms_small net vs small all =
    All-map (IsWithin MAX_TERM) (λ (v : ℤ). net *ℤ v) vs (λ k d lt. term_size net _ small (all k d lt))

-- sums with a term added fit in 64 bits
sum_fits : (s t : ℤ) → HasRoom s → IsWithin MAX_TERM t → FitsSigned w64 (to_z w64 (of_z w64 s) +ℤ to_z w64 (of_z w64 t))
sum_fits s t room small =
    let below : nat_abs (s +ℤ t) < 2 ^ 63 = omega (arith, ints) in
    let least : nat_abs s ≤ MAX_SUM = omega (arith, room) in
    rw (same_64 s MAX_SUM least (lit< tt), same_64 t MAX_TERM small (lit< tt)) (fits_signed_from_abs w64 (s +ℤ t) below)

pub sums_fit : (ss ts : List ℤ) → All HasRoom ss → All (IsWithin MAX_TERM) ts
    → Each2 (λ (a b : ℕ). FitsSigned w64 (to_z w64 a +ℤ to_z w64 b)) (bits_of ss) (bits_of ts)
sums_fit [] ts room small = tt
sums_fit (s ∷ ss) [] room small = tt
sums_fit (s ∷ ss) (t ∷ ts) room small = (
  sum_fits s t (All-head HasRoom s ss room) (All-head (IsWithin MAX_TERM) t ts small),
  sums_fit ss ts (All-tail HasRoom s ss room) (All-tail (IsWithin MAX_TERM) t ts small),
)

pub sums_are : (ss ts : List ℤ) → All HasRoom ss → All (IsWithin MAX_TERM) ts
    → numbers_in (zip2 (λ (a b : ℕ). of_z w64 (to_z w64 a +ℤ to_z w64 b)) (bits_of ss) (bits_of ts)) ≡ with_terms ss ts
sums_are [] ts room small = refl
sums_are (s ∷ ss) [] room small = refl
sums_are (s ∷ ss) (t ∷ ts) room small =
    let one = All-head HasRoom s ss room in
    let other = All-head (IsWithin MAX_TERM) t ts small in
    let least : nat_abs s ≤ MAX_SUM = omega (arith, one) in
    let both : nat_abs (s +ℤ t) ≤ MAX_SUM = omega (arith, ints) in
    rw (
      same_64 s MAX_SUM least (lit< tt),
      same_64 t MAX_TERM other (lit< tt),
      same_64 (s +ℤ t) MAX_SUM both (lit< tt),
      sums_are ss ts (All-tail HasRoom s ss room) (All-tail (IsWithin MAX_TERM) t ts small),
    ) refl

-- adding a term to each sum makes it larger by at most the size of a term
pub sums_grow : (n : ℕ) (ss ts : List ℤ) → All (IsWithin n) ss → All (IsWithin MAX_TERM) ts
    → All (IsWithin (n + MAX_TERM)) (with_terms ss ts)
sums_grow n [] ts below small = All-nil (IsWithin (n + MAX_TERM))
sums_grow n (s ∷ ss) [] below small = All-nil (IsWithin (n + MAX_TERM))
sums_grow n (s ∷ ss) (t ∷ ts) below small =
    let one = All-head (IsWithin n) s ss below in
    let other = All-head (IsWithin MAX_TERM) t ts small in
    let rest = sums_grow n ss ts (All-tail (IsWithin n) s ss below) (All-tail (IsWithin MAX_TERM) t ts small) in
    All-cons (IsWithin (n + MAX_TERM)) (s +ℤ t) (with_terms ss ts) (omega (arith, ints)) rest
