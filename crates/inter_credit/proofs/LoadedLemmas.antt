-- The marks of loaded commodities.
use Rattle.std.proofs.Common.{◌≡◌, ◌≢◌, ◌+◌, ◌*◌, ◌%◌, ◌^◌, ◌<◌, ◌≤◌, ◌⊎◌, inl, inr, ℕ, ℤ, zero, suc, List, [], ◌∷◌}
use Rattle.std.proofs.Common.{length, replicate, set, bit_or, pos, negsuc, nat_abs, refl, sym, ap, subst, ◌∙◌, arith}
use Rattle.std.specs.Int.{bit_at}
use Rattle.std.proofs.lemmas.Bool.{cases_eq, cases_lt}
use Rattle.std.proofs.lemmas.Nat.{one_shl}
use Rattle.std.proofs.lemmas.Nat.Bits.{bit_at-zero}
use Rattle.span_money.specs.Numbers.{positive_part, negative_part}
use Rattle.span_tables.specs.Accepted.{IsInter}
use Rattle.span_tables.specs.Slots.{IsMarked}
use Rattle.span_tables.specs.declared.records.Inter.{Inter}
use Rattle.span_money.specs.declared.bits.TheConstants.{BITS}
use Rattle.span_tables.proofs.SlotLemmas.{marked_kept, marked_new}
use Rattle.inter_credit.specs.Credits.{inter_both_ways, state_at, unspread_state}
use Rattle.inter_credit.specs.States.{UsesState}
use Rattle.span_money.specs.near.Bits.{TakesFirst}
use Rattle.inter_credit.specs.near.Open.{AreLoaded}
use Rattle.inter_credit.specs.declared.commodity_state.CommodityState.{CommodityState}
use Rattle.inter_credit.proofs.RestLaws.{both_ways_use}

-- a commodity that is not loaded
abbrev blank : CommodityState
blank = unspread_state (pos 0) 0

-- past the last commodity
blank_past : (states : List CommodityState) (k : ℕ) → length states ≤ k → state_at states k ≡ unspread_state (pos 0) 0
blank_past [] k le = refl
blank_past (state ∷ states) zero le = absurd (omega arith)
blank_past (state ∷ states) (suc k) le = blank_past states k (omega arith)

pub set_here : (states : List CommodityState) (i : ℕ) (state : CommodityState) → i < length states
    → state_at (set states i state) i ≡ state
set_here [] i state lt = absurd (omega arith)
set_here (x ∷ xs) zero state lt = refl
set_here (x ∷ xs) (suc i) state lt = set_here xs i state (omega arith)

pub set_other : (states : List CommodityState) (i k : ℕ) (state : CommodityState) → k ≢ i
    → state_at (set states i state) k ≡ state_at states k
set_other [] i k state ne = refl
set_other (x ∷ xs) zero zero state ne = absurd (ne refl)
set_other (x ∷ xs) zero (suc k) state ne = refl
set_other (x ∷ xs) (suc i) zero state ne = refl
set_other (x ∷ xs) (suc i) (suc k) state ne = set_other xs i k state (λ e. ne (ap suc e))

-- one more commodity is loaded
pub load_marked : (loaded i : ℕ) (states : List CommodityState) (state : CommodityState) → AreLoaded loaded states
    → AreLoaded (bit_or loaded (1 * 2 ^ (i % BITS) % 2 ^ 64)) (set states i state)
load_marked loaded i states state are k = by (cases_eq k i) (are k)
  where
    word : bit_or loaded (1 * 2 ^ (i % BITS) % 2 ^ 64) ≡ bit_or loaded (2 ^ (i % BITS))
    word = ap (bit_or loaded) (one_shl (i % BITS) 64 (omega arith))

    marked : (j : ℕ) → IsMarked (bit_or loaded (2 ^ (i % BITS))) j → IsMarked (bit_or loaded (1 * 2 ^ (i % BITS) % 2 ^ 64)) j
    marked j m = ap (λ n. bit_at n (j % BITS)) word ∙ m

    by : (k ≡ i) ⊎ (k ≢ i) → IsMarked loaded k ⊎ (state_at states k ≡ blank)
        → IsMarked (bit_or loaded (1 * 2 ^ (i % BITS) % 2 ^ 64)) k ⊎ (state_at (set states i state) k ≡ blank)
    by (inl same) before = inl (ap (λ j. bit_at (bit_or loaded (1 * 2 ^ (i % BITS) % 2 ^ 64)) (j % BITS)) same
        ∙ marked i (marked_new loaded i))
    by (inr other) (inl m) = inl (marked k (marked_kept loaded i k m))
    by (inr other) (inr is) = inr (set_other states i k state other ∙ is)

no_rest : (z : ℤ) → positive_part z ≤ 0 → negative_part z ≤ 0 → z ≡ pos 0
no_rest (pos zero) long short = refl
no_rest (pos (suc n)) long short = absurd (omega (arith, long))
no_rest (negsuc n) long short = absurd (omega (arith, short))

no_weight : (w bp v : ℕ) (z z' : ℤ) → z' ≡ pos 0 → z ≡ pos 0 → v ≡ 0 → w + bp * nat_abs z' ≡ v + bp * nat_abs z → w ≡ 0
no_weight w bp v z z' after before none e =
    let a : bp * nat_abs z' ≡ bp * 0 = ap (λ y. bp * nat_abs y) after in
    let b : bp * nat_abs z ≡ bp * 0 = ap (λ y. bp * nat_abs y) before in
    omega (arith, a, b, none, e)

-- a spread uses nothing of a commodity that is not loaded
blank_stays : (bp : ℕ) (before after : CommodityState) → UsesState bp before after → before ≡ blank → after ≡ blank
blank_stays bp before after uses is =
    let none : before.rest ≡ pos 0 = ap (λ (x : CommodityState). x.rest) is in
    let net : after.net ≡ pos 0 = uses.net ∙ ap (λ (x : CommodityState). x.net) is in
    let price2 : after.price2 ≡ 0 = uses.price2 ∙ ap (λ (x : CommodityState). x.price2) is in
    let long : positive_part before.rest ≡ 0 = ap positive_part none in
    let short : negative_part before.rest ≡ 0 = ap negative_part none in
    let rest : after.rest ≡ pos 0 =
    no_rest after.rest (omega (arith, uses.rest.long, long)) (omega (arith, uses.rest.short, short)) in
    let weight : after.weight ≡ 0 =
    no_weight after.weight bp before.weight before.rest after.rest rest none (ap (λ (x : CommodityState). x.weight) is) uses.weight in
    λ i. record { net = net i; rest = rest i; price2 = price2 i; weight = weight i }

-- a spread needs no more marks
pub spread_loaded : (loaded : ℕ) (states after : List CommodityState) (spread : Inter) → IsInter (length states) spread
    → after ≡ inter_both_ways states spread → AreLoaded loaded states → AreLoaded loaded after
spread_loaded loaded states after spread inter is are =
    subst (AreLoaded loaded) (sym is) (λ k. by k (are k))
  where
    by : (k : ℕ) → IsMarked loaded k ⊎ (state_at states k ≡ blank)
        → IsMarked loaded k ⊎ (state_at (inter_both_ways states spread) k ≡ blank)
    by k (inl m) = inl m
    by k (inr none) = inr (blank_stays spread.basis_points _ _ (both_ways_use states spread inter k) none)

-- ---- commodities are set back

not_marked : (n k : ℕ) {P : Type 0} → n ≡ 0 → IsMarked n k → P
not_marked n k none m =
    absurd (let e : bit_at n (k % BITS) ≡ 0 = ap (λ w. bit_at w (k % BITS)) none ∙ bit_at-zero (k % BITS) in omega (arith, e, m))

-- the commodities of the lowest marked slot are set back
pub slot_back : (before slot after : ℕ) (states next : List CommodityState) → TakesFirst before slot after
    → ((k : ℕ) → k % BITS ≡ slot → state_at next k ≡ unspread_state (pos 0) 0)
    → ((k : ℕ) → k % BITS ≢ slot → state_at next k ≡ state_at states k)
    → AreLoaded before states → AreLoaded after next
slot_back before slot after states next takes back others are k = by (cases_eq (k % BITS) slot) (are k)
  where
    by : (k % BITS ≡ slot) ⊎ (k % BITS ≢ slot) → IsMarked before k ⊎ (state_at states k ≡ blank)
        → IsMarked after k ⊎ (state_at next k ≡ blank)
    by (inl same) before = inr (back k same)
    by (inr other) (inl m) = inl (takes.taken.kept (k % BITS) other ∙ m)
    by (inr other) (inr none) = inr (others k other ∙ none)

all_blank : (states : List CommodityState) → ((k : ℕ) → state_at states k ≡ blank) → states ≡ replicate (length states) blank
all_blank [] each = refl
all_blank (x ∷ xs) each =
    let here : x ≡ blank = each 0 in
    let rest = all_blank xs (λ k. each (suc k)) in
    λ i. here i ∷ rest i

-- no mark is left
pub all_back : (loaded : ℕ) (states : List CommodityState) → loaded ≡ 0 → AreLoaded loaded states
    → states ≡ replicate (length states) (unspread_state (pos 0) 0)
all_back loaded states none are = all_blank states (λ k. by k (are k))
  where
    by : (k : ℕ) → IsMarked loaded k ⊎ (state_at states k ≡ blank) → state_at states k ≡ blank
    by k (inl m) = not_marked loaded k none m
    by k (inr is) = is

-- ---- the commodities of a slot

-- one more commodity of the slot is set back
pub slot_set : (states after : List CommodityState) (commodity slot : ℕ) → commodity % BITS ≡ slot → commodity < length states
    → after ≡ set states commodity (unspread_state (pos 0) 0)
    → ((c : ℕ) → c % BITS ≡ slot → c < commodity → state_at states c ≡ unspread_state (pos 0) 0)
    → ((c : ℕ) → c % BITS ≡ slot → c < commodity + BITS → state_at after c ≡ unspread_state (pos 0) 0)
    × ((c : ℕ) → c % BITS ≢ slot → state_at after c ≡ state_at states c)
slot_set states after commodity slot of lt is before = (
  λ c same less. ap (λ (ss : List CommodityState). state_at ss c) is ∙ by c same less (cases_eq c commodity),
  λ c other. ap (λ (ss : List CommodityState). state_at ss c) is
      ∙ set_other states commodity c blank (λ e. other (ap (λ k. k % BITS) e ∙ of)),
)
  where
    by : (c : ℕ) → c % BITS ≡ slot → c < commodity + BITS → (c ≡ commodity) ⊎ (c ≢ commodity)
        → state_at (set states commodity blank) c ≡ blank
    by c same less (inl here) = ap (state_at (set states commodity blank)) here ∙ set_here states commodity blank lt
    by c same less (inr other) =
        set_other states commodity c blank other ∙ before c same (omega (arith, of, same, less, other))

-- all commodities of the slot
pub slot_set_whole : (states : List CommodityState) (commodity slot : ℕ) → length states ≤ commodity
    → ((c : ℕ) → c % BITS ≡ slot → c < commodity → state_at states c ≡ unspread_state (pos 0) 0)
    → (c : ℕ) → c % BITS ≡ slot → state_at states c ≡ unspread_state (pos 0) 0
slot_set_whole states commodity slot end before c same = by (cases_lt c commodity)
  where
    by : (c < commodity) ⊎ (commodity ≤ c) → state_at states c ≡ blank
    by (inl less) = before c same less
    by (inr le) = blank_past states c (omega (arith, end, le))
