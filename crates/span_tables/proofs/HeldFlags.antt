-- The commodities that an account holds, found in one pass over its holdings.
use Rattle.std.proofs.Common.{◌≡◌, ◌≢◌, ℕ, ◌+◌, ◌<◌, Bool, true, false, eqb, List, [], ◌∷◌, ◌++◌, length, length-append}
use Rattle.std.proofs.Common.{set, get_or, get_or-set_other, get_or-set_same, take, refl, sym, ap, ◌∙◌, arith}
use Rattle.std.specs.Prelude.{nat_lt, not}
use Rattle.std.specs.List.{list_all}
use Rattle.std.proofs.lemmas.Bool.Decides.{nat_tests}
use Rattle.std.proofs.lemmas.List.{append-nil}
use Rattle.span_tables.specs.Accepted.{IsWithinLimits}
use Rattle.span_tables.specs.Tables.{commodity_id, AcceptedTables}
use Rattle.span_tables.specs.Holdings.{ArePortfolio}
use Rattle.span_tables.specs.Net.{held_of}
use Rattle.span_tables.specs.declared.portfolios.Holding.{Holding}
use Rattle.span_tables.specs.near.Gathered.{holdings_in, number_held}
use Rattle.span_tables.proofs.HeldLemmas.{are_holdings, held_in, length_held}
use Rattle.span_tables.proofs.RunLemmas.{one_more}

-- the list is not empty
abbrev pub has_some : {X : Type 0} → List X → Bool
has_some xs = not (eqb (length xs) 0)

not_none : (n : ℕ) → 0 < n → not (eqb n 0) ≡ true
not_none n some = grind (arith, nat_tests)

has_some-push : {X : Type 0} (xs : List X) (x : X) → has_some (xs ++ x ∷ []) ≡ true
has_some-push xs x = let long = length-append xs (x ∷ []) in not_none (length (xs ++ x ∷ [])) (omega (arith, long))

-- the flag of each commodity is set if and only if there is a holding of it
abbrev pub AreFlags : AcceptedTables → List Holding → List Bool → Type 0
AreFlags t hs flags =
    (c : ℕ) → c < length t.commodities → get_or flags c false ≡ has_some (holdings_in t.contracts hs (commodity_id t c))

-- one more holding, of commodity number n
module _ (t : AcceptedTables) (limits : IsWithinLimits t) (gs : List Holding) (i n : ℕ) (d : Holding) (lt : i < length gs)
    (known : (get_or gs i d).contract < length t.contracts)
    (told : n ≡ number_held t (get_or gs i d)) (flags : List Bool) (inside : n < length flags) (now : AreFlags t (take i gs) flags) where
  flag_after : (c : ℕ) (b : Bool) → c < length t.commodities → eqb n c ≡ b
      → get_or (set flags n true) c false ≡ has_some (holdings_in t.contracts (take (i + 1) gs) (commodity_id t c))
  flag_after c true below is =
      let here : n ≡ c = grind (arith, nat_tests) in
      ap (λ m. get_or (set flags n true) m false) (sym here) ∙ get_or-set_same flags n true false inside
      ∙ sym (has_some-push (holdings_in t.contracts (take i gs) (commodity_id t c)) (get_or gs i d))
      ∙ ap has_some (sym (one_more t limits gs i n d lt known told c true below is))
  flag_after c false below is =
      let apart : c ≢ n = grind (arith, nat_tests) in
      get_or-set_other flags n c true false apart ∙ now c below
      ∙ ap has_some (sym (one_more t limits gs i n d lt known told c false below is
      ∙ append-nil (holdings_in t.contracts (take i gs) (commodity_id t c))))

  pub flags_after : AreFlags t (take (i + 1) gs) (set flags n true)
  flags_after c below = flag_after c (eqb n c) below refl

-- the flags after all holdings
pub flags_tell : (t : AcceptedTables) (hs : List Holding) (flags : List Bool) → IsWithinLimits t → ArePortfolio hs
    → list_all (λ h. nat_lt h.contract (length t.contracts)) hs ≡ true → AreFlags t hs flags
    → (c : ℕ) → c < length t.commodities
    → get_or flags c false ≡ has_some (held_of t.contracts hs (commodity_id t c))
flags_tell t hs flags limits portfolio known are c below =
    let here = are_holdings t hs (commodity_id t c) limits portfolio known in
    let long = length_held t.contracts (holdings_in t.contracts hs (commodity_id t c)) here.known in
    are c below ∙ ap (λ m. not (eqb m 0)) (sym long ∙ ap length (held_in t.contracts hs (commodity_id t c)))
