-- The portfolios of bound positions have distinct accounts.
use Rattle.std.proofs.Common.{◌≡◌, ◌∙◌, ℕ, Bool, true, false, not, cond, List, [], ◌∷◌, map, filter}
use Rattle.std.proofs.Common.{Option, Some, None, Ok, bytes_eq, refl, sym, ap, subst}
use Rattle.std.specs.List.{AllByRecursion, IsDistinct}
use Rattle.std.proofs.lemmas.Map.Keys.{IsDistinct-cons, IsDistinct-head, IsDistinct-tail}
use Rattle.binding.proofs.AccountLaws.{bytes_eq-flip}
use Rattle.binding.specs.Binding.{bind_fault, bindings_of}
use Rattle.binding.specs.declared.faults.BindFault.{BindFault}
use Rattle.span_tables.specs.Faults.{ok_unless}
use Rattle.span_tables.specs.Names.{distinct}
use Rattle.span_tables.specs.Net.{AccountHoldings, accounts_of, holdings_of, portfolios_of}
use Rattle.span_tables.specs.declared.records.Contract.{Contract}
use Rattle.span_tables.specs.declared.records.PositionRecord.{PositionRecord}
use Rattle.acceptance.specs.near.Accepting.{AreOnce}

-- the name differs from all others
unfoldable pub IsNew : List ℕ → List (List ℕ) → Type 0
IsNew name others = AllByRecursion (λ other. bytes_eq name other ≡ false) others

new_if : (b : Bool) (name x : List ℕ) (xs : List (List ℕ)) → (b ≡ true → bytes_eq name x ≡ false) → IsNew name xs
    → IsNew name (cond b (x ∷ xs) xs)
unfolding IsNew
new_if true name x xs own rest = (own refl, rest)
new_if false name x xs own rest = rest

new_of_some : (test : List ℕ → Bool) (name : List ℕ) (xs : List (List ℕ)) → IsNew name xs → IsNew name (filter test xs)
unfolding IsNew
new_of_some test name [] new = tt
new_of_some test name (x ∷ xs) new =
    new_if (test x) name x (filter test xs) (λ e. new.0) (new_of_some test name xs new.1)

none_left : (name : List ℕ) (xs : List (List ℕ)) → IsNew name (filter (λ other. not (bytes_eq other name)) xs)
unfolding IsNew
none_left name [] = tt
none_left name (x ∷ xs) =
    new_if (not (bytes_eq x name)) name x _ (λ e. bytes_eq-flip name x ∙ false_if (bytes_eq x name) e) (none_left name xs) where
      false_if : (b : Bool) → not b ≡ true → b ≡ false
      false_if true e = sym e
      false_if false e = refl

apart_if : (b : Bool) (x : List ℕ) (xs : List (List ℕ)) → IsNew x xs → IsDistinct bytes_eq xs
    → IsDistinct bytes_eq (cond b (x ∷ xs) xs)
unfolding IsNew
apart_if true x xs new apart = IsDistinct-cons bytes_eq x xs new apart
apart_if false x xs new apart = apart

apart_of_some : (test : List ℕ → Bool) (xs : List (List ℕ)) → IsDistinct bytes_eq xs → IsDistinct bytes_eq (filter test xs)
unfolding IsNew
apart_of_some test [] apart = apart
apart_of_some test (x ∷ xs) apart =
    apart_if (test x) x (filter test xs) (new_of_some test x xs (IsDistinct-head bytes_eq x xs apart))
    (apart_of_some test xs (IsDistinct-tail bytes_eq x xs apart))

distinct_apart : (names : List (List ℕ)) → IsDistinct bytes_eq (distinct names)
unfolding IsDistinct IsNew
distinct_apart [] = tt
distinct_apart (name ∷ rest) = IsDistinct-cons bytes_eq name _ (none_left name (distinct rest)) (apart_of_some _ _ (distinct_apart rest))

accounts_back : (contracts : List Contract) (positions : List PositionRecord) (accounts : List (List ℕ))
    → map (λ (p : AccountHoldings). p.account)
    (map (λ account. record { account = account; holdings = holdings_of contracts positions account }) accounts) ≡ accounts
accounts_back contracts positions [] = refl
accounts_back contracts positions (account ∷ accounts) =
    ap (λ others. account ∷ others) (accounts_back contracts positions accounts)

-- the portfolios have distinct accounts
pub bound_once : (contracts : List Contract) (positions : List PositionRecord) (portfolios : List AccountHoldings)
    → bindings_of contracts positions ≡ Ok portfolios → AreOnce portfolios
unfolding bindings_of portfolios_of
bound_once contracts positions portfolios e = by_fault (bind_fault contracts positions) e where
  by_fault : (o : Option BindFault) → ok_unless o (portfolios_of contracts positions) ≡ Ok portfolios → AreOnce portfolios
  by_fault (Some f) e = cc
  by_fault None e =
      let same : portfolios_of contracts positions ≡ portfolios = cc in
      subst AreOnce same (subst (IsDistinct bytes_eq) (sym (accounts_back contracts positions (accounts_of positions)))
      (distinct_apart (map (λ (p : PositionRecord). p.account) positions)))
