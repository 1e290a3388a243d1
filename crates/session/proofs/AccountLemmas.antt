-- Accounts that are kept under their names.
use Rattle.std.proofs.Common.{◌≡◌, ℕ, Bool, true, false, cond, List, [], ◌∷◌}
use Rattle.std.proofs.Common.{◌++◌, map, Some, bytes_eq, refl, sym, ap, subst, ◌∙◌, append_assoc}
use Rattle.std.specs.Cmp.Lexicographic.{nat_list_eq_equiv}
use Rattle.std.specs.List.{AllByRecursion, IsDistinct}
use Rattle.std.specs.Map.{keys_of, lookup, values_of}
use Rattle.indexmap.specs.IndexMap.{insert_entry}
use Rattle.span_tables.specs.Net.{AccountHoldings}
use Rattle.span_tables.proofs.NameLemmas.{same_name}
use Rattle.session.specs.Accounts.{account_named, with_account}
use Rattle.session.specs.near.Kept.{AreOnce, AreUnderNames}

pub name_flip : (a b : List ℕ) → bytes_eq a b ≡ bytes_eq b a
name_flip a b = nat_list_eq_equiv.symm a b

-- the account found under a name is the account with this name
pub named-kept : (es : List (List ℕ × AccountHoldings)) → AreUnderNames es → (name : List ℕ)
    → lookup (bytes_eq name) es ≡ account_named (values_of es) name
named-kept [] under name = refl
named-kept (e ∷ es) under name =
    ap (λ b. cond b (Some e.1) (lookup (bytes_eq name) es)) (ap (bytes_eq name) under.0 ∙ name_flip name (e.1).account)
    ∙ ap (λ found. cond (bytes_eq (e.1).account name) (Some e.1) found) (named-kept es under.1 name)

-- the accounts after one is put under its name
pub put-values : (es : List (List ℕ × AccountHoldings)) → AreUnderNames es → (p : AccountHoldings)
    → values_of (insert_entry bytes_eq es p.account p) ≡ with_account (values_of es) p
put-values [] under p = refl
put-values (e ∷ es) under p =
    values_if (bytes_eq p.account e.0)
    ∙ ap (λ rest. cond (bytes_eq p.account e.0) (p ∷ values_of es) (e.1 ∷ rest)) (put-values es under.1 p)
    ∙ ap (λ name. cond (bytes_eq p.account name) (p ∷ values_of es) (e.1 ∷ with_account (values_of es) p)) under.0
  where
    values_if : (b : Bool)
        → values_of (cond b ((e.0, p) ∷ es) (e ∷ insert_entry bytes_eq es p.account p))
        ≡ cond b (p ∷ values_of es) (e.1 ∷ values_of (insert_entry bytes_eq es p.account p))
    values_if true = refl
    values_if false = refl

under_if : (e : List ℕ × AccountHoldings) (es : List (List ℕ × AccountHoldings)) (p : AccountHoldings) (b : Bool)
    → bytes_eq p.account e.0 ≡ b → AreUnderNames (e ∷ es) → AreUnderNames (insert_entry bytes_eq es p.account p)
    → AreUnderNames (cond b ((e.0, p) ∷ es) (e ∷ insert_entry bytes_eq es p.account p))
under_if e es p true same under more = (sym (same_name p.account e.0 same), under.1)
under_if e es p false other under more = (under.0, more)

-- each account is still kept under its name
pub put-under : (es : List (List ℕ × AccountHoldings)) → AreUnderNames es → (p : AccountHoldings)
    → AreUnderNames (insert_entry bytes_eq es p.account p)
put-under [] under p = (refl, tt)
put-under (e ∷ es) under p = under_if e es p (bytes_eq p.account e.0) refl under (put-under es under.1 p)

keys-kept : (es : List (List ℕ × AccountHoldings)) → AreUnderNames es → keys_of es ≡ map (λ p. p.account) (values_of es)
keys-kept [] under = refl
keys-kept (e ∷ es) under = ap (λ key. key ∷ keys_of es) under.0 ∙ ap (λ keys. (e.1).account ∷ keys) (keys-kept es under.1)

-- if the keys are distinct, the accounts are distinct
pub once-kept : (es : List (List ℕ × AccountHoldings)) → AreUnderNames es → IsDistinct bytes_eq (keys_of es) → AreOnce (values_of es)
once-kept es under distinct = subst (IsDistinct bytes_eq) (keys-kept es under) distinct

-- the names after the first differ from it
apart : (name : List ℕ) (ps : List AccountHoldings) (p : AccountHoldings) (rest : List AccountHoldings)
    → AllByRecursion (λ y. bytes_eq name y ≡ false) (map (λ (q : AccountHoldings). q.account) (ps ++ p ∷ rest))
    → bytes_eq name p.account ≡ false
apart name [] p rest all = all.0
apart name (q ∷ ps) p rest all = apart name ps p rest all.1

-- an account that differs from all earlier ones is appended
pub put-last : (ps : List AccountHoldings) (p : AccountHoldings) (rest : List AccountHoldings) → AreOnce (ps ++ p ∷ rest)
    → with_account ps p ≡ ps ++ p ∷ []
unfolding IsDistinct
put-last [] p rest once = refl
put-last (q ∷ ps) p rest once =
    ap (λ b. cond b (p ∷ ps) (q ∷ with_account ps p)) (name_flip p.account q.account ∙ apart q.account ps p rest once.0)
    ∙ ap (λ more. q ∷ more) (put-last ps p rest once.1)

-- one more account was appended, before the remaining ones
pub put-next : (done : List AccountHoldings) (p : AccountHoldings) (rest all : List AccountHoldings) → AreOnce all
    → done ++ p ∷ rest ≡ all → with_account done p ++ rest ≡ all
put-next done p rest all once is =
    ap (λ front. front ++ rest) (put-last done p rest (subst AreOnce (sym is) once)) ∙ append_assoc done (p ∷ []) rest ∙ is
