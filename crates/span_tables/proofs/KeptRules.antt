-- Records that keep a rule: no record breaks it, and the consequences for the records of each kind.
use Rattle.std.proofs.Common.{◌≡◌, ℕ, ◌+◌, Bool, true, false, List, [], ◌∷◌, ◌++◌, length, Option, Some, None, refl, ap, ◌∙◌, subst}
use Rattle.std.specs.Prelude.{All, MatchOption, filter_map, is_none, if◌then◌else◌, option_map, ◌&&◌}
use Rattle.std.specs.List.{AllByRecursion, cons_option, list_all, list_any}
use Rattle.std.specs.Option.{option_to_list}
use Rattle.std.proofs.lemmas.List.{append-nil}
use Rattle.std.proofs.lemmas.List.Elements.{All-nil, All-cons, All-head, All-tail, filter_map-append}
use Rattle.span_tables.specs.Faults.{faults_after, first_fault_after, first_of}
use Rattle.span_tables.specs.Names.{has_repeat}
use Rattle.span_tables.specs.Rules.{first_breaking, is_and, keeps_rules, rules}
use Rattle.span_tables.specs.declared.records.Record.{Record}
use Rattle.std.proofs.lemmas.Bool.{and_parts, or_parts, or_from}
pub use Rattle.std.proofs.lemmas.Bool.{and_parts as and_true}

pub all_true : (a b c : Bool) → ((a && b) && c) ≡ true → (a ≡ true) × (b ≡ true) × (c ≡ true)
all_true a b c e = let last = and_parts (a && b) c e in let front = and_parts a b last.0 in (front.0, front.1, last.1)

-- no record breaks the rule, given the earlier records
abbrev pub Unbroken : (List Record → Record → Bool) → List Record → List Record → Type 0
Unbroken breaks earlier [] = Unit {0}
Unbroken breaks earlier (r ∷ rs) = (breaks earlier r ≡ false) × Unbroken breaks (earlier ++ r ∷ []) rs

free_head : (b : Bool) (n : ℕ) (rest : List ℕ)
    → first_of (option_to_list (option_map (λ (f : ℕ → ℕ). f n) (if b then Some (λ (at : ℕ). at) else None)) ++ rest) ≡ None
    → (b ≡ false) × (first_of rest ≡ None)
free_head true n rest e = cc
free_head false n rest e = (refl, e)

unbroken_behind : (breaks : List Record → Record → Bool) (before rs : List Record)
    → first_fault_after (λ earlier r. if breaks earlier r then Some (λ (at : ℕ). at) else None) before rs ≡ None
    → Unbroken breaks before rs
unbroken_behind breaks before [] e = tt
unbroken_behind breaks before (r ∷ rs) e =
    let h = free_head (breaks before r) (length before + 1)
    (faults_after (λ earlier x. if breaks earlier x then Some (λ (at : ℕ). at) else None) (before ++ r ∷ []) rs) e in
    (h.0, unbroken_behind breaks (before ++ r ∷ []) rs h.1)

none_is : (o : Option ℕ) → is_none o ≡ true → o ≡ None
none_is None e = refl
none_is (Some x) e = cc

rule_kept : (breaks : List Record → Record → Bool) (all : List Record) → is_none (first_breaking (λ at. at) breaks all) ≡ true
    → Unbroken breaks [] all
rule_kept breaks all e = unbroken_behind breaks [] all (none_is (first_breaking (λ (at : ℕ). at) breaks all) e)

-- each of a list of rules is kept
abbrev pub Kept : List Record → List (List Record → Record → Bool) → Type 0
Kept all [] = Unit {0}
Kept all (breaks ∷ rest) = Unbroken breaks [] all × Kept all rest

each_kept : (all : List Record) (tests : List (List Record → Record → Bool))
    → list_all (λ breaks. is_none (first_breaking (λ (at : ℕ). at) breaks all)) tests ≡ true → Kept all tests
each_kept all [] e = tt
each_kept all (breaks ∷ rest) e =
    let h = and_parts (is_none (first_breaking (λ (at : ℕ). at) breaks all))
    (list_all (λ b. is_none (first_breaking (λ (at : ℕ). at) b all)) rest) e in
    (rule_kept breaks all h.0, each_kept all rest h.1)

-- records that keep the rules keep each of them
pub all_kept : (all : List Record) → keeps_rules all ≡ true → Kept all (rules all)
unfolding keeps_rules
all_kept all e = each_kept all (rules all) e

-- a rule that does not depend on earlier records
pub of_each : (breaks : Record → Bool) (before rs : List Record) → Unbroken (λ earlier r. breaks r) before rs
    → AllByRecursion (λ r. breaks r ≡ false) rs
of_each breaks before [] u = tt
of_each breaks before (r ∷ rs) u = (u.0, of_each breaks (before ++ r ∷ []) rs u.1)

next_of : {Y : Type 0} (P : Y → Type 0) (o : Option Y) (ys : List Y) → MatchOption o (Unit {0}) P → All P ys
    → All P (cons_option o ys)
next_of P None ys p more = more
next_of P (Some y) ys p more = All-cons P y ys p more

-- a property of each record gives a property of each record of a kind
pub of_kind : {Y : Type 0} (h : Record → Option Y) (P : Y → Type 0) (Q : Record → Type 0)
    → ((r : Record) → Q r → MatchOption (h r) (Unit {0}) P)
    → (rs : List Record) → AllByRecursion Q rs → All P (filter_map h rs)
of_kind h P Q each [] all = All-nil P
of_kind h P Q each (r ∷ rs) all = next_of P (h r) (filter_map h rs) (each r all.0) (of_kind h P Q each rs all.1)

pub none_any : {Y : Type 0} (p : Y → Bool) (ys : List Y) → list_any p ys ≡ false → All (λ y. p y ≡ false) ys
none_any p [] e = All-nil (λ y. p y ≡ false)
none_any p (y ∷ ys) e = let h = or_parts (p y) (list_any p ys) e in All-cons (λ y. p y ≡ false) y ys h.0 (none_any p ys h.1)

pushed_all : {Y : Type 0} (P : Y → Type 0) (ys : List Y) (y : Y) → All P (ys ++ y ∷ []) → All P ys × P y
pushed_all P [] y all = (All-nil P, All-head P y [] all)
pushed_all P (x ∷ xs) y all =
    let h = pushed_all P xs y (All-tail P x (xs ++ y ∷ []) all) in (All-cons P x xs (All-head P x (xs ++ y ∷ []) all) h.0, h.1)

module _ {Y : Type 0} (h : Record → Option Y) (alike : Y → Y → Bool) where
  -- a record of the kind is like an earlier one
  abbrev pub repeats : List Record → Record → Bool
  repeats earlier r = is_and (h r) (λ y. list_any (λ z. alike z y) (filter_map h earlier))

  -- no earlier element is like one of ys, and no two of ys are alike
  abbrev AreApart : List Record → List Y → Type 0
  AreApart before ys = All (λ z. list_any (alike z) ys ≡ false) (filter_map h before) × (has_repeat alike ys ≡ false)

  apart_next : (o : Option Y) (before : List Record) (r : Record) (ys : List Y) → h r ≡ o → repeats before r ≡ false
      → AreApart (before ++ r ∷ []) ys → AreApart before (cons_option o ys)
  apart_next None before r ys is free more =
      let same : filter_map h (before ++ r ∷ []) ≡ filter_map h before =
      filter_map-append h before (r ∷ []) ∙ ap (λ o. filter_map h before ++ cons_option o []) is
      ∙ append-nil (filter_map h before) in
      (subst (λ zs. All (λ z. list_any (alike z) ys ≡ false) zs) same more.0, more.1)
  apart_next (Some y) before r ys is free more =
      let same : filter_map h (before ++ r ∷ []) ≡ filter_map h before ++ y ∷ [] =
      filter_map-append h before (r ∷ []) ∙ ap (λ o. filter_map h before ++ cons_option o []) is in
      let split = pushed_all (λ z. list_any (alike z) ys ≡ false) (filter_map h before) y
      (subst (λ zs. All (λ z. list_any (alike z) ys ≡ false) zs) same more.0) in
      let other : list_any (λ z. alike z y) (filter_map h before) ≡ false =
      subst (λ o. is_and o (λ y. list_any (λ z. alike z y) (filter_map h before)) ≡ false) is free in
      let none = none_any (λ z. alike z y) (filter_map h before) other in
      (λ k d lt. or_from _ _ (none k d lt) (split.0 k d lt), or_from _ _ split.1 more.1)

  apart_behind : (before rs : List Record) → Unbroken repeats before rs → AreApart before (filter_map h rs)
  apart_behind before [] u = (λ k d lt. refl, refl)
  apart_behind before (r ∷ rs) u = apart_next (h r) before r (filter_map h rs) refl u.0 (apart_behind (before ++ r ∷ []) rs u.1)

  -- no two of the kind are alike
  pub apart : (rs : List Record) → Unbroken repeats [] rs → has_repeat alike (filter_map h rs) ≡ false
  apart rs u = (apart_behind [] rs u).1
