-- The rules on repeated records and on names in records, expressed by keys.
use Rattle.std.proofs.Common.{◌≡◌, ℕ, Bool, not, List, [], ◌∷◌, ◌++◌, Option, None, Some, refl, sym, ap, ◌∙◌, ◌&&◌, ◌||◌, eqb, bytes_eq}
use Rattle.std.specs.Prelude.{filter_map}
use Rattle.std.specs.List.{list_any}
use Rattle.std.proofs.Math.Bool.{or-false, and-true}
use Rattle.std.proofs.lemmas.List.Folds.{list_any-append}
use Rattle.span_tables.specs.Rules.{is_and, as_commodity, as_contract, as_tier, as_intra, as_inter, as_spot}
use Rattle.span_tables.specs.Rules.{commodities_in, names_no_commodity, names_no_tier}
use Rattle.span_tables.specs.declared.records.Record.{Record}
use Rattle.span_tables.specs.declared.records.Record.TheVariants as record_of
use Rattle.param_check.specs.near.Keys.{has_key, is_key_among, is_key_unknown, is_same, key_of, name_key, names_unknown, names_unknown_tier}
use Rattle.param_check.specs.near.Keys.{repeats}
use Rattle.param_check.specs.declared.check.keys.Key.{Key}
use Rattle.param_check.specs.declared.check.keys.Identity.{Identity}
use Rattle.param_check.specs.declared.check.keys.Identity.TheVariants as identity
use Rattle.binding.proofs.FilterMaps.{list_any-filter_map, list_any-map, list_any-same}

-- a key is among the keys of some records exactly if one of these records passes the corresponding test
found : {A : Type 0} (i : Identity) (keys : List Key) (all : List Record) → ((k : Key) → is_key_among keys (Some k) ≡ has_key i all k)
    → (key : Key) (kind : Record → Option A) (test : A → Bool) → ((r : Record) → is_same (key_of i r) key ≡ is_and (kind r) test)
    → is_key_among keys (Some key) ≡ list_any test (filter_map kind all)
found i keys all are key kind test same = are key ∙ list_any-same _ _ same all ∙ sym (list_any-filter_map kind test all)

has_commodity : (id : List ℕ) (r : Record) → is_same (key_of identity.Commodity r) (name_key id 0)
    ≡ is_and (as_commodity r) (λ c. bytes_eq c.id id)
has_commodity id (record_of.Commodity x) = and-true (bytes_eq x.id id)
has_commodity id _ = refl

has_contract : (id : List ℕ) (r : Record) → is_same (key_of identity.Contract r) (name_key id 0)
    ≡ is_and (as_contract r) (λ x. bytes_eq x.id id)
has_contract id (record_of.Contract x) = and-true (bytes_eq x.id id)
has_contract id _ = refl

is_tier : (c : List ℕ) (n : ℕ) (r : Record) → is_same (key_of identity.Tier r) (name_key c n)
    ≡ is_and (as_tier r) (λ t. bytes_eq t.commodity c && eqb t.number n)
is_tier c n (record_of.Tier x) = refl
is_tier c n _ = refl

is_intra : (c : List ℕ) (n : ℕ) (r : Record) → is_same (key_of identity.Priority r) (name_key c n)
    ≡ is_and (as_intra r) (λ s. bytes_eq s.commodity c && eqb s.priority n)
is_intra c n (record_of.Intra x) = refl
is_intra c n _ = refl

is_inter : (n : ℕ) (r : Record) → is_same (key_of identity.Priority r) (record { name = None; number = n })
    ≡ is_and (as_inter r) (λ s. eqb s.priority n)
is_inter n (record_of.Inter x) = refl
is_inter n _ = refl

is_spot : (c : List ℕ) (n : ℕ) (r : Record) → is_same (key_of identity.SpotMonth r) (name_key c n)
    ≡ is_and (as_spot r) (λ s. bytes_eq s.commodity c && eqb s.month n)
is_spot c n (record_of.Spot x) = refl
is_spot c n _ = refl

-- the keys of the earlier records determine whether a record repeats one of them
pub repeats_by : (i : Identity) (keys : List Key) (earlier : List Record) → ((k : Key) → is_key_among keys (Some k) ≡ has_key i earlier k)
    → (r : Record) → is_key_among keys (key_of i r) ≡ repeats i earlier r
repeats_by identity.Commodity keys earlier are (record_of.Commodity x) =
    found identity.Commodity keys earlier are (name_key x.id 0) as_commodity _ (has_commodity x.id)
repeats_by identity.Contract keys earlier are (record_of.Contract x) =
    found identity.Contract keys earlier are (name_key x.id 0) as_contract _ (has_contract x.id)
repeats_by identity.Tier keys earlier are (record_of.Tier x) =
    found identity.Tier keys earlier are (name_key x.commodity x.number) as_tier _ (is_tier x.commodity x.number)
repeats_by identity.Priority keys earlier are (record_of.Intra x) =
    found identity.Priority keys earlier are (name_key x.commodity x.priority) as_intra _ (is_intra x.commodity x.priority)
    ∙ sym (or-false _)
repeats_by identity.Priority keys earlier are (record_of.Inter x) =
    found identity.Priority keys earlier are (record { name = None; number = x.priority }) as_inter _ (is_inter x.priority)
repeats_by identity.SpotMonth keys earlier are (record_of.Spot x) =
    found identity.SpotMonth keys earlier are (name_key x.commodity x.month) as_spot _ (is_spot x.commodity x.month)
repeats_by _ keys earlier are _ = refl

-- one more record
pub has_key_more : (i : Identity) (keys : List Key) (earlier : List Record) → ((k : Key) → is_key_among keys (Some k) ≡ has_key i earlier k)
    → (r : Record) (k : Key) → (is_key_among keys (Some k) || is_same (key_of i r) k) ≡ has_key i (earlier ++ r ∷ []) k
has_key_more i keys earlier are r k =
    ap (λ b. b || is_same (key_of i r) k) (are k)
    ∙ ap (λ b. has_key i earlier k || b) (sym (or-false (is_same (key_of i r) k)))
    ∙ sym (list_any-append (λ r. is_same (key_of i r) k) earlier (r ∷ []))

module _ (keys : List Key) (all : List Record) where
  module _ (are : (k : Key) → is_key_among keys (Some k) ≡ has_key identity.Commodity all k) where
    unknown : (id : List ℕ) → is_key_unknown keys id 0 ≡ not (list_any (λ c. bytes_eq c.id id) (commodities_in all))
    unknown id = ap not (found identity.Commodity keys all are (name_key id 0) as_commodity _ (has_commodity id))

    alone : (id : List ℕ) → is_key_unknown keys id 0
        ≡ list_any (λ name. not (list_any (λ c. bytes_eq c.id name) (commodities_in all))) (id ∷ [])
    alone id = unknown id ∙ sym (or-false _)

    -- the keys of all records determine whether a record names an unknown commodity
    pub names_unknown_by : (r : Record) → names_unknown keys r ≡ names_no_commodity all r
    names_unknown_by (record_of.Contract x) = alone x.commodity
    names_unknown_by (record_of.Tier x) = alone x.commodity
    names_unknown_by (record_of.Intra x) = alone x.commodity
    names_unknown_by (record_of.Spot x) = alone x.commodity
    names_unknown_by (record_of.Inter x) =
        list_any-same _ _ (λ leg. unknown leg.commodity) x.legs.items
        ∙ sym (list_any-map (λ name. not (list_any (λ c. bytes_eq c.id name) (commodities_in all))) (λ leg. leg.commodity) x.legs.items)
    names_unknown_by _ = refl

  -- the keys of all records determine whether a record names an unknown tier
  pub names_unknown_tier_by : ((k : Key) → is_key_among keys (Some k) ≡ has_key identity.Tier all k)
      → (r : Record) → names_unknown_tier keys r ≡ names_no_tier all r
  names_unknown_tier_by are (record_of.Intra x) =
      list_any-same _ _
      (λ leg. ap not (found identity.Tier keys all are (name_key x.commodity leg.tier) as_tier _ (is_tier x.commodity leg.tier)))
      x.legs.items
  names_unknown_tier_by are _ = refl
