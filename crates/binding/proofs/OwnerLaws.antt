-- Properties of owners' records without a fault, and the order of faults.
use Rattle.std.proofs.Common.{◌≡◌, ℕ, Bool, false, not, ◌&&◌, ◌++◌, List, Option, Some, None, refl, sym, ap, ◌∙◌}
use Rattle.std.specs.Prelude.{bytes_eq}
use Rattle.std.specs.List.{list_any}
use Rattle.std.specs.Option.{option_or}
use Rattle.std.proofs.lemmas.Bool.{and_parts}
use Rattle.span_tables.specs.Faults.{first_of}
use Rattle.span_tables.specs.declared.records.Contract.{Contract}
use Rattle.span_tables.proofs.FaultLaws.{first_of_both}
use Rattle.span_tables.proofs.NameLemmas.{same_name}
use Rattle.binding.specs.Binding.{all_unfit_by, among, first_unfit_by, is_of_known, owner_faults}
use Rattle.binding.proofs.KnownRecords.{among_all}
use Rattle.binding.proofs.UnfitLaws.{first_of_kind, fit_from_none, unfit_none}

or_behind : {F : Type 0} (a b c : Option F) → option_or (option_or a b) c ≡ option_or a (option_or b c)
or_behind None b c = refl
or_behind (Some x) b c = refl

-- the first of three faults is none only if all three are none
none_of : {F : Type 0} (a b c : Option F) → option_or a (option_or b c) ≡ None → (a ≡ None) × (b ≡ None) × (c ≡ None)
none_of (Some x) b c e = cc
none_of None (Some x) c e = cc
none_of None None c e = (refl, refl, e)

module _ {R F : Type 0} (owner contract : R → List ℕ) (b1 b2 b3 : ℕ → List ℕ → F) (contracts : List Contract)
    (is_over : List ℕ → List ℕ → Bool) (has_many : List ℕ → Bool) (all : List R) where
  abbrev is_foreign : R → Bool
  is_foreign r = not (is_of_known contract contracts r)

  abbrev over : R → Bool
  over r = is_over (owner r) (contract r)

  abbrev many : R → Bool
  many r = has_many (owner r)

  -- the three faults, each on its own
  abbrev unknown : Option F
  unknown = first_unfit_by owner b1 (λ earlier r. is_foreign r) all

  abbrev net_test : List R → R → Bool
  net_test earlier r = not (list_any (λ x. bytes_eq (owner x) (owner r) && bytes_eq (contract x) (contract r)) earlier) && over r

  abbrev held_test : List R → R → Bool
  held_test earlier r = not (list_any (λ x. bytes_eq (owner x) (owner r)) earlier) && many r

  abbrev out_of_range : Option F
  out_of_range = first_unfit_by owner b2 net_test all

  abbrev too_many : Option F
  too_many = first_unfit_by owner b3 held_test all

  abbrev answer : Option F
  answer = first_of (owner_faults owner contract b1 b2 b3 contracts is_over has_many all)

  -- the first record over a limit is the first record of its kind
  net_of_kind : out_of_range ≡ first_unfit_by owner b2 (λ earlier r. over r) all
  net_of_kind =
      first_of_kind owner b2 (λ x r. bytes_eq (owner x) (owner r) && bytes_eq (contract x) (contract r)) over
      (λ x r same e. (let parts = and_parts (bytes_eq (owner x) (owner r)) (bytes_eq (contract x) (contract r)) same in
      ap (λ a. is_over a (contract x)) (same_name (owner x) (owner r) parts.0)
      ∙ ap (is_over (owner r)) (same_name (contract x) (contract r) parts.1) ∙ e)) all

  held_of_kind : too_many ≡ first_unfit_by owner b3 (λ earlier r. many r) all
  held_of_kind =
      first_of_kind owner b3 (λ x r. bytes_eq (owner x) (owner r)) many
      (λ x r same e. ap has_many (same_name (owner x) (owner r) same) ∙ e) all

  -- the first fault: a record of an unknown contract, otherwise a net over the limit, otherwise too many contracts held
  in_order : answer ≡ option_or unknown (option_or out_of_range too_many)
  in_order =
      first_of_both (foreign ++ nets) held ∙ ap (λ o. option_or o (first_of held)) (first_of_both foreign nets)
      ∙ or_behind unknown (first_of nets) (first_of held) ∙ by unknown refl
    where
      foreign : List F
      foreign = all_unfit_by owner b1 (λ earlier r. is_foreign r) all

      nets : List F
      nets = all_unfit_by owner b2 (among contract contracts net_test) all

      held : List F
      held = all_unfit_by owner b3 (among contract contracts held_test) all

      by : (o : Option F) → unknown ≡ o
          → option_or unknown (option_or (first_of nets) (first_of held)) ≡ option_or unknown (option_or out_of_range too_many)
      by (Some y) e =
          ap (λ o. option_or o (option_or (first_of nets) (first_of held))) e
          ∙ ap (λ o. option_or o (option_or out_of_range too_many)) (sym e)
      by None e =
          let known = fit_from_none owner b1 is_foreign all e in
          let b = among_all owner b2 (is_of_known contract contracts) all known net_test in
          let c = among_all owner b3 (is_of_known contract contracts) all known held_test in
          λ k. option_or unknown (option_or (first_of (b k)) (first_of (c k)))

  -- records without a fault are of known contracts, and within the limits
  pub fit_from : answer ≡ None → (list_any is_foreign all ≡ false) × (list_any over all ≡ false) × (list_any many all ≡ false)
  fit_from none =
      let parts = none_of unknown out_of_range too_many (sym in_order ∙ none) in (
        fit_from_none owner b1 is_foreign all parts.0,
        fit_from_none owner b2 over all (sym net_of_kind ∙ parts.1),
        fit_from_none owner b3 many all (sym held_of_kind ∙ parts.2),
      )

  pub first_is_unknown : (y : F) → unknown ≡ Some y → answer ≡ Some y
  first_is_unknown y e = in_order ∙ ap (λ o. option_or o (option_or out_of_range too_many)) e

  module _ (known : list_any is_foreign all ≡ false) where
    no_unknown : answer ≡ option_or out_of_range too_many
    no_unknown = in_order ∙ ap (λ o. option_or o (option_or out_of_range too_many)) (unfit_none owner b1 is_foreign all known)

    pub first_is_net : (y : F) → out_of_range ≡ Some y → answer ≡ Some y
    first_is_net y e = no_unknown ∙ ap (λ o. option_or o too_many) e

    pub first_is_held : list_any over all ≡ false → answer ≡ too_many
    first_is_held within = no_unknown ∙ ap (λ o. option_or o too_many) (net_of_kind ∙ unfit_none owner b2 over all within)

    -- the first net over the limit, otherwise the first owner with too many contracts
    pub first_limit : answer
        ≡ option_or (first_unfit_by owner b2 (λ earlier r. over r) all) (first_unfit_by owner b3 (λ earlier r. many r) all)
    first_limit = no_unknown ∙ (λ i. option_or (net_of_kind i) (held_of_kind i))

    -- such records have no fault
    pub none_from : list_any over all ≡ false → list_any many all ≡ false → answer ≡ None
    none_from within few = first_is_held within ∙ held_of_kind ∙ unfit_none owner b3 many all few
