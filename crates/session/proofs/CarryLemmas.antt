-- The holdings and the accounts that are carried over to another parameter set, one after the other.
use Rattle.std.proofs.Common.{◌≡◌, ◌∙◌, ℕ, suc, ◌+◌, ◌<◌, ◌≤◌, Bool, true, false, cond, not, List, [], ◌∷◌, ◌++◌}
use Rattle.std.proofs.Common.{length, map, flat_map, get_or, take, drop, Option, Some, None, refl, sym, ap, append_assoc, subst, arith}
use Rattle.std.specs.Prelude.{⊤, All, MatchBool, bytes_eq, filter_map, find, is_some, option_map}
use Rattle.std.specs.List.{IsDistinct, cons_option, list_any}
use Rattle.std.specs.Option.{option_or}
use Rattle.std.proofs.lemmas.List.{append-nil, get_or-map, map-append, take-append-drop, take_all, take_more}
use Rattle.std.proofs.lemmas.List.Elements.{All-map, filter_map-append}
use Rattle.std.proofs.lemmas.List.Folds.{find-append}
use Rattle.std.proofs.lemmas.Simd.{map-map}
use Rattle.span_tables.specs.Holdings.{ArePortfolio, fits}
use Rattle.span_tables.specs.Names.{has_repeat}
use Rattle.span_tables.specs.Net.{AccountHoldings, holdings_of, net_of}
use Rattle.span_tables.specs.Tables.{rising_by}
use Rattle.span_tables.specs.declared.portfolios.Holding.{Holding}
use Rattle.span_tables.specs.declared.records.Contract.{Contract}
use Rattle.span_tables.specs.declared.records.PositionRecord.{PositionRecord}
use Rattle.span_tables.proofs.MergedLaws.{held_fit}
use Rattle.binding.specs.Binding.{is_unknown}
use Rattle.binding.specs.near.Holdings.{ids_of}
use Rattle.binding.proofs.PlaceLaws.{listed_is, position_is, position_none}
use Rattle.session.specs.Accounts.{contract_of, held_record, held_records, lost_record, under_contracts}
use Rattle.session.specs.Refusals.{Refused, refused_by}
use Rattle.session.specs.Refusals as refused
use Rattle.session.specs.declared.refusals.Refusal.{Refusal}
use Rattle.session.specs.near.Answering.{is_memory}
use Rattle.session.specs.near.Carried.{AreCarried, AreMoved, number_of, numbers_in, renumbered}
use Rattle.session.specs.near.Kept.{AreOnce}
use Rattle.session.proofs.CarriedLemmas.{contract_at, under_is}
use Rattle.session.proofs.SessionLemmas.{if_either}

module _ (old new : List Contract) where
  -- the number of a holding's contract
  pub number_read : (h : Holding) (d : Option ℕ) → h.contract < length old
      → get_or (numbers_in old new) h.contract d ≡ number_of new (contract_of old h)
  number_read h d lt =
      let at = contract_at old h lt in
      get_or-map (λ (x : Contract). number_of new x.id) old h.contract at.0 d lt
      ∙ ap (λ (x : Contract). number_of new x.id) at.2 ∙ sym (ap (number_of new) at.3)

  -- a contract is unknown if it has no number
  unknown_is : (r : PositionRecord) → is_unknown new r ≡ not (is_some (number_of new r.contract))
  unknown_is r = ap not (sym (listed_is new r) ∙ by (list_any (bytes_eq r.contract) (ids_of new)) refl)
    where
      by : (b : Bool) → list_any (bytes_eq r.contract) (ids_of new) ≡ b → b ≡ is_some (number_of new r.contract)
      by true e = sym (ap is_some (position_is (ids_of new) r.contract e))
      by false e = sym (ap is_some (position_none (ids_of new) r.contract e))

  -- ---- holdings

  module _ (p : AccountHoldings) (i : ℕ) (d : Holding) (moved : List Holding) (lt : i < length p.holdings)
      (are : AreMoved old new p i moved) where
    abbrev next : Holding
    next = get_or p.holdings i d

    abbrev own : PositionRecord
    own = held_record old p.account next

    found_next : find (is_unknown new) (map (held_record old p.account) (take (i + 1) p.holdings))
        ≡ find (is_unknown new) (own ∷ [])
    found_next =
        ap (λ hs. find (is_unknown new) (map (held_record old p.account) hs)) (take_more p.holdings i d lt)
        ∙ ap (find (is_unknown new)) (map-append (held_record old p.account) (take i p.holdings) (next ∷ []))
        ∙ find-append (is_unknown new) (map (held_record old p.account) (take i p.holdings)) (own ∷ [])
        ∙ ap (λ o. option_or o (find (is_unknown new) (own ∷ []))) are.found

    -- one more holding is moved, if its contract has a number
    pub next_moved : (n : ℕ) → number_of new (contract_of old (get_or p.holdings i d)) ≡ Some n
        → AreMoved old new p (i + 1) (moved ++ record { contract = n; net = (get_or p.holdings i d).net } ∷ [])
    next_moved n is = record {
      moved = ap (λ hs. hs ++ (let it : Holding = record { contract = n; net = next.net } in it) ∷ []) are.moved
          ∙ ap (λ o. filter_map (renumbered old new) (take i p.holdings)
          ++ cons_option (option_map (λ number. (let it : Holding = record { contract = number; net = next.net } in it)) o) []) (sym is)
          ∙ sym (ap (filter_map (renumbered old new)) (take_more p.holdings i d lt)
          ∙ filter_map-append (renumbered old new) (take i p.holdings) (next ∷ []));
      found = found_next ∙ ap (λ b. cond b (Some own) None) (unknown_is own ∙ ap (λ o. not (is_some o)) is);
    }

    -- if it has none, this is the first lost holding
    lost_here : ((n : ℕ) → number_of new (contract_of old (get_or p.holdings i d)) ≡ Some n → ⊥)
        → find (is_unknown new) (held_records old p) ≡ Some (held_record old p.account (get_or p.holdings i d))
    lost_here none = by (number_of new (contract_of old next)) refl
      where
        first : List PositionRecord
        first = map (held_record old p.account) (take (i + 1) p.holdings)

        rest : List PositionRecord
        rest = map (held_record old p.account) (drop (i + 1) p.holdings)

        by : (o : Option ℕ) → number_of new (contract_of old next) ≡ o → find (is_unknown new) (held_records old p) ≡ Some own
        by (Some n) is = absurd (none n is)
        by None is =
            ap (λ hs. find (is_unknown new) (map (held_record old p.account) hs)) (sym (take-append-drop (i + 1) p.holdings))
            ∙ ap (find (is_unknown new)) (map-append (held_record old p.account) (take (i + 1) p.holdings) (drop (i + 1) p.holdings))
            ∙ find-append (is_unknown new) first rest
            ∙ ap (λ o. option_or o (find (is_unknown new) rest))
            (found_next ∙ ap (λ b. cond b (Some own) None) (unknown_is own ∙ ap (λ o. not (is_some o)) is))

    -- and a refusal for it is the refusal of the account
    pub if_lost : ((n : ℕ) → number_of new (contract_of old (get_or p.holdings i d)) ≡ Some n → ⊥) → (r : Refusal)
        → refused_by r ≡ refused.Lost p.account (contract_of old (get_or p.holdings i d))
        → MatchBool (is_memory r) ⊤ (option_map (λ held. refused.Lost held.account held.contract)
        (find (is_unknown new) (held_records old p)) ≡ Some (refused_by r))
    if_lost none r is =
        if_either (is_memory r) (ap (option_map (λ (held : PositionRecord). refused.Lost held.account held.contract)) (lost_here none)
        ∙ ap Some (sym is))

  -- moved holdings, sorted by number, are the holdings under the other parameter set
  pub all_moved : has_repeat (λ x y. bytes_eq x.id y.id) old ≡ false → has_repeat (λ x y. bytes_eq x.id y.id) new ≡ false
      → (p : AccountHoldings) (i : ℕ) (moved : List Holding) → AreMoved old new p i moved → length p.holdings ≤ i
      → fits (length old) p.holdings ≡ true → ArePortfolio p.holdings
      → rising_by (λ h. h.contract) moved ≡ holdings_of new (held_records old p) p.account
  all_moved apart new_apart p i moved are all fit portfolio =
      ap (rising_by (λ (h : Holding). h.contract)) (are.moved ∙ ap (filter_map (renumbered old new)) (take_all i p.holdings all))
      ∙ sym (under_is old new apart new_apart p.account p.holdings fit portfolio)

  -- ---- accounts

  -- accounts fit the parameter set that they are under
  pub under_fit : (ps : List AccountHoldings) → All (λ p. fits (length new) p.holdings ≡ true) (map (under_contracts old new) ps)
  under_fit ps =
      All-map (λ (p : AccountHoldings). fits (length new) p.holdings ≡ true) (under_contracts old new) ps
      (λ k d lt. let p = get_or ps k d in held_fit (λ n x. net_of (held_records old p) p.account x.id) 0 (length new) new (omega arith))

  -- and they are distinct
  pub under_once : (ps : List AccountHoldings) → AreOnce ps → AreOnce (map (under_contracts old new) ps)
  under_once ps once =
      subst (IsDistinct bytes_eq) (sym (map-map (λ (p : AccountHoldings). p.account) (under_contracts old new) ps)) once

  module _ (all : List AccountHoldings) where
    -- at first no account is carried over
    pub none_carried : All (λ p. fits (length old) p.holdings ≡ true) all → AreCarried old new all all []
    none_carried fit = record { accounts = refl; fit = fit; lost = refl }

    module _ (p : AccountHoldings) (left carried : List AccountHoldings) (so_far : AreCarried old new all (p ∷ left) carried) where
      -- the next account's first lost holding is in front of the holdings of accounts that are left
      lost_is : lost_record old new all ≡ option_or (find (is_unknown new) (held_records old p)) (lost_record old new left)
      lost_is = so_far.lost ∙ find-append (is_unknown new) (held_records old p) (flat_map (held_records old) left)

      -- it is carried over, if the parameter set has its contracts
      pub one_carried : find (is_unknown new) (held_records old p) ≡ None
          → AreCarried old new all left (carried ++ under_contracts old new p ∷ [])
      one_carried none = record {
        accounts = append_assoc carried (under_contracts old new p ∷ []) (map (under_contracts old new) left) ∙ so_far.accounts;
        fit = λ k d lt. so_far.fit (suc k) d (omega (arith, lt));
        lost = lost_is ∙ ap (λ o. option_or o (lost_record old new left)) none;
      }

      -- if the set lacks one, this is the first lost contract
      pub lost_first : (b : Bool) (w : Refused)
          → MatchBool b ⊤ (option_map (λ held. refused.Lost held.account held.contract)
          (find (is_unknown new) (held_records old p)) ≡ Some w)
          → MatchBool b ⊤ (option_map (λ held. refused.Lost held.account held.contract) (lost_record old new all) ≡ Some w)
      lost_first true w h = tt
      lost_first false w h = by (find (is_unknown new) (held_records old p)) refl h
        where
          by : (o : Option PositionRecord) → find (is_unknown new) (held_records old p) ≡ o
              → option_map (λ (held : PositionRecord). refused.Lost held.account held.contract) o ≡ Some w
              → option_map (λ held. refused.Lost held.account held.contract) (lost_record old new all) ≡ Some w
          by (Some held) e h =
              ap (option_map (λ (held : PositionRecord). refused.Lost held.account held.contract))
              (lost_is ∙ ap (λ o. option_or o (lost_record old new left)) e) ∙ h
          by None e h = cc

    -- at the end all accounts are carried over
    pub all_carried : (carried : List AccountHoldings) → AreCarried old new all [] carried → carried ≡ map (under_contracts old new) all
    all_carried carried done = sym (append-nil carried) ∙ done.accounts
