-- The result of binding positions, from the stored nets of their accounts.
use Rattle.std.proofs.Common.{◌≡◌, ℕ, ◌<◌, Bool, true, false, not, ◌&&◌, List, [], ◌∷◌, ◌++◌, filter, length, map}
use Rattle.std.proofs.Common.{Option, Some, None, Ok, Err, refl, sym, ap, subst, ◌∙◌, arith}
use Rattle.std.specs.Prelude.{ℤ, All, bytes_eq, MatchBool, nat_abs, nat_lt, slice_get, ⊤}
use Rattle.std.specs.List.{list_any, position_or_len}
use Rattle.std.proofs.lemmas.Bool.{eq-eqb}
use Rattle.std.proofs.lemmas.List.{length-map}
use Rattle.std.proofs.lemmas.Option.{none-some, slice_get-get_or}
use Rattle.std.proofs.lemmas.Simd.{map-map}
use Rattle.span_tables.specs.Faults.{first_of, ok_unless}
use Rattle.span_tables.specs.Holdings.{ArePortfolio}
use Rattle.span_tables.specs.Names.{has_repeat}
use Rattle.span_tables.specs.Net.{AccountHoldings, accounts_of, holdings_of, net_of, portfolios_of}
use Rattle.span_tables.specs.declared.limits.TheConstants.{MAX_NET, MAX_HELD}
use Rattle.span_tables.specs.declared.portfolios.Holding.{Holding}
use Rattle.span_tables.specs.declared.records.Contract.{Contract}
use Rattle.span_tables.specs.declared.records.PositionRecord.{PositionRecord}
use Rattle.span_tables.proofs.MergedLaws.{net_among_all}
use Rattle.span_tables.proofs.NameLemmas.{same_name}
use Rattle.binding.specs.Binding.{all_unfit, among, bind_fault, bind_faults, bindings_of, is_first_of_contract, is_known, is_memory}
use Rattle.binding.specs.Binding.{is_unknown, known_records}
use Rattle.binding.specs.near.Holdings.{excess_of, found_faults, ids_of, is_over_at, portfolios_from}
use Rattle.binding.specs.near.Ledgers.{is_foreign, is_listed, foreign_faults, listed_records, AreGathered, AreNumbers}
use Rattle.binding.specs.near.Nets.{entries_of}
use Rattle.binding.specs.near.Sums.{kept_holding, kept_holdings}
use Rattle.binding.specs.declared.ledgers.Entry.{Entry}
use Rattle.binding.specs.declared.over_limits.Excess.{Excess}
use Rattle.binding.specs.declared.faults.BindFault.{BindFault}
use Rattle.binding.specs.declared.faults.BindFault.TheVariants as fault
use Rattle.binding.proofs.AcceptedLaws.{IsFit, fit_of_none}
use Rattle.binding.proofs.FoundLaws.{found_are}
use Rattle.binding.proofs.HoldingLaws.{holdings_are, number_is}
use Rattle.binding.proofs.IdLaws.{ids_apart}
use Rattle.binding.proofs.KeptLaws.{all_same}
use Rattle.binding.proofs.KnownRecords.{all_pass}
use Rattle.binding.proofs.OrderLaws.{over_among}
use Rattle.binding.proofs.PlaceLaws.{listed_is, within}
use Rattle.binding.proofs.PortfolioLaws.{all_rise, paired_is, portfolios_hold}
use Rattle.binding.proofs.UnfitLaws.{none_unfit}

nowhere : {X : Type 0} (xs : List X) (k : ℕ) → k < length xs → slice_get xs k ≡ None → ⊥
nowhere [] k lt e = omega (arith, lt)
nowhere (x ∷ xs) k lt e = none-some _ (sym e ∙ slice_get-get_or (x ∷ xs) k x lt)

-- if no record is of an unknown contract, there is no fault of an unknown contract
pub no_foreign : (ids : List (List ℕ)) (positions : List PositionRecord) → list_any (is_foreign ids) positions ≡ false
    → foreign_faults ids positions ≡ []
unfolding foreign_faults
no_foreign ids positions known =
    none_unfit (λ (p : PositionRecord). p.account) fault.UnknownContract (is_foreign ids) positions known

module _ (contracts : List Contract) (positions : List PositionRecord) (ids : List (List ℕ)) (unknown : List BindFault)
    (nets : List (List Holding)) (is : ids_of contracts ≡ ids) (given : AreGathered ids positions unknown nets) where
  gathered : AreGathered (ids_of contracts) positions unknown nets
  gathered = subst (λ k. AreGathered k positions unknown nets) (sym is) given

  apart : has_repeat (λ x y. bytes_eq x.id y.id) contracts ≡ false
  apart = ids_apart contracts ∙ gathered.apart

  known : List PositionRecord
  known = known_records contracts positions

  held : List ℕ → List Holding
  held account = holdings_of contracts known account

  kept : nets ≡ map (λ account. map kept_holding (held account)) (accounts_of positions)
  unfolding known held
  kept =
      gathered.nets_are
      ∙ ap (λ n. map (kept_holdings n) (map (entries_of (ids_of contracts) (filter (is_listed (ids_of contracts)) positions))
      (accounts_of positions))) (length-map contracts (λ x. x.id))
      ∙ (λ k. map (kept_holdings (length contracts))
      (map (entries_of (ids_of contracts) (filter (λ p. listed_is contracts p k) positions)) (accounts_of positions)))
      ∙ each (accounts_of positions)
    where
      each : (ks : List (List ℕ)) → map (kept_holdings (length contracts)) (map (entries_of (ids_of contracts) known) ks)
          ≡ map (λ account. map kept_holding (holdings_of contracts known account)) ks
      each [] = refl
      each (a ∷ ks) =
          let here = holdings_are contracts known a apart in
          let rest = each ks in
          λ k. map kept_holding (sym here k) ∷ rest k

  -- a net over the limit among an account's holdings is the net of its contract
  over_held : (account name : List ℕ) → list_any (bytes_eq name) (ids_of contracts) ≡ true
      → is_over_at (position_or_len (bytes_eq name) (ids_of contracts)) (held account)
      ≡ nat_lt MAX_NET (nat_abs (net_of known account name))
  unfolding held
  over_held account name there = by (slice_get contracts place) refl
    where
      place : ℕ
      place = position_or_len (bytes_eq name) (ids_of contracts)

      net : ℕ → Contract → ℤ
      net k x = net_of known account x.id

      by : (o : Option Contract) → slice_get contracts place ≡ o
          → is_over_at place (holdings_of contracts known account) ≡ nat_lt MAX_NET (nat_abs (net_of known account name))
      by (Some x) e =
          let named : bytes_eq name x.id ≡ true = sym (number_is contracts name place x apart e) ∙ eq-eqb place place refl in
          over_among (holdings_of contracts known account) (all_rise net contracts) place
          ∙ ap (λ z. nat_lt MAX_NET (nat_abs z)) (net_among_all net 0 place place x contracts e (omega arith))
          ∙ ap (λ n. nat_lt MAX_NET (nat_abs (net_of known account n))) (sym (same_name name x.id named))
      by None e =
          let lt = within (ids_of contracts) name there in
          let size = length-map contracts (λ x. x.id) in
          absurd (nowhere contracts place (omega (arith, lt, size)) e)

  -- the faults that are found are the faults of the definition
  pub faults_are : (excesses : List Excess) → excesses ≡ map excess_of nets
      → found_faults ids unknown excesses positions ≡ bind_faults contracts positions
  unfolding bind_faults known held
  faults_are excesses are =
      ap (λ k. found_faults k unknown excesses positions) (sym is)
      ∙ found_are contracts positions held excesses
      (are ∙ ap (map excess_of) kept ∙ map-map excess_of (λ account. map kept_holding (held account)) (accounts_of positions))
      unknown gathered.unknown_are
      ∙ (λ k. all_unfit fault.UnknownContract (λ earlier p. is_unknown contracts p) positions
      ++ all_unfit fault.NetOutOfRange (λ earlier p. net_is earlier p (is_known contracts p) refl k) positions
      ++ all_unfit fault.TooManyHeld (among (λ p. p.contract) contracts (λ earlier p.
      not (list_any (λ x. bytes_eq x.account p.account) earlier)
      && nat_lt MAX_HELD (length (holdings_of contracts known p.account)))) positions)
    where
      first : List PositionRecord → PositionRecord → Bool
      first earlier p = is_first_of_contract (filter (is_known contracts) earlier) p

      net_is : (earlier : List PositionRecord) (p : PositionRecord) (b : Bool) → is_known contracts p ≡ b
          → (is_known contracts p && (first earlier p
          && is_over_at (position_or_len (bytes_eq p.contract) (ids_of contracts)) (held p.account)))
          ≡ (is_known contracts p && (first earlier p && nat_lt MAX_NET (nat_abs (net_of known p.account p.contract))))
      net_is earlier p true e =
          ap (λ o. is_known contracts p && (first earlier p && o)) (over_held p.account p.contract (listed_is contracts p ∙ e))
      net_is earlier p false e =
          ap (λ b. b && (first earlier p && is_over_at (position_or_len (bytes_eq p.contract) (ids_of contracts)) (held p.account))) e
          ∙ sym (ap (λ b. b && (first earlier p && nat_lt MAX_NET (nat_abs (net_of known p.account p.contract)))) e)

  module _ (none : bind_fault contracts positions ≡ None) where
    fit : IsFit contracts positions
    fit = fit_of_none contracts positions none

    exact : List (List Holding)
    exact = map (holdings_of contracts positions) (accounts_of positions)

    exact_hold : All ArePortfolio exact
    unfolding exact
    exact_hold = portfolios_hold contracts positions (accounts_of positions) exact refl refl fit.within fit.few

    nets_are : nets ≡ exact
    unfolding exact known held
    nets_are =
        kept ∙ ap (λ ps. map (λ account. map kept_holding (holdings_of contracts ps account)) (accounts_of positions))
        (all_pass (is_known contracts) positions fit.known)
        ∙ sym (map-map (map kept_holding) (holdings_of contracts positions) (accounts_of positions)) ∙ all_same exact exact_hold

    -- without a fault the nets are portfolios, as in the definition
    pub nets_hold : All ArePortfolio nets
    nets_hold = subst (All ArePortfolio) (sym nets_are) exact_hold

    pub portfolios_are : portfolios_from (accounts_of positions) nets ≡ portfolios_of contracts positions
    unfolding exact
    portfolios_are = paired_is contracts positions (accounts_of positions) nets refl nets_are

  pub as_many : length nets ≡ length (accounts_of positions)
  as_many = ap length kept ∙ length-map (accounts_of positions) (λ account. map kept_holding (held account))

pub unless : (b : Bool) {P : Type 0} → P → MatchBool b ⊤ P
unless true p = tt
unless false p = p

-- the result, from the first of all faults
module _ (contracts : List Contract) (positions : List PositionRecord) (faults : List BindFault)
    (are : faults ≡ bind_faults contracts positions) where
  pub none_first_is : None ≡ first_of faults → bind_fault contracts positions ≡ None
  unfolding bind_fault
  none_first_is none = ap first_of (sym are) ∙ sym none

  pub first_given : (e : BindFault) → Some e ≡ first_of faults → MatchBool (is_memory e) ⊤ (bindings_of contracts positions ≡ Err e)
  unfolding bindings_of bind_fault
  first_given e some =
      unless (is_memory e) (ap (λ o. ok_unless o (portfolios_of contracts positions)) (ap first_of (sym are) ∙ sym some))

  pub all_given : (all : List AccountHoldings) → None ≡ first_of faults → all ≡ portfolios_of contracts positions
      → bindings_of contracts positions ≡ Ok all
  unfolding bindings_of
  all_given all none is = ap (λ o. ok_unless o (portfolios_of contracts positions)) (none_first_is none) ∙ ap Ok (sym is)

-- gathering records gives their nets and their faults
pub gathered_of : (contracts : List Contract) (positions : List PositionRecord) (ids : List (List ℕ)) (unknown : List BindFault)
    (ledgers : List (List Entry)) (nets : List (List Holding)) → AreNumbers ids → ids ≡ ids_of contracts
    → unknown ≡ foreign_faults ids positions → ledgers ≡ map (entries_of ids (listed_records ids positions)) (accounts_of positions)
    → nets ≡ map (kept_holdings (length ids)) ledgers → AreGathered ids positions unknown nets
gathered_of contracts positions ids unknown ledgers nets numbers is unknown_are ledgers_are nets_are = record {
  contracts = contracts;
  ids_are = sym is;
  apart = numbers.apart;
  unknown_are = unknown_are;
  nets_are = nets_are ∙ ap (map (kept_holdings (length ids))) ledgers_are;
}
