-- Properties of positions without a fault, and the order of faults.
use Rattle.std.proofs.Common.{◌≡◌, ℕ, ◌≤◌, Bool, true, false, ◌&&◌, List, length, map, Some, None, sym, ap, ◌∙◌}
use Rattle.std.specs.Prelude.{nat_abs, nat_lt}
use Rattle.std.specs.List.{list_any}
use Rattle.span_tables.specs.Names.{is_among}
use Rattle.span_tables.specs.Net.{net_of, holdings_of}
use Rattle.span_tables.specs.declared.limits.TheConstants.{MAX_NET, MAX_HELD}
use Rattle.span_tables.specs.declared.records.Contract.{Contract}
use Rattle.span_tables.specs.declared.records.PositionRecord.{PositionRecord}
use Rattle.binding.specs.Binding.{first_unfit, is_known, is_unknown, is_first_of_contract, known_records}
use Rattle.binding.specs.Binding.{is_first_of_account, exceeds_net, exceeds_held, bind_fault, bind_faults}
use Rattle.binding.specs.declared.faults.BindFault.{BindFault}
use Rattle.binding.specs.declared.faults.BindFault.TheVariants as fault
use Rattle.binding.proofs.KnownRecords.{all_pass}
use Rattle.binding.proofs.OwnerLaws.{first_is_held, first_is_net, first_is_unknown, fit_from, none_from}
use Rattle.binding.proofs.PortfolioLaws.{net_within, few_from}

-- each record is of a known contract, and the nets and the number of contracts of each account are within the limits
pub record IsFit (contracts : List Contract) (all : List PositionRecord) : Type 0 where
  pub known : list_any (is_unknown contracts) all ≡ false
  pub within : list_any (exceeds_net all) all ≡ false
  pub few : list_any (exceeds_held contracts all) all ≡ false

module _ (contracts : List Contract) (all : List PositionRecord) where
  abbrev over : List ℕ → List ℕ → Bool
  over account contract = nat_lt MAX_NET (nat_abs (net_of (known_records contracts all) account contract))

  abbrev many : List ℕ → Bool
  many account = nat_lt MAX_HELD (length (holdings_of contracts (known_records contracts all) account))

  known_all : list_any (is_unknown contracts) all ≡ false → known_records contracts all ≡ all
  known_all known = all_pass (is_known contracts) all known

  -- records without a fault are fit
  pub fit_of_none : bind_fault contracts all ≡ None → IsFit contracts all
  unfolding bind_fault bind_faults
  fit_of_none none =
      let fit = fit_from (λ (p : PositionRecord). p.account) (λ p. p.contract) fault.UnknownContract fault.NetOutOfRange fault.TooManyHeld
      contracts over many all none in
      let same = sym (known_all fit.0) in
      record {
        known = fit.0;
        within = ap (λ ks. list_any (exceeds_net ks) all) same ∙ fit.1;
        few = ap (λ ks. list_any (exceeds_held contracts ks) all) same ∙ fit.2;
      }

  -- fit records have no fault
  pub none_of_fit : IsFit contracts all → bind_fault contracts all ≡ None
  unfolding bind_fault bind_faults
  none_of_fit fit =
      let same = known_all fit.known in
      none_from (λ (p : PositionRecord). p.account) (λ p. p.contract) fault.UnknownContract fault.NetOutOfRange fault.TooManyHeld
      contracts over many all fit.known
      (ap (λ ks. list_any (exceeds_net ks) all) same ∙ fit.within) (ap (λ ks. list_any (exceeds_held contracts ks) all) same ∙ fit.few)

  pub all_known : bind_fault contracts all ≡ None → list_any (is_unknown contracts) all ≡ false
  all_known none = (fit_of_none none).known

  pub nets_within : bind_fault contracts all ≡ None → (account contract : List ℕ) → nat_abs (net_of all account contract) ≤ MAX_NET
  nets_within none account contract = net_within all account contract (fit_of_none none).within

  pub few_held : bind_fault contracts all ≡ None → (account : List ℕ) → is_among (map (λ p. p.account) all) account ≡ true
      → length (holdings_of contracts all account) ≤ MAX_HELD
  few_held none account among = few_from contracts all account all among (fit_of_none none).few

  pub unknown_first : (y : BindFault) → first_unfit fault.UnknownContract (λ earlier p. is_unknown contracts p) all ≡ Some y
      → bind_fault contracts all ≡ Some y
  unfolding bind_fault bind_faults
  unknown_first y e =
      first_is_unknown (λ (p : PositionRecord). p.account) (λ p. p.contract) fault.UnknownContract fault.NetOutOfRange fault.TooManyHeld
      contracts over many all y e

  pub net_second : (y : BindFault) → list_any (is_unknown contracts) all ≡ false
      → first_unfit fault.NetOutOfRange (λ earlier p. is_first_of_contract earlier p && exceeds_net all p) all ≡ Some y
      → bind_fault contracts all ≡ Some y
  unfolding bind_fault bind_faults
  net_second y known e =
      first_is_net (λ (p : PositionRecord). p.account) (λ p. p.contract) fault.UnknownContract fault.NetOutOfRange fault.TooManyHeld
      contracts over many all known y
      (ap (λ ks. first_unfit fault.NetOutOfRange (λ earlier p. is_first_of_contract earlier p && exceeds_net ks p) all) (known_all known)
      ∙ e)

  pub held_last : (y : BindFault) → list_any (is_unknown contracts) all ≡ false → list_any (exceeds_net all) all ≡ false
      → first_unfit fault.TooManyHeld (λ earlier p. is_first_of_account earlier p && exceeds_held contracts all p) all ≡ Some y
      → bind_fault contracts all ≡ Some y
  unfolding bind_fault bind_faults
  held_last y known within e =
      let same = known_all known in
      first_is_held (λ (p : PositionRecord). p.account) (λ p. p.contract) fault.UnknownContract fault.NetOutOfRange fault.TooManyHeld
      contracts over many all known (ap (λ ks. list_any (exceeds_net ks) all) same ∙ within)
      ∙ ap (λ ks. first_unfit fault.TooManyHeld (λ earlier p. is_first_of_account earlier p && exceeds_held contracts ks p) all) same ∙ e
