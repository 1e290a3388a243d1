-- The terms of contracts, from which figures are computed.
use Rattle.std.specs.Prelude.{◌≡◌, ◌≤◌, ◌*◌, ℕ, ◌*ℤ◌, pos, nat_abs, List, length, map, All, option_map, slice_get, unwrap_or}
use Rattle.span_tables.specs.Accepted.{commodity_number}
use Rattle.span_tables.specs.declared.contracts.Terms.{Terms}
use Rattle.span_tables.specs.declared.limits.TheConstants.{MAX_ARRAY_VALUE, MAX_DELTA, MAX_OPTION_VALUE, MAX_SCALE, SCENARIOS}
use Rattle.span_tables.specs.declared.records.Commodity.{Commodity}
use Rattle.span_tables.specs.declared.records.Contract.{Contract}

-- the terms of a contract of the commodity with this number
abbrev pub numbered_terms : ℕ → Contract → Terms
numbered_terms number x = record {
  values = x.values;
  units = x.delta *ℤ pos x.scale;
  month = x.month;
  option_value = x.extras.option_value;
  commodity = number;
  kind = x.kind;
}

-- the terms of a contract, with the number that its commodity has among these
abbrev pub terms_of : List Commodity → Contract → Terms
terms_of commodities x = numbered_terms (commodity_number commodities x.commodity) x

-- the records and the terms of contracts
pub record ContractsView : Type 0 where
  pub records : List Contract
  pub terms : List Terms

-- the terms are the terms of the records, for some commodities
pub record AreTerms (records : List Contract) (terms : List Terms) : Type 0 where
  pub commodities : List Commodity
  pub are : terms ≡ map (terms_of commodities) records

-- the terms have the fields of the contract's record
pub record AreTermsOf (x : Contract) (t : Terms) : Type 0 where
  pub values : t.values ≡ x.values
  pub units : t.units ≡ x.delta *ℤ pos x.scale
  pub month : t.month ≡ x.month
  pub option_value : t.option_value ≡ x.extras.option_value
  pub kind : t.kind ≡ x.kind

-- the delta, risk array and option value are in range
pub record IsTerms (t : Terms) : Type 0 where
  pub units : nat_abs t.units ≤ MAX_DELTA * MAX_SCALE
  pub sixteen : length t.values ≡ SCENARIOS
  pub values : All (λ v. nat_abs v ≤ MAX_ARRAY_VALUE) t.values
  pub option_value : t.option_value ≤ MAX_OPTION_VALUE

-- the commodity number of the contract with a number, or 0 if there is no such contract
abbrev pub number_at : List Terms → ℕ → ℕ
number_at terms contract = unwrap_or (option_map (λ t. t.commodity) (slice_get terms contract)) 0
