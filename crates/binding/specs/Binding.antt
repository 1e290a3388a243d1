-- Which positions fit the accepted tables.
use Rattle.std.specs.Prelude.{ℕ, Bool, not, ◌&&◌, nat_lt, if◌then◌else◌, List, ◌++◌, filter}
use Rattle.std.specs.Prelude.{length, Option, Some, None, bytes_eq, nat_abs, Result, true, false}
use Rattle.std.specs.List.{list_any}
use Rattle.span_tables.specs.Faults.{all_faults, first_of, ok_unless}
use Rattle.span_tables.specs.Net.{AccountHoldings, net_of, holdings_of, portfolios_of}
use Rattle.span_tables.specs.declared.records.Contract.{Contract}
use Rattle.span_tables.specs.declared.records.PositionRecord.{PositionRecord}
use Rattle.binding.specs.declared.faults.BindFault.{BindFault}
use Rattle.binding.specs.declared.faults.BindFault.TheVariants as fault
use Rattle.span_tables.specs.declared.limits.TheConstants.{MAX_NET, MAX_HELD}

-- a record is of a contract that the tables have
abbrev pub is_of_known : {R : Type 0} → (R → List ℕ) → List Contract → R → Bool
is_of_known contract contracts r = list_any (λ x. bytes_eq x.id (contract r)) contracts

-- a record is of a contract that the tables have, and passes a test among the earlier records of such contracts
abbrev pub among : {R : Type 0} → (R → List ℕ) → List Contract → (List R → R → Bool) → List R → R → Bool
among contract contracts test earlier r =
    is_of_known contract contracts r && test (filter (is_of_known contract contracts) earlier) r

-- the position is of a contract that the tables have
abbrev pub is_known : List Contract → PositionRecord → Bool
is_known contracts p = is_of_known (λ (q : PositionRecord). q.contract) contracts p

-- the record is of a contract that the tables do not have
abbrev pub is_unknown : List Contract → PositionRecord → Bool
is_unknown contracts p = not (is_known contracts p)

-- the records of contracts that the tables have
abbrev pub known_records : List Contract → List PositionRecord → List PositionRecord
known_records contracts records = filter (is_known contracts) records

-- the record is the first of its account and contract
abbrev pub is_first_of_contract : List PositionRecord → PositionRecord → Bool
is_first_of_contract earlier p =
    not (list_any (λ x. bytes_eq x.account p.account && bytes_eq x.contract p.contract) earlier)

-- the record is the first of its account
abbrev pub is_first_of_account : List PositionRecord → PositionRecord → Bool
is_first_of_account earlier p = not (list_any (λ x. bytes_eq x.account p.account) earlier)

-- the net over all records is over the limit, long or short
abbrev pub exceeds_net : List PositionRecord → PositionRecord → Bool
exceeds_net all p = nat_lt MAX_NET (nat_abs (net_of all p.account p.contract))

-- the account holds more contracts than it may
abbrev pub exceeds_held : List Contract → List PositionRecord → PositionRecord → Bool
exceeds_held contracts all p = nat_lt MAX_HELD (length (holdings_of contracts all p.account))

-- each record with a fault, as a fault with the record's number and a name from the record
abbrev pub all_unfit_by : {R F : Type 0} → (R → List ℕ) → (ℕ → List ℕ → F) → (List R → R → Bool) → List R → List F
all_unfit_by name_of fault unfit all =
    all_faults (λ earlier r. if unfit earlier r then Some (λ at. fault at (name_of r)) else None) all

-- the first of these faults
abbrev pub first_unfit_by : {R F : Type 0} → (R → List ℕ) → (ℕ → List ℕ → F) → (List R → R → Bool) → List R → Option F
first_unfit_by name_of fault unfit all = first_of (all_unfit_by name_of fault unfit all)

-- each position record with a fault, as a fault with the record's number and account
abbrev pub all_unfit : (ℕ → List ℕ → BindFault) → (List PositionRecord → PositionRecord → Bool)
    → List PositionRecord → List BindFault
all_unfit fault unfit all = all_unfit_by (λ (p : PositionRecord). p.account) fault unfit all

-- the first of these faults
abbrev pub first_unfit : (ℕ → List ℕ → BindFault) → (List PositionRecord → PositionRecord → Bool)
    → List PositionRecord → Option BindFault
first_unfit fault unfit all = first_of (all_unfit fault unfit all)

-- The faults of records that each have an owner and a contract, built by `unknown`, `net` and `held`. `is_over` says
-- whether an owner's net in a contract is over the limit, and `has_many` whether an owner holds too many contracts. The
-- order is: each record of an unknown contract, then each net over the limit, then each owner with too many contracts.
-- A net is reported at the first record of its owner and contract, and too many contracts at the first record of the
-- owner. Records of unknown contracts are ignored for these two faults, except that they are counted in the record
-- numbers.
abbrev pub owner_faults : {R F : Type 0} → (R → List ℕ) → (R → List ℕ) → (ℕ → List ℕ → F) → (ℕ → List ℕ → F) → (ℕ → List ℕ → F)
    → List Contract → (List ℕ → List ℕ → Bool) → (List ℕ → Bool) → List R → List F
owner_faults owner contract unknown net held contracts is_over has_many all =
    all_unfit_by owner unknown (λ earlier r. not (is_of_known contract contracts r)) all
    ++ all_unfit_by owner net (among contract contracts (λ earlier r.
    not (list_any (λ x. bytes_eq (owner x) (owner r) && bytes_eq (contract x) (contract r)) earlier) && is_over (owner r) (contract r))) all
    ++ all_unfit_by owner held (among contract contracts (λ earlier r.
    not (list_any (λ x. bytes_eq (owner x) (owner r)) earlier) && has_many (owner r))) all

-- the faults of positions; the owner of a record is its account
unfoldable pub bind_faults : List Contract → List PositionRecord → List BindFault
bind_faults contracts all =
    let known = known_records contracts all in
    owner_faults (λ p. p.account) (λ p. p.contract) fault.UnknownContract fault.NetOutOfRange fault.TooManyHeld contracts
    (λ account contract. nat_lt MAX_NET (nat_abs (net_of known account contract)))
    (λ account. nat_lt MAX_HELD (length (holdings_of contracts known account))) all

-- the first of these faults
unfoldable pub bind_fault : List Contract → List PositionRecord → Option BindFault
bind_fault contracts all = first_of (bind_faults contracts all)

-- the portfolios of positions, or their fault
unfoldable pub bindings_of : List Contract → List PositionRecord → Result (List AccountHoldings) BindFault
bindings_of contracts all = ok_unless (bind_fault contracts all) (portfolios_of contracts all)

-- the fault is out of memory, which the definition leaves open
abbrev pub is_memory : BindFault → Bool
is_memory fault.OutOfMemory = true
is_memory _ = false
