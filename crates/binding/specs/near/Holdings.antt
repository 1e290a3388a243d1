-- The nets of all accounts, and the faults found in them.
use Rattle.std.specs.Prelude.{ℕ, Bool, false, true, not, ◌&&◌, ◌==◌, nat_lt, List, [], ◌++◌, filter, length, map, zip}
use Rattle.std.specs.Prelude.{Option, Some, None, position, slice_index_or, bytes_eq, nat_abs}
use Rattle.std.specs.List.{list_any}
use Rattle.span_tables.specs.Net.{AccountHoldings, accounts_of}
use Rattle.span_tables.specs.declared.limits.TheConstants.{MAX_NET, MAX_HELD}
use Rattle.span_tables.specs.declared.portfolios.Holding.{Holding}
use Rattle.span_tables.specs.declared.records.Contract.{Contract}
use Rattle.span_tables.specs.declared.records.PositionRecord.{PositionRecord}
use Rattle.binding.specs.Binding.{all_unfit}
use Rattle.binding.specs.declared.over_limits.Excess.{Excess}
use Rattle.binding.specs.declared.over_limits.Limit.{Limit}
use Rattle.binding.specs.declared.over_limits.Limit.TheVariants as limit
use Rattle.binding.specs.declared.over_limits.Told.{Told}
use Rattle.binding.specs.declared.faults.BindFault.{BindFault}
use Rattle.binding.specs.declared.faults.BindFault.TheVariants as fault

-- two names are the same, or both are missing
abbrev pub is_same_name : Option (List ℕ) → Option (List ℕ) → Bool
is_same_name (Some x) (Some y) = bytes_eq x y
is_same_name None None = true
is_same_name _ _ = false

-- the ids of contracts, by their numbers
abbrev pub ids_of : List Contract → List (List ℕ)
ids_of contracts = map (λ x. x.id) contracts

-- the net is over the limit, long or short
abbrev pub is_over : Holding → Bool
is_over h = nat_lt MAX_NET (nat_abs h.net)

-- the net in contract c is over the limit
abbrev pub is_over_at : ℕ → List Holding → Bool
is_over_at c holdings = list_any (λ h. (h.contract == c) && is_over h) holdings

-- more contracts are held than allowed
abbrev pub are_many : List Holding → Bool
are_many holdings = nat_lt MAX_HELD (length holdings)

-- the part of holdings that is over a limit: the nets over the limit, and whether more contracts are held than allowed
abbrev pub excess_of : List Holding → Excess
excess_of holdings = record { over = filter is_over holdings; many = are_many holdings }

-- some net of the holdings, or the number of contracts, exceeds a limit
abbrev pub exceeds_any : Limit → Excess → Bool
exceeds_any limit.Net excess = list_any is_over excess.over
exceeds_any limit.Held excess = excess.many

-- holdings exceed a limit at a contract, given by its number; at an unknown contract they exceed none
abbrev pub exceeds_in : Limit → Option ℕ → Excess → Bool
exceeds_in limit.Net (Some c) excess = is_over_at c excess.over
exceeds_in limit.Held (Some c) excess = excess.many
exceeds_in _ None excess = false

-- an account's holdings exceed a limit at a contract, both given by their indexes
abbrev pub exceeds_at : Limit → Option ℕ → Option ℕ → List Excess → Bool
exceeds_at limit (Some a) c excesses = exceeds_in limit c (slice_index_or excesses a (excess_of []))
exceeds_at limit None c excesses = false

-- a record exceeds a limit
abbrev pub exceeds : Limit → List (List ℕ) → List (List ℕ) → List Excess → PositionRecord → Bool
exceeds limit ids accounts excesses p =
    exceeds_at limit (position (bytes_eq p.account) accounts) (position (bytes_eq p.contract) ids) excesses

-- the fault of a record that exceeds a limit
abbrev pub fault_of : Limit → ℕ → List ℕ → BindFault
fault_of limit.Net = fault.NetOutOfRange
fault_of limit.Held = fault.TooManyHeld

-- two records are reported as one: for a net if they have the same account and contract, for held contracts if they
-- have the same account
abbrev pub same_told : Limit → PositionRecord → PositionRecord → Bool
same_told limit.Net x p = bytes_eq x.account p.account && bytes_eq x.contract p.contract
same_told limit.Held x p = bytes_eq x.account p.account

-- a record exceeds a limit, and no earlier record that is reported as one with it does
abbrev pub exceeds_anew : Limit → List (List ℕ) → List (List ℕ) → List Excess → List PositionRecord → PositionRecord → Bool
exceeds_anew limit ids accounts excesses earlier p =
    not (list_any (λ x. same_told limit x p && exceeds limit ids accounts excesses x) earlier)
    && exceeds limit ids accounts excesses p

-- the faults of the records that exceed a limit, from the excess of each account
unfoldable pub limit_faults : Limit → List (List ℕ) → List Excess → List PositionRecord → List BindFault
limit_faults limit ids excesses positions =
    all_unfit (fault_of limit) (exceeds_anew limit ids (accounts_of positions) excesses) positions

-- all faults, with the faults of records of unknown contracts given
unfoldable pub found_faults : List (List ℕ) → List BindFault → List Excess → List PositionRecord → List BindFault
found_faults ids unknown excesses positions =
    unknown ++ limit_faults limit.Net ids excesses positions ++ limit_faults limit.Held ids excesses positions

-- the key under which a record is reported
abbrev pub told_as : Limit → List ℕ → List ℕ → Told
told_as limit.Net account contract = record { account = account; contract = Some contract }
told_as limit.Held account contract = record { account = account; contract = None }

-- two keys are the same
abbrev pub is_same_told : Told → Told → Bool
is_same_told x y = bytes_eq x.account y.account && is_same_name x.contract y.contract

-- the key is in the list
abbrev pub is_told : List Told → Told → Bool
is_told told t = list_any (is_same_told t) told

-- each account with its nets
abbrev pub portfolios_from : List (List ℕ) → List (List Holding) → List AccountHoldings
portfolios_from accounts nets = map (λ n. record { account = n.0; holdings = n.1 }) (zip accounts nets)
