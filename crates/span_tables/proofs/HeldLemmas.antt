-- The holdings of a commodity: each is of a contract that exists, has the contract's whole record, and is within the
-- limits.
use Rattle.std.proofs.Common.{◌≡◌, ℕ, ℤ, suc, zero, ◌<◌, ◌≤◌, Bool, true, false, cond, ltb, pos, List, [], ◌∷◌, length}
use Rattle.std.proofs.Common.{filter, get_or, Option, Some, None, refl, sym, ap, ◌∙◌, subst, arith}
use Rattle.std.specs.Prelude.{All, IfSome, bytes_eq, nat_abs, nat_lt, option_map, slice_get, unwrap_or}
use Rattle.std.specs.List.{cons_option, list_all}
use Rattle.std.proofs.lemmas.Bool.Decides.{nat_tests}
use Rattle.std.proofs.lemmas.List.Elements.{All-nil, All-cons, All-head, All-tail, All-filter}
use Rattle.span_tables.specs.Accepted.{IsContract, IsWithinLimits}
use Rattle.span_tables.specs.Holdings.{AreHeld, AreHoldings, ArePortfolio}
use Rattle.span_tables.specs.Net.{HeldContract, held_contracts, held_of}
use Rattle.span_tables.specs.Tables.{AcceptedTables}
use Rattle.span_tables.specs.declared.limits.TheConstants.{MAX_HELD, MAX_NET}
use Rattle.span_tables.specs.declared.portfolios.Holding.{Holding}
use Rattle.span_tables.specs.declared.records.Contract.{Contract}
use Rattle.span_tables.specs.declared.contracts.Terms.{Terms}
use Rattle.span_tables.specs.near.Gathered.{commodity_held, holdings_in}
use Rattle.span_tables.specs.near.Terms.{AreTermsOf, IsTerms}
use Rattle.span_tables.proofs.TermLemmas.{terms_in_range}
use Rattle.std.proofs.lemmas.Bool.{and_parts}

-- each holding is of a contract that exists
pub all_known : (contracts : ℕ) (hs : List Holding) → list_all (λ h. nat_lt h.contract contracts) hs ≡ true
    → All (λ h. h.contract < contracts) hs
all_known contracts [] all = All-nil (λ h. h.contract < contracts)
all_known contracts (h ∷ hs) all =
    let e = and_parts _ _ all in
    let below : ltb h.contract contracts ≡ true = e.0 in
    All-cons (λ h. h.contract < contracts) h hs (grind (arith, nat_tests)) (all_known contracts hs e.1)

pub get_some : {X : Type 0} (xs : List X) (k : ℕ) (x : X) → k < length xs → x ≡ get_or xs k x → slice_get xs k ≡ Some x
get_some [] k x lt is = absurd (omega arith)
get_some (y ∷ ys) zero x lt is = ap Some (sym is)
get_some (y ∷ ys) (suc k) x lt is = get_some ys k x (omega arith) is

-- an index below the length of a list has an element
pub there : {X : Type 0} (xs : List X) (k : ℕ) → k < length xs → (x : X) × (slice_get xs k ≡ Some x)
there [] k lt = absurd (omega arith)
there (y ∷ ys) zero lt = (y, refl)
there (y ∷ ys) (suc k) lt = there ys k (omega arith)

found : {X : Type 0} (xs : List X) (k : ℕ) (x : X) → slice_get xs k ≡ Some x → x ≡ get_or xs k x
found [] k x is = cc
found (y ∷ ys) zero x is = let same : y ≡ x = cc in sym same
found (y ∷ ys) (suc k) x is = found ys k x is

get_passes : {X : Type 0} (P : X → Type 0) (xs : List X) (k : ℕ) (x : X) → All P xs → slice_get xs k ≡ Some x → P x
get_passes P [] k x all is = cc
get_passes P (y ∷ ys) zero x all is = let same : y ≡ x = cc in subst P same (All-head P y ys all)
get_passes P (y ∷ ys) (suc k) x all is = get_passes P ys k x (All-tail P y ys all) is

-- what a look-up past the end gives
abbrev pub nothing : Holding
nothing = record { contract = 0; net = pos 0 }

-- ---- holdings with their contracts' whole records

module _ (contracts : List Contract) where
  abbrev IsKnown : Holding → Type 0
  IsKnown h = h.contract < length contracts

  -- a known holding appears in the list with its record
  held_next : (h : Holding) (hs : List Holding) (x : Contract) → slice_get contracts h.contract ≡ Some x
      → held_contracts contracts (h ∷ hs) ≡ record { contract = x; net = h.net } ∷ held_contracts contracts hs
  held_next h hs x got = rw got refl

  pub length_held : (hs : List Holding) → All IsKnown hs → length (held_contracts contracts hs) ≡ length hs
  length_held [] known = refl
  length_held (h ∷ hs) known =
      let x = there contracts h.contract (All-head IsKnown h hs known) in
      ap length (held_next h hs x.0 x.1) ∙ ap suc (length_held hs (All-tail IsKnown h hs known))

  -- the held contract at an index has the holding at that index
  pub held_at : (hs : List Holding) (i : ℕ) (h : Holding) (x : Contract) → All IsKnown hs → i < length hs → h ≡ get_or hs i h
      → x ≡ get_or contracts h.contract x → slice_get (held_contracts contracts hs) i ≡ Some (record { contract = x; net = h.net })
  held_at [] i h x known lt at is = absurd (omega arith)
  held_at (g ∷ hs) zero h x known lt at is =
      let below : g.contract < length contracts = All-head IsKnown g hs known in
      let same : g ≡ h = sym at in
      let got : slice_get contracts g.contract ≡ Some x =
      subst (λ (k : Holding). slice_get contracts k.contract ≡ Some x) (sym same)
      (get_some contracts h.contract x (subst IsKnown same below) is) in
      ap (λ (hs : List HeldContract). slice_get hs 0) (held_next g hs x got)
      ∙ ap (λ (k : Holding). (let c : HeldContract = record { contract = x; net = k.net } in Some c)) same
  held_at (g ∷ hs) (suc i) h x known lt at is =
      let y = there contracts g.contract (All-head IsKnown g hs known) in
      ap (λ (hs : List HeldContract). slice_get hs (suc i)) (held_next g hs y.0 y.1)
      ∙ held_at hs i h x (All-tail IsKnown g hs known) (omega arith) at is

  -- a property of each holding with its contract is a property of the held contracts
  module _ (P : HeldContract → Type 0) where
    abbrev Each : Holding → Type 0
    Each h = (x : Contract) → slice_get contracts h.contract ≡ Some x → P (record { contract = x; net = h.net })

    next_all : (o : Option Contract) (h : Holding) (hs : List HeldContract) → slice_get contracts h.contract ≡ o → Each h → All P hs
        → All P (cons_option (option_map (λ x. record { contract = x; net = h.net }) o) hs)
    next_all None h hs is each all = all
    next_all (Some x) h hs is each all = All-cons P _ hs (each x is) all

    all_held : (hs : List Holding) → All Each hs → All P (held_contracts contracts hs)
    all_held [] each = All-nil P
    all_held (h ∷ hs) each =
        next_all (slice_get contracts h.contract) h _ refl (All-head Each h hs each) (all_held hs (All-tail Each h hs each))

  pub are_held : (hs : List Holding) → AreHoldings contracts hs → AreHeld (held_contracts contracts hs)
  are_held hs are = record {
    few = subst (λ n. n ≤ MAX_HELD) (sym (length_held hs are.known)) are.few;
    nets = all_held (λ h. nat_abs h.net ≤ MAX_NET) hs (λ k d lt x is. are.nets k d lt);
    contracts = all_held (λ h. IsContract h.contract) hs (λ k d lt x is. get_passes IsContract contracts _ x are.in_range is);
  }

  -- ---- reading held contracts by index; ks are the held contracts

  pub held_len : (hs : List Holding) (ks : List HeldContract) → held_contracts contracts hs ≡ ks → AreHoldings contracts hs
      → length hs ≡ length ks
  held_len hs ks same are = sym (length_held hs are.known) ∙ ap length same

  module _ (hs : List Holding) (ks : List HeldContract) (same : held_contracts contracts hs ≡ ks) (are : AreHoldings contracts hs)
      (place : ℕ) (within : place < length ks) where
    inside : place < length hs
    inside = let long = held_len hs ks same are in omega (arith, long, within)

    at_place : (h : Holding) (x : Contract) → h ≡ get_or hs place h → x ≡ get_or contracts h.contract x
        → slice_get ks place ≡ Some (record { contract = x; net = h.net })
    at_place h x at is = ap (λ (zs : List HeldContract). slice_get zs place) (sym same) ∙ held_at hs place h x are.known inside at is

    pub place_known : (h : Holding) → h ≡ get_or hs place h → h.contract < length contracts
    place_known h at = subst IsKnown (sym at) (are.known place h inside)

    pub contract_told : (h : Holding) (x : Contract) → h ≡ get_or hs place h → x ≡ get_or contracts h.contract x
        → IfSome (slice_get ks place) (λ held. x ≡ held.contract)
    contract_told h x at is = subst (λ (o : Option HeldContract). IfSome o (λ held. x ≡ held.contract)) (sym (at_place h x at is)) refl

    -- a property of the contract of a holding is one of its held contract
    pub of_contract : (P : Contract → Type 0) (h : Holding) → h ≡ get_or hs place h → IfSome (slice_get contracts h.contract) P
        → IfSome (slice_get ks place) (λ held. P held.contract)
    of_contract P h at is =
        let x = there contracts h.contract (place_known h at) in
        subst (λ (o : Option HeldContract). IfSome o (λ held. P held.contract))
        (sym (at_place h x.0 at (found contracts h.contract x.0 x.1)))
        (subst (λ (o : Option Contract). IfSome o P) x.1 is)

    pub terms_kept : (t : Terms) (h : Holding) → h ≡ get_or hs place h
        → IfSome (slice_get contracts h.contract) (λ x. AreTermsOf x t) → IsTerms t
    terms_kept t h at is =
        let x = there contracts h.contract (place_known h at) in
        terms_in_range x.0 t (get_passes IsContract contracts h.contract x.0 are.in_range x.1)
        (subst (λ (o : Option Contract). IfSome o (λ y. AreTermsOf y t)) x.1 is)

    pub net_told : (h : Holding) → h ≡ get_or hs place h → IfSome (slice_get ks place) (λ held. h.net ≡ held.net)
    net_told h at =
        let x = there contracts h.contract (place_known h at) in
        subst (λ (o : Option HeldContract). IfSome o (λ held. h.net ≡ held.net))
        (sym (at_place h x.0 at (found contracts h.contract x.0 x.1))) refl

    pub net_kept : (h : Holding) → h ≡ get_or hs place h → nat_abs h.net ≤ MAX_NET
    net_kept h at = subst (λ (k : Holding). nat_abs k.net ≤ MAX_NET) (sym at) (are.nets place h inside)

  -- ---- the holdings of a commodity

  if_kept : (b : Bool) (h : Holding) (k : HeldContract) (hs : List Holding) (ks : List HeldContract)
      → held_contracts contracts (h ∷ hs) ≡ k ∷ held_contracts contracts hs → held_contracts contracts hs ≡ ks
      → held_contracts contracts (cond b (h ∷ hs) hs) ≡ cond b (k ∷ ks) ks
  if_kept true h k hs ks next same = next ∙ ap (λ zs. k ∷ zs) same
  if_kept false h k hs ks next same = same

  if_none : (b : Bool) (h : Holding) (hs : List Holding) (ks : List HeldContract)
      → held_contracts contracts (h ∷ hs) ≡ held_contracts contracts hs → held_contracts contracts hs ≡ ks
      → held_contracts contracts (cond b (h ∷ hs) hs) ≡ ks
  if_none true h hs ks next same = next ∙ same
  if_none false h hs ks next same = same

  next_kept : (commodity : List ℕ) (o : Option Contract) (h : Holding) (hs : List Holding) (ks : List HeldContract)
      → slice_get contracts h.contract ≡ o
      → held_contracts contracts hs ≡ filter (λ k. bytes_eq (k.contract).commodity commodity) ks
      → held_contracts contracts (cond (bytes_eq (unwrap_or (option_map (λ x. x.commodity) o) []) commodity) (h ∷ hs) hs)
      ≡ filter (λ k. bytes_eq (k.contract).commodity commodity)
      (cons_option (option_map (λ x. record { contract = x; net = h.net }) o) ks)
  next_kept commodity None h hs ks is same = if_none (bytes_eq [] commodity) h hs _ (rw is refl) same
  next_kept commodity (Some x) h hs ks is same = if_kept (bytes_eq x.commodity commodity) h _ hs _ (held_next h hs x is) same

  -- the holdings of a commodity, with their records, are its held contracts
  pub held_in : (hs : List Holding) (commodity : List ℕ)
      → held_contracts contracts (holdings_in contracts hs commodity) ≡ held_of contracts hs commodity
  unfolding held_of
  held_in [] commodity = refl
  held_in (h ∷ hs) commodity = next_kept commodity (slice_get contracts h.contract) h _ _ refl (held_in hs commodity)

few_if : (b : Bool) (h : Holding) (hs : List Holding) (n : ℕ) → length hs ≤ n → length (cond b (h ∷ hs) hs) ≤ suc n
few_if true h hs n le = omega arith
few_if false h hs n le = omega arith

few_in : (p : Holding → Bool) (hs : List Holding) → length (filter p hs) ≤ length hs
few_in p [] = omega arith
few_in p (h ∷ hs) = few_if (p h) h (filter p hs) (length hs) (few_in p hs)

-- the holdings of a commodity are within the limits
pub are_holdings : (t : AcceptedTables) (hs : List Holding) (commodity : List ℕ) → IsWithinLimits t → ArePortfolio hs
    → list_all (λ h. nat_lt h.contract (length t.contracts)) hs ≡ true
    → AreHoldings t.contracts (holdings_in t.contracts hs commodity)
are_holdings t hs commodity limits portfolio all =
    let test : Holding → Bool = λ h. bytes_eq (commodity_held t.contracts h) commodity in
    record {
      few = let less = few_in test hs in let most = portfolio.few in omega (arith, less, most);
      nets = All-filter test (λ h. nat_abs h.net ≤ MAX_NET) hs portfolio.nets;
      known = All-filter test (λ h. h.contract < length t.contracts) hs (all_known (length t.contracts) hs all);
      in_range = limits.contracts_in_range;
    }

-- the held contract at an index, given by its terms and its net
pub held_here : (held : List HeldContract) (i : ℕ) (t : Terms) (n : ℤ) → i < length held
    → IfSome (slice_get held i) (λ h. AreTermsOf h.contract t) → IfSome (slice_get held i) (λ h. n ≡ h.net)
    → (h : HeldContract) × (h ≡ get_or held i h) × AreTermsOf h.contract t × (n ≡ h.net)
held_here [] i t n lt terms net = absurd (omega arith)
held_here (h ∷ hs) zero t n lt terms net = (h, refl, terms, net)
held_here (h ∷ hs) (suc i) t n lt terms net = held_here hs i t n (omega arith) terms net
