-- Properties that stored nets share with the exact nets.
use Rattle.std.proofs.Common.{◌≡◌, ℕ, suc, ◌+◌, ◌≤◌, Bool, true, false, cond, ◌||◌, ◌&&◌, List, []}
use Rattle.std.proofs.Common.{◌∷◌, map, Option, Some, None, refl, sym, ap, subst, ◌∙◌, arith}
use Rattle.std.specs.Prelude.{All, nat_abs, nat_lt, pos, ◌==◌}
use Rattle.std.specs.List.Sorted.{IsStrictlyIncreasing}
use Rattle.std.proofs.lemmas.Bool.{le-ltb}
use Rattle.std.proofs.lemmas.List.{length-map}
use Rattle.span_tables.specs.Holdings.{ArePortfolio}
use Rattle.span_tables.specs.declared.limits.TheConstants.{MAX_NET, MAX_HELD}
use Rattle.span_tables.specs.declared.portfolios.Holding.{Holding}
use Rattle.binding.specs.near.Holdings.{are_many, exceeds_in, excess_of, is_over, is_over_at}
use Rattle.binding.specs.near.Sums.{kept_holding}
use Rattle.binding.specs.declared.over_limits.Limit.{Limit}
use Rattle.binding.specs.declared.over_limits.Limit.TheVariants as limit
use Rattle.binding.proofs.LimitLaws.{over_filtered}

-- the contracts are the same
kept_contracts : (hs : List Holding) → map (λ h. h.contract) (map kept_holding hs) ≡ map (λ h. h.contract) hs
kept_contracts [] = refl
kept_contracts (h ∷ hs) = ap (λ cs. h.contract ∷ cs) (kept_contracts hs)

pub kept_rise : (hs : List Holding) → IsStrictlyIncreasing (map (λ h. h.contract) hs)
    → IsStrictlyIncreasing (map (λ h. h.contract) (map kept_holding hs))
kept_rise hs rise = subst IsStrictlyIncreasing (sym (kept_contracts hs)) rise

-- a stored net is over the limit exactly if the net is
over_kept : (h : Holding) → is_over (kept_holding h) ≡ is_over h
over_kept h = by (is_over h) refl
  where
    by : (b : Bool) → is_over h ≡ b → nat_lt MAX_NET (nat_abs (cond b (pos (MAX_NET + 1)) h.net)) ≡ b
    by true e = refl
    by false e = e

pub over_at_kept : (c : ℕ) (hs : List Holding) → is_over_at c (map kept_holding hs) ≡ is_over_at c hs
over_at_kept c [] = refl
over_at_kept c (h ∷ hs) =
    let here = over_kept h in
    let rest = over_at_kept c hs in
    λ i. ((h.contract == c) && here i) || rest i

pub many_kept : (hs : List Holding) → are_many (map kept_holding hs) ≡ are_many hs
many_kept hs = ap (nat_lt MAX_HELD) (length-map hs kept_holding)

-- stored nets exceed a limit exactly if the nets do
pub in_kept : (l : Limit) (c : Option ℕ) (hs : List Holding)
    → exceeds_in l c (excess_of (map kept_holding hs)) ≡ exceeds_in l c (excess_of hs)
in_kept limit.Net (Some c) hs = over_filtered c (map kept_holding hs) ∙ over_at_kept c hs ∙ sym (over_filtered c hs)
in_kept limit.Held (Some c) hs = many_kept hs
in_kept _ None hs = refl

-- a net within the limit is stored unchanged
pub kept_same : (h : Holding) → nat_abs h.net ≤ MAX_NET → kept_holding h ≡ h
kept_same h within =
    let e : nat_lt MAX_NET (nat_abs h.net) ≡ false = le-ltb MAX_NET (nat_abs h.net) (omega (arith, within)) in
    ap (λ b. (let it : Holding = record { contract = h.contract; net = cond b (pos (MAX_NET + 1)) h.net } in it)) e

pub each_same : (hs : List Holding) → All (λ h. nat_abs h.net ≤ MAX_NET) hs → map kept_holding hs ≡ hs
each_same [] all = refl
each_same (h ∷ hs) all =
    let here = kept_same h (all 0 h (omega arith)) in
    let rest = each_same hs (λ k d lt. all (suc k) d (omega (arith, lt))) in
    λ i. here i ∷ rest i

pub all_same : (nets : List (List Holding)) → All ArePortfolio nets → map (map kept_holding) nets ≡ nets
all_same [] all = refl
all_same (hs ∷ nets) all =
    let here = each_same hs (all 0 hs (omega arith)).nets in
    let rest = all_same nets (λ k d lt. all (suc k) d (omega (arith, lt))) in
    λ i. here i ∷ rest i
