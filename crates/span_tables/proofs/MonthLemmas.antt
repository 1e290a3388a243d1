-- The tiers of a spread are found among the tiers of its commodity.
use Rattle.std.proofs.Common.{◌≡◌, ℕ, ◌<◌, Bool, true, false, cond, List, [], ◌∷◌}
use Rattle.std.proofs.Common.{length, map, filter, get_or, refl, sym, ap, ◌∙◌, subst, arith}
use Rattle.std.specs.Prelude.{◌&&◌, ◌==◌, bytes_eq, find}
use Rattle.span_tables.specs.Accepted.{commodity_number}
use Rattle.span_tables.specs.Tables.{intra_spread, month_leg}
use Rattle.span_tables.specs.declared.records.Commodity.{Commodity}
use Rattle.span_tables.specs.declared.records.Intra.{Intra}
use Rattle.span_tables.specs.declared.records.IntraLeg.{IntraLeg}
use Rattle.span_tables.specs.declared.records.IntraRecord.{IntraRecord}
use Rattle.span_tables.specs.declared.legs.MonthLeg.{MonthLeg}
use Rattle.span_tables.specs.declared.records.Tier.{Tier}
use Rattle.span_tables.proofs.GroupLemmas.{at_map, lengths}
use Rattle.span_tables.proofs.Places.{place_key}

find_if : {X : Type 0} (b : Bool) (p q : X → Bool) (x : X) (xs : List X) → q x ≡ b
    → find (λ y. q y && p y) (filter q xs) ≡ find (λ y. q y && p y) xs
    → find (λ y. q y && p y) (cond b (x ∷ filter q xs) (filter q xs)) ≡ find (λ y. q y && p y) (x ∷ xs)
find_if true p q x xs is more = rw is (rw more refl)
find_if false p q x xs is more = rw is more

-- a search among the elements that pass the filter finds the same element
find_kept : {X : Type 0} (p q : X → Bool) (xs : List X) → find (λ y. q y && p y) (filter q xs) ≡ find (λ y. q y && p y) xs
find_kept p q [] = refl
find_kept p q (x ∷ xs) = find_if (q x) p q x xs refl (find_kept p q xs)

map_agree : {X Y : Type 0} (f g : X → Y) → ((x : X) → f x ≡ g x) → (xs : List X) → map f xs ≡ map g xs
map_agree f g same [] = refl
map_agree f g same (x ∷ xs) = let rest = map_agree f g same xs in λ i. same x i ∷ rest i

same_leg : (tiers : List Tier) (commodity : List ℕ) (leg : IntraLeg)
    → month_leg (filter (λ t. bytes_eq t.commodity commodity) tiers) commodity leg ≡ month_leg tiers commodity leg
same_leg tiers commodity leg =
    rw (find_kept (λ (t : Tier). t.number == leg.tier) (λ (t : Tier). bytes_eq t.commodity commodity) tiers) refl

same_spread : (tiers : List Tier) (s : IntraRecord)
    → intra_spread (filter (λ t. bytes_eq t.commodity s.commodity) tiers) s ≡ intra_spread tiers s
same_spread tiers s =
    let legs = map_agree (month_leg (filter (λ t. bytes_eq t.commodity s.commodity) tiers) s.commodity) (month_leg tiers s.commodity)
    (same_leg tiers s.commodity) s.legs.items in
    ap (λ (ms : List MonthLeg). (let r : Intra = record { priority = s.priority; rate = s.rate; legs = ms } in r)) legs

-- the list at the number of a commodity has its tiers
pub tiers_listed : {V : Type 0} (items : V → List Tier) (cs : List Commodity) (tiers : List Tier) (lists : List V) (n : ℕ) (v : V)
    (name : List ℕ)
    → map items lists ≡ map (λ c. filter (λ t. bytes_eq t.commodity c.id) tiers) cs → n ≡ commodity_number cs name
    → n < length lists → v ≡ get_or lists n v
    → items v ≡ filter (λ t. bytes_eq t.commodity name) tiers
tiers_listed items [] tiers lists n v name are at lt is =
    let none : length lists ≡ 0 = lengths items (λ (c : Commodity). filter (λ t. bytes_eq t.commodity c.id) tiers) lists [] are in
    absurd (omega arith)
tiers_listed items (c ∷ cs) tiers lists n v name are at lt is =
    let long : length lists ≡ length (c ∷ cs) =
    lengths items (λ (d : Commodity). filter (λ t. bytes_eq t.commodity d.id) tiers) lists (c ∷ cs) are in
    let within : n < length (c ∷ cs) = omega (arith, long) in
    let placed : commodity_number (c ∷ cs) name < length (c ∷ cs) = subst (λ m. m < length (c ∷ cs)) at within in
    let same : (get_or (c ∷ cs) n c).id ≡ name = ap (λ m. (get_or (c ∷ cs) m c).id) at
    ∙ place_key (λ (d : Commodity). d.id) (c ∷ cs) name c placed in
    ap items is ∙ sym (at_map items lists n v [] lt) ∙ ap (λ zs. get_or zs n []) are
    ∙ at_map (λ (d : Commodity). filter (λ t. bytes_eq t.commodity d.id) tiers) (c ∷ cs) n c [] within
    ∙ ap (λ m. filter (λ t. bytes_eq t.commodity m) tiers) same

-- the tiers of a spread's own commodity give the same months as all tiers
pub tiers_found : {V : Type 0} (items : V → List Tier) (cs : List Commodity) (tiers : List Tier) (lists : List V) (n : ℕ) (v : V)
    (s : IntraRecord)
    → map items lists ≡ map (λ c. filter (λ t. bytes_eq t.commodity c.id) tiers) cs → n ≡ commodity_number cs s.commodity
    → n < length lists → v ≡ get_or lists n v
    → intra_spread (items v) s ≡ intra_spread tiers s
tiers_found items cs tiers lists n v s are at lt is =
    ap (λ ts. intra_spread ts s) (tiers_listed items cs tiers lists n v s.commodity are at lt is) ∙ same_spread tiers s
