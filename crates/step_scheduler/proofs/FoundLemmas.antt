-- The values of a job's steps that are found when its board is opened.
use Rattle.std.proofs.Common.{◌≡◌, ◌∙◌, ℕ, ◌<◌, ◌+◌, zero, suc, List, [], ◌∷◌, length, drop, map, sym, ap}
use Rattle.std.proofs.Common.{arith, slice_index_or, slice_set, length-set, option_map, unwrap_or, Global, Some}
use Rattle.std.proofs.lemmas.List.{get_or-map, length-map}
use Rattle.std.proofs.lemmas.Option.{slice_get-get_or}
use Rattle.std.specs.declared.sync.Arc.{Arc}
use Rattle.std.specs.Arc.{arc_value}
use Rattle.span_tables.specs.Tables.{commodity_id}
use Rattle.span_tables.specs.Net.{HeldContract, held_of}
use Rattle.span_tables.specs.declared.records.Commodity.{Commodity}
use Rattle.plan_ir.specs.Figures.{held_at, no_commodity}
use Rattle.plan_ir.specs.Plans.{op_at}
use Rattle.plan_ir.specs.declared.ops.Op.TheVariants as op
use Rattle.plan_ir.specs.declared.values.Value.{Value}
use Rattle.plan_ir.specs.declared.values.Value.TheVariants as value
use Rattle.plan_compiler.specs.Meaning.{meaning}
use Rattle.step_scheduler.specs.Jobs.{JobView, meaning_at}
use Rattle.step_scheduler.specs.near.Slots.{StoresMeanings, Slot}
use Rattle.step_scheduler.proofs.Slots.{stores_more}

-- the held contracts of each commodity
abbrev pub all_held : JobView → List (List HeldContract)
all_held job =
    map (λ c. held_of job.set.tables.contracts (job.portfolio).holdings c.id) job.set.tables.commodities

-- the slots after the values of the first commodities were stored, and the held contracts of the commodities that are
-- left
pub record AreFound (job : JobView) (commodity : ℕ) (left : List (List HeldContract)) (slots : List Slot) : Type 0 where
  pub long : length slots ≡ length job.set.plan
  pub means : StoresMeanings job slots
  pub others : left ≡ drop commodity (all_held job)

-- the first element after the first i elements were dropped
drop_first : {X : Type 0} (xs : List X) (i : ℕ) (x : X) (rest : List X) → drop i xs ≡ x ∷ rest
    → (i < length xs) × (((d : X) → slice_index_or xs i d ≡ x) × (drop (i + 1) xs ≡ rest))
drop_first [] zero x rest e = absurd (let n = ap length e in omega (arith, n))
drop_first [] (suc i) x rest e = absurd (let n = ap length e in omega (arith, n))
drop_first (y ∷ xs) zero x rest e = (omega arith, ((λ d. ap (λ l. slice_index_or l 0 d) e), ap (drop 1) e))
drop_first (y ∷ xs) (suc i) x rest e =
    let later = drop_first xs i x rest e in
    let same : suc i + 1 ≡ suc (i + 1) = omega arith in
    (omega (arith, later.0), (later.1.0, ap (λ n. drop n (y ∷ xs)) same ∙ later.1.1))

-- the held contracts of a commodity are at the index that is its number
held_read : (job : JobView) (c : ℕ) (held : List HeldContract) → c < length job.set.tables.commodities
    → ((d : List HeldContract) → slice_index_or (all_held job) c d ≡ held)
    → held_at job.set.tables (job.portfolio).holdings c ≡ held
held_read job c held h at =
    let commodities : List Commodity = job.set.tables.commodities in
    let id : commodity_id job.set.tables c ≡ (slice_index_or commodities c no_commodity).id =
    ap (λ o. unwrap_or (option_map (λ (x : Commodity). x.id) o) []) (slice_get-get_or commodities c no_commodity h) in
    ap (held_of job.set.tables.contracts (job.portfolio).holdings) id
    ∙ sym (get_or-map (λ (x : Commodity). held_of job.set.tables.contracts (job.portfolio).holdings x.id) commodities c
    no_commodity [] h)
    ∙ at []

-- the value of one more commodity is stored
pub found_more : (job : JobView) (c step : ℕ) (held : List HeldContract) (left left' : List (List HeldContract))
    (slots : List Slot) (v : Arc Value Global) → AreFound job c left slots → left ≡ held ∷ left'
    → step < length job.set.plan → op_at job.set.plan step ≡ op.Gather c → arc_value v ≡ value.Held held
    → AreFound job (c + 1) left' (slice_set slots step (Some v))
found_more job c step held left left' slots v found e h is_gather right =
    let first = drop_first (all_held job) c held left' (sym found.others ∙ e) in
    let many = length-map job.set.tables.commodities
    (λ (x : Commodity). held_of job.set.tables.contracts (job.portfolio).holdings x.id) in
    let read = held_read job c held (omega (arith, first.0, many)) first.1.0 in
    let means : arc_value v ≡ meaning_at job step =
    right ∙ ap value.Held (sym read) ∙ sym (ap (meaning job.set.tables (job.portfolio).holdings) is_gather) in
    record {
      long = length-set slots step (Some v) ∙ found.long;
      means = stores_more job slots step v (let l = found.long in omega (arith, l, h)) found.means means;
      others = sym first.1.1;
    }
