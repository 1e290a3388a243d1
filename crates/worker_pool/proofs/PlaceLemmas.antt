-- Jobs and outcomes by their indices.
use Rattle.std.proofs.Common.{◌≡◌, ℕ, zero, suc, ◌+◌, List, [], ◌∷◌, length, map, drop, Some, slice_get, slice_set}
use Rattle.std.proofs.Common.{◌<◌, ◌^◌, refl, ap, ◌∙◌, subst, arith}
use Rattle.std.proofs.lemmas.List.{drop-drop}
use Rattle.std.proofs.lemmas.List.Elements.{All-rest}
use Rattle.span_tables.specs.Net.{AccountHoldings}
use Rattle.plan_compiler.specs.Compiled.{SetView}
use Rattle.step_scheduler.specs.Jobs.{JobView}
use Rattle.worker_pool.specs.Batches.{AllFit, FitsSet, job_at, jobs_from}
use Rattle.worker_pool.specs.Outcomes.{AreOutcomes, IsOutcome}
use Rattle.worker_pool.specs.declared.outcomes.Outcome.{Outcome}
use Rattle.worker_pool.specs.declared.outcomes.Outcome.TheVariants.{NoMemory}
use Rattle.worker_pool.specs.near.Places.{AreOutcomesOf}

-- `NoMemory` for each account is a list of outcomes for all accounts
pub no_memory_of : (set : SetView) (place : ℕ) (ps : List AccountHoldings)
    → AreOutcomesOf (jobs_from set place ps) (map (λ p. NoMemory p.account) ps)
no_memory_of set place [] = tt
no_memory_of set place (p ∷ ps) = (refl, no_memory_of set (place + 1) ps)

-- outcomes of the jobs are outcomes of the portfolios
pub of_portfolios : (set : SetView) (place : ℕ) (ps : List AccountHoldings) (os : List Outcome)
    → AreOutcomesOf (jobs_from set place ps) os → AreOutcomes set ps os
of_portfolios set place [] [] are = tt
of_portfolios set place [] (o ∷ os) are = absurd are
of_portfolios set place (p ∷ ps) [] are = absurd are
of_portfolios set place (p ∷ ps) (o ∷ os) are = (are.0, of_portfolios set (place + 1) ps os are.1)

-- there are as many outcomes as jobs
pub length_of : (jobs : List JobView) (os : List Outcome) → AreOutcomesOf jobs os → length os ≡ length jobs
length_of [] [] are = refl
length_of [] (o ∷ os) are = absurd are
length_of (j ∷ js) [] are = absurd are
length_of (j ∷ js) (o ∷ os) are = ap suc (length_of js os are.1)

-- after an outcome of a job is set at the job's index, each outcome is still an outcome of its job
pub set_at : (jobs : List JobView) (os : List Outcome) (k : ℕ) (job : JobView) (o : Outcome)
    → AreOutcomesOf jobs os → slice_get jobs k ≡ Some job → IsOutcome job.set job.portfolio o
    → AreOutcomesOf jobs (slice_set os k o)
set_at [] os k job o are at is = absurd (cc)
set_at (j ∷ js) [] k job o are at is = absurd are
set_at (j ∷ js) (x ∷ xs) zero job o are at is =
    let e : job ≡ j = cc in
    (subst (λ (q : JobView). IsOutcome q.set q.portfolio o) e is, are.1)
set_at (j ∷ js) (x ∷ xs) (suc k) job o are at is = (are.0, set_at js xs k job o are.1 at is)

-- if the suffix of a list from an index begins with x, the list has x at that index
get_here : (xs : List JobView) (k : ℕ) (x : JobView) (ys : List JobView) → x ∷ ys ≡ drop k xs → slice_get xs k ≡ Some x
get_here [] zero x ys e = absurd (cc)
get_here [] (suc k) x ys e = absurd (cc)
get_here (z ∷ zs) zero x ys e = let f : z ≡ x = cc in ap Some f
get_here (z ∷ zs) (suc k) x ys e = get_here zs k x ys e

drop_next : (xs : List JobView) (k : ℕ) (x : JobView) (ys : List JobView) → x ∷ ys ≡ drop k xs → ys ≡ drop (k + 1) xs
drop_next xs k x ys e = ap (λ (l : List JobView). drop 1 l) e ∙ drop-drop 1 k xs

-- the next account's job is at the next index, and the jobs of the remaining accounts follow
pub opened : (set : SetView) (ps rest : List AccountHoldings) (jobs : List JobView) (next : ℕ) (p : AccountHoldings)
    → ps ≡ p ∷ rest → jobs_from set next ps ≡ drop next jobs
    → (slice_get jobs next ≡ Some (job_at set p next)) × (jobs_from set (next + 1) rest ≡ drop (next + 1) jobs)
opened set ps rest jobs next p e h =
    let d : job_at set p next ∷ jobs_from set (next + 1) rest ≡ drop next jobs =
    subst (λ (l : List AccountHoldings). jobs_from set next l ≡ drop next jobs) e h in
    (get_here jobs next _ _ d, drop_next jobs next _ _ d)

-- without the first account, the waiting accounts fit the parameter set and go on from the next index
pub without_first : (set : SetView) (ps rest : List AccountHoldings) (jobs : List JobView) (next : ℕ) (p : AccountHoldings)
    → ps ≡ p ∷ rest → (jobs_from set next ps ≡ drop next jobs) × AllFit set ps × (next + length ps < 2 ^ 64)
    → (jobs_from set (next + 1) rest ≡ drop (next + 1) jobs) × AllFit set rest × (next + 1 + length rest < 2 ^ 64)
without_first set ps rest jobs next p e waits =
    let l = ap length e in
    let room = waits.2 in
    ((opened set ps rest jobs next p e waits.0).1, All-rest (FitsSet set) p rest ps e waits.1, omega arith)
