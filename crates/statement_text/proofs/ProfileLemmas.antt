-- Under profile 1 no contract of a file has an option value, and no holding has a value.
use Rattle.std.proofs.Common.{◌≡◌, ◌∙◌, ℕ, zero, suc, Bool, true, false, cond, List, [], ◌∷◌, length, Option, Some, None}
use Rattle.std.proofs.Common.{Ok, IfSome, refl, sym, ap, subst, arith, filter, option_map, slice_get}
use Rattle.std.specs.Prelude.{All, ℤ, pos, ◌*ℤ◌}
use Rattle.std.specs.List.{AllByRecursion, cons_option, range_with_len}
use Rattle.std.proofs.Math.IntN.{*ℤ-zero}
use Rattle.std.proofs.lemmas.Int.{ints}
use Rattle.inter_credit.specs.OptionValue.{net_value_of, position_value}
use Rattle.plan_ir.specs.Figures.{net_value_at, value_to}
use Rattle.span_money.specs.Numbers.{int_sum_by}
use Rattle.span_csv.specs.ParamFaults.{params_of}
use Rattle.span_csv.proofs.ProfileLaws.{params_values}
use Rattle.span_tables.proofs.SumLaws.{int_sum_by-cons}
use Rattle.span_tables.specs.Net.{HeldContract, held_contracts, held_of}
use Rattle.span_tables.specs.Profiles.{facts_of}
use Rattle.span_tables.specs.Rules.{contracts_in}
use Rattle.span_tables.specs.Tables.{AcceptedTables, profile_in, tables_of}
use Rattle.span_tables.specs.declared.portfolios.Holding.{Holding}
use Rattle.span_tables.specs.declared.records.Contract.{Contract}
use Rattle.span_tables.specs.declared.records.Record.{Record}
use Rattle.statement_text.specs.Statement.{accepted_of}
use Rattle.statement_text.proofs.AcceptedFiles.{accepted_are}

-- for records that are read
pub read_values : (params : List ℕ) (records : List Record) → params_of params ≡ Ok records → profile_in records ≡ 1
    → All (λ x. x.extras.option_value ≡ 0) (contracts_in records)
read_values params records read one =
    params_values params records read (subst (λ n. (facts_of n).options_have_value ≡ false) (sym one) refl)

-- for accepted tables
pub accepted_values : (params : List ℕ) (tables : AcceptedTables) → accepted_of params ≡ Ok tables → tables.profile ≡ 1
    → All (λ x. x.extras.option_value ≡ 0) tables.contracts
unfolding tables_of
accepted_values params tables accepted one =
    let are = accepted_are params tables accepted in
    subst (λ (t : AcceptedTables). All (λ x. x.extras.option_value ≡ 0) t.contracts) are.3
    (read_values params are.0 are.1 (subst (λ (t : AcceptedTables). t.profile ≡ 1) (sym are.3) one))

-- ---- holdings

-- a contract without an option value
abbrev IsWorthless : Contract → Type 0
IsWorthless x = x.extras.option_value ≡ 0

by_recursion : (contracts : List Contract) → All IsWorthless contracts → AllByRecursion IsWorthless contracts
by_recursion [] none = tt
by_recursion (x ∷ contracts) none =
    (none zero x (omega arith), by_recursion contracts (λ k d lt. none (suc k) d (omega arith)))

worthless_at : (contracts : List Contract) → AllByRecursion IsWorthless contracts → (i : ℕ) → IfSome (slice_get contracts i) IsWorthless
worthless_at [] none i = tt
worthless_at (x ∷ contracts) none zero = none.0
worthless_at (x ∷ contracts) none (suc i) = worthless_at contracts none.1 i

-- a holding of such a contract adds no value
abbrev AddsNothing : HeldContract → Type 0
AddsNothing h = position_value h ≡ pos 0

held_add_nothing : (contracts : List Contract) → AllByRecursion IsWorthless contracts → (holdings : List Holding)
    → AllByRecursion AddsNothing (held_contracts contracts holdings)
held_add_nothing contracts none [] = tt
held_add_nothing contracts none (h ∷ holdings) =
    of_contract (slice_get contracts h.contract) (worthless_at contracts none h.contract) (held_add_nothing contracts none holdings)
  where
    of_contract : (o : Option Contract) → IfSome o IsWorthless → AllByRecursion AddsNothing (held_contracts contracts holdings)
        → AllByRecursion AddsNothing (cons_option (option_map (λ x. record { contract = x; net = h.net }) o)
        (held_contracts contracts holdings))
    of_contract None worthless others = others
    of_contract (Some x) worthless others = (ap (λ n. h.net *ℤ pos n) worthless ∙ *ℤ-zero h.net, others)

those_add_nothing : (test : HeldContract → Bool) (held : List HeldContract) → AllByRecursion AddsNothing held
    → AllByRecursion AddsNothing (filter test held)
those_add_nothing test [] none = tt
those_add_nothing test (h ∷ held) none = by_test (test h) (those_add_nothing test held none.1) where
  by_test : (b : Bool) → AllByRecursion AddsNothing (filter test held)
      → AllByRecursion AddsNothing (cond b (h ∷ filter test held) (filter test held))
  by_test true others = (none.0, others)
  by_test false others = others

sum_of_nothing : {X : Type 0} (f : X → ℤ) (xs : List X) → AllByRecursion (λ x. f x ≡ pos 0) xs → int_sum_by f xs ≡ pos 0
sum_of_nothing f [] none = refl
sum_of_nothing f (x ∷ xs) none =
    let all = int_sum_by-cons f x xs in
    let here = none.0 in
    let rest = sum_of_nothing f xs none.1 in
    omega (arith, ints, all, here, rest)

no_net_value : (tables : AcceptedTables) (holdings : List Holding) → AllByRecursion IsWorthless tables.contracts → (c : ℕ)
    → net_value_at tables holdings c ≡ pos 0
unfolding net_value_of held_of
no_net_value tables holdings none c =
    sum_of_nothing position_value _ (those_add_nothing _ (held_contracts tables.contracts holdings)
    (held_add_nothing tables.contracts none holdings))

each_of : (P : ℕ → Type 0) → ((c : ℕ) → P c) → (xs : List ℕ) → AllByRecursion P xs
each_of P holds [] = tt
each_of P holds (x ∷ xs) = (holds x, each_of P holds xs)

pub no_value_held : (params : List ℕ) (tables : AcceptedTables) (holdings : List Holding) → accepted_of params ≡ Ok tables
    → tables.profile ≡ 1 → value_to tables holdings (length tables.commodities) ≡ pos 0
unfolding value_to
no_value_held params tables holdings accepted one =
    let none = by_recursion tables.contracts (accepted_values params tables accepted one) in
    sum_of_nothing (net_value_at tables holdings) (range_with_len 0 (length tables.commodities))
    (each_of (λ c. net_value_at tables holdings c ≡ pos 0) (no_net_value tables holdings none) _)
