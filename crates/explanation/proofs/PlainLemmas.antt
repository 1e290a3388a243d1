-- If the names in the tables are plain, the fields of an account's lines contain no comma and no line feed.
use Rattle.std.proofs.Common.{◌≡◌, ℕ, Bool, true, false, cond, ◌&&◌, List, [], ◌∷◌, ◌++◌, filter, flat_map, length, map, refl, inl, inr}
use Rattle.std.specs.Prelude.{ℤ, codes, nat_le}
use Rattle.std.specs.Fmt.{signed_decimal}
use Rattle.std.specs.List.{AllByRecursion, list_all, range_with_len}
use Rattle.std.proofs.lemmas.Bool.{and_parts, cases_lt, leb-true}
use Rattle.std.proofs.lemmas.List.{get_or_past}
use Rattle.span_money.specs.LineFields.{Line}
use Rattle.span_tables.specs.Net.{AccountHoldings, HeldContract}
use Rattle.span_tables.specs.Tables.{AcceptedTables, commodity_id, facts_in}
use Rattle.span_tables.specs.declared.portfolios.Holding.{Holding}
use Rattle.span_tables.specs.declared.records.MinimumMethod.{MinimumMethod}
use Rattle.span_tables.specs.declared.records.MinimumMethod.TheVariants as method
use Rattle.span_tables.specs.declared.records.ProductKind.{ProductKind}
use Rattle.span_tables.specs.declared.records.ProductKind.TheVariants as product
use Rattle.span_tables.specs.declared.sides.Direction.{Direction}
use Rattle.span_tables.specs.declared.sides.Direction.TheVariants.{ALong, AShort}
use Rattle.scan_risk.specs.Scenarios.{scan_of, scenario_sums}
use Rattle.inter_credit.specs.OptionValue.{position_value}
use Rattle.plan_ir.specs.Figures.{commodity_at, figures_of, held_at, is_commodity_held, numbers_of, no_commodity, option_value_of}
use Rattle.plan_ir.specs.declared.figures.Figures.{Figures}
use Rattle.reasons.specs.Reasons.{credit_reason, credit_reasons, held_reason, held_reasons, inter_reason, inters_shown_at, intra_reason}
use Rattle.reasons.specs.Reasons.{intras_shown_at, kind_letter, long_side, method_word, month_reason, month_reasons, months_shown_at}
use Rattle.reasons.specs.Reasons.{reasons_of, scan_reasons, short_reason, spot_reason, spots_shown_at, state_after_all}
use Rattle.statement_text.specs.Statement.{figures_line, total_line, total_numbers, total_of}
use Rattle.explanation.specs.Explanation.{account_lines, commodity_lines, reason_line}
use Rattle.explanation.specs.Laws.{is_of_statement}
use Rattle.explanation.proofs.AcceptedLemmas.{AreNamed, filtered, held_between}
use Rattle.explanation.proofs.ReadLemmas.{IsBetween, IsPlain, decimal_between, exact_between, signed_between}

-- ---- words

pub between_by_test : (text : List ℕ) → list_all (λ b. nat_le 45 b && nat_le b 95) text ≡ true → IsBetween text
between_by_test [] e = tt
between_by_test (b ∷ bs) e =
    let parts = and_parts (nat_le 45 b && nat_le b 95) (list_all (λ x. nat_le 45 x && nat_le x 95) bs) e in
    let here = and_parts (nat_le 45 b) (nat_le b 95) parts.0 in
    ((leb-true 45 b here.0, leb-true b 95 here.1), between_by_test bs parts.1)

kind_between : (kind : ProductKind) → IsBetween (kind_letter kind)
kind_between product.Future = between_by_test (codes "F") refl
kind_between product.Call = between_by_test (codes "C") refl
kind_between product.Put = between_by_test (codes "P") refl

side_between : (d : Direction) → IsBetween (long_side d)
side_between ALong = between_by_test (codes "A") refl
side_between AShort = between_by_test (codes "B") refl

method_between : (m : MinimumMethod) → IsBetween (method_word m)
method_between method.Sum = between_by_test (codes "SUM") refl
method_between method.Max = between_by_test (codes "MAX") refl

pub numbers_between : (zs : List ℤ) → AllByRecursion IsBetween (map signed_decimal zs)
numbers_between [] = tt
numbers_between (z ∷ zs) = (signed_between z, numbers_between zs)

-- ---- lines

plain-append : (a b : List Line) → AllByRecursion IsPlain a → AllByRecursion IsPlain b → AllByRecursion IsPlain (a ++ b)
plain-append [] b h k = k
plain-append (l ∷ ls) b h k = (h.0, plain-append ls b h.1 k)

plain_lines : {A : Type 0} (f : A → Line) → ((x : A) → IsPlain (f x)) → (xs : List A) → AllByRecursion IsPlain (map f xs)
plain_lines f each [] = tt
plain_lines f each (x ∷ xs) = (each x, plain_lines f each xs)

-- a plain line with plain ids inserted is plain
plain_ids : (account set_id commodity : List ℕ) (l : Line) → IsBetween account → IsBetween set_id → IsBetween commodity → IsPlain l
    → IsPlain (reason_line account set_id commodity l)
plain_ids account set_id commodity l a s c plain =
    record { word = plain.word; fields = (a, (s, (c, plain.fields))) }

ids_before : (account set_id commodity : List ℕ) (ls : List Line) → IsBetween account → IsBetween set_id → IsBetween commodity
    → AllByRecursion IsPlain ls → AllByRecursion IsPlain (map (reason_line account set_id commodity) ls)
ids_before account set_id commodity [] a s c plain = tt
ids_before account set_id commodity (l ∷ ls) a s c plain =
    (plain_ids account set_id commodity l a s c plain.0, ids_before account set_id commodity ls a s c plain.1)

held_plain : (t : AcceptedTables) (hs : List HeldContract) → AllByRecursion (λ h. IsBetween (h.contract).id) hs
    → AllByRecursion IsPlain (map (held_reason t) hs)
held_plain t [] all = tt
held_plain t (h ∷ hs) all = (
  record {
    word = between_by_test (codes "HELD") refl;
    fields = (
      all.0,
      (
        kind_between (h.contract).kind,
        (
          decimal_between (h.contract).month,
          (
            signed_between h.net,
            by (facts_in t).options_have_value,
          ),
        ),
      ),
    );
  },
  held_plain t hs all.1,
) where
  by : (b : Bool) → AllByRecursion IsBetween (cond b (signed_decimal (position_value h) ∷ []) [])
  by true = (signed_between (position_value h), tt)
  by false = tt

module _ (t : AcceptedTables) (named : AreNamed t) (holdings : List Holding) (c : ℕ) where
  scan_plain : AllByRecursion IsPlain (scan_reasons t holdings c)
  scan_plain = (
    record { word = between_by_test (codes "SUMS") refl; fields = numbers_between (scenario_sums (held_at t holdings c)) },
    (
      record {
        word = between_by_test (codes "SCAN") refl;
        fields = (
          signed_between (scan_of (scenario_sums (held_at t holdings c))).risk,
          (decimal_between _, (decimal_between _, (exact_between 1 _, tt))),
        );
      },
      tt,
    ),
  )

  months_plain : AllByRecursion IsPlain (month_reasons t holdings c)
  months_plain =
      plain-append (map month_reason (months_shown_at t holdings c))
      (map intra_reason (intras_shown_at t holdings c) ++ map spot_reason (spots_shown_at t holdings c))
      (plain_lines month_reason (λ m. record {
        word = between_by_test (codes "MONTH") refl;
        fields = (decimal_between _, (exact_between 8 _, (exact_between 8 _, tt)));
      }) (months_shown_at t holdings c))
      (plain-append (map intra_reason (intras_shown_at t holdings c)) (map spot_reason (spots_shown_at t holdings c))
      (plain_lines intra_reason (λ s. record {
        word = between_by_test (codes "INTRA") refl;
        fields = (decimal_between _, (side_between s.direction, (exact_between 4 _, (decimal_between _, (exact_between 4 _, tt)))));
      }) (intras_shown_at t holdings c))
      (plain_lines spot_reason (λ s. record {
        word = between_by_test (codes "SPOT") refl;
        fields = (
          decimal_between _,
          (exact_between 8 _, (decimal_between _, (exact_between 8 _, (decimal_between _, (exact_between 8 _, tt))))),
        );
      }) (spots_shown_at t holdings c)))

  credit_plain : AllByRecursion IsPlain (credit_reasons t holdings c)
  credit_plain =
      plain-append (map inter_reason (inters_shown_at t holdings c)) (credit_reason (state_after_all t holdings c) ∷ [])
      (plain_lines inter_reason (λ s. record {
        word = between_by_test (codes "INTER") refl;
        fields = (decimal_between _, (side_between s.direction, (exact_between 4 _, (exact_between 8 _, (decimal_between _, tt)))));
      }) (inters_shown_at t holdings c)) (
        record {
          word = between_by_test (codes "CREDIT") refl;
          fields = (exact_between 1 _, (exact_between 8 _, (exact_between 8 _, tt)));
        },
        tt,
      )

  short_plain : AllByRecursion IsPlain (short_reason (commodity_at t c) (held_at t holdings c) ∷ [])
  short_plain = (
    record {
      word = between_by_test (codes "SHORT") refl;
      fields = (decimal_between _, (decimal_between _, (method_between (commodity_at t c).method, (decimal_between _, tt))));
    },
    tt,
  )

  reasons_plain : AllByRecursion IsPlain (reasons_of t holdings c)
  unfolding reasons_of
  reasons_plain =
      let short = short_reason (commodity_at t c) (held_at t holdings c) ∷ [] in
      let credit = credit_reasons t holdings c in
      let months = month_reasons t holdings c in
      let scan = scan_reasons t holdings c in
      plain-append (held_reasons t holdings c) (scan ++ (months ++ (credit ++ short)))
      (held_plain t (held_at t holdings c) (held_between t.contracts holdings (commodity_id t c) named.contracts))
      (plain-append scan (months ++ (credit ++ short)) scan_plain
      (plain-append months (credit ++ short) months_plain (plain-append credit short credit_plain short_plain)))

-- ---- an account

figures_plain : (account set_id commodity : List ℕ) (f : Figures) → IsBetween account → IsBetween set_id → IsBetween commodity
    → IsPlain (figures_line account set_id commodity f)
unfolding figures_line
figures_plain account set_id commodity f a s c =
    record { word = between_by_test (codes "R") refl; fields = (a, (s, (c, numbers_between (numbers_of f)))) }

pub total_plain : (account set_id : List ℕ) (numbers : List ℤ) → IsBetween account → IsBetween set_id
    → IsPlain (total_line account set_id numbers)
unfolding total_line
total_plain account set_id numbers a s = record { word = between_by_test (codes "T") refl; fields = (a, (s, numbers_between numbers)) }

where_held : (b : Bool) (ls : List Line) → AllByRecursion IsPlain ls → AllByRecursion IsPlain (cond b ls [])
where_held true ls all = all
where_held false ls all = tt

-- the name of a commodity, or no name past the last
pub commodity_between : (t : AcceptedTables) → AreNamed t → (c : ℕ) → IsBetween (commodity_at t c).id
commodity_between t named c =
    elim (cases_lt c (length t.commodities)) [
      | inl lt ↦ named.commodities c no_commodity lt
      | inr le ↦ rw (get_or_past t.commodities c no_commodity le) tt
    ]

module _ (t : AcceptedTables) (named : AreNamed t) (p : AccountHoldings) (account : IsBetween p.account) where
  commodity_plain : (c : ℕ) → AllByRecursion IsPlain (commodity_lines t p c)
  commodity_plain c =
      let id = (commodity_at t c).id in
      let commodity = commodity_between t named c in
      let front = map (reason_line p.account t.set_id id) (reasons_of t p.holdings c) in
      let last = figures_line p.account t.set_id id (figures_of t p.holdings c) in
      where_held (is_commodity_held t p.holdings c) (front ++ last ∷ [])
      (plain-append front (last ∷ [])
      (ids_before p.account t.set_id id (reasons_of t p.holdings c) account named.set_id commodity (reasons_plain t named p.holdings c))
      (figures_plain p.account t.set_id id (figures_of t p.holdings c) account named.set_id commodity, tt))

  commodities_plain : (cs : List ℕ) → AllByRecursion IsPlain (flat_map (commodity_lines t p) cs)
  commodities_plain [] = tt
  commodities_plain (c ∷ cs) =
      plain-append (commodity_lines t p c) (flat_map (commodity_lines t p) cs) (commodity_plain c) (commodities_plain cs)

  -- the lines of an account are plain
  pub account_plain : AllByRecursion IsPlain (account_lines t p)
  account_plain =
      plain-append (flat_map (commodity_lines t p) (range_with_len 0 (length t.commodities)))
      (total_line p.account t.set_id (total_numbers t (total_of t p) (option_value_of t p.holdings)) ∷ [])
      (commodities_plain (range_with_len 0 (length t.commodities)))
      (total_plain p.account t.set_id (total_numbers t (total_of t p) (option_value_of t p.holdings)) account named.set_id, tt)

-- the lines of an account in the statement are plain
pub row_plain : (t : AcceptedTables) → AreNamed t → (p : AccountHoldings) → IsBetween p.account
    → AllByRecursion IsPlain (filter is_of_statement (account_lines t p))
row_plain t named p account = filtered IsPlain is_of_statement (account_lines t p) (account_plain t named p account)

-- the lines of all accounts are plain
pub accounts_plain : (t : AcceptedTables) → AreNamed t → (portfolios : List AccountHoldings)
    → AllByRecursion (λ p. IsBetween p.account) portfolios → AllByRecursion IsPlain (flat_map (account_lines t) portfolios)
accounts_plain t named [] all = tt
accounts_plain t named (p ∷ portfolios) all =
    plain-append (account_lines t p) (flat_map (account_lines t) portfolios) (account_plain t named p all.0)
    (accounts_plain t named portfolios all.1)
