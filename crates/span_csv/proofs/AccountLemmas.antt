-- The fault of a position record when all faults are reported, and the accounts that are kept after it.
use Rattle.std.proofs.Common.{◌≡◌, ◌∙◌, refl, sym, ap, ap₂, subst, arith, ℕ, ◌+◌, ◌<◌, ◌≤◌, ℤ, Bool, true, false, not, ◌&&◌, ◌==◌}
use Rattle.std.proofs.Common.{cond, List, [], ◌∷◌, ◌++◌, length, take, Option, Some, None, Ok, Err}
use Rattle.std.specs.Prelude.{⊤, is_none, option_map, MatchBool}
use Rattle.std.proofs.Math.Bool.{and-false}
use Rattle.std.proofs.lemmas.Bool.{ne_eqb}
use Rattle.std.proofs.lemmas.List.{length-append, length-take, map-append, take_all, take-append-le}
use Rattle.span_tables.specs.Faults.{first_that_holds, ok_unless}
use Rattle.span_tables.specs.Names.{distinct, is_among}
use Rattle.span_tables.proofs.NameLemmas.{distinct-push, is_among-distinct}
use Rattle.span_tables.specs.declared.limits.TheConstants.{MAX_ACCOUNTS}
use Rattle.span_csv.specs.Records.{Fields, text_at}
use Rattle.span_csv.specs.PositionFaults.{counted, exceeds_accounts, form_faults, is_formed, is_memory, record_fault}
use Rattle.span_csv.specs.near.NumberedReading.{is_one_too_many, quantity_alone, with_name}
use Rattle.span_csv.specs.near.Telling.{accounts_counted, CheckIs}
use Rattle.span_csv.specs.declared.positions.TheConstants.{POSITION_NAMES}
use Rattle.span_csv.specs.declared.faults.PositionFault.{PositionFault}
use Rattle.span_csv.specs.declared.faults.PositionFault.TheVariants as fault
use Rattle.span_csv.proofs.AllFaultLaws.{refused_some}
use Rattle.span_csv.proofs.AloneLemmas.{left_alone, left_by, with_quantity}
use Rattle.span_csv.proofs.CountedLaws.{push_formed, push_unformed}
use Rattle.span_csv.proofs.CheckLemmas.{first_append, first_front}
use Rattle.span_csv.proofs.FormedLemmas.{unformed}
use Rattle.span_csv.proofs.PositionLemmas.{names_of}
use Rattle.span_csv.proofs.RecordLemmas.{told, told_by}

-- ---- the fields of a record

of_ok : {F V : Type 0} (o : Option (ℕ → F)) (at : ℕ) (v : V) → ok_unless (option_map (λ f. f at) o) v ≡ Ok v → o ≡ None
of_ok None at v is = refl
of_ok (Some f) at v is = cc

module _ (at : ℕ) (r : Fields) where
  alone : with_quantity (λ e. e) (λ q. Ok tt) (quantity_alone POSITION_NAMES at r) ≡ left_by {V = ⊤} at tt (form_faults r)
  alone = left_alone (λ e. e) POSITION_NAMES at r [] tt (λ q. Ok tt) (λ q is. refl)

  -- a record that is rejected for its fields has the lowest-numbered fault of its fields
  refused : (e : PositionFault) → quantity_alone POSITION_NAMES at r ≡ Err e
      → option_map (λ f. f at) (first_that_holds (form_faults r)) ≡ Some e
  refused e is = refused_some (option_map (λ f. f at) (first_that_holds (form_faults r))) tt e
      (sym alone ∙ ap (with_quantity (λ e. e) (λ q. Ok tt)) is)

  -- a record that is not rejected for its fields has none of their faults
  not_refused : (q : ℤ) → quantity_alone POSITION_NAMES at r ≡ Ok q → first_that_holds (form_faults r) ≡ None
  not_refused q is = of_ok (first_that_holds (form_faults r)) at tt (sym alone ∙ ap (with_quantity (λ e. e) (λ q. Ok tt)) is)

-- ---- the accounts of the counted records

module _ (rs : List Fields) (r : Fields) (formed : is_formed r ≡ true) (keys : List (List ℕ)) (are : keys ≡ accounts_counted rs) where
  abbrev names : List (List ℕ)
  names = names_of (counted rs)

  abbrev name : List ℕ
  name = text_at r 0

  abbrev accounts : List (List ℕ)
  accounts = distinct names

  -- no more accounts are kept than there are
  kept_length : length keys ≤ length accounts
  kept_length = let e : length keys ≡ _ = ap length are in let few = length-take (MAX_ACCOUNTS + 1) accounts in omega (arith, e, few)

  -- the counted accounts after one more record
  more : accounts_counted (rs ++ r ∷ []) ≡ take (MAX_ACCOUNTS + 1) (cond (is_among names name) accounts (accounts ++ name ∷ []))
  more =
      ap (λ zs. take (MAX_ACCOUNTS + 1) (distinct (names_of zs))) (push_formed rs r formed)
      ∙ ap (λ zs. take (MAX_ACCOUNTS + 1) (distinct zs)) (map-append (λ x. text_at x 0) (counted rs) (r ∷ []))
      ∙ ap (take (MAX_ACCOUNTS + 1)) (distinct-push (names_of (counted rs)) (text_at r 0))

  module _ (past : MAX_ACCOUNTS < length keys) where
    many : MAX_ACCOUNTS + 1 ≤ length accounts
    many = let le = kept_length in omega (arith, le, past)

    -- once there is one account too many, no further one is reported
    past_limit : exceeds_accounts (counted rs) r ≡ false
    past_limit =
        let other : (length (distinct (names_of (counted rs))) == MAX_ACCOUNTS) ≡ false =
        ne_eqb (length (distinct (names_of (counted rs)))) MAX_ACCOUNTS (λ e. let le = many in absurd (omega (arith, e, le))) in
        ap (λ b. not (is_among (names_of (counted rs)) (text_at r 0)) && b) other
        ∙ and-false (not (is_among (names_of (counted rs)) (text_at r 0)))

    -- then the kept accounts stay the same
    past_same : keys ≡ accounts_counted (rs ++ r ∷ [])
    past_same = are ∙ sym (more ∙ by (is_among names name)) where
      by : (b : Bool) → take (MAX_ACCOUNTS + 1) (cond b accounts (accounts ++ name ∷ [])) ≡ take (MAX_ACCOUNTS + 1) accounts
      by true = refl
      by false = take-append-le (MAX_ACCOUNTS + 1) accounts (name ∷ []) many

  module _ (few : length keys ≤ MAX_ACCOUNTS) where
    few_accounts : length accounts ≤ MAX_ACCOUNTS
    few_accounts =
        let e : length keys ≡ _ = ap length are in
        let least = length-take (MAX_ACCOUNTS + 1) accounts in omega (arith, e, least, few)

    all_kept : keys ≡ accounts
    all_kept = are ∙ take_all (MAX_ACCOUNTS + 1) accounts (let le = few_accounts in omega (arith, le))

    among : is_among keys name ≡ is_among names name
    among = ap (λ ks. is_among ks name) all_kept ∙ is_among-distinct names name

    -- the code and the definition agree on whether the account is one too many
    limit_same : exceeds_accounts (counted rs) r ≡ is_one_too_many MAX_ACCOUNTS keys (text_at r 0)
    limit_same = ap₂ (λ b ks. not b && (length ks == MAX_ACCOUNTS)) (sym among) (sym all_kept)

    -- a new account is kept
    taken_more : with_name keys (text_at r 0) ≡ accounts_counted (rs ++ r ∷ [])
    taken_more =
        ap₂ (λ b ks. cond b ks (ks ++ name ∷ [])) among all_kept
        ∙ sym (more ∙ take_all (MAX_ACCOUNTS + 1) (cond (is_among names name) accounts (accounts ++ name ∷ []))
        (by (is_among names name))) where
          by : (b : Bool) → length (cond b accounts (accounts ++ name ∷ [])) ≤ MAX_ACCOUNTS + 1
          by true = let le = few_accounts in omega (arith, le)
          by false = let le = few_accounts in let long = length-append accounts (name ∷ []) in omega (arith, le, long)

-- ---- the answer for a record

module _ (rs : List Fields) (r : Fields) (at : ℕ) (keys : List (List ℕ)) (count : length rs + 1 ≡ at)
    (are : keys ≡ accounts_counted rs) where
  -- a record that is rejected for its fields
  pub checked_refused : (e : PositionFault) → quantity_alone POSITION_NAMES at r ≡ Err e → CheckIs rs r (Err e) keys
  checked_refused e is =
      let own = refused at r e is in
      told (is_memory e) (
        subst (λ n. option_map (λ f. f n) (record_fault rs r) ≡ Some e) (sym count)
            (first_front (form_faults r) ((exceeds_accounts (counted rs) r, fault.TooManyAccounts) ∷ []) at e own),
        are ∙ ap (λ zs. take (MAX_ACCOUNTS + 1) (distinct (names_of zs)))
            (sym (push_unformed rs r (unformed (first_that_holds (form_faults r)) at e own))),
      )

  module _ (q : ℤ) (read : quantity_alone POSITION_NAMES at r ≡ Ok q) where
    formed_here : is_formed r ≡ true
    formed_here = ap is_none (not_refused at r q read)

    by_limit : (b : Bool) → exceeds_accounts (counted rs) r ≡ b → record_fault rs r ≡ cond b (Some fault.TooManyAccounts) None
    by_limit b e =
        first_append (form_faults r) ((exceeds_accounts (counted rs) r, fault.TooManyAccounts) ∷ []) (not_refused at r q read)
        ∙ ap (λ (c : Bool). cond c (Some fault.TooManyAccounts) None) e

    -- a record after one account too many
    pub checked_past : MAX_ACCOUNTS < length keys → CheckIs rs r (Ok tt) keys
    checked_past past = (
      by_limit false (past_limit rs r formed_here keys are past),
      past_same rs r formed_here keys are past,
    )

    -- a record of the first account too many
    pub checked_full : (e : PositionFault) (keys' : List (List ℕ)) → length keys ≤ MAX_ACCOUNTS
        → MatchBool (is_memory e) ⊤ ((e ≡ fault.TooManyAccounts at) × (is_one_too_many MAX_ACCOUNTS keys (text_at r 0) ≡ true)
        × (keys' ≡ with_name keys (text_at r 0)))
        → CheckIs rs r (Err e) keys'
    checked_full e keys' few h = told_by (is_memory e) h (λ full. (
      ap (option_map (λ f. f (length rs + 1))) (by_limit true (limit_same rs r formed_here keys are few ∙ full.1))
          ∙ ap (λ n. Some (fault.TooManyAccounts n)) count ∙ ap Some (sym full.0),
      full.2 ∙ taken_more rs r formed_here keys are few,
    ))

    -- a record whose account is within the limit
    pub checked_taken : (keys' : List (List ℕ)) → length keys ≤ MAX_ACCOUNTS
        → is_one_too_many MAX_ACCOUNTS keys (text_at r 0) ≡ false
        → keys' ≡ with_name keys (text_at r 0) → CheckIs rs r (Ok tt) keys'
    checked_taken keys' few room taken = (
      by_limit false (limit_same rs r formed_here keys are few ∙ room),
      taken ∙ taken_more rs r formed_here keys are few,
    )
