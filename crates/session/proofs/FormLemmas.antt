-- The fields of a request without a fault.
use Rattle.std.proofs.Common.{◌≡◌, ◌≢◌, ◌∙◌, ◌+◌, ◌*◌, ◌<◌, ◌≤◌, ℕ, zero, suc, Bool, true, false, not, List, [], ◌∷◌, length, drop, get_or}
use Rattle.std.proofs.Common.{Option, Some, None, inl, inr, refl, sym, ap, arith, pos}
use Rattle.std.proofs.lemmas.Bool.{cases_Bool}
use Rattle.std.proofs.lemmas.List.{get_or-drop, length-drop}
use Rattle.std.proofs.lemmas.Grind.{common_steps}
use Rattle.std.specs.Prelude.{find, nat_lt, option_map, unwrap_or}
use Rattle.std.specs.List.{enumerate_from}
use Rattle.span_money.specs.Numbers.{whole_number}
use Rattle.span_tables.specs.Names.{is_name}
use Rattle.session.specs.Requests.{field_where, fields_of, form_fault, is_bad_name, is_bad_number, is_out_of_range, is_quantity}
use Rattle.session.specs.Requests.{is_quantity_field, names_of, or_else, request_by, request_of, request_with, word_named}
use Rattle.desks.specs.declared.desk.TheConstants.{MAX_LINE}
use Rattle.span_csv.specs.Records.{text_at}
use Rattle.session.specs.near.FieldTests.{AreTrades}
use Rattle.session.specs.declared.faults.RequestFault.{RequestFault}
use Rattle.session.specs.declared.faults.RequestFault.TheVariants as fault
use Rattle.session.specs.declared.requests.Word.{Word}
use Rattle.session.specs.declared.requests.Word.TheVariants as word

not-true : (b : Bool) → not b ≡ false → b ≡ true
not-true true e = refl
not-true false e = cc

-- ---- no fault

no_first : (a : Option ℕ) (f : ℕ → RequestFault) (rest : Option RequestFault) → or_else (option_map f a) rest ≡ None → a ≡ None
no_first None f rest none = refl
no_first (Some n) f rest none = cc

no_second : (a : Option ℕ) (f : ℕ → RequestFault) (rest : Option RequestFault) → or_else (option_map f a) rest ≡ None → rest ≡ None
no_second None f rest none = none
no_second (Some n) f rest none = cc

none_found : {A B : Type 0} (f : A → B) (o : Option A) → option_map f o ≡ None → o ≡ None
none_found f None none = refl
none_found f (Some x) none = cc

-- if no field passes a test, the first does not, and none after it does
first_fails : (test : ℕ → List ℕ → Bool) (n : ℕ) (x : List ℕ) (xs : List (List ℕ))
    → find (λ f. test f.0 f.1) (enumerate_from n (x ∷ xs)) ≡ None
    → (test n x ≡ false) × (find (λ f. test f.0 f.1) (enumerate_from (n + 1) xs) ≡ None)
first_fails test n x xs none =
    elim (cases_Bool (test n x)) [
      | inl passes ↦ let never = rw passes at none in cc
      | inr fails ↦ (fails, rw fails at none)
    ]

-- therefore no field passes it
none_from : (test : ℕ → List ℕ → Bool) (n : ℕ) (fields : List (List ℕ)) → find (λ f. test f.0 f.1) (enumerate_from n fields) ≡ None
    → (k : ℕ) → k < length fields → test (n + k) (get_or fields k []) ≡ false
none_from test n [] none k inside = absurd (omega (arith, inside))
none_from test n (x ∷ xs) none zero inside =
    let same : n + 0 ≡ n = omega arith in rw same (first_fails test n x xs none).0
none_from test n (x ∷ xs) none (suc k) inside =
    let same : n + suc k ≡ n + 1 + k = omega arith in
    rw same (none_from test (n + 1) xs (first_fails test n x xs none).1 k (omega (arith, inside)))

-- ---- numbers of fields

pub at_contract : (names j : ℕ) → is_quantity_field names (names + 2 + 2 * j) ≡ false
at_contract names j = grind (arith, common_steps)

at_quantity : (names j : ℕ) → is_quantity_field names (names + 3 + 2 * j) ≡ true
at_quantity names j = grind (arith, common_steps)

-- ---- trades

-- the field of a contract is a name, if it is not a bad name
named : (w : Word) (j : ℕ) (text : List ℕ) → is_bad_name w (names_of w + 2 + 2 * j) text ≡ false → is_name text ≡ true
named w j text good = not-true (is_name text) (rw (at_contract (names_of w) j) at good)

-- the field of a quantity is in range, if it is not out of range
in_range : (w : Word) (j : ℕ) (text : List ℕ) → is_out_of_range w (names_of w + 3 + 2 * j) text ≡ false
    → is_quantity (unwrap_or (whole_number text) (pos 0)) ≡ true
in_range w j text good = not-true _ (rw (at_quantity (names_of w) j) at good)

-- contracts that are not bad names and quantities that are not out of range are trades
are_trades : (w : Word) (j : ℕ) (fields : List (List ℕ))
    → ((k : ℕ) → k < length fields → is_bad_name w (names_of w + 2 + 2 * j + k) (get_or fields k []) ≡ false)
    → ((k : ℕ) → k < length fields → is_out_of_range w (names_of w + 2 + 2 * j + k) (get_or fields k []) ≡ false)
    → AreTrades fields
are_trades w j [] names ranges = tt
are_trades w j (contract ∷ []) names ranges = tt
are_trades w j (contract ∷ quantity ∷ rest) names ranges =
    let here : names_of w + 2 + 2 * j + 0 ≡ names_of w + 2 + 2 * j = omega arith in
    let next : names_of w + 2 + 2 * j + 1 ≡ names_of w + 3 + 2 * j = omega arith in
    let later : (k : ℕ) → names_of w + 2 + 2 * j + suc (suc k) ≡ names_of w + 2 + 2 * (j + 1) + k = λ k. omega arith in (
      named w j contract (rw here at (names 0 (omega arith))),
      in_range w j quantity (rw next at (ranges 1 (omega arith))),
      are_trades w (j + 1) rest
          (λ k inside. rw (later k) at (names (suc (suc k)) (omega (arith, inside))))
          (λ k inside. rw (later k) at (ranges (suc (suc k)) (omega (arith, inside)))),
    )

-- if no field passes a test, no field after the names does
none_behind : (test : ℕ → List ℕ → Bool) (names : ℕ) (fields : List (List ℕ)) → field_where test fields ≡ None
    → (k : ℕ) → k < length (drop (names + 1) fields) → test (names + 2 + 2 * 0 + k) (get_or (drop (names + 1) fields) k []) ≡ false
none_behind test names fields none k inside =
    let within : names + k < length (drop 1 fields) =
    omega (arith, length-drop 1 fields, length-drop (names + 1) fields, inside) in
    let number : 2 + (names + k) ≡ names + 2 + 2 * 0 + k = omega arith in
    let place : 1 + (names + k) ≡ names + 1 + k = omega arith in
    let same : get_or (drop 1 fields) (names + k) [] ≡ get_or (drop (names + 1) fields) k [] =
    get_or-drop 1 fields (names + k) [] ∙ rw place (sym (get_or-drop (names + 1) fields k [])) in
    rw (same, number) at (none_from test 2 (drop 1 fields) (none_found (λ f. f.0) _ none) (names + k) within)

-- the fields after the names of a request without a fault are trades
pub trades_behind_names : (w : Word) (fields : List (List ℕ)) → form_fault w fields ≡ None → AreTrades (drop (names_of w + 1) fields)
trades_behind_names w fields free =
    let names = no_first (field_where (is_bad_name w) fields) fault.BadName _ free in
    let others = no_second (field_where (is_bad_name w) fields) fault.BadName _ free in
    let last = no_second (field_where (is_bad_number w) fields) fault.BadNumber _ others in
    let ranges = none_found fault.OutOfRange (field_where (is_out_of_range w) fields) last in
    are_trades w 0 (drop (names_of w + 1) fields)
    (none_behind (is_bad_name w) (names_of w) fields names)
    (none_behind (is_out_of_range w) (names_of w) fields ranges)

-- the fields between the word and the pairs of a request without a fault are names
pub named_behind : (w : Word) (fields : List (List ℕ)) → form_fault w fields ≡ None → (k : ℕ) → k < names_of w → k + 1 < length fields
    → is_name (text_at fields (k + 1)) ≡ true
named_behind w fields free k few inside =
    let names = none_found (λ f. f.0) _ (no_first (field_where (is_bad_name w) fields) fault.BadName _ free) in
    let within : k < length (drop 1 fields) = omega (arith, length-drop 1 fields, inside) in
    let number : is_quantity_field (names_of w) (2 + k) ≡ false = grind (arith, common_steps, few) in
    let place : 1 + k ≡ k + 1 = omega arith in
    let same : get_or (drop 1 fields) k [] ≡ text_at fields (k + 1) = get_or-drop 1 fields k [] ∙ ap (text_at fields) place in
    not-true (is_name (text_at fields (k + 1))) (rw (number, same) at (none_from (is_bad_name w) 2 (drop 1 fields) names k within))

-- a line whose word is not SET is read by its fields
pub by_fields : (w : Word) (line : List ℕ) → w ≢ word.Set → request_with (Some w) line ≡ request_by w (fields_of line)
by_fields word.Margin line other = refl
by_fields word.Explain line other = refl
by_fields word.Try line other = refl
by_fields word.Fill line other = refl
by_fields word.Set line other = absurd (other refl)
by_fields word.Positions line other = refl

-- a line that is not too long is read by its word
pub by_word : (line : List ℕ) (word : Option Word) → length line ≤ MAX_LINE → word ≡ word_named (text_at (fields_of line) 0)
    → request_of line ≡ request_with word line
unfolding request_of
by_word line word short named =
    let fits : nat_lt MAX_LINE (length line) ≡ false = grind (arith, common_steps) in rw (fits, ← named) refl
