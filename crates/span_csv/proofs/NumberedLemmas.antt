-- The record that follows numbered ones.
use Rattle.std.proofs.Common.{◌≡◌, refl, sym, ap, inl, inr, arith, ℕ, ◌+◌, ◌-◌, ◌≤◌, Bool, cond, true, false}
use Rattle.std.proofs.Common.{◌==◌, ℤ, List, [], ◌∷◌, ◌++◌, length, get_or, nat_abs, Some, Ok, Err, slice_get}
use Rattle.std.proofs.lemmas.Bool.{cases_Bool, eqb-false, leb-true}
use Rattle.std.proofs.lemmas.List.{length-map, length-append}
use Rattle.span_tables.specs.Names.{is_among, is_name}
use Rattle.span_tables.specs.near.Positions.{named_position, named_positions, AreNumbered}
use Rattle.span_tables.proofs.NumberedLaws.{among_at, name_there, named_more, numbered_more}
use Rattle.span_tables.specs.declared.limits.TheConstants.{MAX_QUANTITY}
use Rattle.span_tables.specs.declared.records.NumberedPosition.{NumberedPosition}
use Rattle.span_csv.specs.Records.{Fields, text_at}
use Rattle.span_csv.specs.declared.faults.PositionFault.{PositionFault}
use Rattle.span_csv.specs.declared.faults.PositionFault.TheVariants as fault
use Rattle.span_csv.specs.near.NumberedReading.{are_names, is_one_too_many, next_position, quantity_alone, with_name}
use Rattle.span_csv.specs.near.PlainPositions.{IsPositionIn}
use Rattle.span_csv.specs.near.RecordReading.{records_after}
use Rattle.span_csv.proofs.FormLemmas.{size_within}
use Rattle.span_csv.proofs.RecordLemmas.{records_after-ok}

-- ---- the limit

-- the number of names stays within the limit with a name that is not one too many
pub still_few : (most : ℕ) (keys : List (List ℕ)) (name : List ℕ) → length keys ≤ most → is_one_too_many most keys name ≡ false
    → length (with_name keys name) ≤ most
still_few most keys name few room =
    elim (cases_Bool (is_among keys name)) [
      | inl old ↦ rw old few
      | inr new ↦
          let other : (length keys == most) ≡ false = rw new at room in
          rw new (let e = length-append keys (name ∷ []) in let apart = eqb-false (length keys) most other in
          omega (arith, e, few, apart))
    ]

-- a name that is known at an index is not one too many and changes nothing
pub stands_there : (most : ℕ) (keys : List (List ℕ)) (a : ℕ) (name : List ℕ) → slice_get keys a ≡ Some name
    → (is_one_too_many most keys name ≡ false) × (keys ≡ with_name keys name)
stands_there most keys a name at = let there = among_at keys a name at in (rw there refl, rw there refl)

-- the names that are exempt from the test are names
pub tested_names : (b : Bool) (r : Fields) → (b ≡ true → is_name (text_at r 0) ≡ true) → are_names (cond b 1 0) r ≡ true
tested_names false r known = refl
tested_names true [] known = refl
tested_names true (x ∷ r) known = rw (known refl) refl

-- ---- the next record

module _ (names most : ℕ) (keys : List (List ℕ)) (earlier : List NumberedPosition) (r : Fields) (was : AreNumbered keys earlier) where
  count_same : length (named_positions keys earlier) + 1 ≡ length earlier + 1
  count_same = ap (λ n. n + 1) (length-map earlier (named_position keys))

  pub next_refused : (e : PositionFault) → quantity_alone names (length earlier + 1) r ≡ Err e
      → next_position names most (named_positions keys earlier) r ≡ Err e
  unfolding next_position
  next_refused e alone = rw (count_same, alone) refl

  pub next_full : (q : ℤ) → quantity_alone names (length earlier + 1) r ≡ Ok q → is_one_too_many most keys (text_at r 0) ≡ true
      → next_position names most (named_positions keys earlier) r ≡ Err (fault.TooManyAccounts (length earlier + 1))
  unfolding next_position
  next_full q alone full = rw (count_same, alone, sym was.accounts_are, full) refl

  pub next_read : (keys' : List (List ℕ)) (a : ℕ) (q : ℤ) → quantity_alone names (length earlier + 1) r ≡ Ok q
      → is_one_too_many most keys (text_at r 0) ≡ false
      → slice_get keys' a ≡ Some (text_at r 0)
      → next_position names most (named_positions keys earlier) r
      ≡ Ok (record { account = get_or keys' a []; contract = text_at r (names - 1); quantity = q })
  unfolding next_position
  next_read keys' a q alone room at = rw (count_same, alone, sym was.accounts_are, room, name_there keys' a (text_at r 0) at) refl

-- ---- a position in a plain line

module _ (most : ℕ) (keys : List (List ℕ)) (earlier : List NumberedPosition) (was : AreNumbered keys earlier) (a : ℕ)
    (account contract : List ℕ) (q : ℤ) (rest rows : List Fields) (at : slice_get keys a ≡ Some account)
    (is : IsPositionIn account contract q rest rows) where
  -- the numbered position of the line
  abbrev pub plain_position : NumberedPosition
  plain_position = record { contract = contract; account = a; quantity = q }

  abbrev row : Fields
  row = account ∷ contract ∷ is.text ∷ []

  alone : quantity_alone 2 (length earlier + 1) row ≡ Ok q
  unfolding quantity_alone
  alone = rw (is.account_named, is.contract_named, is.number, is.small) refl

  plain_next : next_position 2 most (named_positions keys earlier) row ≡ Ok (named_position keys plain_position)
  plain_next = next_read 2 most keys earlier row was keys a q alone (stands_there most keys a account at).0 at

  -- reading the rest with the line's position appended gives the same result as reading all rows
  pub plain_read : records_after (next_position 2 most) (named_positions keys (earlier ++ plain_position ∷ [])) rest
      ≡ records_after (next_position 2 most) (named_positions keys earlier) rows
  plain_read =
      let named = named_more keys keys earlier plain_position account was (stands_there most keys a account at).1 at in
      rw (named, is.rows_are)
      (sym (records_after-ok (next_position 2 most) (named_positions keys earlier) row rest (named_position keys plain_position)
      plain_next))

  pub plain_numbered : AreNumbered keys (earlier ++ plain_position ∷ [])
  plain_numbered =
      let small = leb-true (nat_abs q) MAX_QUANTITY (size_within (MAX_QUANTITY - 1) (Some q) is.small) in
      numbered_more keys keys earlier plain_position account was (stands_there most keys a account at).1 at was.few small
