-- The fields of a request, one after another.
use Rattle.std.proofs.Common.{◌≡◌, ◌∙◌, ◌+◌, ◌<◌, ◌≤◌, ℕ, Bool, true, false, Bor, List, [], ◌∷◌, ◌++◌, length, drop, get_or}
use Rattle.std.proofs.Common.{Option, Some, refl, sym, append_assoc, arith, add-one, pos}
use Rattle.std.proofs.Math.Seq.{drop-cons}
use Rattle.std.proofs.lemmas.List.{append-nil, get_or-map, length-map}
use Rattle.std.specs.Prelude.{find, option_map, unwrap_or}
use Rattle.std.specs.List.{enumerate_from}
use Rattle.span_money.specs.Numbers.{whole_number}
use Rattle.session.specs.Requests.{texts_of, trades_of}
use Rattle.session.specs.near.FieldTests.{AreTrades}
use Rattle.binding.specs.declared.trades.Trade.{Trade}

-- the number of the first field, from an index on, that passes a test
abbrev pub found_from : (ℕ → List ℕ → Bool) → List (List ℕ) → ℕ → Option ℕ
found_from test fields i = option_map (λ f. f.0) (find (λ f. test f.0 f.1) (enumerate_from (i + 1) (drop i fields)))

module _ (test : ℕ → List ℕ → Bool) (fields : List (Bor (List ℕ))) (i : ℕ) (d : Bor (List ℕ)) (inside : i < length fields) where
  front : drop i (texts_of fields) ≡ (get_or fields i d).now ∷ drop (i + 1) (texts_of fields)
  front =
      drop-cons (texts_of fields) i [] (omega (arith, inside, length-map fields (λ field. field.now)))
      ∙ rw (get_or-map (λ field. field.now) fields i d [] inside, add-one i) refl

  -- it is the field at the index
  pub found_here : test (i + 1) (get_or fields i d).now ≡ true → found_from test (texts_of fields) i ≡ Some (i + 1)
  found_here holds = rw (front, holds) refl

  -- or a later one
  pub found_later : test (i + 1) (get_or fields i d).now ≡ false
      → found_from test (texts_of fields) i ≡ found_from test (texts_of fields) (i + 1)
  found_later fails = rw (front, fails) refl

-- the fields after a trade are trades
pub trades_behind : (fields : List (Bor (List ℕ))) → 2 ≤ length fields → AreTrades (texts_of fields) → AreTrades (texts_of (drop 2 fields))
trades_behind [] some are = absurd (omega (arith, some))
trades_behind (a ∷ []) some are = absurd (omega (arith, some))
trades_behind (a ∷ b ∷ rest) some are = are.2

-- fewer than two fields contain no trade
pub few_trades : (fields : List (Bor (List ℕ))) (trades : List Trade) → length fields < 2 → trades ≡ trades ++ trades_of (texts_of fields)
few_trades [] trades few = sym (append-nil trades)
few_trades (a ∷ []) trades few = sym (append-nil trades)
few_trades (a ∷ b ∷ rest) trades few = absurd (omega (arith, few))

-- the next two fields are one more trade
pub push_trade : (trades : List Trade) (fields : List (Bor (List ℕ))) (d : Bor (List ℕ)) (trade : Trade) → 2 ≤ length fields
    → trade ≡ record { contract = (get_or fields 0 d).now; quantity = unwrap_or (whole_number (get_or fields 1 d).now) (pos 0) }
    → (trades ++ trade ∷ []) ++ trades_of (texts_of (drop 2 fields)) ≡ trades ++ trades_of (texts_of fields)
push_trade trades [] d trade some is = absurd (omega (arith, some))
push_trade trades (a ∷ []) d trade some is = absurd (omega (arith, some))
push_trade trades (a ∷ b ∷ rest) d trade some is = rw is (append_assoc trades (_ ∷ []) (trades_of (texts_of rest)))
