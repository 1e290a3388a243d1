-- The fills of a session as records after the records of the position file.
use Rattle.std.proofs.Common.{◌≡◌, ◌∙◌, ℕ, Bool, true, false, cond, ◌||◌, List, [], ◌∷◌, ◌++◌, map, inl, inr}
use Rattle.std.proofs.Common.{None, Ok, refl, sym, ap, subst, append_assoc, arith}
use Rattle.std.specs.Prelude.{bytes_eq}
use Rattle.std.specs.List.{list_any}
use Rattle.std.proofs.lemmas.Bool.{cases_Bool, or_from, or_parts, or_right, true≢false}
use Rattle.std.proofs.lemmas.List.{map-append}
use Rattle.std.proofs.lemmas.List.Elements.{All-map}
use Rattle.std.proofs.lemmas.List.Folds.{list_any-append}
use Rattle.span_csv.specs.PositionFaults.{positions_of}
use Rattle.span_tables.specs.Faults.{ok_unless}
use Rattle.span_tables.specs.Names.{distinct, has_repeat, is_among}
use Rattle.span_tables.specs.Net.{AccountHoldings, holdings_of, portfolios_of}
use Rattle.span_tables.specs.Orders.{account_of_order, holdings_among}
use Rattle.span_tables.specs.Tables.{AcceptedTables}
use Rattle.span_tables.specs.declared.portfolios.Holding.{Holding}
use Rattle.span_tables.specs.declared.records.Contract.{Contract}
use Rattle.span_tables.specs.declared.records.OrderRecord.{OrderRecord}
use Rattle.span_tables.specs.declared.records.PositionRecord.{PositionRecord}
use Rattle.span_tables.proofs.MergedLaws.{holdings_among_all, holdings_with_more}
use Rattle.span_tables.proofs.NameLaws.{distinct_once}
use Rattle.span_tables.proofs.NameLemmas.{distinct-push, is_among-distinct, same_name}
use Rattle.binding.specs.Trades.{as_order, held_after, order_trade, trade_fault, traded}
use Rattle.binding.specs.declared.trades.Trade.{Trade}
use Rattle.binding.proofs.AccountLaws.{bytes_eq-flip, bytes_eq-refl}
use Rattle.binding.proofs.TradeOrders.{account_is, bound_as_an_order, mine, one_order}
use Rattle.parts.proofs.PartLemmas.{holdings_alone, records_in_first}
use Rattle.statement_text.specs.Statement.{accepted_of, portfolios_under, statement_bound, statement_of, statement_text, statement_under}
use Rattle.statement_text.proofs.AcceptedFiles.{bound_are}
use Rattle.whatif.proofs.BehindLaws.{accepted_behind}
use Rattle.session.specs.Accounts.{with_account}
use Rattle.session.specs.Answers.{State, answer_to, opened, unchanged}
use Rattle.session.specs.Conversations.{Turn, booked_in, booked_records, has_new_set, state_behind}
use Rattle.session.specs.Requests.{Margin}
use Rattle.session.proofs.KeepLemmas.{after_trades, state_filled, turns_keep}
use Rattle.session.proofs.ReadStateLemmas.{opened_is}

-- ---- an account after other accounts

-- an account with its holdings
abbrev held_as : (List ℕ → List Holding) → List ℕ → AccountHoldings
held_as held name = record { account = name; holdings = held name }

module _ (held later : List ℕ → List Holding) (account : List ℕ)
    (same : (name : List ℕ) → bytes_eq name account ≡ false → held name ≡ later name) where
  one_same : (name : List ℕ) → bytes_eq account name ≡ false → held_as held name ≡ held_as later name
  one_same name other =
      λ i. (let p : AccountHoldings = record { account = name; holdings = same name (bytes_eq-flip name account ∙ other) i } in p)

  others_same : (names : List (List ℕ)) → list_any (bytes_eq account) names ≡ false → map (held_as held) names ≡ map (held_as later) names
  others_same [] none = refl
  others_same (n ∷ names) none =
      let parts = or_parts (bytes_eq account n) (list_any (bytes_eq account) names) none in
      let here = one_same n parts.0 in
      let rest = others_same names parts.1 in
      λ i. here i ∷ rest i

  -- one account gets its later holdings, at its index or at the end
  with_later : (names : List (List ℕ)) → has_repeat bytes_eq names ≡ false
      → with_account (map (held_as held) names) (held_as later account)
      ≡ map (held_as later) (cond (is_among names account) names (names ++ account ∷ []))
  with_later [] apart = refl
  with_later (n ∷ names) apart =
      let parts = or_parts (list_any (bytes_eq n) names) (has_repeat bytes_eq names) apart in
      elim (cases_Bool (bytes_eq account n)) [
        | inl e ↦
            let name = same_name account n e in
            let rest = others_same names (ap (λ x. list_any (bytes_eq x) names) name ∙ parts.0) in
            rw e (λ i. held_as later (name i) ∷ rest i)
        | inr e ↦
            let here = one_same n e in
            let more = with_later names parts.1 in
            rw e ((λ i. here i ∷ more i) ∙ ap (map (held_as later)) (front (is_among names account)))
      ]
    where
      front : (b : Bool) → n ∷ cond b names (names ++ account ∷ []) ≡ cond b (n ∷ names) ((n ∷ names) ++ account ∷ [])
      front true = refl
      front false = refl

-- ---- the records of a FILL after other records

-- the account is appended to the names of other records, if it is new
names_behind : (names : List (List ℕ)) (account : List ℕ) (t : Trade) (ts : List Trade)
    → distinct (names ++ map (λ p. p.account) (booked_records account (t ∷ ts)))
    ≡ cond (is_among names account) (distinct names) (distinct names ++ account ∷ [])
names_behind names account t [] = distinct-push names account
names_behind names account t (u ∷ us) =
    let last : is_among (names ++ account ∷ []) account ≡ true =
    list_any-append (bytes_eq account) names (account ∷ [])
    ∙ or_right (is_among names account) (is_among (account ∷ []) account) (ap (λ b. b || false) (bytes_eq-refl account)) in
    ap distinct (sym (append_assoc names (account ∷ []) (map (λ (p : PositionRecord). p.account) (booked_records account (u ∷ us)))))
    ∙ names_behind (names ++ account ∷ []) account u us
    ∙ ap (λ b. cond b (distinct (names ++ account ∷ [])) (distinct (names ++ account ∷ []) ++ account ∷ [])) last
    ∙ distinct-push names account

module _ (contracts : List Contract) (positions : List PositionRecord) (account : List ℕ) where
  none_booked : (name : List ℕ) → bytes_eq name account ≡ false → (ts : List Trade)
      → is_among (map (λ p. p.account) (booked_records account ts)) name ≡ false
  none_booked name other [] = refl
  none_booked name other (t ∷ ts) = or_from (bytes_eq name account) _ other (none_booked name other ts)

  -- the records followed by the records of a FILL have the accounts after the FILL
  accounts_behind : (t : Trade) (ts : List Trade)
      → with_account (portfolios_of contracts positions)
      (record { account = account; holdings = holdings_of contracts (positions ++ booked_records account (t ∷ ts)) account })
      ≡ portfolios_of contracts (positions ++ booked_records account (t ∷ ts))
  unfolding portfolios_of
  accounts_behind t ts =
      let booked = booked_records account (t ∷ ts) in
      let names = map (λ (p : PositionRecord). p.account) positions in
      let later = holdings_of contracts (positions ++ booked) in
      with_later (holdings_of contracts positions) later account (λ name other.
      sym (holdings_alone contracts (positions ++ booked) positions name
      (records_in_first positions booked name (none_booked name other (t ∷ ts))))) (distinct names) (distinct_once names)
      ∙ ap (λ b. map (held_as later) (cond b (distinct names) (distinct names ++ account ∷ []))) (is_among-distinct names account)
      ∙ ap (map (held_as later)) (sym (names_behind names account t ts)
      ∙ ap distinct (sym (map-append (λ (p : PositionRecord). p.account) positions booked)))

-- ---- the state after fills

-- the state has the tables of the parameter file and the accounts of the records
abbrev IsOf : List ℕ → List PositionRecord → State → Type 0
IsOf params rs s = (accepted_of params ≡ Ok s.tables) × (portfolios_under s.tables rs ≡ Ok s.accounts)

module _ (params : List ℕ) (rs : List PositionRecord) (s : State) (account : List ℕ) (u : Trade) (us : List Trade) where
  abbrev contracts : List Contract
  contracts = s.tables.contracts

  abbrev trades : List Trade
  trades = u ∷ us

  abbrev held : List Holding
  held = holdings_among s.accounts account

  -- the FILL as an order, and as position records
  abbrev records : List OrderRecord
  records = map (order_trade account account) trades

  abbrev booked : List PositionRecord
  booked = booked_records account trades

  -- the records of a FILL are accepted after the others
  behind : trade_fault contracts held account trades ≡ None → IsOf params rs s
      → portfolios_under s.tables (rs ++ booked) ≡ Ok (portfolios_of contracts (rs ++ booked))
  unfolding traded
  behind none is =
      subst (λ more. portfolios_under s.tables (rs ++ more) ≡ Ok (portfolios_of contracts (rs ++ more))) (mine account account trades)
      (accepted_behind params s.tables rs s.accounts records _ account is.0 is.1
      (All-map (λ (r : OrderRecord). r.account ≡ account_of_order records r.order) (order_trade account account) trades
      (λ k d lt. sym (account_is account account u us)))
      (bound_as_an_order account account contracts s.accounts trades (omega arith)
      ∙ ap (λ o. as_order s.accounts account held (ok_unless o (after_trades s account trades))) none)
      (ap (λ names. is_among names account) (one_order account account contracts s.accounts u us)
      ∙ ap (λ b. b || false) (bytes_eq-refl account)))

  -- and the account after it has its holdings from all these records
  after_is : IsOf params rs s → after_trades s account trades
      ≡ record { account = account; holdings = holdings_of contracts (rs ++ booked) account }
  after_is is =
      let all = sym (bound_are s.tables rs s.accounts is.1).1 in
      let same = (λ i. held_after contracts (holdings_among (all i) account) account trades)
      ∙ ap (λ hs. held_after contracts hs account trades) (holdings_among_all contracts rs account)
      ∙ holdings_with_more contracts rs booked account in
      λ i. (let p : AccountHoldings = record { account = account; holdings = same i } in p)

  fill_behind : trade_fault contracts held account trades ≡ None → IsOf params rs s
      → IsOf params (rs ++ booked) (state_filled s account trades)
  fill_behind none is =
      let all = (bound_are s.tables rs s.accounts is.1).1 in
      (is.0, behind none is ∙ ap Ok (sym ((λ i. with_account (sym all i) (after_is is i)) ∙ accounts_behind contracts rs account u us)))

-- the records followed by all records that requests book have the accounts after the requests
all_behind : (params : List ℕ) (rs : List PositionRecord) (s : State) (turns : List Turn) → IsOf params rs s
    → has_new_set s turns ≡ false → IsOf params (rs ++ booked_in s turns) (state_behind s turns)
all_behind params rs s turns is kept =
    turns_keep (IsOf params) ⊥ (λ qs t account u us named place none of. fill_behind params qs t account u us none of)
    (λ never. absurd never) turns rs s (λ set. true≢false (sym set ∙ kept)) is

pub accounts_are_behind : (params : List ℕ) (t : AcceptedTables) (records : List PositionRecord) (accounts : List AccountHoldings)
    (turns : List Turn) → accepted_of params ≡ Ok t → portfolios_under t records ≡ Ok accounts
    → has_new_set (record { tables = t; accounts = accounts }) turns ≡ false
    → portfolios_under t (records ++ booked_in (record { tables = t; accounts = accounts }) turns)
    ≡ Ok (state_behind (record { tables = t; accounts = accounts }) turns).accounts
accounts_are_behind params t records accounts turns accepted bound kept =
    let s : State = record { tables = t; accounts = accounts } in
    let done = all_behind params records s turns (accepted, bound) kept in
    let both : Ok (state_behind s turns).tables ≡ Ok t = sym done.0 ∙ accepted in
    let tables : (state_behind s turns).tables ≡ t = cc in
    subst (λ x. portfolios_under x (records ++ booked_in s turns) ≡ Ok (state_behind s turns).accounts) tables done.1

-- therefore the answer to MARGIN is the statement of a file with these records
pub margin_behind : (params positions more : List ℕ) (s : State) (turns : List Turn) (records : List PositionRecord)
    → opened params positions ≡ Ok s → positions_of positions ≡ Ok records
    → has_new_set s turns ≡ false → positions_of more ≡ Ok (records ++ booked_in s turns)
    → (text : List ℕ) × (statement_of params more ≡ Ok text)
    × (answer_to (state_behind s turns) None Margin ≡ unchanged (state_behind s turns) text)
unfolding answer_to statement_of statement_under statement_bound
margin_behind params positions more s turns records begun read kept behind =
    let is = opened_is params positions s begun in
    let both : Ok records ≡ Ok is.records = sym read ∙ is.read in
    let same : records ≡ is.records = cc in
    let bound = ap (portfolios_under s.tables) same ∙ is.bound in
    let done = all_behind params records s turns (is.accepted, bound) kept in
    (statement_text (state_behind s turns).tables (state_behind s turns).accounts, rw (done.0, behind, done.1) refl, refl)
