-- Parts of a position file that have no account in common.
use Rattle.std.proofs.Common.{◌≡◌, ◌∙◌, ℕ, Bool, true, false, cond, not, ◌||◌, ◌&&◌, List, [], ◌∷◌, ◌++◌, map, filter}
use Rattle.std.proofs.Common.{Option, Some, None, Ok, refl, sym, ap}
use Rattle.std.specs.Prelude.{bytes_eq, flat_map, length, nat_abs, nat_lt}
use Rattle.std.specs.List.{enumerate_from, list_any}
use Rattle.std.proofs.lemmas.Bool.{or_parts, true≢false, or_right, or_from}
use Rattle.std.proofs.lemmas.Grind.{flat_map-append}
use Rattle.std.proofs.lemmas.List.{append-nil, map-append}
use Rattle.std.proofs.lemmas.List.Elements.{filter-append}
use Rattle.std.proofs.lemmas.List.Folds.{list_any-append}
use Rattle.span_money.specs.Numbers.{int_sum_by}
use Rattle.span_tables.specs.Faults.{ok_unless}
use Rattle.span_tables.specs.Names.{distinct, is_among}
use Rattle.span_tables.specs.Net.{AccountHoldings, accounts_of, holding_of, holdings_of, is_held, net_of, portfolios_of}
use Rattle.span_tables.specs.Tables.{AcceptedTables}
use Rattle.span_tables.specs.declared.limits.TheConstants.{MAX_HELD, MAX_NET}
use Rattle.span_tables.specs.declared.portfolios.Holding.{Holding}
use Rattle.span_tables.specs.declared.records.Contract.{Contract}
use Rattle.span_tables.specs.declared.records.PositionRecord.{PositionRecord}
use Rattle.span_tables.proofs.NameLemmas.{is_among-distinct}
use Rattle.binding.specs.Binding.{bind_fault, bindings_of, exceeds_held, exceeds_net, is_unknown}
use Rattle.binding.specs.declared.faults.BindFault.{BindFault}
use Rattle.binding.proofs.AcceptedLaws.{IsFit, fit_of_none, none_of_fit}
use Rattle.binding.proofs.AccountLaws.{bytes_eq-flip, bytes_eq-refl}
use Rattle.parts.specs.Parts.{AreApart, ShareNoName, records_of_account}
use Rattle.statement_text.specs.Statement.{and_then, portfolios_under, row_text, same, statement_bound, statement_text}
use Rattle.statement_text.specs.declared.faults.SpanFault.TheVariants as fault

-- ---- names

-- the first name of a list is among its names
pub first_among : (name : List ℕ) (names : List (List ℕ)) → is_among (name ∷ names) name ≡ true
first_among name names = rw (bytes_eq-refl name) refl

-- a name among the rest of a list is among all its names
rest_among : (x name : List ℕ) (names : List (List ℕ)) → is_among names name ≡ true → is_among (x ∷ names) name ≡ true
rest_among x name names e = or_right (bytes_eq name x) (is_among names name) e

-- filtering out a name that is not in a list leaves the list unchanged
pub none_taken : (gone : List ℕ) (names : List (List ℕ)) → is_among names gone ≡ false
    → filter (λ other. not (bytes_eq other gone)) names ≡ names
none_taken gone [] new = refl
none_taken gone (x ∷ names) new =
    let parts = or_parts (bytes_eq gone x) (is_among names gone) new in
    let apart : bytes_eq x gone ≡ false = bytes_eq-flip x gone ∙ parts.0 in
    rw apart (ap (λ rest. x ∷ rest) (none_taken gone names parts.1))

-- `ShareNoName` is symmetric
share_none_back : (xs ys : List (List ℕ)) → ShareNoName xs ys → ShareNoName ys xs
share_none_back xs ys apart = λ name among. by name among (is_among xs name) refl where
  by : (name : List ℕ) → is_among ys name ≡ true → (b : Bool) → is_among xs name ≡ b → is_among xs name ≡ false
  by name among true e = absurd (true≢false (sym among ∙ apart name e))
  by name among false e = e

-- if two lists share no name, the distinct names of both are the distinct names of each, joined
pub distinct_joined : (xs ys : List (List ℕ)) → ShareNoName xs ys → distinct (xs ++ ys) ≡ distinct xs ++ distinct ys
distinct_joined [] ys apart = refl
distinct_joined (x ∷ xs) ys apart =
    let rest = distinct_joined xs ys (λ name among. apart name (rest_among x name xs among)) in
    let new : is_among (distinct ys) x ≡ false = is_among-distinct ys x ∙ apart x (first_among x xs) in
    ap (λ names. x ∷ filter (λ other. not (bytes_eq other x)) names) rest
    ∙ ap (λ names. x ∷ names) (filter-append (λ other. not (bytes_eq other x)) (distinct xs) (distinct ys))
    ∙ ap (λ names. x ∷ (filter (λ other. not (bytes_eq other x)) (distinct xs) ++ names)) (none_taken x (distinct ys) new)

-- ---- the records of an account

-- an account that is not among the accounts of the records has no record
no_records : (ps : List PositionRecord) (account : List ℕ) → is_among (map (λ p. p.account) ps) account ≡ false
    → records_of_account ps account ≡ []
no_records [] account new = refl
no_records (p ∷ ps) account new =
    let parts = or_parts (bytes_eq account p.account) (is_among (map (λ q. q.account) ps) account) new in
    let apart : bytes_eq p.account account ≡ false = bytes_eq-flip p.account account ∙ parts.0 in
    rw apart (no_records ps account parts.1)

-- an account that is not in the second part has all its records in the first
pub records_in_first : (ps qs : List PositionRecord) (account : List ℕ) → is_among (map (λ p. p.account) qs) account ≡ false
    → records_of_account (ps ++ qs) account ≡ records_of_account ps account
records_in_first ps qs account new =
    filter-append (λ p. bytes_eq p.account account) ps qs
    ∙ ap (λ rs. records_of_account ps account ++ rs) (no_records qs account new)
    ∙ append-nil (records_of_account ps account)

-- an account that is not in the first part has all its records in the second
records_in_second : (ps qs : List PositionRecord) (account : List ℕ) → is_among (map (λ p. p.account) ps) account ≡ false
    → records_of_account (ps ++ qs) account ≡ records_of_account qs account
records_in_second ps qs account new =
    filter-append (λ p. bytes_eq p.account account) ps qs
    ∙ ap (λ rs. rs ++ records_of_account qs account) (no_records ps account new)

-- filtering by two tests together is filtering by one and then by the other
both_tests : {X : Type 0} (f g : X → Bool) (xs : List X) → filter (λ x. f x && g x) xs ≡ filter g (filter f xs)
both_tests f g [] = refl
both_tests f g (x ∷ xs) = by (f x) (both_tests f g xs) where
  by : (b : Bool) → filter (λ y. f y && g y) xs ≡ filter g (filter f xs)
      → cond (b && g x) (x ∷ filter (λ y. f y && g y) xs) (filter (λ y. f y && g y) xs)
      ≡ filter g (cond b (x ∷ filter f xs) (filter f xs))
  by true more = ap (λ rest. cond (g x) (x ∷ rest) rest) more
  by false more = more

-- the net of an account is the net of its own records
net_by_account : (ps : List PositionRecord) (account contract : List ℕ) → net_of ps account contract
    ≡ int_sum_by (λ p. p.quantity) (filter (λ p. bytes_eq p.contract contract) (records_of_account ps account))
net_by_account ps account contract =
    ap (int_sum_by (λ (p : PositionRecord). p.quantity))
    (both_tests (λ p. bytes_eq p.account account) (λ p. bytes_eq p.contract contract) ps)

-- two lists with the same records of an account give the account the same net
pub net_alone : (ps qs : List PositionRecord) (account contract : List ℕ)
    → records_of_account ps account ≡ records_of_account qs account → net_of ps account contract ≡ net_of qs account contract
net_alone ps qs account contract alike =
    net_by_account ps account contract
    ∙ ap (λ rs. int_sum_by (λ (p : PositionRecord). p.quantity) (filter (λ p. bytes_eq p.contract contract) rs)) alike
    ∙ sym (net_by_account qs account contract)

-- two lists with the same records of an account give the account the same holdings
pub holdings_alone : (contracts : List Contract) (ps qs : List PositionRecord) (account : List ℕ)
    → records_of_account ps account ≡ records_of_account qs account
    → holdings_of contracts ps account ≡ holdings_of contracts qs account
holdings_alone contracts ps qs account alike =
    ap (λ one. filter is_held (map one (enumerate_from 0 contracts))) alike_holding
  where
    alike_holding : holding_of ps account ≡ holding_of qs account
    alike_holding = λ i numbered. (let it : Holding = record {
      contract = numbered.0;
      net = net_alone ps qs account (numbered.1).id alike i;
    } in it)

-- ---- portfolios

-- an account and its holdings
abbrev pub portfolio : List Contract → List PositionRecord → List ℕ → AccountHoldings
portfolio contracts ps account = record { account = account; holdings = holdings_of contracts ps account }

-- two lists with the same records of an account give the account the same portfolio
portfolio_alone : (contracts : List Contract) (ps qs : List PositionRecord) (account : List ℕ)
    → records_of_account ps account ≡ records_of_account qs account
    → portfolio contracts ps account ≡ portfolio contracts qs account
portfolio_alone contracts ps qs account alike =
    ap (λ held. (let it : AccountHoldings = record { account = account; holdings = held } in it))
    (holdings_alone contracts ps qs account alike)

-- accounts with the same records in two lists have the same portfolios
portfolios_alike : (contracts : List Contract) (ps qs : List PositionRecord) (names : List (List ℕ))
    → ((name : List ℕ) → is_among names name ≡ true → records_of_account ps name ≡ records_of_account qs name)
    → map (portfolio contracts ps) names ≡ map (portfolio contracts qs) names
portfolios_alike contracts ps qs [] alike = refl
portfolios_alike contracts ps qs (x ∷ names) alike =
    let here = portfolio_alone contracts ps qs x (alike x (first_among x names)) in
    let rest = portfolios_alike contracts ps qs names (λ name among. alike name (rest_among x name names among)) in
    λ i. here i ∷ rest i

-- the portfolios of two parts together are the portfolios of each, joined
pub portfolios_joined : (contracts : List Contract) (ps qs : List PositionRecord) → AreApart ps qs
    → portfolios_of contracts (ps ++ qs) ≡ portfolios_of contracts ps ++ portfolios_of contracts qs
unfolding portfolios_of
portfolios_joined contracts ps qs apart =
    ap (λ names. map (portfolio contracts (ps ++ qs)) (distinct names)) (map-append (λ (p : PositionRecord). p.account) ps qs)
    ∙ ap (map (portfolio contracts (ps ++ qs)))
    (distinct_joined (map (λ (p : PositionRecord). p.account) ps) (map (λ (p : PositionRecord). p.account) qs) apart)
    ∙ map-append (portfolio contracts (ps ++ qs)) (accounts_of ps) (accounts_of qs)
    ∙ (λ i. first i ++ second i)
  where
    first : map (portfolio contracts (ps ++ qs)) (accounts_of ps) ≡ map (portfolio contracts ps) (accounts_of ps)
    first =
        portfolios_alike contracts (ps ++ qs) ps (accounts_of ps) (λ name among.
        records_in_first ps qs name (apart name (sym (is_among-distinct (map (λ (p : PositionRecord). p.account) ps) name) ∙ among)))

    second : map (portfolio contracts (ps ++ qs)) (accounts_of qs) ≡ map (portfolio contracts qs) (accounts_of qs)
    second =
        portfolios_alike contracts (ps ++ qs) qs (accounts_of qs) (λ name among.
        records_in_second ps qs name (share_none_back _ _ apart name
        (sym (is_among-distinct (map (λ (p : PositionRecord). p.account) qs) name) ∙ among)))

-- ---- the faults of binding

-- two tests that agree on all records whose accounts are in a list both find a record in it, or neither does
any_alike : (f g : PositionRecord → Bool) (ps : List PositionRecord)
    → ((p : PositionRecord) → is_among (map (λ q. q.account) ps) p.account ≡ true → f p ≡ g p)
    → list_any f ps ≡ list_any g ps
any_alike f g [] alike = refl
any_alike f g (p ∷ ps) alike =
    let here = alike p (first_among p.account (map (λ q. q.account) ps)) in
    let rest = any_alike f g ps (λ q among. alike q (rest_among p.account q.account (map (λ z. z.account) ps) among)) in
    λ i. here i || rest i

module _ (contracts : List Contract) (ps qs : List PositionRecord) (apart : AreApart ps qs) where
  -- a test that depends only on the records of the record's account finds one in both parts exactly if it finds one in
  -- either
  any_joined : (test : List PositionRecord → PositionRecord → Bool)
      → ((xs ys : List PositionRecord) (p : PositionRecord)
      → records_of_account xs p.account ≡ records_of_account ys p.account → test xs p ≡ test ys p)
      → list_any (test (ps ++ qs)) (ps ++ qs) ≡ (list_any (test ps) ps || list_any (test qs) qs)
  any_joined test alone =
      list_any-append (test (ps ++ qs)) ps qs
      ∙ (λ i. first i || second i)
    where
      first : list_any (test (ps ++ qs)) ps ≡ list_any (test ps) ps
      first =
          any_alike (test (ps ++ qs)) (test ps) ps (λ p among.
          alone (ps ++ qs) ps p (records_in_first ps qs p.account (apart p.account among)))

      second : list_any (test (ps ++ qs)) qs ≡ list_any (test qs) qs
      second =
          any_alike (test (ps ++ qs)) (test qs) qs (λ p among.
          alone (ps ++ qs) qs p (records_in_second ps qs p.account (share_none_back _ _ apart p.account among)))

  -- each of the three tests finds a record in both parts together exactly if it finds one in either
  known_joined : list_any (is_unknown contracts) (ps ++ qs)
      ≡ (list_any (is_unknown contracts) ps || list_any (is_unknown contracts) qs)
  known_joined = list_any-append (is_unknown contracts) ps qs

  nets_joined : list_any (exceeds_net (ps ++ qs)) (ps ++ qs) ≡ (list_any (exceeds_net ps) ps || list_any (exceeds_net qs) qs)
  nets_joined =
      any_joined exceeds_net (λ xs ys p alike.
      ap (λ z. nat_lt MAX_NET (nat_abs z)) (net_alone xs ys p.account p.contract alike))

  held_joined : list_any (exceeds_held contracts (ps ++ qs)) (ps ++ qs)
      ≡ (list_any (exceeds_held contracts ps) ps || list_any (exceeds_held contracts qs) qs)
  held_joined =
      any_joined (exceeds_held contracts) (λ xs ys p alike.
      ap (λ hs. nat_lt MAX_HELD (length hs)) (holdings_alone contracts xs ys p.account alike))

  -- two parts that are fit are fit together
  pub fit_joined : IsFit contracts ps → IsFit contracts qs → IsFit contracts (ps ++ qs)
  fit_joined one other = record {
    known = known_joined ∙ or_from _ _ one.known other.known;
    within = nets_joined ∙ or_from _ _ one.within other.within;
    few = held_joined ∙ or_from _ _ one.few other.few;
  }

  -- if both parts together are fit, each part is fit
  fit_parts : IsFit contracts (ps ++ qs) → IsFit contracts ps × IsFit contracts qs
  fit_parts both =
      let known = or_parts (list_any (is_unknown contracts) ps) (list_any (is_unknown contracts) qs) (sym known_joined ∙ both.known) in
      let within = or_parts (list_any (exceeds_net ps) ps) (list_any (exceeds_net qs) qs) (sym nets_joined ∙ both.within) in
      let few = or_parts (list_any (exceeds_held contracts ps) ps) (list_any (exceeds_held contracts qs) qs)
      (sym held_joined ∙ both.few) in
      let one : IsFit contracts ps = record { known = known.0; within = within.0; few = few.0 } in
      let other : IsFit contracts qs = record { known = known.1; within = within.1; few = few.1 } in
      (one, other)

-- ---- statements

-- the statement of records without a fault
pub text_of_fit : (t : AcceptedTables) (ps : List PositionRecord) → IsFit t.contracts ps
    → statement_bound t ps ≡ Ok (statement_text t (portfolios_of t.contracts ps))
unfolding statement_bound portfolios_under bindings_of
text_of_fit t ps fit = rw (none_of_fit t.contracts ps fit) refl

-- records with a statement have no fault, and the statement is the text of their portfolios
pub fit_of_text : (t : AcceptedTables) (ps : List PositionRecord) (text : List ℕ) → statement_bound t ps ≡ Ok text
    → IsFit t.contracts ps × (text ≡ statement_text t (portfolios_of t.contracts ps))
unfolding statement_bound portfolios_under bindings_of
fit_of_text t ps text is = by (bind_fault t.contracts ps) refl is where
  by : (o : Option BindFault) → bind_fault t.contracts ps ≡ o
      → and_then same (and_then fault.Bind (ok_unless o (portfolios_of t.contracts ps)) (λ portfolios. Ok portfolios))
      (λ portfolios. Ok (statement_text t portfolios)) ≡ Ok text
      → IsFit t.contracts ps × (text ≡ statement_text t (portfolios_of t.contracts ps))
  by (Some f) e is = cc
  by None e is = (fit_of_none t.contracts ps e, cc)

-- the text of the portfolios of two parts
text_joined : (t : AcceptedTables) (ps qs : List PositionRecord) → AreApart ps qs
    → statement_text t (portfolios_of t.contracts (ps ++ qs))
    ≡ statement_text t (portfolios_of t.contracts ps) ++ statement_text t (portfolios_of t.contracts qs)
unfolding statement_text
text_joined t ps qs apart =
    ap (flat_map (row_text t)) (portfolios_joined t.contracts ps qs apart)
    ∙ flat_map-append (row_text t) (portfolios_of t.contracts ps) (portfolios_of t.contracts qs)

-- the statements of two parts, joined, are the statement of the whole
pub statements_joined : (t : AcceptedTables) (ps qs : List PositionRecord) (one other : List ℕ) → AreApart ps qs
    → statement_bound t ps ≡ Ok one → statement_bound t qs ≡ Ok other → statement_bound t (ps ++ qs) ≡ Ok (one ++ other)
statements_joined t ps qs one other apart first second =
    let of_first = fit_of_text t ps one first in
    let of_second = fit_of_text t qs other second in
    text_of_fit t (ps ++ qs) (fit_joined t.contracts ps qs apart of_first.0 of_second.0)
    ∙ ap Ok (text_joined t ps qs apart ∙ (λ i. sym of_first.1 i ++ sym of_second.1 i))

-- the joined list has a statement only if each part has one
pub statements_parted : (t : AcceptedTables) (ps qs : List PositionRecord) (text : List ℕ) → AreApart ps qs
    → statement_bound t (ps ++ qs) ≡ Ok text
    → (one : List ℕ) × (other : List ℕ) × (statement_bound t ps ≡ Ok one) × (statement_bound t qs ≡ Ok other)
    × (text ≡ one ++ other)
statements_parted t ps qs text apart is =
    let whole = fit_of_text t (ps ++ qs) text is in
    let parts = fit_parts t.contracts ps qs apart whole.0 in (
      statement_text t (portfolios_of t.contracts ps),
      statement_text t (portfolios_of t.contracts qs),
      text_of_fit t ps parts.0,
      text_of_fit t qs parts.1,
      whole.1 ∙ text_joined t ps qs apart,
    )
