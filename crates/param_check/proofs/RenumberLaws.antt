-- The faults of the records of known contracts by themselves, with the record numbers of the file.
use Rattle.std.proofs.Common.{◌≡◌, ℕ, ◌+◌, ◌-◌, Bool, true, false, cond, not, ◌&&◌, ◌||◌, List, [], ◌∷◌, ◌++◌, length, get_or, map, filter}
use Rattle.std.proofs.Common.{Some, None, refl, sym, ap, ◌∙◌, append_assoc, arith}
use Rattle.std.specs.Prelude.{if◌then◌else◌, option_map, option_to_list}
use Rattle.std.specs.List.{enumerate_from, list_any}
use Rattle.std.proofs.lemmas.List.{append-nil, length_push, map-append}
use Rattle.std.proofs.lemmas.List.Elements.{filter-append}
use Rattle.span_tables.specs.Faults.{faults_after}
use Rattle.span_tables.specs.declared.records.Contract.{Contract}
use Rattle.span_tables.specs.declared.records.PositionRecord.{PositionRecord}
use Rattle.binding.specs.Binding.{all_unfit, among, bind_faults, exceeds_held, exceeds_net, is_first_of_account}
use Rattle.binding.specs.Binding.{is_first_of_contract, is_known, is_unknown, known_records}
use Rattle.param_check.specs.FaultLaws.{known_numbers, renumbered}
use Rattle.binding.specs.declared.faults.BindFault.{BindFault}
use Rattle.binding.specs.declared.faults.BindFault.TheVariants as fault
use Rattle.binding.proofs.KnownRecords.{all_pass, among_all}
use Rattle.binding.proofs.UnfitLaws.{none_unfit}
use Rattle.binding.proofs.UnfitWalk.{unfit_at}

abbrev contract_of : PositionRecord → List ℕ
contract_of p = p.contract

at_end : (front later : List ℕ) (n : ℕ) → get_or (front ++ n ∷ later) (length front) 0 ≡ n
at_end [] later n = refl
at_end (m ∷ front) later n = at_end front later n

-- among the elements that pass a test, none fails it
none_left : {X : Type 0} (test : X → Bool) (xs : List X) → list_any (λ x. not (test x)) (filter test xs) ≡ false
none_left test [] = refl
none_left test (x ∷ xs) = by (test x) refl (none_left test xs)
  where
    by : (b : Bool) → test x ≡ b → list_any (λ y. not (test y)) (filter test xs) ≡ false
        → list_any (λ y. not (test y)) (cond b (x ∷ filter test xs) (filter test xs)) ≡ false
    by true e more = ap (λ t. not t || list_any (λ y. not (test y)) (filter test xs)) e ∙ more
    by false e more = more

module _ (contracts : List Contract) where
  known_from : ℕ → List PositionRecord → List ℕ
  known_from n xs = map (λ m. m.0) (filter (λ m. is_known contracts m.1) (enumerate_from n xs))

  known_from_next : (n : ℕ) (x : PositionRecord) (xs : List PositionRecord) (b : Bool) → is_known contracts x ≡ b
      → known_from n (x ∷ xs) ≡ cond b (n ∷ known_from (n + 1) xs) (known_from (n + 1) xs)
  unfolding known_from
  known_from_next n x xs b e = ap (λ (t : Bool). map (λ (m : ℕ × PositionRecord). m.0) (cond t ((n, x) ∷ later) later)) e ∙ by b
    where
      later : List (ℕ × PositionRecord)
      later = filter (λ m. is_known contracts m.1) (enumerate_from (n + 1) xs)

      by : (t : Bool) → map (λ (m : ℕ × PositionRecord). m.0) (cond t ((n, x) ∷ later) later)
          ≡ cond t (n ∷ map (λ m. m.0) later) (map (λ m. m.0) later)
      by true = refl
      by false = refl

  known_push : (front : List PositionRecord) (x : PositionRecord) (b : Bool) → is_known contracts x ≡ b
      → known_records contracts (front ++ x ∷ []) ≡ known_records contracts front ++ cond b (x ∷ []) []
  known_push front x b e =
      filter-append (is_known contracts) front (x ∷ []) ∙ ap (λ (t : Bool). known_records contracts front ++ cond t (x ∷ []) []) e

  module _ (numbers : List ℕ) (g : ℕ → List ℕ → BindFault)
      (named : (at : ℕ) (name : List ℕ) → renumbered numbers (g at name) ≡ g (get_or numbers (at - 1) 0) name)
      (test : List PositionRecord → PositionRecord → Bool) where
    -- the fault of a record of a known contract, both among all records and among the records of known contracts
    told : Bool → ℕ → List ℕ → List BindFault
    told b n name = option_to_list (option_map {T = ℕ → BindFault} (λ f. f n) (if b then Some (λ at. g at name) else None))

    told_renumbered : (b : Bool) (m n : ℕ) (name : List ℕ) → get_or numbers m 0 ≡ n
        → map (renumbered numbers) (told b (m + 1) name) ≡ told b n name
    unfolding told
    told_renumbered true m n name e =
        let back : m + 1 - 1 ≡ m = omega arith in
        ap (λ f. f ∷ []) (named (m + 1) name ∙ ap (λ k. g (get_or numbers k 0) name) back ∙ ap (λ k. g k name) e)
    told_renumbered false m n name e = refl

    among_every : List PositionRecord → List PositionRecord → List BindFault
    among_every earlier xs = faults_after (unfit_at g (among contract_of contracts test)) earlier xs

    alone : List PositionRecord → List PositionRecord → List BindFault
    alone earlier xs = faults_after (unfit_at g test) earlier xs

    renumbered_from : (earlier xs : List PositionRecord) (front : List ℕ) → numbers ≡ front ++ known_from (length earlier + 1) xs
        → length front ≡ length (known_records contracts earlier)
        → map (renumbered numbers) (alone (known_records contracts earlier) (known_records contracts xs)) ≡ among_every earlier xs
    unfolding alone among_every told
    renumbered_from earlier [] front e size = refl
    renumbered_from earlier (x ∷ xs) front e size =
        by (is_known contracts x) refl (λ behind f s. renumbered_from (earlier ++ x ∷ []) xs behind f s)
      where
        known : List PositionRecord
        known = known_records contracts earlier

        n : ℕ
        n = length earlier + 1

        up : length (earlier ++ x ∷ []) ≡ n
        up = length_push earlier x

        -- the fault of the record, if it is reported
        own : Bool → List BindFault
        own b = told b n x.account

        -- the faults after it, from the records of known contracts only, with the numbers of all records
        behind : List PositionRecord → List BindFault
        behind ks = map (renumbered numbers) (alone ks (known_records contracts xs))

        by : (b : Bool) → is_known contracts x ≡ b
            → ((before : List ℕ) → numbers ≡ before ++ known_from (length (earlier ++ x ∷ []) + 1) xs
            → length before ≡ length (known_records contracts (earlier ++ x ∷ []))
            → behind (known_records contracts (earlier ++ x ∷ [])) ≡ among_every (earlier ++ x ∷ []) xs)
            → map (renumbered numbers) (alone known (cond b (x ∷ known_records contracts xs) (known_records contracts xs)))
            ≡ among_every earlier (x ∷ xs)
        by true is more =
            let numbers_are : numbers ≡ front ++ n ∷ known_from (n + 1) xs =
            e ∙ ap (λ ns. front ++ ns) (known_from_next n x xs true is) in
            let at : get_or numbers (length known) 0 ≡ n = ap (λ ns. get_or ns (length known) 0) numbers_are
            ∙ ap (λ k. get_or (front ++ n ∷ known_from (n + 1) xs) k 0) (sym size) ∙ at_end front (known_from (n + 1) xs) n in
            let push = known_push earlier x true is in
            let rest = more (front ++ n ∷ [])
            (numbers_are ∙ sym (append_assoc front (n ∷ []) (known_from (n + 1) xs))
            ∙ ap (λ k. (front ++ n ∷ []) ++ known_from (k + 1) xs) (sym up))
            (length_push front n ∙ ap (λ k. k + 1) size ∙ sym (ap length push ∙ length_push known x)) in
            map-append (renumbered numbers) (told (test known x) (length known + 1) x.account)
            (alone (known ++ x ∷ []) (known_records contracts xs))
            ∙ ap (λ fs. fs ++ behind (known ++ x ∷ [])) (told_renumbered (test known x) (length known) n x.account at)
            ∙ ap (λ ks. own (test known x) ++ behind ks) (sym push)
            ∙ ap (λ fs. own (test known x) ++ fs) rest
            ∙ ap (λ (t : Bool). own (t && test known x) ++ among_every (earlier ++ x ∷ []) xs) (sym is)
        by false is more =
            let push = known_push earlier x false is ∙ append-nil known in
            let rest = more front
            (e ∙ ap (λ ns. front ++ ns) (known_from_next n x xs false is) ∙ ap (λ k. front ++ known_from (k + 1) xs) (sym up))
            (size ∙ ap length (sym push)) in
            ap behind (sym push) ∙ rest
            ∙ ap (λ (t : Bool). own (t && test known x) ++ among_every (earlier ++ x ∷ []) xs) (sym is)

  module _ (all : List PositionRecord) where
    known : List PositionRecord
    known = known_records contracts all

    net_test : List PositionRecord → List PositionRecord → PositionRecord → Bool
    net_test of earlier p = is_first_of_contract earlier p && exceeds_net of p

    held_test : List PositionRecord → List PositionRecord → PositionRecord → Bool
    held_test of earlier p = is_first_of_account earlier p && exceeds_held contracts of p

    left : list_any (is_unknown contracts) (known_records contracts all) ≡ false
    left = none_left (is_known contracts) all

    known_same : known_records contracts (known_records contracts all) ≡ known_records contracts all
    known_same = all_pass (is_known contracts) (known_records contracts all) left

    unknown_none : all_unfit fault.UnknownContract (λ earlier p. is_unknown contracts p) (known_records contracts all) ≡ []
    unknown_none =
        none_unfit (λ (p : PositionRecord). p.account) fault.UnknownContract (is_unknown contracts) (known_records contracts all) left

    part : (g : ℕ → List ℕ → BindFault)
        → ((at : ℕ) (name : List ℕ) → renumbered (known_numbers contracts all) (g at name)
        ≡ g (get_or (known_numbers contracts all) (at - 1) 0) name)
        → (test : List PositionRecord → PositionRecord → Bool)
        → map (renumbered (known_numbers contracts all)) (all_unfit g test (known_records contracts all))
        ≡ all_unfit g (among contract_of contracts test) all
    unfolding known_from alone among_every
    part g named test = renumbered_from (known_numbers contracts all) g named test [] all [] refl refl

    alone_is : bind_faults contracts (known_records contracts all)
        ≡ all_unfit fault.NetOutOfRange (net_test (known_records contracts all)) (known_records contracts all)
        ++ all_unfit fault.TooManyHeld (held_test (known_records contracts all)) (known_records contracts all)
    unfolding bind_faults net_test held_test
    alone_is =
        let nets = ap (λ ks. all_unfit fault.NetOutOfRange (among contract_of contracts (net_test ks)) (known_records contracts all))
        known_same
        ∙ among_all (λ (p : PositionRecord). p.account) fault.NetOutOfRange (is_known contracts) (known_records contracts all) left
        (net_test (known_records contracts all)) in
        let held = ap (λ ks. all_unfit fault.TooManyHeld (among contract_of contracts (held_test ks)) (known_records contracts all))
        known_same
        ∙ among_all (λ (p : PositionRecord). p.account) fault.TooManyHeld (is_known contracts) (known_records contracts all) left
        (held_test (known_records contracts all)) in
        λ k. unknown_none k ++ nets k ++ held k

    -- faults of nets and holdings are found from the records of known contracts only, and have the record numbers of
    -- the file
    pub as_alone : bind_faults contracts all
        ≡ all_unfit fault.UnknownContract (λ earlier p. is_unknown contracts p) all
        ++ map (renumbered (known_numbers contracts all)) (bind_faults contracts (known_records contracts all))
    unfolding bind_faults net_test held_test
    as_alone =
        let unknown = all_unfit fault.UnknownContract (λ earlier p. is_unknown contracts p) all in
        let numbers = known_numbers contracts all in
        let nets = all_unfit fault.NetOutOfRange (net_test (known_records contracts all)) (known_records contracts all) in
        let held = all_unfit fault.TooManyHeld (held_test (known_records contracts all)) (known_records contracts all) in
        append_assoc unknown (all_unfit fault.NetOutOfRange (among contract_of contracts (net_test (known_records contracts all))) all)
        (all_unfit fault.TooManyHeld (among contract_of contracts (held_test (known_records contracts all))) all)
        ∙ ap (λ fs. unknown ++ fs) (sym
        (ap (map (renumbered numbers)) alone_is ∙ map-append (renumbered numbers) nets held
        ∙ (λ k. part fault.NetOutOfRange (λ at name. refl) (net_test (known_records contracts all)) k
        ++ part fault.TooManyHeld (λ at name. refl) (held_test (known_records contracts all)) k)))
