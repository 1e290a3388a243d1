-- The faults of owners' records, if the records, the faults or the owner are given another form.
use Rattle.std.proofs.Common.{◌≡◌, ℕ, ◌+◌, Bool, true, false, not, ◌&&◌, List, [], ◌∷◌, ◌++◌, filter, length, map}
use Rattle.std.proofs.Common.{Some, None, refl, sym, ap, ◌∙◌}
use Rattle.std.specs.Prelude.{bytes_eq, if◌then◌else◌, option_map, option_to_list}
use Rattle.std.specs.List.{list_any}
use Rattle.std.proofs.lemmas.List.{length-map, map-append}
use Rattle.span_tables.specs.Faults.{all_faults, faults_after, first_of}
use Rattle.span_tables.specs.near.Orders.{under_order}
use Rattle.span_tables.specs.declared.records.Contract.{Contract}
use Rattle.span_tables.specs.declared.records.OrderRecord.{OrderRecord}
use Rattle.span_tables.specs.declared.records.PositionRecord.{PositionRecord}
use Rattle.binding.specs.Binding.{all_unfit_by, among, is_of_known, owner_faults}
use Rattle.binding.specs.near.Orders.{order_fault}
use Rattle.binding.specs.declared.faults.BindFault.TheVariants as bind
use Rattle.binding.specs.declared.faults.OrderBindFault.TheVariants as fault
use Rattle.binding.proofs.AccountLaws.{bytes_eq-refl}
use Rattle.binding.proofs.FilterMaps.{list_any-map}
use Rattle.binding.proofs.ToldOnce.{list_any-filter}

-- ---- records in another form

module _ {R S F : Type 0} (f : R → S) (owner : S → List ℕ) (fault : ℕ → List ℕ → F) (those : List S → S → Bool) (these : List R → R → Bool)
    (same : (earlier : List R) (r : R) → those (map f earlier) (f r) ≡ these earlier r) where
  mapped : (earlier xs : List R)
      → faults_after (λ e s. if those e s then Some (λ at. fault at (owner s)) else None) (map f earlier) (map f xs)
      ≡ faults_after (λ e r. if these e r then Some (λ at. fault at (owner (f r))) else None) earlier xs
  mapped earlier [] = refl
  mapped earlier (r ∷ xs) =
      let behind = ap (λ front. faults_after (λ e s. if those e s then Some (λ at. fault at (owner s)) else None) front (map f xs))
      (sym (map-append f earlier (r ∷ []))) ∙ mapped (earlier ++ r ∷ []) xs in
      λ i. option_to_list (option_map {T = ℕ → F} (λ h. h (length-map earlier f i + 1))
      (if same earlier r i then Some (λ at. fault at (owner (f r))) else None)) ++ behind i

  pub all_mapped : (xs : List R) → all_unfit_by owner fault those (map f xs) ≡ all_unfit_by (λ r. owner (f r)) fault these xs
  all_mapped xs = mapped [] xs

module _ {R S F : Type 0} (f : R → S) (owner contract : S → List ℕ) (b1 b2 b3 : ℕ → List ℕ → F) (contracts : List Contract)
    (is_over : List ℕ → List ℕ → Bool) (has_many : List ℕ → Bool) where
  known : R → Bool
  known r = is_of_known (λ (x : R). contract (f x)) contracts r

  -- a test of the earlier records of known contracts
  earlier_is : (test : S → Bool) (earlier : List R)
      → list_any test (filter (is_of_known contract contracts) (map f earlier))
      ≡ list_any (λ r. test (f r)) (filter (is_of_known (λ r. contract (f r)) contracts) earlier)
  earlier_is test earlier =
      list_any-filter test (is_of_known contract contracts) (map f earlier)
      ∙ list_any-map (λ s. is_of_known contract contracts s && test s) f earlier
      ∙ sym (list_any-filter (λ r. test (f r)) (is_of_known (λ r. contract (f r)) contracts) earlier)

  pub owners_mapped : (xs : List R) → owner_faults owner contract b1 b2 b3 contracts is_over has_many (map f xs)
      ≡ owner_faults (λ r. owner (f r)) (λ r. contract (f r)) b1 b2 b3 contracts is_over has_many xs
  unfolding known
  owners_mapped xs =
      let a = all_mapped f owner b1 (λ earlier s. not (is_of_known contract contracts s)) (λ earlier r. not (known r))
      (λ earlier r. refl) xs in
      let b = all_mapped f owner b2 (among contract contracts (λ earlier s.
      not (list_any (λ x. bytes_eq (owner x) (owner s) && bytes_eq (contract x) (contract s)) earlier) && is_over (owner s) (contract s)))
      (among (λ r. contract (f r)) contracts (λ earlier r.
      not (list_any (λ x. bytes_eq (owner (f x)) (owner (f r)) && bytes_eq (contract (f x)) (contract (f r))) earlier)
      && is_over (owner (f r)) (contract (f r))))
      (λ earlier r. ap (λ t. known r && (not t && is_over (owner (f r)) (contract (f r))))
      (earlier_is (λ x. bytes_eq (owner x) (owner (f r)) && bytes_eq (contract x) (contract (f r))) earlier)) xs in
      let c = all_mapped f owner b3 (among contract contracts (λ earlier s.
      not (list_any (λ x. bytes_eq (owner x) (owner s)) earlier) && has_many (owner s)))
      (among (λ r. contract (f r)) contracts (λ earlier r.
      not (list_any (λ x. bytes_eq (owner (f x)) (owner (f r))) earlier) && has_many (owner (f r))))
      (λ earlier r. ap (λ t. known r && (not t && has_many (owner (f r))))
      (earlier_is (λ x. bytes_eq (owner x) (owner (f r))) earlier)) xs in
      λ i. a i ++ b i ++ c i

-- ---- faults in another form

pub first_of-map : {F G : Type 0} (g : F → G) (xs : List F) → first_of (map g xs) ≡ option_map g (first_of xs)
first_of-map g [] = refl
first_of-map g (x ∷ xs) = refl

module _ {R F G : Type 0} (g : F → G) (owner : R → List ℕ) where
  told : (fault : ℕ → List ℕ → F) (test : List R → R → Bool) (earlier xs : List R)
      → map g (faults_after (λ e r. if test e r then Some (λ at. fault at (owner r)) else None) earlier xs)
      ≡ faults_after (λ e r. if test e r then Some (λ at. g (fault at (owner r))) else None) earlier xs
  told fault test earlier [] = refl
  told fault test earlier (r ∷ xs) = by (test earlier r) (told fault test (earlier ++ r ∷ []) xs)
    where
      behind : List F
      behind = faults_after (λ e r. if test e r then Some (λ at. fault at (owner r)) else None) (earlier ++ r ∷ []) xs

      after : List G
      after = faults_after (λ e r. if test e r then Some (λ at. g (fault at (owner r))) else None) (earlier ++ r ∷ []) xs

      by : (b : Bool) → map g behind ≡ after
          → map g (option_to_list (option_map {T = ℕ → F} (λ h. h (length earlier + 1))
          (if b then Some (λ at. fault at (owner r)) else None)) ++ behind)
          ≡ option_to_list (option_map {T = ℕ → G} (λ h. h (length earlier + 1))
          (if b then Some (λ at. g (fault at (owner r))) else None)) ++ after
      by true more = ap (λ fs. g (fault (length earlier + 1) (owner r)) ∷ fs) more
      by false more = more

  pub owners_told : (contract : R → List ℕ) (b1 b2 b3 : ℕ → List ℕ → F) (contracts : List Contract)
      (is_over : List ℕ → List ℕ → Bool) (has_many : List ℕ → Bool) (xs : List R)
      → map g (owner_faults owner contract b1 b2 b3 contracts is_over has_many xs)
      ≡ owner_faults owner contract (λ at name. g (b1 at name)) (λ at name. g (b2 at name)) (λ at name. g (b3 at name)) contracts
      is_over has_many xs
  owners_told contract b1 b2 b3 contracts is_over has_many xs =
      let unknown : List R → R → Bool = λ earlier r. not (is_of_known contract contracts r) in
      let net : List R → R → Bool = among contract contracts (λ earlier r.
      not (list_any (λ x. bytes_eq (owner x) (owner r) && bytes_eq (contract x) (contract r)) earlier) && is_over (owner r) (contract r)) in
      let held : List R → R → Bool = among contract contracts (λ earlier r.
      not (list_any (λ x. bytes_eq (owner x) (owner r)) earlier) && has_many (owner r)) in
      map-append g (all_unfit_by owner b1 unknown xs ++ all_unfit_by owner b2 net xs) (all_unfit_by owner b3 held xs)
      ∙ ap (λ fs. fs ++ map g (all_unfit_by owner b3 held xs))
      (map-append g (all_unfit_by owner b1 unknown xs) (all_unfit_by owner b2 net xs))
      ∙ (λ i. told b1 unknown [] xs i ++ told b2 net [] xs i ++ told b3 held [] xs i)

-- the faults of orders are the faults of positions under their names
pub transferred : (contracts : List Contract) (is_over : List ℕ → List ℕ → Bool) (has_many : List ℕ → Bool) (records : List OrderRecord)
    → map order_fault (owner_faults (λ p. p.account) (λ p. p.contract) bind.UnknownContract bind.NetOutOfRange bind.TooManyHeld contracts
    is_over has_many (map under_order records))
    ≡ owner_faults (λ r. r.order) (λ r. r.contract) fault.UnknownContract fault.NetOutOfRange fault.TooManyHeld contracts is_over has_many
    records
transferred contracts is_over has_many records =
    ap (map order_fault) (owners_mapped under_order (λ (p : PositionRecord). p.account) (λ p. p.contract) bind.UnknownContract
    bind.NetOutOfRange bind.TooManyHeld contracts is_over has_many records)
    ∙ owners_told order_fault (λ (r : OrderRecord). r.order) (λ r. r.contract) bind.UnknownContract bind.NetOutOfRange bind.TooManyHeld
    contracts is_over has_many records

-- ---- another owner

-- the faults of one owner's records are the faults of another owner's, if they exceed the limits in the same cases
pub owner_renamed : {R F : Type 0} (contract : R → List ℕ) (b1 b2 b3 : ℕ → F) (contracts : List Contract)
    (is_over : List ℕ → List ℕ → Bool) (has_many : List ℕ → Bool) (owner other : List ℕ)
    (others_over : List ℕ → List ℕ → Bool) (others_many : List ℕ → Bool) (xs : List R)
    → ((c : List ℕ) → is_over owner c ≡ others_over other c) → has_many owner ≡ others_many other
    → owner_faults (λ (r : R). owner) contract (λ at name. b1 at) (λ at name. b2 at) (λ at name. b3 at) contracts is_over has_many xs
    ≡ owner_faults (λ (r : R). other) contract (λ at name. b1 at) (λ at name. b2 at) (λ at name. b3 at) contracts others_over others_many xs
owner_renamed {R = R} contract b1 b2 b3 contracts is_over has_many owner other others_over others_many xs over many =
    let same = bytes_eq-refl owner ∙ sym (bytes_eq-refl other) in
    let known = is_of_known contract contracts in
    λ i. all_faults (λ (earlier : List R) r. if not (known r) then Some b1 else None) xs
    ++ all_faults (λ (earlier : List R) r. if known r && (not (list_any (λ x. same i && bytes_eq (contract x) (contract r))
    (filter known earlier)) && over (contract r) i) then Some b2 else None) xs
    ++ all_faults (λ (earlier : List R) r. if known r && (not (list_any (λ x. same i) (filter known earlier)) && many i)
    then Some b3 else None) xs
