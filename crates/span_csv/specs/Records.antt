-- The record grammar of all files: the records in a file's bytes, the forms of their fields, and the values of the
-- records.
use Rattle.std.specs.Prelude.{ℕ, ◌+◌, ◌-◌, Bool, true, false, ◌&&◌, ◌||◌, ◌==◌, if◌then◌else◌, List, [], ◌∷◌, ◌++◌}
use Rattle.std.specs.Prelude.{length, take, drop, map, zip, Option, Some, None, is_some, unwrap_or, option_and_then}
use Rattle.std.specs.Prelude.{slice_index_or, codes, bytes_eq, ℤ, pos, neg_ℤ, int_le}
use Rattle.std.specs.Char.{is_ascii_uppercase}
use Rattle.std.specs.List.{list_all, repeat}
use Rattle.std.specs.Option.{option_map_or, option_or}
use Rattle.csv.specs.Reading.{default_config, records, strip_bom}
use Rattle.span_tables.specs.Names.{is_name}
use Rattle.span_tables.specs.Tables.{most_option_value}
use Rattle.span_tables.specs.Profiles.{facts_of}
use Rattle.span_money.specs.Numbers.{is_month, positive_part, whole_number, decimal_number, month_number}
use Rattle.span_tables.specs.declared.records.ProductKind.{ProductKind}
use Rattle.span_tables.specs.declared.records.ProductKind.TheVariants as product
use Rattle.span_tables.specs.declared.records.MinimumMethod.{MinimumMethod}
use Rattle.span_tables.specs.declared.records.MinimumMethod.TheVariants as method
use Rattle.span_tables.specs.declared.sides.Side.{Side}
use Rattle.span_tables.specs.declared.sides.Side.TheVariants as side
use Rattle.span_tables.specs.declared.records.SetRecord.{SetRecord}
use Rattle.span_tables.specs.declared.records.Commodity.{Commodity}
use Rattle.span_tables.specs.declared.records.Contract.{Contract}
use Rattle.span_tables.specs.declared.records.ContractExtras.{ContractExtras}
use Rattle.span_tables.specs.declared.records.Tier.{Tier}
use Rattle.span_tables.specs.declared.records.IntraLeg.{IntraLeg}
use Rattle.span_tables.specs.declared.records.IntraRecord.{IntraRecord}
use Rattle.span_tables.specs.declared.records.Spot.{Spot}
use Rattle.span_tables.specs.declared.records.InterLeg.{InterLeg}
use Rattle.span_tables.specs.declared.records.InterRecord.{InterRecord}
use Rattle.span_tables.specs.declared.records.Record.{Record}
use Rattle.span_tables.specs.declared.records.Record.TheVariants as record_of
use Rattle.span_tables.specs.declared.records.OrderRecord.{OrderRecord}
use Rattle.span_tables.specs.declared.records.PositionRecord.{PositionRecord}
use Rattle.span_tables.specs.declared.limits.TheConstants.{MAX_RATE, MAX_ARRAY_VALUE, MAX_DELTA, MAX_SCALE, MAX_RATIO}
use Rattle.span_tables.specs.declared.limits.TheConstants.{MAX_TIER_NUMBER, MAX_PRIORITY, MAX_BASIS_POINTS}
use Rattle.span_tables.specs.declared.limits.TheConstants.{MAX_QUANTITY, SCENARIOS, MAX_PROFILE}
use Rattle.span_csv.specs.declared.grammar.FieldForm.{FieldForm}
use Rattle.span_csv.specs.declared.grammar.Kind.{Kind}
use Rattle.span_csv.specs.declared.grammar.Kind.TheVariants as kind
use Rattle.span_csv.specs.declared.grammar.FieldForm.TheVariants as form

-- the fields of a record, each as a list of bytes
abbrev pub Fields : Type 0
Fields = List (List ℕ)

-- the records of a file without a header, as a flexible reader returns them
unfoldable pub records_of : List ℕ → List Fields
records_of bytes = records default_config (strip_bom bytes)

-- ---- forms

-- `FieldForm` says what a field may be: a whole number has its lowest and highest value, and a decimal has them in
-- 10^-4

-- a rate, at least 0
abbrev pub a_rate : FieldForm
a_rate = form.Whole (pos 0) (pos MAX_RATE)

-- the text is this word
abbrev pub is_word : List ℕ → List ℕ → Bool
is_word word text = bytes_eq text word

-- a word field has its form
abbrev pub has_word_form : FieldForm → List ℕ → Bool
has_word_form form.Name text = is_name text
has_word_form form.Currency text = (length text == 3) && list_all is_ascii_uppercase text
has_word_form form.Method text = is_word (codes "SUM") text || is_word (codes "MAX") text
has_word_form form.Product text = is_word (codes "F") text || is_word (codes "C") text || is_word (codes "P") text
has_word_form form.Side text = is_word (codes "A") text || is_word (codes "B") text
has_word_form _ text = true

-- a number field has its form
abbrev pub has_number_form : FieldForm → List ℕ → Bool
has_number_form (form.Whole low high) text = is_some (whole_number text)
has_number_form (form.Decimal low high) text = is_some (decimal_number text)
has_number_form form.Month text = is_some (month_number text)
has_number_form _ text = true

-- there is a number, and it is between the lowest and the highest value
abbrev pub is_within : ℤ → ℤ → Option ℤ → Bool
is_within low high None = false
is_within low high (Some z) = int_le low z && int_le z high

-- a number field is in its range
abbrev pub is_in_range : FieldForm → List ℕ → Bool
is_in_range (form.Whole low high) text = is_within low high (whole_number text)
is_in_range (form.Decimal low high) text = is_within low high (decimal_number text)
is_in_range form.Month text = option_map_or (λ z. is_month (positive_part z)) (month_number text) false
is_in_range _ text = true

-- ---- layouts

-- the kind that a word names
abbrev pub kind_named : List ℕ → Option Kind
kind_named word =
    if is_word (codes "SET") word then Some kind.Set
    else if is_word (codes "COMMODITY") word then Some kind.Commodity
    else if is_word (codes "CONTRACT") word then Some kind.Contract
    else if is_word (codes "TIER") word then Some kind.Tier
    else if is_word (codes "INTRA") word then Some kind.Intra
    else if is_word (codes "SPOT") word then Some kind.Spot
    else if is_word (codes "INTER") word then Some kind.Inter
    else None

-- these forms, if the number of fields is their number
abbrev pub exactly : List FieldForm → ℕ → Option (List FieldForm)
exactly forms fields = if fields == length forms then Some forms else None

-- the forms of a spread's record: the front forms, then 2 to 4 legs
abbrev pub with_legs : List FieldForm → List FieldForm → ℕ → Option (List FieldForm)
with_legs front leg fields =
    option_or (option_or (exactly (front ++ repeat 2 leg) fields) (exactly (front ++ repeat 3 leg) fields))
    (exactly (front ++ repeat 4 leg) fields)

-- a version, that is the number of a profile
abbrev pub a_version : FieldForm
a_version = form.Whole (pos 1) (pos MAX_PROFILE)

-- the forms of the fields after the first, for each kind; the version of a SET is the file's profile
abbrev pub set_forms : List FieldForm
set_forms = form.Name ∷ a_version ∷ form.Currency ∷ []

abbrev pub commodity_forms : List FieldForm
commodity_forms = form.Name ∷ a_rate ∷ form.Method ∷ []

-- the forms of a CONTRACT: the fields before its risk array, a value of the array, and the option value, which is 0 for
-- a future
abbrev pub contract_front : List FieldForm
contract_front =
    form.Name ∷ form.Name ∷ form.Product ∷ form.Month ∷ form.Decimal (neg_ℤ (pos MAX_DELTA)) (pos MAX_DELTA)
    ∷ form.Decimal (pos 1) (pos MAX_SCALE) ∷ []

abbrev pub an_array_value : FieldForm
an_array_value = form.Whole (neg_ℤ (pos MAX_ARRAY_VALUE)) (pos MAX_ARRAY_VALUE)

abbrev pub an_option_value : ProductKind → FieldForm
an_option_value product = form.Whole (pos 0) (pos (most_option_value product))

-- the forms after the risk array: an option value if the profile has option values, and otherwise nothing
abbrev pub contract_back : ℕ → ProductKind → List FieldForm
contract_back profile product = if (facts_of profile).options_have_value then an_option_value product ∷ [] else []

-- all forms of a CONTRACT
abbrev pub contract_forms : ℕ → ProductKind → List FieldForm
contract_forms profile product = contract_front ++ repeat SCENARIOS (an_array_value ∷ []) ++ contract_back profile product

-- the index of a CONTRACT's first array value, and the index of the first field after its risk array
abbrev pub array_place : ℕ
array_place = 1 + length contract_front

abbrev pub extras_place : ℕ
extras_place = array_place + SCENARIOS

abbrev pub tier_forms : List FieldForm
tier_forms = form.Name ∷ form.Whole (pos 1) (pos MAX_TIER_NUMBER) ∷ form.Month ∷ form.Month ∷ []

-- the forms of a spread: the fields before its legs, and the fields of a leg
abbrev pub intra_front : List FieldForm
intra_front = form.Name ∷ form.Whole (pos 1) (pos MAX_PRIORITY) ∷ a_rate ∷ []

abbrev pub intra_leg_forms : List FieldForm
intra_leg_forms = form.Whole (pos 1) (pos MAX_TIER_NUMBER) ∷ form.Side ∷ form.Decimal (pos 1) (pos MAX_RATIO) ∷ []

abbrev pub spot_forms : List FieldForm
spot_forms = form.Name ∷ form.Month ∷ a_rate ∷ a_rate ∷ []

abbrev pub inter_front : List FieldForm
inter_front = form.Whole (pos 1) (pos MAX_PRIORITY) ∷ form.Whole (pos 0) (pos MAX_BASIS_POINTS) ∷ []

abbrev pub inter_leg_forms : List FieldForm
inter_leg_forms = form.Name ∷ form.Side ∷ form.Decimal (pos 1) (pos MAX_RATIO) ∷ []

-- the forms of a kind's fields after the first, if the kind may have that many fields; the forms of a CONTRACT depend
-- on the file's profile and on the kind of contract
abbrev pub forms_of : Kind → ℕ → ProductKind → ℕ → Option (List FieldForm)
forms_of kind.Set profile product = exactly set_forms
forms_of kind.Commodity profile product = exactly commodity_forms
forms_of kind.Contract profile product = exactly (contract_forms profile product)
forms_of kind.Tier profile product = exactly tier_forms
forms_of kind.Intra profile product = with_legs intra_front intra_leg_forms
forms_of kind.Spot profile product = exactly spot_forms
forms_of kind.Inter profile product = with_legs inter_front inter_leg_forms

-- a quantity, in contracts
abbrev pub a_quantity : FieldForm
a_quantity = form.Whole (neg_ℤ (pos MAX_QUANTITY)) (pos MAX_QUANTITY)

-- the forms of a position record's fields
abbrev pub position_forms : List FieldForm
position_forms = form.Name ∷ form.Name ∷ a_quantity ∷ []

-- the forms of an order record's fields
abbrev pub order_forms : List FieldForm
order_forms = form.Name ∷ form.Name ∷ form.Name ∷ a_quantity ∷ []

-- the text of a field; the first has index 0
abbrev pub text_at : Fields → ℕ → List ℕ
text_at fields i = slice_index_or fields i []

-- the kind of a parameter record
abbrev pub kind_of : Fields → Option Kind
kind_of fields = kind_named (text_at fields 0)

-- the kind of contract that a field names
abbrev pub product_at : Fields → ℕ → ProductKind
product_at fields i =
    if is_word (codes "F") (text_at fields i) then product.Future
    else if is_word (codes "C") (text_at fields i) then product.Call
    else product.Put

-- the forms of a record's fields after the first under a profile, if its kind may have that many fields
abbrev pub layout_of : ℕ → Fields → Option (List FieldForm)
layout_of profile fields =
    option_and_then (λ kind. forms_of kind profile (product_at fields 3) (length fields - 1)) (kind_of fields)

-- each field passes the test of its form
abbrev pub all_have : (FieldForm → List ℕ → Bool) → List FieldForm → Fields → Bool
all_have test forms fields = list_all (λ p. test p.0 p.1) (zip forms fields)

-- ---- the value of a record whose fields have their forms

-- the whole number at an index, or 0
abbrev pub whole_at : Fields → ℕ → ℤ
whole_at fields i = unwrap_or (whole_number (text_at fields i)) (pos 0)

-- the decimal at an index in 10^-4, or 0
abbrev pub decimal_at : Fields → ℕ → ℤ
decimal_at fields i = unwrap_or (decimal_number (text_at fields i)) (pos 0)

-- the non-negative whole number at an index
abbrev pub count_at : Fields → ℕ → ℕ
count_at fields i = positive_part (whole_at fields i)

-- the non-negative decimal at an index, in 10^-4
abbrev pub ratio_at : Fields → ℕ → ℕ
ratio_at fields i = positive_part (decimal_at fields i)

-- the minimum method that a field names
abbrev pub method_at : Fields → ℕ → MinimumMethod
method_at fields i = if is_word (codes "SUM") (text_at fields i) then method.Sum else method.Max

-- the side that a field names
abbrev pub side_at : Fields → ℕ → Side
side_at fields i = if is_word (codes "A") (text_at fields i) then side.A else side.B

-- a SET
abbrev pub set_record : Fields → SetRecord
set_record r = record { id = text_at r 1; profile = count_at r 2; currency = text_at r 3 }

-- a COMMODITY
abbrev pub commodity_record : Fields → Commodity
commodity_record r = record { id = text_at r 1; minimum_rate = count_at r 2; method = method_at r 3 }

-- the fields that a profile adds to a CONTRACT; the option value is 0 if the record has no field for it
abbrev pub extras_in : Fields → ContractExtras
extras_in r = record { option_value = count_at r extras_place }

-- a CONTRACT
abbrev pub contract_record : Fields → Contract
contract_record r = record {
  id = text_at r 1;
  commodity = text_at r 2;
  kind = product_at r 3;
  month = count_at r 4;
  delta = decimal_at r 5;
  scale = ratio_at r 6;
  values = map (λ text. unwrap_or (whole_number text) (pos 0)) (take SCENARIOS (drop array_place r));
  extras = extras_in r;
}

-- a TIER
abbrev pub tier_record : Fields → Tier
tier_record r = record { commodity = text_at r 1; number = count_at r 2; first = count_at r 3; last = count_at r 4 }

-- a SPOT
abbrev pub spot_record : Fields → Spot
spot_record r =
    record { commodity = text_at r 1; month = count_at r 2; spread_rate = count_at r 3; outright_rate = count_at r 4 }

-- a leg of an INTRA from its three fields
abbrev pub intra_leg : Fields → IntraLeg
intra_leg r = record { tier = count_at r 0; side = side_at r 1; ratio = ratio_at r 2 }

-- a leg of an INTER from its three fields
abbrev pub inter_leg : Fields → InterLeg
inter_leg r = record { commodity = text_at r 0; side = side_at r 1; ratio = ratio_at r 2 }

-- the fields of each leg, in groups of three
abbrev pub legs_of : Fields → List Fields
legs_of [] = []
legs_of (x ∷ []) = []
legs_of (x ∷ y ∷ []) = []
legs_of (x ∷ y ∷ z ∷ rest) = (x ∷ y ∷ z ∷ []) ∷ legs_of rest

-- an INTRA
abbrev pub intra_record : Fields → IntraRecord
intra_record r = record {
  commodity = text_at r 1;
  priority = count_at r 2;
  rate = count_at r 3;
  legs = record { items = map intra_leg (legs_of (drop 4 r)) };
}

-- an INTER
abbrev pub inter_record : Fields → InterRecord
inter_record r = record {
  priority = count_at r 1;
  basis_points = count_at r 2;
  legs = record { items = map inter_leg (legs_of (drop 3 r)) };
}

-- a record of a kind
abbrev pub record_of_kind : Kind → Fields → Record
record_of_kind kind.Set r = record_of.Set (set_record r)
record_of_kind kind.Commodity r = record_of.Commodity (commodity_record r)
record_of_kind kind.Contract r = record_of.Contract (contract_record r)
record_of_kind kind.Tier r = record_of.Tier (tier_record r)
record_of_kind kind.Intra r = record_of.Intra (intra_record r)
record_of_kind kind.Spot r = record_of.Spot (spot_record r)
record_of_kind kind.Inter r = record_of.Inter (inter_record r)

-- the value of a parameter record without a fault
unfoldable pub param_record : Fields → Record
param_record r = record_of_kind (unwrap_or (kind_of r) kind.Set) r

-- the value of a position record without a fault
unfoldable pub position_record : Fields → PositionRecord
position_record r = record { account = text_at r 0; contract = text_at r 1; quantity = whole_at r 2 }

-- the value of an order record without a fault
unfoldable pub order_record : Fields → OrderRecord
order_record r = record { order = text_at r 0; account = text_at r 1; contract = text_at r 2; quantity = whole_at r 3 }
