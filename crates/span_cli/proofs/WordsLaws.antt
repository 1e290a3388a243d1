-- Valid arguments, and the kinds of error of the others.
use Rattle.std.proofs.Common.{◌≡◌, ◌&&◌, Bool, true, false, List, [], ◌∷◌, Option, Some, None, length, refl, arith, eqb-true, inl, inr}
use Rattle.std.specs.List.{AllByRecursion}
use Rattle.std.specs.Prelude.{◌⊎◌, ◌++◌, bytes_eq, codes, drop, is_some, option_and_then, if◌then◌else◌}
use Rattle.clap.specs.Kinds.{or_else}
use Rattle.clap.specs.Walk.{is_empty}
use Rattle.clap.specs.Words.{HasKind, IsAmong, Kinds, Row, Text, first_of, kind_of, subcommand_of}
use Rattle.clap.specs.declared.error.Error.{Error}
use Rattle.clap.specs.declared.error.kind.ErrorKind.{ErrorKind}
use Rattle.clap.specs.declared.error.kind.ErrorKind.TheVariants as kind
use Rattle.clap.proofs.WalkLemmas.{both}
use Rattle.span_cli.specs.Serving.{Asked}
use Rattle.span_cli.specs.Words.{CommandWords, FileWord, asked_among, asked_by_words, asked_in, commands, form_kinds, is_request}
use Rattle.span_cli.specs.Words.{kinds_of, needed, span_app}

-- ---- kinds of error, and the request

-- the kinds of error if the values make no request
abbrev value_kinds : Option Asked → Kinds
value_kinds o = if is_some o then [] else kind.ValueValidation ∷ []

empty_none : (ks : Kinds) → is_empty ks ≡ true → ks ≡ []
empty_none [] empty = refl
empty_none (k ∷ ks) empty = let none : length (k ∷ ks) ≡ 0 = eqb-true (length (k ∷ ks)) 0 empty in absurd (omega arith)

taken_has : (ks : Kinds) (o : Option Asked) → (is_empty ks && is_some o) ≡ true → (ks ≡ []) × (is_some o ≡ true)
taken_has ks o taken = let parts = both (is_empty ks) (is_some o) taken in (empty_none ks parts.0, parts.1)

none_taken : (ks : Kinds) (o : Option Asked) → or_else ks (value_kinds o) ≡ [] → (is_empty ks && is_some o) ≡ true
none_taken [] (Some asked) none = refl
none_taken [] None none = cc
none_taken (k ∷ ks) o none = cc

taken_none : (ks : Kinds) (o : Option Asked) → (ks ≡ []) × (is_some o ≡ true) → or_else ks (value_kinds o) ≡ []
taken_none ks o (well, some) = rw (well, some) refl

more_kinds : (kinds more : Kinds) (k : ErrorKind) → IsAmong k kinds → IsAmong k (or_else kinds more)
more_kinds [] more k among = absurd among
more_kinds (x ∷ kinds) more k among = among

-- ---- the service

-- without a service there is no request
pub nothing_asked : (files : Option (List Text)) → option_and_then (λ names. (let none : Option Asked = None in none)) files ≡ None
nothing_asked None = refl
nothing_asked (Some names) = refl

-- ---- valid arguments

-- they make a request
pub taken_asks : (words : List Text) → is_request words ≡ true → is_some (asked_in words) ≡ true
unfolding is_request
taken_asks words taken = (taken_has (form_kinds words) (asked_in words) taken).1

-- without a named command there is no request
named : {X Y : Type 0} (f : X → Option Y) (o : Option X) → is_some (option_and_then f o) ≡ true → is_some o ≡ true
named f None some = cc
named f (Some x) some = refl

-- they name a command
pub taken_names : (words : List Text) → is_request words ≡ true → is_some (subcommand_of span_app words) ≡ true
taken_names words taken =
    named (λ (p : Text × List Row). asked_among commands p.0 p.1) (subcommand_of span_app words) (taken_asks words taken)

-- arguments that nothing rejects are valid
pub unrefused_taken : (words : List Text) → kinds_of words ≡ [] → is_request words ≡ true
unfolding is_request kinds_of
unrefused_taken words none = none_taken (form_kinds words) (asked_in words) none

pub unrefused_asks : (words : List Text) → kinds_of words ≡ [] → is_some (asked_in words) ≡ true
unrefused_asks words none = taken_asks words (unrefused_taken words none)

-- nothing rejects arguments that have a valid form and make a request
pub no_mistake : (words : List Text) (asked : Asked) → form_kinds words ≡ [] → asked_in words ≡ Some asked → kinds_of words ≡ []
unfolding kinds_of
no_mistake words asked well is = rw (well, is) refl

-- valid arguments are rejected only because memory ran out
pub taken_fails : (words : List Text) (e : Error) → HasKind (kinds_of words) e → is_request words ≡ true → kind_of e ≡ kind.OutOfMemory
unfolding is_request kinds_of
taken_fails words e (inl memory) taken = memory
taken_fails words e (inr among) taken =
    let none = taken_none (form_kinds words) (asked_in words) (taken_has (form_kinds words) (asked_in words) taken) in
    absurd (rw (none) at among)

-- ---- arguments that are rejected

-- an error of the form is an error of the arguments
pub form_mistake : (words : List Text) (e : Error) → HasKind (form_kinds words) e → HasKind (kinds_of words) e
unfolding kinds_of
form_mistake words e (inl memory) = inl memory
form_mistake words e (inr among) = inr (more_kinds (form_kinds words) (value_kinds (asked_in words)) (kind_of e) among)

-- arguments that have a valid form and make no request
pub value_mistake : (words : List Text) (e : Error) → form_kinds words ≡ [] → asked_in words ≡ None
    → (kind_of e ≡ kind.OutOfMemory) ⊎ (kind_of e ≡ kind.ValueValidation) → HasKind (kinds_of words) e
unfolding kinds_of
value_mistake words e well nothing (inl memory) = inl memory
value_mistake words e well nothing (inr is) = inr (rw (well, nothing) (inl is))
