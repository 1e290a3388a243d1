-- The properties of a profile, and the fields that it adds to contracts.
use Rattle.std.specs.Prelude.{ℕ, nat_le}
use Rattle.span_tables.specs.declared.limits.TheConstants.{VALUE_PROFILE}
use Rattle.span_tables.specs.declared.profiles.ProfileFacts.{ProfileFacts}
use Rattle.span_tables.specs.declared.records.ContractExtras.{ContractExtras}

-- the properties of a profile: each is true from the profile that introduces it
abbrev pub facts_of : ℕ → ProfileFacts
facts_of profile = record { options_have_value = nat_le VALUE_PROFILE profile }

-- the values of the fields that profiles add to a contract, if the profile adds none
abbrev pub no_extras : ContractExtras
no_extras = record { option_value = 0 }
