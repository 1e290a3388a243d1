-- The definitions that the test vectors unfold to compute on literals.
use Rattle.std.specs.Prelude.{⊤}
use Rattle.inter_credit.specs.Credits.{inter_both_ways, after_inter_spreads, credit_of}
use Rattle.inter_credit.specs.OptionValue.{net_value_of}
use Rattle.inter_credit.specs.Requirement.{minimum_of, requirement_of}

-- all definitions that are unfolded to compute on literals
unfoldable pub credits_on_literals : ⊤
unfolding inter_both_ways after_inter_spreads credit_of minimum_of requirement_of net_value_of
credits_on_literals = tt
