use Rattle.parts.proofs.PartLemmas.{holdings_alone}
use Rattle.parts.proofs.laws.an_account_goes_by_its_own_records.Goals as goal

pub returns : goal.returns
returns c = holdings_alone
