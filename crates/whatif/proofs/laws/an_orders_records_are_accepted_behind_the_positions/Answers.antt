use Rattle.span_csv.proofs.OrderAccountLaws.{one_account}
use Rattle.whatif.proofs.BehindLaws.{accepted_behind}
use Rattle.whatif.proofs.laws.an_orders_records_are_accepted_behind_the_positions.Goals as goal

pub returns : goal.returns
returns c = λ params orders t positions portfolios records tried order accepted bound read fits among.
    accepted_behind params t positions portfolios records tried order accepted bound (one_account orders records read) fits among
