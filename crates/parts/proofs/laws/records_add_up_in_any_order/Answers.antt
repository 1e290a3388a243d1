use Rattle.span_tables.proofs.MergedLaws.{net_of-append}
use Rattle.parts.proofs.RearrangedLemmas.{holdings_rearranged, net_of_one, net_of_other, net_rearranged}
use Rattle.parts.proofs.laws.records_add_up_in_any_order.Goals as goal

pub returns-clause-one : goal.returns-clause-one
returns-clause-one c = net_of_one

pub returns-clause-other : goal.returns-clause-other
returns-clause-other c = net_of_other

pub returns-clause-added : goal.returns-clause-added
returns-clause-added c = net_of-append

pub returns-clause-net : goal.returns-clause-net
returns-clause-net c ps qs account contract same = net_rearranged ps qs same account contract

pub returns-clause-held : goal.returns-clause-held
returns-clause-held c contracts ps qs account same = holdings_rearranged ps qs same contracts account
