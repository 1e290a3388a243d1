use Rattle.std.proofs.Common.{◌∙◌, refl}
use Rattle.whatif.specs.Whatif.{tried_on}
use Rattle.whatif.proofs.FileLemmas.{accepted_tried, faults_tried}
use Rattle.whatif.proofs.laws.faults_come_in_order.Goals as goal

pub returns-clause-statement : goal.returns-clause-statement
returns-clause-statement c = faults_tried

pub returns-clause-orders : goal.returns-clause-orders
unfolding tried_on
returns-clause-orders c = λ params positions orders t records portfolios e a q b o.
    accepted_tried params positions orders t records portfolios a q b ∙ rw (o) refl

pub returns-clause-bind : goal.returns-clause-bind
unfolding tried_on
returns-clause-bind c = λ params positions orders t records portfolios tried e a q b o f.
    accepted_tried params positions orders t records portfolios a q b ∙ rw (o, f) refl

pub returns-clause-text : goal.returns-clause-text
unfolding tried_on
returns-clause-text c = λ params positions orders t records portfolios all tried a q b o f.
    accepted_tried params positions orders t records portfolios a q b ∙ rw (o, f) refl
