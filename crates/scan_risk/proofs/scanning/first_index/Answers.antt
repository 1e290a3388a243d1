use Rattle.std.proofs.Common.{ℕ, ◌<◌, ◌∙◌, ap, arith, get_or, pos, subst}
use Rattle.scan_risk.proofs.FirstLane.{first_exists, first_is, before_first, index_is}
use Rattle.scan_risk.proofs.scanning.first_index.Goals as goal

pub returns-clause-here : goal.returns-clause-here
returns-clause-here c =
    let sums = c.args.sums.now in
    ap (λ (i : ℕ). get_or sums i (pos 0)) (index_is sums c.args.sum c.told-sums c.requires.found)
    ∙ first_is sums c.args.sum c.requires.sizes c.requires.found

pub returns-clause-before : goal.returns-clause-before
returns-clause-before c k lt =
    let sums = c.args.sums.now in
    let less = subst (λ (i : ℕ). k < i) (index_is sums c.args.sum c.told-sums c.requires.found) lt in
    let last = first_exists sums c.args.sum c.requires.found in
    before_first sums c.args.sum k (omega (arith, less, last)) less

pub returns-clause-within : goal.returns-clause-within
returns-clause-within c =
    let sums = c.args.sums.now in
    let is = index_is sums c.args.sum c.told-sums c.requires.found in
    let last = first_exists sums c.args.sum c.requires.found in
    rw is (omega (arith, last))
