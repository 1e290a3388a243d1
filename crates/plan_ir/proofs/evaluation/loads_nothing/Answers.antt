use Rattle.std.proofs.Common.{◌≡◌, of_z, pos, sym, w64, arith}
use Rattle.std.proofs.lemmas.Bool.Decides.{nat_tests}
use Rattle.std.proofs.lemmas.Int.{ints}
use Rattle.spread_stage.specs.Deltas.{net_delta}
use Rattle.inter_credit.proofs.OpenLemmas.{nothing_loaded}
use Rattle.plan_ir.proofs.evaluation.loads_nothing.Goals as goal

pub returns-then-scan-eq0 : goal.returns-then-scan-eq0
returns-then-scan-eq0 c = λ none lines commodity not_loaded unspread.
    let zero : of_z w64 c.get.result ≡ 0 = grind (arith, nat_tests, none) in
    let no_net : net_delta c.args.months.now ≡ pos 0 =
    omega (arith, ints, zero, c.get.ensures, c.get.type_inv, c.net.ensures.value) in
    sym (nothing_loaded lines commodity _ _ no_net c.if-scan-eq0.true not_loaded unspread)
