use Rattle.std.proofs.Common.{◌<◌, arith, length, rules}
use Rattle.span_csv.proofs.TogetherLaws.{accounts_more}
use Rattle.span_csv.proofs.together.AllAccounts.of.Goals as goal

pub loop-piece-preserved : goal.loop-piece-preserved
loop-piece-preserved c =
    let pieces = c.args.pieces.now in
    let i = c.loop-piece.piece-index in
    let piece = c.piece-item.result in
    let lt : i < length pieces = omega arith in
    let names = c.accounts.ensures.value in
    accounts_more pieces i piece lt c.piece-item.is c.loop-piece.accounts.keys _ c.add_names.new.accounts.keys
    c.loop-piece.invariant names (search rules)
