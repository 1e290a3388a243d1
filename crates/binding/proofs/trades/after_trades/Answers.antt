use Rattle.std.proofs.Common.{rules, ◌≡◌, ◌∙◌, Err, Ok, ap, subst, sym}
use Rattle.span_tables.specs.Holdings.{ArePortfolio}
use Rattle.span_tables.specs.Net.{AccountHoldings}
use Rattle.binding.proofs.IdLaws.{contracts_of, contracts_of_are}
use Rattle.binding.proofs.TraderLaws.{limit_given, nets_hold, traded_ok, unknown_first}
use Rattle.binding.proofs.trades.after_trades.Goals as goal

pub returns-in_err-ledger : goal.returns-in_err-ledger
returns-in_err-ledger c = λ contracts ids.
    let is : c.from_residual.result ≡ Err c.in_err-ledger.field-0.0 = search rules in
    rw is (unknown_first contracts c.args.held.now c.args.account.now c.args.trades.now _ ids _ c.in_err-ledger.ensures.unknown)

pub returns-in-Some : goal.returns-in-Some
returns-in-Some c = λ contracts ids.
    limit_given contracts c.args.held.now c.args.account.now c.args.trades.now _ ids _ _ _ c.requires.numbers.apart c.len.ensures.len
    c.in_ok-ledger.ensures.entries c.in_ok-nets.ensures c.requires.some c.in_ok-ledger.ensures.known _ c.limit_fault.ensures _
    (sym c.in-Some.is)

pub new-requires : goal.new-requires
new-requires c =
    let ids = c.args.numbers.now.keys in
    subst ArePortfolio (sym c.into_vec.ensures)
    (nets_hold (contracts_of ids) c.args.held.now c.args.account.now c.args.trades.now _ (contracts_of_are ids) _ _ _
    c.requires.numbers.apart c.len.ensures.len c.in_ok-ledger.ensures.entries c.in_ok-nets.ensures c.requires.some
    c.in_ok-ledger.ensures.known _
    c.limit_fault.ensures c.requires.held (sym c.in-None.is))

pub returns : goal.returns
returns c = λ contracts ids.
    traded_ok contracts c.args.held.now c.args.account.now c.args.trades.now _ ids _ _ _ c.requires.numbers.apart
    c.len.ensures.len c.in_ok-ledger.ensures.entries c.in_ok-nets.ensures c.requires.some c.in_ok-ledger.ensures.known _
    c.limit_fault.ensures c.requires.held (sym c.in-None.is)
    ∙ (λ i. Ok (let p : AccountHoldings = record { account = sym c.copied.ensures i; holdings = sym c.into_vec.ensures i } in p))
    ∙ ap Ok (sym c.new.ensures)
