use Rattle.std.proofs.Common.{◌<◌, ◌++◌, ◌∷◌, [], ◌∙◌, ap, arith, length, map, replicate, set, take}
use Rattle.std.proofs.lemmas.List.{get_or_default, length-map, take_all}
use Rattle.span_tables.specs.Net.{accounts_of}
use Rattle.span_tables.specs.near.Positions.{named_position}
use Rattle.binding.specs.near.Ledgers.{foreign_faults, is_foreign, listed_records}
use Rattle.binding.specs.near.Nets.{entries_of}
use Rattle.binding.specs.declared.faults.BindFault.TheVariants as fault
use Rattle.binding.proofs.LedgerLaws.{all_seen, foreign_from_none, foreign_step, known_from_some, ledgers_step, no_entries}
use Rattle.binding.proofs.LedgerLaws.{number_within, record_seen, seen}
use Rattle.binding.proofs.UnfitWalk.{told_end, told_start, unfit_more, unfit_skip}
use Rattle.binding.proofs.ledgers.gather.Goals as goal

pub loop-number-init : goal.loop-number-init
loop-number-init c = record {
  ledgers_are = c.in_ok-ledgers.ensures ∙ ap (λ ks. replicate (length ks) []) c.accounts-accounts.ensures.value
      ∙ no_entries c.args.numbers.now.keys (accounts_of c.args.positions.now);
  so_far = told_start _ _ _ _ c.new-unknown.ensures.items;
}

pub loop-number-preserved-in_default : goal.loop-number-preserved-in_default
loop-number-preserved-in_default c =
    let ids = c.args.numbers.now.keys in
    let positions = c.args.positions.now in
    let named = c.records-position-items.ensures.value in
    let known = c.records-position-items.ensures.known in
    let r = c.position-item.result in
    let lt = c.loop-number-test.true in
    let at = c.position-item.is in
    let was = c.loop-number.invariant in
    let here = seen positions _ named known _ r _ _ _ lt at c.accounts-accounts.ensures.value c.index-accounts-account.is
    c.copied.ensures in
    let foreign = foreign_from_none ids (named_position (accounts_of positions) r) c.in_default.ensures.entry in
    record {
      ledgers_are = foreign_step positions _ named known ids _ r c.loop-number.ledgers.items lt at was.ledgers_are foreign;
      so_far = unfit_more fault.UnknownContract (λ earlier q. is_foreign ids q) positions _ _ _ _ here was.so_far _ foreign
          c.in_ok-push.ensures.items;
    }

pub loop-number-preserved : goal.loop-number-preserved
loop-number-preserved c =
    let ids = c.args.numbers.now.keys in
    let positions = c.args.positions.now in
    let records = c.records-position-items.result.now in
    let named = c.records-position-items.ensures.value in
    let known = c.records-position-items.ensures.known in
    let i = c.loop-number.number in
    let r = c.position-item.result in
    let lt : i < length records = c.loop-number-test.true in
    let at = c.position-item.is in
    let was = c.loop-number.invariant in
    let ledgers = c.loop-number.ledgers.items in
    let e = c.in-Some.entry in
    let number = number_within positions records named known i r lt at in
    let many = ap length was.ledgers_are
    ∙ length-map (accounts_of positions) (entries_of ids (listed_records ids (take i positions))) in
    let within : r.account < length ledgers = omega (arith, number, many) in
    let read = c.index_mut.ensures.value ∙ get_or_default ledgers r.account c.index_mut.result.now [] within in
    let some = known_from_some ids (named_position (accounts_of positions) r) e c.in-Some.ensures.entry in
    record {
      ledgers_are = ledgers_step positions records named known ids i r ledgers _ e lt at was.ledgers_are some.0 some.1
          (ap (set ledgers r.account) (c.in_ok-push-2.ensures ∙ ap (λ b. b ++ e ∷ []) read));
      so_far = unfit_skip fault.UnknownContract (λ earlier q. is_foreign ids q) positions _ _ _ _
          (record_seen positions records named known i r lt at) was.so_far some.0;
    }

pub returns-clause-unknown : goal.returns-clause-unknown
unfolding foreign_faults
returns-clause-unknown c =
    told_end fault.UnknownContract (λ earlier q. is_foreign c.args.numbers.now.keys q) c.args.positions.now _ _
    (all_seen c.args.positions.now _ c.records-position-items.ensures.value c.records-position-items.ensures.known
    _ c.loop-number-test.false) c.loop-number.invariant.so_far

pub returns-clause-ledgers : goal.returns-clause-ledgers
returns-clause-ledgers c =
    let positions = c.args.positions.now in
    let ids = c.args.numbers.now.keys in
    c.loop-number.invariant.ledgers_are
    ∙ ap (λ ps. map (entries_of ids (listed_records ids ps)) (accounts_of positions))
    (take_all c.loop-number.number positions
    (all_seen positions _ c.records-position-items.ensures.value c.records-position-items.ensures.known _ c.loop-number-test.false))
