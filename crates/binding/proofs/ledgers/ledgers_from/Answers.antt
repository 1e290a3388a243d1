use Rattle.std.proofs.Common.{◌≡◌, ◌<◌, ◌≤◌, ◌+◌, ◌-◌, ◌++◌, ◌∷◌, [], ◌∙◌, ap, arith, drop, length, map, replicate}
use Rattle.std.proofs.Common.{rules, set, subst, sym, take}
use Rattle.std.proofs.Math.Seq.{take-length}
use Rattle.std.proofs.lemmas.Bool.{and_parts, leb-true, ltb-true}
use Rattle.std.proofs.lemmas.List.{get_or_default, length-map}
use Rattle.span_tables.specs.Net.{accounts_of}
use Rattle.binding.specs.near.Nets.{entries_of}
use Rattle.binding.proofs.AccountLaws.{some_long}
use Rattle.binding.proofs.LedgerLaws.{as_many, no_entries}
use Rattle.binding.proofs.SliceLaws.{entry_is, other_account, others_stay, slice_stay, slice_step}
use Rattle.binding.proofs.ledgers.ledgers_from.Goals as goal
use Rattle.binding.proofs.ledgers.ledgers_from.Goals.{then-is_of+in_ok-push, else-is_of}

pub loop-number-init : goal.loop-number-init
loop-number-init c =
    let accounts = accounts_of c.args.positions.now in
    let records = c.records-records in
    let start = c.records_before-start in
    others_stay c.args.positions.now records.result.now records.ensures.value records.ensures.known c.args.numbers.now.keys
    c.args.first c.args.count c.requires.within c.in_ok-ledgers.ledgers.items start.result 0 start.result (omega arith) start.ensures.bound
    start.ensures.others
    (c.in_ok-ledgers.ensures
    ∙ ap (λ n. replicate n []) (sym (some_long accounts c.args.first c.args.count c.requires.within))
    ∙ no_entries c.args.numbers.now.keys (take c.args.count (drop c.args.first accounts)))

pub loop-number-preserved : goal.loop-number-preserved
loop-number-preserved c =
    let ids = c.args.numbers.now.keys in
    let positions = c.args.positions.now in
    let records = c.records-records.result.now in
    let named = c.records-records.ensures.value in
    let known = c.records-records.ensures.known in
    let first = c.args.first in
    let count = c.args.count in
    let i = c.loop-number.number in
    let r = c.index-records-number.result in
    let lt : i < length records = search rules in
    let at = c.index-records-number.is in
    let was = c.loop-number.invariant in
    let ledgers = c.loop-number.ledgers.items in
    elim c.if-is_of.branch [
      | then-is_of+in_ok-push w ↦
          let e = w.found_entry.result in
          let parts = and_parts _ _ (sym c.is_of.ensures ∙ w.if-is_of.true) in
          let le : first ≤ r.account = leb-true first r.account parts.0 in
          let under = ltb-true (r.account - first) count parts.1 in
          let below : r.account < first + count = omega (arith, le, under) in
          let many = ap length was ∙ length-map (take count (drop first (accounts_of positions))) (entries_of ids (take i positions))
          ∙ some_long (accounts_of positions) first count c.requires.within in
          let within : r.account - first < length ledgers = omega (arith, under, many) in
          let read = w.index_mut.ensures.value ∙ get_or_default ledgers (r.account - first) w.index_mut.result.now [] within in
          rw w.ledgers-is
          (slice_step positions records named known ids first count c.requires.within i r ledgers lt at was _ e le below
          (entry_is positions records named known ids first count i r c.args.found.now e lt at c.requires.found w.found_entry.ensures)
          (ap (set ledgers (r.account - first)) (w.in_ok-push.ensures ∙ ap (λ b. b ++ e ∷ []) read)))
      | else-is_of w ↦
          rw w.ledgers-is
          (slice_stay positions records named known ids first count c.requires.within i r ledgers lt at was
          (other_account positions records named known ids first count c.requires.within ledgers r
          (sym c.is_of.ensures ∙ w.if-is_of.false)))
    ]

pub returns : goal.returns
returns c =
    let records = c.records-records in
    let end = c.records_end in
    let number = c.loop-number.number in
    let size = length records.result.now in
    let many = as_many c.args.positions.now records.result.now records.ensures.value records.ensures.known in
    let past : end.result ≤ number = search rules in
    let within : number ≤ size = search rules in
    let all = others_stay c.args.positions.now records.result.now records.ensures.value records.ensures.known c.args.numbers.now.keys
    c.args.first c.args.count c.requires.within c.loop-number.ledgers.items (size - number) number size (omega (arith, within))
    (omega arith) (λ k d low high. end.ensures.others k d (omega (arith, past, low)) high) c.loop-number.invariant in
    subst (λ n. c.loop-number.ledgers.items ≡ map (entries_of c.args.numbers.now.keys (take n c.args.positions.now))
    (take c.args.count (drop c.args.first (accounts_of c.args.positions.now)))) many all
    ∙ ap (λ ps. map (entries_of c.args.numbers.now.keys ps) (take c.args.count (drop c.args.first (accounts_of c.args.positions.now))))
    (take-length c.args.positions.now)
