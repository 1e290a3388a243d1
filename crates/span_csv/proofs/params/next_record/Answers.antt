use Rattle.std.proofs.Common.{◌≡◌, ◌∙◌, rules, arith, Err}
use Rattle.span_csv.proofs.StepLemmas.{next_fault, next_formed, next_free, next_too_many, next_unformed, record_of}
use Rattle.span_csv.proofs.TallyLemmas.{count_full, count_small, count_within, kept_counts, tally_more, tally_same}
use Rattle.span_csv.proofs.params.next_record.Goals as goal

pub returns-in_err-record-clause-judged : goal.returns-in_err-record-clause-judged
returns-in_err-record-clause-judged c = λ rs len tallies.
    let r = c.args.row.now in
    let under = c.profile-profile.ensures ∙ tallies.profile in
    let answer = c.in_err-record.field-0.0 in
    let e : c.from_residual.result ≡ Err answer = search rules in
    let unformed = next_unformed rs r c.args.earlier c.profile-profile.result len under answer c.in_err-record.ensures in
    rw e (next_fault rs r c.args.earlier c.profile-profile.result len under answer c.in_err-record.ensures _
    (tally_same c.args.tally.now c.keep_profile.new.self rs r c.args.earlier len c.keep_profile.ensures tallies unformed))

pub returns-then-count-limit_of-clause-judged : goal.returns-then-count-limit_of-clause-judged
returns-then-count-limit_of-clause-judged c = λ rs len tallies.
    let r = c.args.row.now in
    let under = c.profile-profile.ensures ∙ tallies.profile in
    let read = c.in_ok-record.ensures in
    let kept = kept_counts c.args.tally.now c.keep_profile.new.self rs r c.args.earlier len c.keep_profile.ensures tallies in
    let formed = next_formed rs r c.args.earlier c.profile-profile.result len under read.1 in (
      next_too_many rs r c.args.earlier c.profile-profile.result len under read.1
          (count_full c.keep_profile.new.self c.in_ok-record.record _ r c.count-count.result c.limit_of.result read.0 kept
          c.count-count.ensures c.limit_of.ensures c.if-count-limit_of.true),
      tally_more c.args.tally.now c.keep_profile.new.self rs r c.args.earlier len c.keep_profile.ensures tallies c.add.new.self
          c.in_ok-record.record read.0 formed c.in_ok-add.ensures,
    )

pub add-requires : goal.add-requires
add-requires c =
    let rs = c.requires.tallied.0 in
    let kept = kept_counts c.args.tally.now c.keep_profile.new.self rs c.args.row.now c.args.earlier c.requires.tallied.1
    c.keep_profile.ensures c.requires.tallied.2 in
    omega (arith, c.requires.tallied.1, count_small c.keep_profile.new.self c.in_ok-record.record rs kept)

pub returns-clause-judged : goal.returns-clause-judged
returns-clause-judged c = λ rs len tallies.
    let r = c.args.row.now in
    let under = c.profile-profile.ensures ∙ tallies.profile in
    let read = c.in_ok-record.ensures in
    let kept = kept_counts c.args.tally.now c.keep_profile.new.self rs r c.args.earlier len c.keep_profile.ensures tallies in
    let formed = next_formed rs r c.args.earlier c.profile-profile.result len under read.1 in (
      next_free rs r c.args.earlier c.profile-profile.result len under read.1
          (count_within c.keep_profile.new.self c.in_ok-record.record _ r c.count-count.result c.limit_of.result read.0 kept
          c.count-count.ensures c.limit_of.ensures c.if-count-limit_of.false),
      tally_more c.args.tally.now c.keep_profile.new.self rs r c.args.earlier len c.keep_profile.ensures tallies c.add.new.self
          c.in_ok-record.record read.0 formed c.in_ok-add.ensures,
    )

pub returns-clause-said : goal.returns-clause-said
returns-clause-said c = record_of c.args.row.now c.in_ok-record.record c.in_ok-record.ensures.0
