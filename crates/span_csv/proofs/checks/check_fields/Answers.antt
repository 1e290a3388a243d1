use Rattle.std.proofs.Common.{◌∙◌, sym, arith, drop}
use Rattle.span_csv.proofs.CheckLemmas.{none_fails, out_of_range, range_fails, right_parts}
use Rattle.span_csv.proofs.KindLemmas.{has_size, right_is}
use Rattle.span_csv.proofs.checks.check_fields.Goals as goal

pub record_of_kind-requires : goal.record_of_kind-requires
record_of_kind-requires c =
    has_size c.args.row.now _ (omega (arith, c.in-Some.ensures.count)) c.args.kind c.args.profile (sym c.in-Some.ensures.value)

pub returns-in-Some-record_of_kind : goal.returns-in-Some-record_of_kind
returns-in-Some-record_of_kind c =
    let r = c.args.row.now in
    let found = sym c.in-Some.ensures.value in
    let is = right_is r _ (omega (arith, c.in-Some.ensures.count)) c.args.kind c.args.profile found in
    let right = sym is ∙ c.in-Some-record_of_kind.ensures.0 in
    let parts = right_parts _ (drop 1 r) right in
    (c.in-Some-record_of_kind.ensures.1, none_fails c.args.kind c.args.profile r _ c.requires found parts.0 parts.1)

pub returns-then-all_have : goal.returns-then-all_have
returns-then-all_have c =
    let r = c.args.row.now in
    let found = sym c.in-Some.ensures.value in
    let words = sym c.all_have.ensures ∙ c.if-not-all_have.false in
    let is = right_is r _ (omega (arith, c.in-Some.ensures.count)) c.args.kind c.args.profile found in
    let wrong = sym is ∙ c.in_default-record_of_kind.ensures in
    out_of_range c.args.kind c.args.profile c.args.at r _ c.requires found words (sym c.all_have-2.ensures ∙ c.if-all_have.true)
    (range_fails _ (drop 1 r) wrong words)
