use Rattle.std.proofs.Common.{◌≡◌, ◌∙◌, length, rules, sym, Err}
use Rattle.std.specs.Prelude.{vec_len}
use Rattle.std.proofs.lemmas.Bool.{eqb-false, eqb-true}
use Rattle.std.proofs.lemmas.Bool.Decides.{when_false, when_true}
use Rattle.span_csv.proofs.ReadLemmas.{read_all, read_empty, read_fault, read_more}
use Rattle.span_csv.proofs.params.params_in.Goals as goal

pub returns-in_err-record : goal.returns-in_err-record
returns-in_err-record c =
    let so_far = c.loop-records.invariant in
    let count : length c.loop-records.records.items ≡ c.len.result = search rules in
    let e : c.from_residual-in_err-record.result ≡ Err c.in_err-record.field-0.0 = search rules in
    rw e (read_fault so_far c.next.new.row c.next.new.self c.in_err-record.field-0.0 c.next_record.new.tally
    (when_true _ _ c.if-branch.true c.in_ok-next.ensures.found)
    (c.in_err-record.ensures.judged so_far.earlier (so_far.count ∙ count) so_far.kept.1))

pub loop-records-preserved : goal.loop-records-preserved
loop-records-preserved c =
    let so_far = c.loop-records.invariant in
    let count : length c.loop-records.records.items ≡ c.len.result = search rules in
    rw c.in_ok-push.ensures.items (read_more so_far c.next.new.row c.next.new.self c.in_ok-record.record c.next_record.new.tally
    (when_true _ _ c.if-branch.true c.in_ok-next.ensures.found) c.in_ok-record.ensures.said
    (c.in_ok-record.ensures.judged so_far.earlier (so_far.count ∙ count) so_far.kept.1))

pub returns-then-is_empty : goal.returns-then-is_empty
returns-then-is_empty c =
    let size : vec_len c.loop-records.records ≡ length c.loop-records.records.items = search rules in
    read_empty c.loop-records.invariant (when_false _ _ c.if-branch.false c.in_ok-next.ensures.found)
    (sym size ∙ eqb-true _ 0 (sym c.is_empty.ensures ∙ c.if-is_empty.true))

pub returns : goal.returns
returns c =
    let size : vec_len c.loop-records.records ≡ length c.loop-records.records.items = search rules in
    read_all c.loop-records.invariant (when_false _ _ c.if-branch.false c.in_ok-next.ensures.found)
    (λ none. eqb-false _ 0 (sym c.is_empty.ensures ∙ c.if-is_empty.false) (size ∙ none))
