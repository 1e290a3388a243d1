use Rattle.std.proofs.Common.{◌∙◌, ◌+◌, ◌++◌, ◌∷◌, [], drop, append_assoc, arith, sym, ap}
use Rattle.std.proofs.lemmas.List.{length-drop, map-append, take_rest}
use Rattle.session.specs.Requests.{fields_of, texts_of}
use Rattle.session.proofs.CutLemmas.{first_field, one_field}
use Rattle.session.proofs.requests.fields_of.Goals as goal

pub loop-end-preserved : goal.loop-end-preserved
loop-end-preserved c =
    let line = c.loop-end.left.now in
    let end = c.in-Some.end in
    rw (take_rest line (end + 1)) (record {
      few = omega (arith, length-drop (end + 1) line, c.loop-end.invariant.few);
      same = rw (c.in_ok-push.ensures.items, map-append (λ field. field.now) c.loop-end.fields.items (_ ∷ []))
          (append_assoc (texts_of c.loop-end.fields.items) _ (fields_of (drop (end + 1) line))
          ∙ ap (λ rest. texts_of c.loop-end.fields.items ++ rest) (sym (first_field line end c.in-Some.ensures))
          ∙ c.loop-end.invariant.same);
    })

pub returns : goal.returns
returns c =
    rw (c.in_ok-push-2.ensures.items, map-append (λ field. field.now) c.loop-end.fields.items (_ ∷ []))
    (ap (λ rest. texts_of c.loop-end.fields.items ++ rest) (sym (one_field c.loop-end.left.now (rw c.in_default.is at c.memchr.ensures)))
    ∙ c.loop-end.invariant.same)
