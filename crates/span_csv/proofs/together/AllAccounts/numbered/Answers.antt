use Rattle.std.proofs.Common.{◌≡◌, ◌∙◌, ap, subst, sym, length, map, rules}
use Rattle.std.proofs.lemmas.List.{length-map, with_items_is}
use Rattle.std.specs.Vec.{with_items}
use Rattle.span_tables.specs.Net.{accounts_of}
use Rattle.span_tables.specs.near.Positions.{named_positions}
use Rattle.span_csv.specs.near.Pieces.{place_among, renumbered, HasAccounts, StandFor}
use Rattle.span_csv.proofs.TogetherLaws.{stand_for}
use Rattle.span_csv.proofs.together.AllAccounts.numbered.Goals as goal

pub returns : goal.returns
returns c =
    let names = accounts_of c.args.piece in
    let read = c.into_records-records.result in
    let rs = read.items in
    let keys = c.self.inside.accounts.keys in
    let placed = c.deref.ensures.value ∙ c.in_ok-places.ensures ∙ ap (map (place_among keys)) c.accounts.ensures.value in
    let new : c.renumber.new.records ≡ map (renumbered (map (place_among keys) names)) rs =
    c.renumber.ensures
    ∙ ap (map (renumbered c.deref.result.now)) c.deref_mut.ensures.value
    ∙ ap (λ ps. map (renumbered ps) rs) placed in
    let of : named_positions names rs ≡ c.args.piece = c.into_records-records.ensures.value in
    let long : length c.renumber.new.records ≡ read.len =
    ap length new ∙ length-map rs (renumbered (map (place_among keys) names)) ∙ (search rules) in
    let items = with_items_is read c.renumber.new.records long in
    let out = (with_items read c.renumber.new.records).items in
    subst (λ all. StandFor all c.args.piece out) c.self.view_is
    (subst (λ ps. StandFor keys ps out) of
    (subst (StandFor keys (named_positions names rs)) (sym (items ∙ new))
    (stand_for keys names rs (record { known = c.into_records-records.ensures.known; small = c.into_records-records.ensures.small })
    (subst (HasAccounts keys) (sym of) (subst (λ all. HasAccounts all c.args.piece) (sym c.self.view_is) c.requires)))))
