use Rattle.std.proofs.Common.{rules, ◌≡◌, sym, subst, take, drop, ◌/◌, List}
use Rattle.std.proofs.lemmas.Result.{IfOk-at_ok}
use Rattle.span_csv.specs.near.Pieces.{records_together, HasAccounts, StandFor}
use Rattle.span_tables.specs.declared.records.PositionRecord.{PositionRecord}
use Rattle.span_csv.proofs.TogetherLaws.{known_back, known_front, stand_both}
use Rattle.acceptance.proofs.reading.+numbering.Goals as goal

pub join-front-requires-after_bounds : goal.join-front-requires-after_bounds
join-front-requires-after_bounds g t c κs within =
    let accounts = c.args.accounts.now in
    let pieces = c.args.pieces.items in
    let cut = c.in_ok-back.ensures in
    let n = c.len-2.result / 2 in
    let front = c.split_off.new.self.items in
    let back = c.in_ok-back.back.items in
    let front_is : front ≡ take n pieces = cut.items in
    let back_is : back ≡ drop n pieces = cut.tail in (
      (
        search rules,
        (
          (λ a m. m),
          (
            subst (λ (ps : List (List PositionRecord)). HasAccounts accounts (records_together ps)) (sym front_is)
                (known_front accounts pieces n c.requires),
            search rules,
          ),
        ),
      ),
      (
        search rules,
        (
          (λ a m. m),
          (
            subst (λ (ps : List (List PositionRecord)). HasAccounts accounts (records_together ps)) (sym back_is)
                (known_back accounts pieces n c.requires),
            search rules,
          ),
        ),
      ),
    )

pub returns : goal.returns
returns g t c =
    let accounts = c.args.accounts.now in
    let pieces = c.args.pieces.items in
    let cut = c.in_ok-back.ensures in
    let n = c.len-2.result / 2 in
    let front = c.in_ok-records.records.items in
    let back = c.in_ok-rear.field-0.items in
    let first = IfOk-at_ok (λ records. StandFor accounts (records_together c.split_off.new.self.items) records.items) c.in_ok-records.was
    c.join-front.ensures.first in
    let second = IfOk-at_ok (λ records. StandFor accounts (records_together c.in_ok-back.back.items) records.items) c.in_ok-rear.was
    c.join-front.ensures.second in
    rw c.in_ok-append.ensures.items (stand_both accounts pieces n front back
    (subst (λ (ps : List (List PositionRecord)). StandFor accounts (records_together ps) front) cut.items first)
    (subst (λ (ps : List (List PositionRecord)). StandFor accounts (records_together ps) back) cut.tail second))
