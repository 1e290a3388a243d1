use Rattle.std.proofs.Common.{Ok, refl}
use Rattle.desks.proofs.DealingLemmas.{dealt_answer}
use Rattle.desks.proofs.stream_desk.StreamDeskDesk.tell.Goals as goal

pub returns-in-Ok-clause-log : goal.returns-in-Ok-clause-log
returns-in-Ok-clause-log g c = λ from before h.
    (h.0, dealt_answer _ _ _ before (Ok tt) c.args.text.now c.in-Ok.ensures.sent tt refl refl h.1)
