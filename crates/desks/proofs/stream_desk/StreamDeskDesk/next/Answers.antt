use Rattle.std.proofs.Common.{Err, Ok, refl}
use Rattle.desks.specs.declared.desk.DeskFault.TheVariants as desk
use Rattle.desks.proofs.DealingLemmas.{dealt_request}
use Rattle.desks.proofs.stream_desk.StreamDeskDesk.next.Goals as goal

pub returns-in-Ok-clause-log : goal.returns-in-Ok-clause-log
returns-in-Ok-clause-log g c = λ from before h.
    (h.0, dealt_request _ _ _ before (Ok c.in-Ok.taken) c.next.new.self.line.bytes c.in-Ok.ensures.takes refl h.1)

pub returns-in-Err-clause-log : goal.returns-in-Err-clause-log
returns-in-Err-clause-log g c = λ from before h.
    (h.0, dealt_request _ _ _ before (Err desk.Input) c.next.new.self.line.bytes c.in-Err.ensures.takes refl h.1)

pub returns-in-Err-clause-fault : goal.returns-in-Err-clause-fault
returns-in-Err-clause-fault g c = (refl, (c.in-Err.ensures.failed, c.next.new.self.cut_off c.in-Err.ensures.failed))
