-- Why a request is rejected, and the text of the answer.
use Rattle.std.specs.Prelude.{ℕ, List, ◌++◌, codes, decimal}
use Rattle.statement_text.specs.FaultLines.{fault_text}
use Rattle.statement_text.specs.declared.faults.SpanFault.{SpanFault}
use Rattle.session.specs.declared.faults.RequestFault.{RequestFault}
use Rattle.session.specs.declared.faults.RequestFault.TheVariants as fault
use Rattle.session.specs.declared.refusals.Refusal.{Refusal}
use Rattle.session.specs.declared.refusals.Refusal.TheVariants as refusal

-- Why a request is rejected: a fault of its line; an unknown account; one account too many; an unknown contract, a net
-- out of range, or too many holdings, each with the number of a field; a fault of the file of a parameter set; an
-- account that holds a contract that the file lacks; a file that cannot be read, with its name; out of memory.
pub data Refused : Type 0 where
  Form : RequestFault → Refused
  UnknownAccount : Refused
  TooManyAccounts : Refused
  UnknownContract : ℕ → Refused
  NetOutOfRange : ℕ → Refused
  TooManyHeld : ℕ → Refused
  Parameters : SpanFault → Refused
  Lost : List ℕ → List ℕ → Refused
  File : List ℕ → Refused
  Memory : Refused

-- the text of a fault of a line; the field number is 0 if the fault is not in one field
abbrev pub form_text : RequestFault → List ℕ
form_text fault.LineTooLong = codes "request: X1 LineTooLong at field 0"
form_text fault.UnknownRequest = codes "request: X2 UnknownRequest at field 1"
form_text fault.FieldCount = codes "request: X3 FieldCount at field 0"
form_text (fault.BadName field) = codes "request: X4 BadName at field " ++ decimal field
form_text (fault.BadNumber field) = codes "request: X5 BadNumber at field " ++ decimal field
form_text (fault.OutOfRange field) = codes "request: X6 OutOfRange at field " ++ decimal field
form_text fault.OutOfMemory = codes "memory"

-- the text of a refusal
abbrev pub refusal_text : Refused → List ℕ
refusal_text (Form e) = form_text e
refusal_text UnknownAccount = codes "request: E1 UnknownAccount at field 2"
refusal_text TooManyAccounts = codes "request: Q5 TooManyAccounts at field 2"
refusal_text (UnknownContract field) = codes "request: B1 UnknownContract at field " ++ decimal field
refusal_text (NetOutOfRange field) = codes "request: B2 NetOutOfRange at field " ++ decimal field
refusal_text (TooManyHeld field) = codes "request: B3 TooManyHeld at field " ++ decimal field
refusal_text (Parameters e) = fault_text e
refusal_text (Lost account contract) = codes "positions: B1 UnknownContract account " ++ (account ++ (codes " contract " ++ contract))
refusal_text (File name) = codes "file: " ++ name
refusal_text Memory = codes "memory"

-- the meaning of a refusal of the library
abbrev pub refused_by : Refusal → Refused
refused_by (refusal.Form e) = Form e
refused_by refusal.UnknownAccount = UnknownAccount
refused_by refusal.TooManyAccounts = TooManyAccounts
refused_by (refusal.UnknownContract field) = UnknownContract field
refused_by (refusal.NetOutOfRange field) = NetOutOfRange field
refused_by (refusal.TooManyHeld field) = TooManyHeld field
refused_by (refusal.Parameters e) = Parameters e
refused_by (refusal.Lost account contract) = Lost account contract
refused_by (refusal.File name) = File name.now
refused_by refusal.Memory = Memory
