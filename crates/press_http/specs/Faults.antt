-- Faults of a connection: the status of each (RFC 9110, 15), or none where the connection is closed without a reply, and its number (own).
use Rattle.std.specs.Prelude.{ℕ, Option, Some, None}
use Rattle.press_http.specs.declared.fault.HttpFault.{HttpFault}
use Rattle.press_http.specs.declared.fault.HttpFault.TheVariants as fault

abbrev pub status_of : HttpFault → Option ℕ
status_of fault.ReadFault = None
status_of fault.Ended = None
status_of fault.WriteFault = None
status_of fault.BadHead = Some 400
status_of fault.BadForm = Some 400
status_of fault.BadPeer = Some 400
status_of fault.NotFound = Some 404
status_of fault.NotAllowed = Some 405
status_of fault.NoLength = Some 411
status_of fault.TooBig = Some 413
status_of fault.FieldsTooLarge = Some 431
status_of fault.NotDone = Some 501
status_of fault.NoMemory = Some 503

abbrev pub http_fault_number : HttpFault → ℕ
http_fault_number fault.NoMemory = 0
http_fault_number fault.ReadFault = 40
http_fault_number fault.Ended = 41
http_fault_number fault.WriteFault = 42
http_fault_number fault.BadHead = 400
http_fault_number fault.BadForm = 400
http_fault_number fault.BadPeer = 400
http_fault_number fault.NotFound = 404
http_fault_number fault.NotAllowed = 405
http_fault_number fault.NoLength = 411
http_fault_number fault.TooBig = 413
http_fault_number fault.FieldsTooLarge = 431
http_fault_number fault.NotDone = 501
