-- What a server writes for what editors ask of a node (own; replies: RFC 9112).
use Rattle.std.specs.Prelude.{◌≡◌, ◌⊎◌, ℕ, false, List, Option, Some, None, Result, Ok, Err}
use Rattle.std.specs.Io.KnownBytes.{Appends}
use Rattle.press_text.specs.Streams.{AppendsProperFront}
use Rattle.press_callbacks.specs.Kits.{KitView}
use Rattle.press_page.specs.declared.reply.Reply.{Reply}
use Rattle.press_http.specs.declared.desk.DeskRequest.{DeskRequest}
use Rattle.press_http.specs.declared.desk.DeskRequest.TheVariants as request
use Rattle.press_http.specs.declared.fault.HttpFault.{HttpFault}
use Rattle.press_http.specs.declared.fault.HttpFault.TheVariants.{NoMemory, WriteFault}
use Rattle.press_http.specs.Faults.{status_of}
use Rattle.press_http.specs.Replies.{fault_bytes}
use Rattle.press_log.specs.Log.{log_reply}
use Rattle.press_node.specs.Nodes.{IsDeskAt}
use Rattle.press_node.specs.Serving.{Tells, TellsFront}
use Rattle.press_node.specs.States.{NodeState, applied_values, is_down}

-- the reply is that over what the node has applied, while it is up
abbrev pub IsReplyAt : KitView → NodeState → DeskRequest → Reply → Type 0
IsReplyAt kit state (request.Show asked) reply = IsDeskAt kit state.up asked reply
IsReplyAt kit state (request.Log from) reply = (is_down state ≡ false) × (reply ≡ log_reply (applied_values state) from)

-- the reply to a fault was written whole
abbrev pub TellsFault : HttpFault → Option (List ℕ) → Option (List ℕ) → ℕ → Type 0
TellsFault fault old new status = (status_of fault ≡ Some status) × Appends old new (fault_bytes status)

-- a front of it was, and not all of it; or nothing, where a fault has no reply
abbrev pub TellsFaultFront : HttpFault → Option (List ℕ) → Option (List ℕ) → HttpFault → Type 0
TellsFaultFront fault old new why =
    ((status : ℕ) × (status_of fault ≡ Some status) × (why ≡ WriteFault) × AppendsProperFront old new (fault_bytes status))
    ⊎ ((status_of fault ≡ None) × (why ≡ fault) × (new ≡ old))

-- that reply was written, or that there is none now; or why nothing is asked
abbrev pub ShowsDesk : KitView → NodeState → Result DeskRequest HttpFault → Option (List ℕ) → Option (List ℕ) → ℕ → Type 0
ShowsDesk kit state (Err fault) old new status = TellsFault fault old new status
ShowsDesk kit state (Ok asked) old new status =
    ((reply : Reply) × IsReplyAt kit state asked reply × Tells old new reply status) ⊎ ((status ≡ 503) × Appends old new (fault_bytes 503))

-- a front of that was, and not all of it; or nothing, without memory to see what the reply is
abbrev pub ShowsDeskFront : KitView → NodeState → Result DeskRequest HttpFault → Option (List ℕ) → Option (List ℕ) → HttpFault → Type 0
ShowsDeskFront kit state (Err fault) old new why = TellsFaultFront fault old new why
ShowsDeskFront kit state (Ok asked) old new why =
    ((why ≡ WriteFault) × (((reply : Reply) × IsReplyAt kit state asked reply × TellsFront old new reply) ⊎ AppendsProperFront old new (fault_bytes 503)))
    ⊎ ((why ≡ NoMemory) × (new ≡ old))
