-- What a connection gets: a reply to what its request asks, or nothing, where it is closed (RFC
-- 9112, 9.6; own: which fault of a node has which status).
use Rattle.std.specs.Prelude.{◌≡◌, ◌⊎◌, ℕ, List, [], length, ◌≤◌, Option, None, Some, Result, Ok, Err, IsErrAnd, MatchResult, codes}
use Rattle.std.specs.Io.KnownBytes.{Appends, Consumes}
use Rattle.press_callbacks.specs.Kits.{KitView}
use Rattle.press_text.specs.Streams.{AppendsProperFront}
use Rattle.press_http.specs.declared.asked.Asked.{Asked}
use Rattle.press_http.specs.declared.asked.Asked.TheVariants.{Page, Command, Peer}
use Rattle.press_http.specs.declared.fault.HttpFault.{HttpFault}
use Rattle.press_http.specs.declared.fault.HttpFault.TheVariants.{WriteFault}
use Rattle.press_http.specs.Faults.{status_of}
use Rattle.press_http.specs.declared.request.Request.{Request}
use Rattle.press_text.specs.Gives.{Gives}
use Rattle.press_http.specs.Meanings as meaning
use Rattle.press_http.specs.Replies.{fault_bytes, reply_bytes}
use Rattle.press_http.specs.Requests.{IsRequest, Refuses, longest_request}
use Rattle.press_http.specs.Routes.{asked_by_request}
use Rattle.press_page.specs.declared.reply.ContentKind.TheVariants.{Json, Text}
use Rattle.press_page.specs.declared.reply.Reply.{Reply}
use Rattle.press_page.specs.declared.reply.Target.{Target}
use Rattle.press_node.specs.declared.fault.NodeFault.{NodeFault}
use Rattle.press_node.specs.declared.fault.NodeFault.TheVariants.{Down, TooLong, Full, SlotsUsedUp, RoundsUsedUp, Disk, Damaged, NoMemory}
use Rattle.press_wire.specs.declared.message.Message.{Message}
use Rattle.press_node.specs.declared.event.Event.{Event}
use Rattle.press_node.specs.declared.event.Event.TheVariants.{Submit, Deliver}
use Rattle.press_node.specs.declared.serve.Served.{Served}
use Rattle.press_node.specs.Nodes.{IsPageAt, NodeMove}
use Rattle.press_node.specs.States.{Up}

-- too long a command is too big a body; for all else the node has no answer now
abbrev pub status_of_node : NodeFault → ℕ
status_of_node TooLong = 413
status_of_node Down = 503
status_of_node Full = 503
status_of_node SlotsUsedUp = 503
status_of_node RoundsUsedUp = 503
status_of_node Disk = 503
status_of_node Damaged = 503
status_of_node NoMemory = 503

-- a command waits to be chosen
abbrev pub queued_reply : Reply
queued_reply = record { status = 202; kind = Json; body = codes "{\"queued\":true}" }

-- a message was taken
abbrev pub taken_reply : Reply
taken_reply = record { status = 200; kind = Text; body = [] }

-- what the bytes that were seen ask for, or why they ask for nothing: they are no request, or its
-- route says why
abbrev pub AsksFor : List ℕ → Option (List ℕ) → Result Asked HttpFault → Type 0
AsksFor seen left result =
    IsErrAnd result (λ e. Refuses e seen left) ⊎ ((r : Request) × IsRequest seen r × Gives meaning.Refuses Ok result (asked_by_request r.method r.target r.body))

-- ---- replies

-- a reply was written whole: the one that is meant, or 503 where there was no memory for its head
abbrev pub Tells : Option (List ℕ) → Option (List ℕ) → Reply → ℕ → Type 0
Tells old new reply status = ((status ≡ reply.status) × Appends old new (reply_bytes reply)) ⊎ ((status ≡ 503) × Appends old new (fault_bytes 503))

-- a prefix of it was, and not all of it
abbrev pub TellsFront : Option (List ℕ) → Option (List ℕ) → Reply → Type 0
TellsFront old new reply = AppendsProperFront old new (reply_bytes reply) ⊎ AppendsProperFront old new (fault_bytes 503)

-- the page that is asked for was written, or that there is none now
abbrev pub Shows : KitView → Option Up → Target → Option (List ℕ) → Option (List ℕ) → ℕ → Type 0
Shows kit up target old new status = ((reply : Reply) × IsPageAt kit up target reply × Tells old new reply status) ⊎ ((status ≡ 503) × Appends old new (fault_bytes 503))

abbrev pub ShowsFront : KitView → Option Up → Target → Option (List ℕ) → Option (List ℕ) → Type 0
ShowsFront kit up target old new = ((reply : Reply) × IsPageAt kit up target reply × TellsFront old new reply) ⊎ AppendsProperFront old new (fault_bytes 503)

-- ---- events

-- the reply, with the event's messages to be sent; or the fixed body of its fault, with nothing to
-- be sent
abbrev pub AnswersBy : Result (List Message) NodeFault → Reply → Option (List ℕ) → Option (List ℕ) → ℕ → List Message → Type 0
AnswersBy (Ok out) reply old new status outbox = (outbox ≡ out) × Tells old new reply status
AnswersBy (Err fault) reply old new status outbox = (outbox ≡ []) × (status ≡ status_of_node fault) × Appends old new (fault_bytes (status_of_node fault))

abbrev pub AnswersFront : Result (List Message) NodeFault → Reply → Option (List ℕ) → Option (List ℕ) → Type 0
AnswersFront (Ok out) reply old new = TellsFront old new reply
AnswersFront (Err fault) reply old new = AppendsProperFront old new (fault_bytes (status_of_node fault))

-- the event was played and answered
abbrev pub PlaysAndTells : (Event → Result (List Message) NodeFault → Type 0) → Event → Reply → Option (List ℕ) → Option (List ℕ) → Result Served HttpFault → Type 0
PlaysAndTells plays event reply old new result =
    (outcome : Result (List Message) NodeFault) × plays event outcome
    × MatchResult result (λ s. AnswersBy outcome reply old new s.status s.outbox.items) (λ e. (e ≡ WriteFault) × AnswersFront outcome reply old new)

-- ---- one request

-- the page was shown, with nothing to be sent
abbrev pub IsShown : KitView → Option Up → Target → Option (List ℕ) → Option (List ℕ) → Result Served HttpFault → Type 0
IsShown kit up target old new result =
    MatchResult result (λ s. (s.outbox.items ≡ []) × Shows kit up target old new s.status) (λ e. (e ≡ WriteFault) × ShowsFront kit up target old new)

-- the fixed body of a status was written, with nothing to be sent
abbrev pub TellsStatus : ℕ → Option (List ℕ) → Option (List ℕ) → Result Served HttpFault → Type 0
TellsStatus status old new result =
    MatchResult result (λ s. (s.status ≡ status) × (s.outbox.items ≡ []) × Appends old new (fault_bytes status)) (λ e. (e ≡ WriteFault) × AppendsProperFront old new (fault_bytes status))

-- where a fault has no status the connection is closed without a word
abbrev pub IsClosed : HttpFault → Option ℕ → Option (List ℕ) → Option (List ℕ) → Result Served HttpFault → Type 0
IsClosed fault None old new result = (result ≡ Err fault) × (new ≡ old)
IsClosed fault (Some status) old new result = TellsStatus status old new result

-- What is asked is done, and the reply is written. A page leaves the node unchanged.
abbrev pub IsAnswered : NodeMove → Option (List ℕ) → Option (List ℕ) → Asked → Result Served HttpFault → Type 0
IsAnswered node old new (Page target) result = node.same × IsShown node.kit node.up target old new result
IsAnswered node old new (Command stamped) result = PlaysAndTells node.plays (Submit stamped) queued_reply old new result
IsAnswered node old new (Peer message) result = PlaysAndTells node.plays (Deliver message) taken_reply old new result

-- and bytes that ask for nothing leave it unchanged
abbrev pub IsServed : NodeMove → Option (List ℕ) → Option (List ℕ) → Result Asked HttpFault → Result Served HttpFault → Type 0
IsServed node old new (Ok asked) result = IsAnswered node old new asked result
IsServed node old new (Err fault) result = node.same × IsClosed fault (status_of fault) old new result

-- so many bytes at most were seen, and what they ask for was served
abbrev pub Serves : NodeMove → Option (List ℕ) → Option (List ℕ) → Option (List ℕ) → Option (List ℕ) → Result Served HttpFault → Type 0
Serves node ahead left old new result =
    (seen : List ℕ) × Consumes ahead left seen × (length seen ≤ longest_request)
    × (meant : Result Asked HttpFault) × AsksFor seen left meant × IsServed node old new meant result
