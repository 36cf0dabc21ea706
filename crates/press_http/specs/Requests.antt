-- HTTP: what bytes are as a request, or which fault they have (RFC 9112). The rules are in this order: the head; the target, a transfer coding and the
-- length of the body; the body. A connection has one request, and what is behind it is passed over.
use Rattle.std.specs.Prelude.{◌≡◌, ◌⊎◌, ℕ, ◌+◌, ◌<◌, ◌≤◌, List, length, take, Option, Ok, Err}
use Rattle.std.specs.Io.KnownBytes.{IsAtEnd}
use Rattle.httparse.specs.Grammar.{RequestHead}
use Rattle.press_http.specs.declared.fault.HttpFault.{HttpFault}
use Rattle.press_http.specs.declared.fault.HttpFault.TheVariants as fault
use Rattle.press_http.specs.declared.request.Request.{Request}
use Rattle.press_http.specs.declared.start.Start.{Start}
use Rattle.press_http.specs.Heads.{ReadsHead, RefusesHead, WantsHead, longest_head}
use Rattle.press_http.specs.Bodies.{length_of, longest_body}
use Rattle.press_http.specs.Reads.{HasEnded, HasFailed}

-- the most bytes that are read for a request
abbrev pub longest_request : ℕ
longest_request = longest_head + longest_body

-- the head gives a length, and the rest has so many bytes; no more is read than a head may have and the body has
abbrev pub IsRequest : List ℕ → Request → Type 0
IsRequest seen r =
    (h : RequestHead) × (rest : List ℕ) × (n : ℕ) × ReadsHead seen h rest × (length_of h ≡ Ok n) × (n ≤ length rest)
    × (r.method ≡ h.method) × (r.target ≡ h.target) × (r.body ≡ take n rest) × (length seen ≤ longest_head + n)

-- a head that gives the length of its body, and what follows it
abbrev pub IsStart : List ℕ → Start → Type 0
IsStart seen s =
    (h : RequestHead) × ReadsHead seen h s.rest × (length_of h ≡ Ok s.count) × (s.method ≡ h.method) × (s.target ≡ h.target)

-- no more is read than a head may have
abbrev pub IsWithinHead : List ℕ → Type 0
IsWithinHead seen = length seen ≤ longest_head

-- a head whose fields give the fault
abbrev pub IsJudged : HttpFault → List ℕ → Type 0
IsJudged e seen = (h : RequestHead) × (rest : List ℕ) × ReadsHead seen h rest × (length_of h ≡ Err e) × IsWithinHead seen

-- the body is longer than what is there
abbrev pub IsCut : List ℕ → Type 0
IsCut seen = (h : RequestHead) × (rest : List ℕ) × (n : ℕ) × ReadsHead seen h rest × (length_of h ≡ Ok n) × (length rest < n)

-- Why no request was read, of what was seen and whether that was all.
abbrev pub Refuses : HttpFault → List ℕ → Option (List ℕ) → Type 0
Refuses fault.NoMemory seen left = 0 < length seen
Refuses fault.ReadFault seen left = (RefusesHead fault.ReadFault seen left × IsWithinHead seen) ⊎ IsCut seen
Refuses fault.Ended seen left = (RefusesHead fault.Ended seen left × IsWithinHead seen) ⊎ (IsCut seen × IsAtEnd left)
Refuses fault.BadHead seen left = (RefusesHead fault.BadHead seen left × IsWithinHead seen) ⊎ IsJudged fault.BadHead seen
Refuses fault.FieldsTooLarge seen left = RefusesHead fault.FieldsTooLarge seen left × IsWithinHead seen
Refuses fault.NoLength seen left = IsJudged fault.NoLength seen
Refuses fault.TooBig seen left = IsJudged fault.TooBig seen
Refuses fault.NotDone seen left = IsJudged fault.NotDone seen
Refuses fault.WriteFault seen left = ⊥
Refuses fault.BadForm seen left = ⊥
Refuses fault.BadPeer seen left = ⊥
Refuses fault.NotFound seen left = ⊥
Refuses fault.NotAllowed seen left = ⊥

-- what was seen is no whole request yet, and more bytes may make it one
abbrev pub WantsMore : List ℕ → Type 0
WantsMore seen = WantsHead seen ⊎ IsCut seen

-- a read that failed and the end are returned as what they are
abbrev pub EndsBy : HttpFault → List (Option (List ℕ)) → Type 0
EndsBy fault.ReadFault reads = HasFailed reads
EndsBy fault.Ended reads = HasEnded reads
EndsBy fault.NoMemory reads = Unit {0}
EndsBy fault.WriteFault reads = Unit {0}
EndsBy fault.BadHead reads = Unit {0}
EndsBy fault.BadForm reads = Unit {0}
EndsBy fault.BadPeer reads = Unit {0}
EndsBy fault.NotFound reads = Unit {0}
EndsBy fault.NotAllowed reads = Unit {0}
EndsBy fault.NoLength reads = Unit {0}
EndsBy fault.TooBig reads = Unit {0}
EndsBy fault.FieldsTooLarge reads = Unit {0}
EndsBy fault.NotDone reads = Unit {0}
