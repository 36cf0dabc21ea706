-- Head: the request line and the fields of a request (RFC 9112, 2 to 5), of at most 8,192 bytes and 32 fields (own limits), and what a reading of one says
-- of the bytes that it saw.
use Rattle.std.specs.Prelude.{◌≡◌, ◌⊎◌, ℕ, ◌<◌, ◌≤◌, List, length, Option, Some, None, Result, Ok, Err}
use Rattle.std.specs.Io.KnownBytes.{IsAtEnd}
use Rattle.httparse.specs.declared.spans.HeaderSpan.{HeaderSpan}
use Rattle.httparse.specs.declared.spans.RequestSpans.{RequestSpans}
use Rattle.httparse.specs.Grammar.{RequestHead, print_request, ReadsRequest, HasNoRequest, NeverHasRequest, MayBecomeRequest}
use Rattle.httparse.specs.Spans.{IsRequestAt, IsRequestWithin, RequestExceeds}
use Rattle.press_http.specs.declared.fault.HttpFault.{HttpFault}
use Rattle.press_http.specs.declared.fault.HttpFault.TheVariants as fault
use Rattle.press_http.specs.Reads.{bytes_of_read}

abbrev pub most_fields : ℕ
most_fields = 32

abbrev pub longest_head : ℕ
longest_head = 8192

-- a head is at the front, and then the rest
abbrev pub ReadsHead : List ℕ → RequestHead → List ℕ → Type 0
ReadsHead seen h rest = ReadsRequest seen h rest × (length h.fields ≤ most_fields) × (length (print_request h) ≤ longest_head)

-- no prefix is a head within the limits
abbrev pub HasNoHead : List ℕ → Type 0
HasNoHead seen = (h : RequestHead) (rest : List ℕ) → ¬ (ReadsHead seen h rest)

-- no head is there yet, and more bytes may make it one, of any number of fields, or it ends in a target, whose UTF-8 is looked at only at its end
abbrev pub IsUnfinished : List ℕ → Type 0
IsUnfinished seen = HasNoRequest seen × MayBecomeRequest seen

-- no head within the limits is there, and a prefix of it with an empty line is a head of more fields than there may be
abbrev pub HasTooManyFields : List ℕ → Type 0
HasTooManyFields seen = HasNoHead seen × RequestExceeds most_fields seen

-- Why no head was read, of what was seen and whether that was all. A head with two faults may get either.
abbrev pub RefusesHead : HttpFault → List ℕ → Option (List ℕ) → Type 0
RefusesHead fault.NoMemory seen left = 0 < length seen
RefusesHead fault.ReadFault seen left = IsUnfinished seen × (length seen < longest_head)
RefusesHead fault.Ended seen left = IsUnfinished seen × (length seen < longest_head) × IsAtEnd left
RefusesHead fault.BadHead seen left = NeverHasRequest seen
RefusesHead fault.FieldsTooLarge seen left = (IsUnfinished seen × (longest_head ≤ length seen)) ⊎ HasTooManyFields seen
RefusesHead fault.WriteFault seen left = ⊥
RefusesHead fault.BadForm seen left = ⊥
RefusesHead fault.BadPeer seen left = ⊥
RefusesHead fault.NotFound seen left = ⊥
RefusesHead fault.NotAllowed seen left = ⊥
RefusesHead fault.NoLength seen left = ⊥
RefusesHead fault.TooBig seen left = ⊥
RefusesHead fault.NotDone seen left = ⊥

-- ---- what the parser says, by its spans

-- the spans are those of a head at the front
abbrev pub IsHead : List ℕ → List HeaderSpan → RequestSpans → Type 0
IsHead seen headers spans = (h : RequestHead) × IsRequestAt seen headers spans h × IsRequestWithin seen headers spans

abbrev pub LooksBad : HttpFault → List ℕ → Type 0
LooksBad fault.BadHead seen = NeverHasRequest seen
LooksBad fault.FieldsTooLarge seen = HasTooManyFields seen
LooksBad fault.NoMemory seen = ⊥
LooksBad fault.ReadFault seen = ⊥
LooksBad fault.Ended seen = ⊥
LooksBad fault.WriteFault seen = ⊥
LooksBad fault.BadForm seen = ⊥
LooksBad fault.BadPeer seen = ⊥
LooksBad fault.NotFound seen = ⊥
LooksBad fault.NotAllowed seen = ⊥
LooksBad fault.NoLength seen = ⊥
LooksBad fault.TooBig seen = ⊥
LooksBad fault.NotDone seen = ⊥

-- one look at what was seen so far
abbrev pub Looks : List ℕ → List HeaderSpan → Result (Option RequestSpans) HttpFault → Type 0
Looks seen headers (Ok (Some spans)) = IsHead seen headers spans
Looks seen headers (Ok None) = IsUnfinished seen
Looks seen headers (Err e) = LooksBad e seen

-- why one read gave no bytes to keep: there was no memory for those that came, or it failed
abbrev pub Misses : HttpFault → Option (List ℕ) → Type 0
Misses fault.NoMemory read = 0 < length (bytes_of_read read)
Misses fault.ReadFault read = read ≡ None
Misses fault.Ended read = ⊥
Misses fault.WriteFault read = ⊥
Misses fault.BadHead read = ⊥
Misses fault.BadForm read = ⊥
Misses fault.BadPeer read = ⊥
Misses fault.NotFound read = ⊥
Misses fault.NotAllowed read = ⊥
Misses fault.NoLength read = ⊥
Misses fault.TooBig read = ⊥
Misses fault.FieldsTooLarge read = ⊥
Misses fault.NotDone read = ⊥

-- no head is there yet, and there is room for more
abbrev pub WantsHead : List ℕ → Type 0
WantsHead seen = IsUnfinished seen × (length seen < longest_head)
