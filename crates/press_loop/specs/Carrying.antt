-- What a connection carries between the two ends that the program holds, where the bytes of its
-- streams are known (own); of a reply the front up to its status is kept: the version, a space and
-- three digits (RFC 9112, 4).
use Rattle.std.specs.Prelude.{◌≡◌, ℕ, ◌-◌, List, [], ◌++◌, drop, length, take, Option, None, Some, Result, MatchResult}
use Rattle.std.specs.Io.KnownBytes.{Appends, Consumes, Keeps}
use Rattle.press_text.specs.Streams.{AppendsFront}
use Rattle.press_http.specs.StatusLine.{SaysStatus, front_length}

-- ---- requests

-- The next bytes of a request went out, and these are no longer left of it.
abbrev pub Sends : {E : Type 0} → Option (List ℕ) → Option (List ℕ) → List ℕ → List ℕ → Result ℕ E → Type 0
Sends old new request left result = MatchResult result (λ n. Appends old new (take n request) × (left ≡ drop n request)) (λ _. Keeps old new × (left ≡ request))

-- So did some of them, or none.
abbrev pub SendsSome : Option (List ℕ) → Option (List ℕ) → List ℕ → List ℕ → Type 0
SendsSome old new request left = (n : ℕ) × Appends old new (take n request) × (left ≡ drop n request)

-- A read brought what the server's end had next, and one that failed took nothing of it.
abbrev pub Brings : {E : Type 0} → Option (List ℕ) → Option (List ℕ) → List ℕ → Result ℕ E → Type 0
Brings old new bytes result = MatchResult result (λ n. Consumes old new (take n bytes)) (λ _. Keeps old new)

-- ---- replies

-- A write gave the server's end as many of the bytes as it says; one that failed may have given
-- some.
abbrev pub Gives : {E : Type 0} → Option (List ℕ) → Option (List ℕ) → List ℕ → Result ℕ E → Type 0
Gives old new bytes result = MatchResult result (λ n. Appends old new (take n bytes)) (λ _. AppendsFront old new bytes)

-- what is kept of a reply, of which these bytes came next, as far as there is room
abbrev pub with_more : List ℕ → List ℕ → List ℕ
with_more front bytes = front ++ take (front_length - length front) bytes

-- Bytes of a reply came, which this says, and the front was kept.
abbrev pub Hears : Option (List ℕ) → Option (List ℕ) → List ℕ → List ℕ → (List ℕ → Type 0) → Type 0
Hears old new front front' AreThese = (bytes : List ℕ) × Consumes old new bytes × (front' ≡ with_more front bytes) × AreThese bytes

-- A client that got this front of a reply was told this status; none where it got nothing.
abbrev pub Tells : List ℕ → Option ℕ → Type 0
Tells front None = front ≡ []
Tells front (Some status) = SaysStatus front status
