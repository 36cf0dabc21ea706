-- What the reply of a member says of a command (RFC 9112, 4; the statuses and the bodies are own).
use Rattle.std.specs.Prelude.{ℕ, ◌≡◌, ◌≢◌, ◌≤◌, ◌<◌, List, ◌++◌, Some, codes}
use Rattle.press_http.specs.StatusLine.{SaysStatus}
use Rattle.press_site.specs.declared.token.Outcome.{Outcome}
use Rattle.press_site.specs.declared.token.Outcome.TheVariants as outcome
use Rattle.press_text.specs.Decimals.{decimal_in}
use Rattle.press_client.specs.declared.newsroom.FormAnswer.{FormAnswer}
use Rattle.press_client.specs.declared.newsroom.FormAnswer.TheVariants as taken
use Rattle.press_client.specs.declared.newsroom.OutcomeAnswer.{OutcomeAnswer}
use Rattle.press_client.specs.declared.newsroom.OutcomeAnswer.TheVariants as told

-- the number behind a front, in front of the end of an object
abbrev pub IsNumber : List ℕ → ℕ → List ℕ → Type 0
IsNumber front number body = (digits : List ℕ) × (body ≡ front ++ (digits ++ codes "}")) × (decimal_in digits ≡ Some number)

abbrev pub IsOutcome : Outcome → List ℕ → Type 0
IsOutcome (outcome.Done id) body = IsNumber (codes "{\"done\":") id body
IsOutcome (outcome.Refused fault) body = IsNumber (codes "{\"refused\":") fault body

-- its body is behind an empty line
abbrev pub TellsOutcome : Outcome → List ℕ → Type 0
TellsOutcome outcome reply = (head body : List ℕ) × (reply ≡ head ++ (codes "\r\n\r\n" ++ body)) × IsOutcome outcome body

-- what it says of a command that was sent; it is lost only where it says none of these
abbrev pub SaysTaken : FormAnswer → List ℕ → Type 0
SaysTaken taken.Queued reply = SaysStatus reply 202
SaysTaken taken.Busy reply = SaysStatus reply 503
SaysTaken (taken.Refused status) reply = SaysStatus reply status × (400 ≤ status) × (status < 500)
SaysTaken taken.Lost reply = (status : ℕ) → SaysStatus reply status → (status ≢ 202) × (status ≢ 503) × (400 ≤ status → 500 ≤ status)

-- what it says of an outcome
abbrev pub SaysTold : OutcomeAnswer → List ℕ → Type 0
SaysTold (told.Outcome outcome) reply = SaysStatus reply 200 × TellsOutcome outcome reply
SaysTold told.NotYet reply = SaysStatus reply 404
SaysTold told.Lost reply = SaysStatus reply 404 → ⊥
