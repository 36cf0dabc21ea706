-- Why a command is refused that came as a form, and what is said of that (own).
use Rattle.std.specs.Prelude.{◌≡◌, ◌≢◌, ◌++◌, ℕ, List, Bool, Option, Some, None, Result, Ok, Err, true, false, codes, decimal}
use Rattle.std.specs.Io.KnownBytes.{Consumes}
use Rattle.press_http.specs.declared.asked.Asked.{Asked}
use Rattle.press_http.specs.declared.asked.Asked.TheVariants as variant
use Rattle.press_http.specs.declared.fault.HttpFault.{HttpFault}
use Rattle.press_http.specs.declared.fault.HttpFault.TheVariants.{BadForm}
use Rattle.press_http.specs.declared.request.Request.{Request}
use Rattle.press_http.specs.Forms.{first_value}
use Rattle.press_http.specs.Requests.{IsRequest}
use Rattle.press_http.specs.Routes.{asked_by_request}
use Rattle.press_operator.specs.Screening.{is_ahead}
use Rattle.press_operator.specs.declared.reasons.Reason.{Reason}
use Rattle.press_operator.specs.declared.reasons.Reason.TheVariants.{Missing, Unfit, Ahead}

-- it is about a field, which a form has, or doesn't
abbrev pub IsOfField : List ℕ → Reason → Type 0
IsOfField form (Missing field) = first_value field form ≡ None
IsOfField form (Unfit field) = first_value field form ≢ None
IsOfField form (Ahead limit) = ⊥

-- a command was asked for that is more seconds ahead than an operator allows
abbrev pub is_past : Option ℕ → ℕ → Result Asked HttpFault → Bool
is_past most now (Ok (variant.Peer message)) = false
is_past most now (Ok (variant.Command stamped)) = is_ahead most stamped.at now
is_past most now (Ok (variant.Page target)) = false
is_past most now (Err fault) = false

-- why a form is refused, by what it asks for
abbrev pub IsReason : Option ℕ → ℕ → List ℕ → Result Asked HttpFault → Reason → Type 0
IsReason most now form meant (Missing field) = (meant ≡ Err BadForm) × IsOfField form (Missing field)
IsReason most now form meant (Unfit field) = (meant ≡ Err BadForm) × IsOfField form (Unfit field)
IsReason most now form meant (Ahead limit) = (most ≡ Some limit) × (is_past most now meant ≡ true)

unfoldable pub line_of : Reason → List ℕ
line_of (Missing field) = codes "press: POST /command 400: " ++ (field ++ codes " is missing\n")
line_of (Unfit field) = codes "press: POST /command 400: " ++ (field ++ codes " does not fit\n")
line_of (Ahead limit) = codes "press: POST /command 400: at is more than " ++ (decimal limit ++ codes " seconds ahead\n")

-- what is said of a request's bytes: why the form is refused that the request in front of them
-- carries
abbrev pub IsLineAbout : Option ℕ → ℕ → List ℕ → List ℕ → Type 0
IsLineAbout most now bytes line =
    (seen : List ℕ) × (left : Option (List ℕ)) × Consumes (Some bytes) left seen
    × (r : Request) × IsRequest seen r
    × (reason : Reason) × IsReason most now r.body (asked_by_request r.method r.target r.body) reason
    × (line ≡ line_of reason)
