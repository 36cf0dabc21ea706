-- Why a form is refused, and what is said of that.
use Rattle.std.proofs.Common.{◌≡◌, ℕ, List, Option, Some, None, subst, sym}
use Rattle.std.specs.Prelude.{Result, Ok, Err, IfOk, IfSome}
use Rattle.std.specs.Result.{result_ok}
use Rattle.std.specs.Io.KnownBytes.{Consumes}
use Rattle.press_http.specs.declared.asked.Asked.{Asked}
use Rattle.press_http.specs.declared.fault.HttpFault.{HttpFault}
use Rattle.press_http.specs.declared.fault.HttpFault.TheVariants.{BadForm}
use Rattle.press_http.specs.declared.request.Request.{Request}
use Rattle.press_http.specs.Requests.{IsRequest}
use Rattle.press_http.specs.Routes.{asked_by_request}
use Rattle.press_operator.specs.Reasons.{IsLineAbout, IsOfField, IsReason, line_of}
use Rattle.press_operator.specs.declared.reasons.Reason.{Reason}
use Rattle.press_operator.specs.declared.reasons.Reason.TheVariants.{Missing, Unfit, Ahead}

-- a field is at fault
pub of_field : (most : Option ℕ) (now : ℕ) (form : List ℕ) (meant : Result Asked HttpFault) (result : Option Reason) → meant ≡ Err BadForm
    → IfSome result (IsOfField form) → IfSome result (IsReason most now form meant)
of_field most now form meant None is h = h
of_field most now form meant (Some (Missing field)) is h = (is, h)
of_field most now form meant (Some (Unfit field)) is h = (is, h)
of_field most now form meant (Some (Ahead limit)) is h = absurd h

-- what is said of it, where there is memory for that
pub is_told : {A E : Type 0} (bytes_of : A → List ℕ) (most : Option ℕ) (now : ℕ) (bytes seen : List ℕ) (left : Option (List ℕ)) (r : Request) (why : Reason) (line : Result A E)
    (result : Option A) → Consumes (Some bytes) left seen → IsRequest seen r → IsReason most now r.body (asked_by_request r.method r.target r.body) why → IfOk line (λ t. bytes_of t ≡ line_of why)
    → result ≡ result_ok line → IfSome result (λ t. IsLineAbout most now bytes (bytes_of t))
is_told bytes_of most now bytes seen left r why (Ok t) result took is reason told same =
    subst (λ found. IfSome found (λ t. IsLineAbout most now bytes (bytes_of t))) (sym same) (seen, left, took, r, is, why, reason, told)
is_told bytes_of most now bytes seen left r why (Err e) result took is reason told same =
    subst (λ found. IfSome found (λ t. IsLineAbout most now bytes (bytes_of t))) (sym same) tt
