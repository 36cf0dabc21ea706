-- What editors ask for, step by step.
use Rattle.std.proofs.Common.{◌≡◌, List, Ok, ℕ, refl, subst, sym}
use Rattle.press_http.specs.declared.desk.DeskEndpoint.{DeskEndpoint}
use Rattle.press_http.specs.Meanings.{◌>>=◌}
use Rattle.press_http.specs.Desk as spec
use Rattle.press_http.specs.Routes.{path_of}

pub asked_is : (method target : List ℕ) (found served : DeskEndpoint) → spec.desk_place_at (path_of target) ≡ Ok found → spec.desk_or_not_allowed method found ≡ Ok served →
    spec.desk_request_of method target ≡ spec.desk_at served target
unfolding spec.desk_request_of
asked_is method target found served at is =
    subst (λ r. (r >>= (λ f. spec.desk_or_not_allowed method f >>= (λ s. spec.desk_at s target))) ≡ spec.desk_at served target) (sym at)
    (subst (λ r. (r >>= (λ s. spec.desk_at s target)) ≡ spec.desk_at served target) (sym is) refl)
