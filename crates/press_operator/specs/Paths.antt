-- The paths that a server has beside those of a site: which path, by which method (own; paths: the
-- kit's `matchit`).
use Rattle.std.specs.Prelude.{ℕ, List, [], bytes_eq, Option, Some, None, codes, if◌then◌else◌}
use Rattle.matchit.specs.Rows.{RowsOf}
use Rattle.matchit.specs.Seek.{first}
use Rattle.matchit.specs.Router.{RouteOf}
use Rattle.press_http.specs.Routes.{with_route}
use Rattle.press_operator.specs.declared.paths.Own.{Own}
use Rattle.press_operator.specs.declared.paths.Own.TheVariants as own

unfoldable pub table : RowsOf (RouteOf Own)
table =
    with_route (codes "/metrics") own.Metrics
    (with_route (codes "/members") own.Members
    (with_route (codes "/editor") own.Editor
    (with_route (codes "/ready") own.Ready [])))

-- the one method of a path
abbrev pub method_of : Own → List ℕ
method_of own.Ready = codes "GET"
method_of own.Metrics = codes "GET"
method_of own.Editor = codes "GET"
method_of own.Members = codes "POST"

-- what a route is for, by a method
abbrev pub own_in : List ℕ → Option (RouteOf Own) → Option Own
own_in method None = None
own_in method (Some route) = if bytes_eq (method_of route.value) method then Some route.value else None

abbrev pub own_at : List ℕ → List ℕ → Option Own
own_at method target = own_in method (first table target)
