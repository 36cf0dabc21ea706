-- What a router holds after it took a route.
use Rattle.std.proofs.Common.{◌≡◌, Ok, Err}
use Rattle.std.specs.Prelude.{Result}
use Rattle.matchit.specs.Rows.{RowsOf}
use Rattle.matchit.specs.Route.{Scan}
use Rattle.matchit.specs.Router.{RouteOf, InsertsRead}
use Rattle.matchit.specs.declared.error.InsertError.{InsertError}
use Rattle.press_http.specs.Routes.{with_read}

pub inserted : {P : Type 0} (read : Result Scan InsertError) (at : P) (old new : RowsOf (RouteOf P)) (u : Unit {0}) → InsertsRead read at old new (Ok u) → new ≡ with_read read at old
inserted (Ok s) at old new u p = p.1
inserted (Err e) at old new u p = p.0
