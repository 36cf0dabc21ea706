-- What editors ask of a node by a path and its query (own; paths and their parameters: the kit's `matchit`).
use Rattle.std.specs.Prelude.{ℕ, ◌≡◌, List, [], bytes_eq, Option, Some, None, Result, Ok, Err, codes, if◌then◌else◌}
use Rattle.matchit.specs.Rows.{RowsOf}
use Rattle.matchit.specs.Seek.{first}
use Rattle.matchit.specs.Router.{RouteOf}
use Rattle.press_text.specs.Decimals.{decimal_in}
use Rattle.press_page.specs.declared.desk.Desk.TheVariants as desk
use Rattle.press_http.specs.declared.fault.HttpFault.{HttpFault}
use Rattle.press_http.specs.declared.fault.HttpFault.TheVariants.{NotAllowed}
use Rattle.press_http.specs.declared.desk.DeskEndpoint.{DeskEndpoint}
use Rattle.press_http.specs.declared.desk.DeskEndpoint.TheVariants as endpoint
use Rattle.press_http.specs.declared.desk.DeskRequest.{DeskRequest}
use Rattle.press_http.specs.declared.desk.DeskRequest.TheVariants as request
use Rattle.press_http.specs.Forms.{first_value, LacksPlainly}
use Rattle.press_http.specs.Meanings.{◌>>=◌, map_ok}
use Rattle.press_http.specs.Routes.{behind, or_missing, path_of, place_in, query_of, with_route}

unfoldable pub desk_table : RowsOf (RouteOf DeskEndpoint)
desk_table =
    with_route (codes "/desk/site") endpoint.Site
    (with_route (codes "/desk/preview/{id}") endpoint.Preview
    (with_route (codes "/desk/posts/{id}") endpoint.Post
    (with_route (codes "/desk/posts") endpoint.Posts
    (with_route (codes "/desk/log") endpoint.Log []))))

unfoldable pub desk_place_at : List ℕ → Result DeskEndpoint HttpFault
desk_place_at path = place_in (first desk_table path)

abbrev pub desk_or_not_allowed : List ℕ → DeskEndpoint → Result DeskEndpoint HttpFault
desk_or_not_allowed method at = if bytes_eq method (codes "GET") then Ok at else Err NotAllowed

-- a number that a query gives, or this one
abbrev pub number_by : ℕ → Option (List ℕ) → Result ℕ HttpFault
number_by otherwise None = Ok otherwise
number_by otherwise (Some text) = or_missing (decimal_in text)

abbrev pub number_of : List ℕ → ℕ → List ℕ → Result ℕ HttpFault
number_of name otherwise query = number_by otherwise (first_value name query)

-- those with ids below `before`, and `count` of them
unfoldable pub posts_of : List ℕ → Result DeskRequest HttpFault
posts_of query = do
  before ← number_of (codes "before") 18446744073709551615 query
  count ← number_of (codes "count") 100 query
  Ok (request.Show (desk.Posts before count))

abbrev pub id_in : List ℕ → Result ℕ HttpFault
id_in path = or_missing (decimal_in (behind 3 path))

unfoldable pub desk_at : DeskEndpoint → List ℕ → Result DeskRequest HttpFault
desk_at endpoint.Log t = map_ok request.Log (number_of (codes "from") 0 (query_of t))
desk_at endpoint.Posts t = posts_of (query_of t)
desk_at endpoint.Post t = map_ok (λ id. request.Show (desk.Post id)) (id_in (path_of t))
desk_at endpoint.Preview t = map_ok (λ id. request.Show (desk.Preview id)) (id_in (path_of t))
desk_at endpoint.Site t = Ok (request.Show desk.Site)

-- by method and target
unfoldable pub desk_request_of : List ℕ → List ℕ → Result DeskRequest HttpFault
desk_request_of method t = do
  found ← desk_place_at (path_of t)
  served ← desk_or_not_allowed method found
  desk_at served t

-- ---- memory

abbrev pub LacksBoth : List ℕ → Type 0
LacksBoth query = LacksPlainly (codes "before") query × LacksPlainly (codes "count") query

-- a field that may be the one that is looked for takes memory
abbrev pub TakesMemory : DeskEndpoint → List ℕ → Type 0
TakesMemory endpoint.Log t = LacksPlainly (codes "from") (query_of t) → ⊥
TakesMemory endpoint.Posts t = LacksBoth (query_of t) → ⊥
TakesMemory endpoint.Post t = ⊥
TakesMemory endpoint.Preview t = ⊥
TakesMemory endpoint.Site t = ⊥

-- its path is served by its method, and that takes some
abbrev pub MayTakeMemory : List ℕ → List ℕ → Type 0
MayTakeMemory method t = (at : DeskEndpoint) × ((desk_place_at (path_of t) >>= desk_or_not_allowed method) ≡ Ok at) × TakesMemory at t
