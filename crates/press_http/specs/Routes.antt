-- Route: what a request asks for, by its path, then its method, then what it carries (paths and their parameters: the kit's `matchit`;
-- path and query: RFC 3986, 3.3 and 3.4; methods: RFC 9110, 9; `GET /wp-json/wp/v2/posts/{id}`: REST API Handbook, Posts; the other paths are own).
use Rattle.std.specs.Prelude.{ℕ, zero, suc, ◌≡◌, List, [], ◌==◌, bytes_eq, Option, Some, None, Result, Ok, Err, IsOk, codes, if◌then◌else◌}
use Rattle.std.specs.List.{before_first, after_first}
use Rattle.matchit.specs.Rows.{RowsOf}
use Rattle.matchit.specs.Seek.{first}
use Rattle.matchit.specs.Route.{Scan, parse_route}
use Rattle.matchit.specs.Router.{RouteOf, route_from}
use Rattle.matchit.specs.Order.{placed}
use Rattle.matchit.specs.declared.error.InsertError.{InsertError}
use Rattle.press_text.specs.Decimals.{decimal_in}
use Rattle.press_text.specs.Names.{is_name}
use Rattle.press_site.specs.declared.token.Token.{Token}
use Rattle.press_page.specs.declared.reply.Target.{Target}
use Rattle.press_page.specs.declared.reply.Target.TheVariants as target
use Rattle.press_wire.specs.declared.message.Message.{Message}
use Rattle.press_wire.specs.declared.fault.WireFault.{WireFault}
use Rattle.press_wire.specs.Memory.{editor_of_message}
use Rattle.press_wire.specs.Reading.{read_message}
use Rattle.press_http.specs.declared.fault.HttpFault.{HttpFault}
use Rattle.press_http.specs.declared.fault.HttpFault.TheVariants.{NotFound, NotAllowed, BadPeer}
use Rattle.press_http.specs.declared.asked.Asked.{Asked}
use Rattle.press_http.specs.declared.asked.Asked.TheVariants.{Page, Command, Peer}
use Rattle.press_http.specs.declared.endpoint.Endpoint.{Endpoint}
use Rattle.press_http.specs.declared.endpoint.Endpoint.TheVariants as endpoint
use Rattle.press_http.specs.Forms.{first_value, command_in, LacksPlainly}
use Rattle.press_http.specs.Meanings.{◌>>=◌, or_fault, map_ok}

-- ---- the target

-- up to the first question mark
abbrev pub path_of : List ℕ → List ℕ
path_of t = before_first (λ b. b == 63) t

abbrev pub query_of : List ℕ → List ℕ
query_of t = after_first (λ b. b == 63) t

-- ---- paths

abbrev pub with_read : {P : Type 0} → Result Scan InsertError → P → RowsOf (RouteOf P) → RowsOf (RouteOf P)
with_read (Ok s) at routes = placed (s.pattern, route_from s at) routes
with_read (Err e) at routes = routes

unfoldable pub with_route : {P : Type 0} → List ℕ → P → RowsOf (RouteOf P) → RowsOf (RouteOf P)
with_route path at routes = with_read (parse_route path) at routes

unfoldable pub pages : RowsOf (RouteOf Endpoint)
pages =
    with_route (codes "/result/{editor}/{seq}") endpoint.Outcome
    (with_route (codes "/wp-json/wp/v2/posts/{id}") endpoint.Post
    (with_route (codes "/") endpoint.Front []))

unfoldable pub table : RowsOf (RouteOf Endpoint)
table = with_route (codes "/peer") endpoint.Peers (with_route (codes "/command") endpoint.Commands pages)

abbrev pub or_missing : {A : Type 0} → Option A → Result A HttpFault
or_missing found = or_fault NotFound found

abbrev pub place_in : {P : Type 0} → Option (RouteOf P) → Result P HttpFault
place_in None = Err NotFound
place_in (Some route) = Ok route.value

unfoldable pub place_at : List ℕ → Result Endpoint HttpFault
place_at path = place_in (first table path)

-- ---- methods

abbrev pub method_at : Endpoint → List ℕ
method_at endpoint.Front = codes "GET"
method_at endpoint.Post = codes "GET"
method_at endpoint.Outcome = codes "GET"
method_at endpoint.Commands = codes "POST"
method_at endpoint.Peers = codes "POST"

abbrev pub or_not_allowed : List ℕ → Endpoint → Result Endpoint HttpFault
or_not_allowed method at = if bytes_eq method (method_at at) then Ok at else Err NotAllowed

-- ---- pages

-- the front page, or the post that `p` names
abbrev pub front_by : Option (List ℕ) → Result Target HttpFault
front_by None = Ok target.Front
front_by (Some id) = map_ok target.Post (or_missing (decimal_in id))

abbrev pub front_of : List ℕ → Result Target HttpFault
front_of query = front_by (first_value (codes "p") query)

-- what follows the first so many slashes
unfoldable pub behind : ℕ → List ℕ → List ℕ
behind zero path = path
behind (suc n) path = behind n (after_first (λ b. b == 47) path)

abbrev pub post_of : List ℕ → Result Target HttpFault
post_of path = map_ok target.Json (or_missing (decimal_in (behind 5 path)))

abbrev pub name_in : List ℕ → Option (List ℕ)
name_in bytes = if is_name 32 bytes then Some bytes else None

abbrev pub editor_in : List ℕ → Result (List ℕ) HttpFault
editor_in text = or_missing (name_in text)

-- the editor, up to a slash
abbrev pub first_in : List ℕ → Result (List ℕ) HttpFault
first_in text = editor_in (before_first (λ b. b == 47) text)

-- an editor and a number with a slash between them
unfoldable pub token_in : List ℕ → Result Token HttpFault
token_in text = do
  editor ← first_in text
  seq ← or_missing (decimal_in (after_first (λ b. b == 47) text))
  Ok (record { editor = editor; seq = seq })

abbrev pub outcome_of : List ℕ → Result Target HttpFault
outcome_of path = map_ok target.Result (token_in (behind 2 path))

-- ---- messages

abbrev pub or_bad_peer : Result Message WireFault → Result Message HttpFault
or_bad_peer (Ok message) = Ok message
or_bad_peer (Err e) = Err BadPeer

abbrev pub message_in : List ℕ → Result Message HttpFault
message_in body = or_bad_peer (read_message body)

-- ---- requests

unfoldable pub asked_at : Endpoint → List ℕ → List ℕ → Result Asked HttpFault
asked_at endpoint.Front t body = map_ok Page (front_of (query_of t))
asked_at endpoint.Post t body = map_ok Page (post_of (path_of t))
asked_at endpoint.Outcome t body = map_ok Page (outcome_of (path_of t))
asked_at endpoint.Commands t body = map_ok Command (command_in body)
asked_at endpoint.Peers t body = map_ok Peer (message_in body)

-- by method, target and body
unfoldable pub asked_by_request : List ℕ → List ℕ → List ℕ → Result Asked HttpFault
asked_by_request method t body = do
  found ← place_at (path_of t)
  served ← or_not_allowed method found
  asked_at served t body

-- ---- memory

-- what has to be there before what a request carries takes memory: a field that may be the one that is looked for, or an editor's name
abbrev pub TakesMemory : Endpoint → List ℕ → List ℕ → Type 0
TakesMemory endpoint.Front t body = LacksPlainly (codes "p") (query_of t) → ⊥
TakesMemory endpoint.Post t body = ⊥
TakesMemory endpoint.Outcome t body = IsOk (first_in (behind 2 (path_of t)))
TakesMemory endpoint.Commands t body = LacksPlainly (codes "editor") body → ⊥
TakesMemory endpoint.Peers t body = IsOk (editor_of_message body)

-- whether what a request carries may take memory: where its path is served by its method, and that takes some
abbrev pub MayTakeMemory : List ℕ → List ℕ → List ℕ → Type 0
MayTakeMemory method t body = (at : Endpoint) × ((place_at (path_of t) >>= or_not_allowed method) ≡ Ok at) × TakesMemory at t body
