-- The request by which a step of a schedule comes to a node: a request line, fields, an empty line
-- and a body (RFC 9112, 2.1, 3 and 3.2.1). A command comes as a form (URL Standard, 5.2), a message
-- as its spelling, and a page is asked for by its path; paths and names of pairs are own. A step
-- that names no node or no message, one whose body may not be sent, a wake and a restart come
-- without a request.
use Rattle.std.specs.Prelude.{ℕ, ◌&&◌, Bool, List, ◌++◌, length, nat_le, codes, decimal, if◌then◌else◌, Option, None, Some}
use Rattle.press_forms.specs.Forms.{form_of}
use Rattle.press_http.specs.Bodies.{longest_form}
use Rattle.press_page.specs.declared.reply.Target.{Target}
use Rattle.press_page.specs.declared.reply.Target.TheVariants as target
use Rattle.press_wire.specs.Spelling.{is_too_long_message, spelled_message}
use Rattle.press_wire.specs.declared.message.Message.{Message}
use Rattle.press_world.specs.Refusing.{message_numbered}
use Rattle.press_world.specs.Stored.{StoredWorld}
use Rattle.press_world.specs.declared.step.Step.{Step}
use Rattle.press_world.specs.declared.step.Step.TheVariants.{Submit, Wake, Deliver, Restart, Get}

-- ---- bytes

-- the head of a POST whose body has so many bytes
unfoldable pub head_of_post : List ℕ → List ℕ → ℕ → List ℕ
head_of_post path content_type count =
    codes "POST " ++ (path ++ (codes " HTTP/1.1\r\nHost: 127.0.0.1\r\nContent-Type: " ++ (content_type
    ++ (codes "\r\nContent-Length: " ++ (decimal count ++ codes "\r\n\r\n")))))

abbrev pub post_bytes : List ℕ → List ℕ → List ℕ → List ℕ
post_bytes path content_type body = head_of_post path content_type (length body) ++ body

unfoldable pub get_bytes : List ℕ → List ℕ
get_bytes path = codes "GET " ++ (path ++ codes " HTTP/1.1\r\nHost: 127.0.0.1\r\n\r\n")

abbrev pub path_of : Target → List ℕ
path_of target.Front = codes "/"
path_of (target.Post id) = codes "/?p=" ++ decimal id
path_of (target.Json id) = codes "/wp-json/wp/v2/posts/" ++ decimal id
path_of (target.Result token) = codes "/result/" ++ (token.editor ++ (codes "/" ++ decimal token.seq))

-- a form that is longer than a body may be isn't sent
abbrev pub command_bytes : List ℕ → Option (List ℕ)
command_bytes form =
    if nat_le (length form) longest_form then Some (post_bytes (codes "/command") (codes "application/x-www-form-urlencoded") form) else None

abbrev pub message_bytes : Message → Option (List ℕ)
message_bytes message =
    if is_too_long_message message then None else Some (post_bytes (codes "/peer") (codes "application/octet-stream") (spelled_message message))

-- ---- steps

-- one of so many nodes
abbrev pub is_node : ℕ → ℕ → Bool
is_node nodes number = nat_le 1 number && nat_le number nodes

abbrev pub sent_bytes : Option Message → Option (List ℕ)
sent_bytes None = None
sent_bytes (Some message) = message_bytes message

abbrev pub request_of : ℕ → StoredWorld → Step → Option (List ℕ)
request_of nodes s (Submit node command cut) = if is_node nodes node then command_bytes (form_of command) else None
request_of nodes s (Get node target) = if is_node nodes node then Some (get_bytes (path_of target)) else None
request_of nodes s (Deliver number cut) = sent_bytes (message_numbered s number)
request_of nodes s (Wake node cut) = None
request_of nodes s (Restart node) = None
