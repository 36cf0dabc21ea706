-- Reply bytes: a status line, three fields and a body, each line with CR LF (RFC 9112, 2.1, 4 and 9.6; phrases: RFC 9110, 15, as the kit's `http` has them).
-- A code without a phrase has an empty one.
use Rattle.std.specs.Prelude.{◌≡◌, ℕ, ◌&&◌, ◌==◌, Bool, true, false, List, [], ◌∷◌, ◌++◌, length, codes, decimal, nat_le, unwrap_or}
use Rattle.std.specs.List.{list_any}
use Rattle.http.specs.StatusCode.{reason_phrase}
use Rattle.press_page.specs.declared.reply.Reply.{Reply}
use Rattle.press_page.specs.declared.reply.ContentKind.{ContentKind}
use Rattle.press_page.specs.declared.reply.ContentKind.TheVariants.{Html, Json, Text}
use Rattle.press_page.specs.Template.{fixed_body}

-- a code has three digits
abbrev pub is_code : ℕ → Bool
is_code status = nat_le 100 status && nat_le status 999

abbrev pub phrase_where : Bool → ℕ → List ℕ
phrase_where true status = unwrap_or (reason_phrase status) []
phrase_where false status = []

unfoldable pub phrase_of : ℕ → List ℕ
phrase_of status = phrase_where (is_code status) status

abbrev pub content_type : ContentKind → List ℕ
content_type Html = codes "text/html; charset=UTF-8"
content_type Json = codes "application/json; charset=UTF-8"
content_type Text = codes "text/plain; charset=UTF-8"

-- the head of a reply whose body has so many bytes
unfoldable pub head_bytes : ℕ → List ℕ → List ℕ → ℕ → List ℕ
head_bytes status phrase kind count =
    codes "HTTP/1.1 " ++ (decimal status ++ (codes " " ++ (phrase
    ++ (codes "\r\nContent-Type: " ++ (kind
    ++ (codes "\r\nContent-Length: " ++ (decimal count
    ++ codes "\r\nConnection: close\r\n\r\n")))))))

abbrev pub reply_head : Reply → List ℕ
reply_head r = head_bytes r.status (phrase_of r.status) (content_type r.kind) (length r.body)

abbrev pub reply_bytes : Reply → List ℕ
reply_bytes r = reply_head r ++ r.body

-- ---- replies with a fixed body

-- the statuses that have such a body
abbrev pub reply_statuses : List ℕ
reply_statuses = 200 ∷ 202 ∷ 400 ∷ 404 ∷ 405 ∷ 411 ∷ 413 ∷ 431 ∷ 500 ∷ 501 ∷ 503 ∷ []

abbrev pub IsReplyStatus : ℕ → Type 0
IsReplyStatus status = list_any (λ s. status == s) reply_statuses ≡ true

-- a status and its phrase
abbrev pub status_line : ℕ → List ℕ
status_line status = decimal status ++ (codes " " ++ phrase_of status)

abbrev pub fixed_reply : ℕ → Reply
fixed_reply status = record { status = status; kind = Html; body = fixed_body (status_line status) }

unfoldable pub fault_bytes : ℕ → List ℕ
fault_bytes status = reply_bytes (fixed_reply status)
