-- The requests of a client: a request line, fields, an empty line and a body (RFC 9112, 2.1, 3 and
-- 3.2.1). The host is as it was named (RFC 9110, 7.2); the form and the paths are own.
use Rattle.std.specs.Prelude.{ℕ, List, ◌++◌, codes, decimal, length}
use Rattle.press_apply.specs.declared.command.Stamped.{Stamped}
use Rattle.press_forms.specs.Forms.{form_of}

unfoldable pub head_of_form : List ℕ → ℕ → List ℕ
head_of_form host count =
    codes "POST /command HTTP/1.1\r\nHost: " ++ (host ++ (codes "\r\nContent-Type: application/x-www-form-urlencoded\r\nContent-Length: "
    ++ (decimal count ++ codes "\r\n\r\n")))

abbrev pub command_bytes : List ℕ → Stamped → List ℕ
command_bytes host command = head_of_form host (length (form_of command)) ++ form_of command

unfoldable pub question_bytes : List ℕ → List ℕ → ℕ → List ℕ
question_bytes host editor seq = codes "GET /result/" ++ (editor ++ (codes "/" ++ (decimal seq ++ (codes " HTTP/1.1\r\nHost: " ++ (host ++ codes "\r\n\r\n")))))

unfoldable pub log_bytes : List ℕ → ℕ → List ℕ
log_bytes host from = codes "GET /desk/log?from=" ++ (decimal from ++ (codes " HTTP/1.1\r\nHost: " ++ (host ++ codes "\r\n\r\n")))
