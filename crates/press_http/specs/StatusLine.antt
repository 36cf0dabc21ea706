-- The status line of a reply, as a client reads it: the version, a space and three digits (RFC 9112, 4).
use Rattle.std.specs.Prelude.{◌≡◌, ◌≤◌, ◌++◌, ℕ, List, length, take, codes, Some}
use Rattle.press_text.specs.Decimals.{decimal_in}

-- how many bytes a reply has up to the end of its status
abbrev pub front_length : ℕ
front_length = 12

-- a reply that begins so says this status
abbrev pub SaysStatus : List ℕ → ℕ → Type 0
SaysStatus reply status =
    (digits : List ℕ) × (front_length ≤ length reply) × (take front_length reply ≡ codes "HTTP/1.1 " ++ digits) × (decimal_in digits ≡ Some status)
