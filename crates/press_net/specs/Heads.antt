-- Where the bytes of a head are: it ends with an empty line (RFC 9112, 2.1), and empty lines before
-- it are none of its lines (2.2).
use Rattle.std.specs.Prelude.{ℕ, ◌≡◌, ◌≤◌, ◌==◌, ◌||◌, ◌*◌, ◌+◌, ◌-◌, min, nat_lt, Bool, true, false, List, [], ◌∷◌, Ok, length, if◌then◌else◌}
use Rattle.httparse.specs.Grammar.{RequestHead}
use Rattle.press_http.specs.Bodies.{length_of}
use Rattle.press_http.specs.Heads.{ReadsHead}
use Rattle.press_net.specs.declared.request_buffer.Line.{Line}
use Rattle.press_net.specs.declared.request_buffer.Line.TheVariants.{Before, Inside, Ended, Empty}

-- after one byte more: LF ends a line, and where nothing but CR came since the last LF the line is
-- empty (so are several CR: whether the head is a good one is for who reads it then)
abbrev pub line_after : Line → ℕ → Line
line_after Before byte = if (byte == 13) || (byte == 10) then Before else Inside
line_after Inside byte = if byte == 10 then Ended else Inside
line_after Ended byte = if byte == 10 then Empty else if byte == 13 then Ended else Inside
line_after Empty byte = Empty

-- after several
abbrev pub lines_after : Line → List ℕ → Line
lines_after line [] = line
lines_after line (byte ∷ rest) = lines_after (line_after line byte) rest

-- the head is whole: an empty line came
abbrev pub is_whole : Line → Bool
is_whole Before = false
is_whole Inside = false
is_whole Ended = false
is_whole Empty = true

-- how many bytes there have to be for another look at a head that isn't whole: twice those that
-- came, 8,192 at most
abbrev pub due_again : ℕ → ℕ
due_again count = if nat_lt count 8192 then min 8192 (count * 2) else count

-- where a head gives the length of its body (6.2), so many bytes are no more than its body still
-- lacks
abbrev pub IsWanted : List ℕ → ℕ → Type 0
IsWanted bytes count = (h : RequestHead) (rest : List ℕ) (n : ℕ) → ReadsHead bytes h rest → length_of h ≡ Ok n → count ≤ n - length rest

-- another look is due as soon as the body of such a head is there
abbrev pub IsDueWithBody : List ℕ → ℕ → Type 0
IsDueWithBody bytes due =
    (h : RequestHead) (rest : List ℕ) (n : ℕ) → ReadsHead bytes h rest → length_of h ≡ Ok n → due ≤ length bytes + (n - length rest)
