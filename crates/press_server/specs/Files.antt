-- How many files a server may have open, by the text of a process's limits (proc(5),
-- /proc/pid/limits), and how many connections (own).
use Rattle.std.specs.Prelude.{ℕ, ◌-◌, ◌+◌, ◌*◌, ◌==◌, ◌&&◌, min, nat_le, Bool, true, List, [], ◌∷◌, length, take, drop, bytes_eq, codes, Option, None, Some, is_none, option_and_then, unwrap_or, if◌then◌else◌}
use Rattle.std.specs.Char.{is_ascii_digit}

-- what follows a name
abbrev pub behind : List ℕ → List ℕ → Option (List ℕ)
behind name text = if bytes_eq (take (length name) text) name then Some (drop (length name) text) else None

abbrev pub or_else : Option (List ℕ) → Option (List ℕ) → Option (List ℕ)
or_else (Some found) other = Some found
or_else None other = other

-- what follows a name at the beginning of a line, in the first line that begins so; a line begins
-- where it is said to, and behind each LF
abbrev pub behind_name : List ℕ → Bool → List ℕ → Option (List ℕ)
behind_name name begins [] = None
behind_name name begins (byte ∷ text) =
    or_else (if begins then behind name (byte ∷ text) else None) (behind_name name (byte == 10) text)

-- the number with one digit more, or the most that 64 bits hold
abbrev pub with_digit : Option ℕ → ℕ → ℕ
with_digit found byte = min (min (unwrap_or found 0 * 10) 18446744073709551615 + (byte - 48)) 18446744073709551615

-- the number that begins there, behind blanks
abbrev pub number_from : Option ℕ → List ℕ → Option ℕ
number_from found [] = found
number_from found (byte ∷ text) =
    if is_ascii_digit byte then number_from (Some (with_digit found byte)) text
    else if is_none found && (byte == 32) then number_from None text else found

-- the first number of the line that has the limit, which is the one that holds
abbrev pub open_files : List ℕ → Option ℕ
open_files limits = option_and_then (number_from None) (behind_name (codes "Max open files") true limits)

-- 226 files are the server's own, and 1,024 at most are for connections; fewer than 64 of those are
-- too few
abbrev pub connections_by : Option ℕ → Option ℕ
connections_by None = Some 1024
connections_by (Some files) = if nat_le 64 (files - 226) then Some (min 1024 (files - 226)) else None
