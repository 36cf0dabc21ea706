-- What a file has of the starts of its member: each with the saves that it made, the one that runs first (own).
use Rattle.std.specs.Prelude.{ℕ, ◌==◌, ◌&&◌, not, nat_le, max, Bool, false, List, [], ◌∷◌, Option, None, Some}
use Rattle.std.specs.List.{list_any}
use Rattle.press_starts.specs.declared.mark.Mark.{Mark}

-- a start made the saves of a mark: they are of it, and no more than it made
abbrev pub has_saves : Mark → Mark → Bool
has_saves mark made = made.start == mark.start && nat_le mark.saves made.saves

-- a file has a mark
abbrev pub has_made : List Mark → Mark → Bool
has_made file mark = list_any (has_saves mark) file

-- a file lacks what was heard of its member
abbrev pub lacks : List Mark → Option Mark → Bool
lacks file None = false
lacks file (Some mark) = not (has_made file mark)

-- no start runs before the first has begun
abbrev pub no_start : Mark
no_start = record { start = 0; saves = 0 }

-- the start that runs
abbrev pub running : List Mark → Mark
running [] = no_start
running (mark ∷ earlier) = mark

-- the start that runs has made so many saves, or more
abbrev pub with_saves : ℕ → List Mark → List Mark
with_saves saves [] = []
with_saves saves (mark ∷ earlier) = record mark { saves = max mark.saves saves } ∷ earlier
