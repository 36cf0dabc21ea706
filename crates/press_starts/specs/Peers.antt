-- What a member makes of another's recall (own): it has forgotten, where its file lacks what it is told; of the start that it heard last it drops what isn't newer; another start it hears once that has answered what was
-- heard last.
use Rattle.std.specs.Prelude.{ℕ, ◌==◌, ◌&&◌, ◌||◌, nat_le, nat_lt, Bool, true, false, List, Option, None, Some, if◌then◌else◌}
use Rattle.press_starts.specs.Files.{lacks}
use Rattle.press_starts.specs.declared.mark.Mark.{Mark}
use Rattle.press_starts.specs.declared.peer.Peer.{Peer}
use Rattle.press_starts.specs.declared.recall.Recall.{Recall}
use Rattle.press_starts.specs.declared.hearing.Hearing.{Hearing}
use Rattle.press_starts.specs.declared.hearing.Hearing.TheVariants.{Heard, Stale, Unanswered, Forgotten}

-- nothing was heard of it, and it told nothing
abbrev pub stranger : Peer
stranger = record { known = None; number = 0; answer = None }

abbrev pub is_same_mark : Mark → Mark → Bool
is_same_mark a b = a.start == b.start && a.saves == b.saves

abbrev pub is_mark : Mark → Option Mark → Bool
is_mark mark None = false
is_mark mark (Some other) = is_same_mark mark other

-- it is of the start that was heard last, and not newer than what was heard of that
abbrev pub is_stale : Option Mark → ℕ → Recall → Bool
is_stale None number recall = false
is_stale (Some known) number recall = known.start == recall.mark.start && (nat_le recall.number number || nat_lt recall.mark.saves known.saves)

-- it is of the start that was heard last, or has answered what was heard last, or nothing was heard
abbrev pub has_answered : Option Mark → Recall → Bool
has_answered None recall = true
has_answered (Some known) recall = known.start == recall.mark.start || is_mark known recall.answered

-- where the file has what is told
abbrev pub known_hearing : Peer → Recall → Hearing
known_hearing peer recall =
    if is_stale peer.known peer.number recall then Stale
    else (if has_answered peer.known recall then Heard else Unanswered)

abbrev pub hearing : List Mark → Peer → Recall → Hearing
hearing file peer recall = if lacks file recall.heard then Forgotten else known_hearing peer recall

-- the later of two marks, where there is one
abbrev pub or_mark : Option Mark → Option Mark → Option Mark
or_mark None before = before
or_mark (Some mark) before = Some mark

-- what is known of a member after its recall
abbrev pub peer_after : Hearing → Recall → Peer → Peer
peer_after Heard recall peer = record { known = Some recall.mark; number = recall.number; answer = or_mark recall.heard peer.answer }
peer_after Stale recall peer = peer
peer_after Unanswered recall peer = record peer { answer = or_mark recall.heard peer.answer }
peer_after Forgotten recall peer = peer
