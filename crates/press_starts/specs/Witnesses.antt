-- What a member knows of the starts of all (own): those of its own file, and what it heard of the others.
use Rattle.std.specs.Prelude.{◌≡◌, ℕ, ◌+◌, ◌-◌, min, true, List, slice_index_or, slice_set, Option, None, Some, IfSome, is_some, option_map, if◌then◌else◌}
use Rattle.std.specs.List.{All}
use Rattle.press_starts.specs.Files.{has_made, running}
use Rattle.press_starts.specs.Peers.{hearing, peer_after, stranger}
use Rattle.press_starts.specs.declared.mark.Mark.{Mark}
use Rattle.press_starts.specs.declared.peer.Peer.{Peer}
use Rattle.press_starts.specs.declared.recall.Recall.{Recall}
use Rattle.press_starts.specs.declared.sighting.Sighting.{Sighting}
use Rattle.press_starts.specs.declared.hearing.Hearing.{Hearing}
use Rattle.press_starts.specs.declared.hearing.Hearing.TheVariants.{Heard, Stale, Unanswered, Forgotten}

pub record WitnessView : Type 0 where
  -- its own starts, the one that runs first
  pub file : List Mark
  -- the number of its last recall
  pub number : ℕ
  -- what it knows of the others, by their numbers less one
  pub peers : List Peer
  -- who told it what its file lacks
  pub reminder : Option Sighting

-- what is answered to a member the file has
abbrev pub IsAnswerMade : List Mark → Peer → Type 0
IsAnswerMade file peer = IfSome peer.answer (λ mark. has_made file mark ≡ true)

-- it answers only what its file has
abbrev pub IsSound : WitnessView → Type 0
IsSound witness = All (λ peer. IsAnswerMade witness.file peer) witness.peers

abbrev pub peer_of : WitnessView → ℕ → Peer
peer_of witness member = slice_index_or witness.peers (member - 1) stranger

abbrev pub with_peer : ℕ → Peer → WitnessView → WitnessView
with_peer member peer witness = record witness { peers = slice_set witness.peers (member - 1) peer }

-- the last mark of a member is known from the file
abbrev pub with_sighting : Sighting → WitnessView → WitnessView
with_sighting sighting witness = with_peer sighting.member (record (peer_of witness sighting.member) { known = Some sighting.mark; number = 0 }) witness

-- one more, or the most that 64 bits hold
abbrev pub next_number : ℕ → ℕ
next_number number = min (number + 1) 18446744073709551615

-- what goes to a member with a batch
abbrev pub recall_of : WitnessView → ℕ → Recall
recall_of witness to = record {
  mark = running witness.file;
  number = next_number witness.number;
  heard = (peer_of witness to).known;
  answered = (peer_of witness to).answer;
}

-- once a member has forgotten, it stays so
abbrev pub hearing_of : WitnessView → ℕ → Recall → Hearing
hearing_of witness from recall = if is_some witness.reminder then Forgotten else hearing witness.file (peer_of witness from) recall

-- who told what the file lacks
abbrev pub reminder_by : Hearing → ℕ → Recall → Option Sighting
reminder_by Heard from recall = None
reminder_by Stale from recall = None
reminder_by Unanswered from recall = None
reminder_by Forgotten from recall = option_map (λ mark. record { member = from; mark = mark }) recall.heard

abbrev pub heard_as : Hearing → ℕ → Recall → WitnessView → WitnessView
heard_as heard from recall witness = record (with_peer from (peer_after heard recall (peer_of witness from)) witness) { reminder = reminder_by heard from recall }

abbrev pub after_recall : ℕ → Recall → WitnessView → WitnessView
after_recall from recall witness = if is_some witness.reminder then witness else heard_as (hearing_of witness from recall) from recall witness
