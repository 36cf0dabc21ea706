-- What is answered is what the file has.
use Rattle.std.proofs.Common.{◌≡◌, ℕ, ◌-◌, ◌<◌, ◌≤◌, ◌⊎◌, inl, inr, Bool, true, false, List, length, get_or, Option, None, Some, refl}
use Rattle.std.specs.Prelude.{IfSome, is_some, if◌then◌else◌}
use Rattle.std.proofs.lemmas.Bool.{cases_lt}
use Rattle.std.proofs.lemmas.List.{get_or_past}
use Rattle.std.proofs.lemmas.List.Elements.{All-get_or}
use Rattle.press_starts.proofs.Marks.{made_where_told}
use Rattle.press_starts.specs.Files.{has_made, lacks}
use Rattle.press_starts.specs.Peers.{hearing, known_hearing, or_mark, peer_after, stranger}
use Rattle.press_starts.specs.Witnesses.{IsAnswerMade, IsSound, WitnessView, hearing_of}
use Rattle.press_starts.specs.declared.mark.Mark.{Mark}
use Rattle.press_starts.specs.declared.peer.Peer.{Peer}
use Rattle.press_starts.specs.declared.recall.Recall.{Recall}
use Rattle.press_starts.specs.declared.hearing.Hearing.{Hearing}
use Rattle.press_starts.specs.declared.hearing.Hearing.TheVariants.{Heard, Stale, Unanswered, Forgotten}

pub made_or : (file : List Mark) (heard before : Option Mark) → lacks file heard ≡ false → IfSome before (λ mark. has_made file mark ≡ true)
    → IfSome (or_mark heard before) (λ mark. has_made file mark ≡ true)
made_or file None before told made = made
made_or file (Some mark) before told made = made_where_told file mark told

pub made_after : (hearing : Hearing) (file : List Mark) (recall : Recall) (peer : Peer) → lacks file recall.heard ≡ false → IsAnswerMade file peer → IsAnswerMade file (peer_after hearing recall peer)
made_after Heard file recall peer told made = made_or file recall.heard peer.answer told made
made_after Stale file recall peer told made = made
made_after Unanswered file recall peer told made = made_or file recall.heard peer.answer told made
made_after Forgotten file recall peer told made = made

by_test : (is_lacking : Bool) (file : List Mark) (recall : Recall) (peer : Peer) → lacks file recall.heard ≡ is_lacking → IsAnswerMade file peer
    → IsAnswerMade file (peer_after (if is_lacking then Forgotten else known_hearing peer recall) recall peer)
by_test true file recall peer is made = made
by_test false file recall peer is made = made_after (known_hearing peer recall) file recall peer is made

pub made_after_hearing : (file : List Mark) (recall : Recall) (peer : Peer) → IsAnswerMade file peer → IsAnswerMade file (peer_after (hearing file peer recall) recall peer)
made_after_hearing file recall peer made = by_test (lacks file recall.heard) file recall peer refl made

-- of a member out of range nothing was heard
known_or_stranger : (witness : WitnessView) (place : ℕ) → IsSound witness → (place < length witness.peers) ⊎ (length witness.peers ≤ place) → IsAnswerMade witness.file (get_or witness.peers place stranger)
known_or_stranger witness place sound (inl within) = All-get_or (λ peer. IsAnswerMade witness.file peer) witness.peers place stranger within sound
known_or_stranger witness place sound (inr past) = rw (get_or_past witness.peers place stranger past) tt

pub made_by_peer : (witness : WitnessView) (place : ℕ) → IsSound witness → IsAnswerMade witness.file (get_or witness.peers place stranger)
made_by_peer witness place sound = known_or_stranger witness place sound (cases_lt place (length witness.peers))

by_reminder : (is_told : Bool) (witness : WitnessView) (place : ℕ) (recall : Recall) (outcome : Hearing) → is_told ≡ false → IsSound witness
    → outcome ≡ (if is_told then Forgotten else hearing witness.file (get_or witness.peers place stranger) recall)
    → IsAnswerMade witness.file (peer_after outcome recall (get_or witness.peers place stranger))
by_reminder true witness place recall outcome untold sound is = cc
by_reminder false witness place recall outcome untold sound is =
    rw is (made_after_hearing witness.file recall (get_or witness.peers place stranger) (made_by_peer witness place sound))

-- what is known after a batch
pub made_by_hearing : (witness : WitnessView) (from place : ℕ) (recall : Recall) (outcome : Hearing) → place ≡ from - 1 → is_some witness.reminder ≡ false → IsSound witness → outcome ≡ hearing_of witness from recall
    → IsAnswerMade witness.file (peer_after outcome recall (get_or witness.peers place stranger))
made_by_hearing witness from place recall outcome at untold sound is =
    by_reminder (is_some witness.reminder) witness place recall outcome untold sound (rw at is)
