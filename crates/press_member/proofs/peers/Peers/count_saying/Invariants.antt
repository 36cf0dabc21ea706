use Rattle.std.proofs.Common.{◌≡◌, ◌+◌, ◌≤◌, drop}
use Rattle.press_member.specs.Ready.{says, others_from}
use Rattle.press_member.proofs.peers.Peers.count_saying.Given as goal

-- those before the place are counted, and those behind it are still to be
abbrev pub invariant-loop-place : goal.invariant-loop-place
invariant-loop-place l = record {
  few : l.others ≤ l.place;
  count : l.others + others_from (says l.now l.least) l.own l.place (drop l.place l.peer-items) ≡ others_from (says l.now l.least) l.own 0 l.peer-items;
}
