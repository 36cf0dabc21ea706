use Rattle.std.proofs.Common.{◌≡◌, ◌+◌, ◌≤◌, drop}
use Rattle.press_member.specs.Ready.{agreeing_from}
use Rattle.press_member.proofs.peers.Peers.is_agreed.Given as goal

-- those before the place are counted, and those behind it are still to be
abbrev pub invariant-loop-place : goal.invariant-loop-place
invariant-loop-place l = record {
  few : l.agreeing ≤ l.place;
  count : l.agreeing + agreeing_from l.own l.place (drop l.place l.differs-items) ≡ agreeing_from l.own 0 l.differs-items;
}
