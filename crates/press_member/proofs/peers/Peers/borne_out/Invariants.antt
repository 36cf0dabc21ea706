use Rattle.std.proofs.Common.{◌≡◌, drop}
use Rattle.press_member.specs.Ready.{borne_out, most_borne}
use Rattle.press_member.proofs.peers.Peers.borne_out.Given as goal

-- the most of those before, and what is behind
abbrev pub invariant-loop-peer : goal.invariant-loop-peer
invariant-loop-peer l = record { most : most_borne l.self l.own_count l.now l.most (drop l.peer-index l.self.all.items) ≡ borne_out l.self l.own_count l.now }
