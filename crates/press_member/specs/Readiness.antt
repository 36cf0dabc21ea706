-- Whether a member answers for the site as well as any, and how far it says it is (own).
use Rattle.std.specs.Prelude.{◌+◌, ◌-◌, ◌&&◌, not, Bool, nat_le, max, length}
use Rattle.press_batch.specs.declared.report.Report.{Report}
use Rattle.press_chain.specs.Chains.{count_of, tip_of}
use Rattle.press_node.specs.States.{applied_count, is_down}
use Rattle.press_node.specs.Nodes.{state_of}
use Rattle.press_member.specs.Ready.{borne_out, is_agreed, is_heard, is_majority, others}
use Rattle.press_member.specs.declared.member.Member.{Member}

-- it is open and up, those that have applied the same are a majority, as far as it knows, it heard
-- a majority lately, and it is at most 64 slots behind what a majority
-- says lately is chosen
abbrev pub is_ready : {S : _} {t : _} {F : _} {g : _} → Member S t F g → Bool
is_ready member =
    member.player.pace.is_open && (not (is_down (state_of member.player.node))
    && (is_agreed (length member.peers.all.items) (member.player.id - 1) member.peers.differing.items
    && (is_majority (length member.peers.all.items) (others (is_heard member.time) member.peers + 1)
    && nat_le (borne_out member.peers (max member.player.pace.newest member.player.pace.applied) member.time) (applied_count (state_of member.player.node) + 64))))

-- how far it is: of how much of what it has applied it has the digest, with that and the one of the
-- last multiple of 64, and what it knows to be chosen
abbrev pub report_of : {S : _} {t : _} {F : _} {g : _} → Member S t F g → Report
report_of member = record {
  applied = count_of member.chain;
  chosen = max member.player.pace.newest member.player.pace.applied;
  digests = member.peers.digests;
  digest = (tip_of member.chain).digest;
  block_digest = (tip_of member.chain).block_digest;
}
