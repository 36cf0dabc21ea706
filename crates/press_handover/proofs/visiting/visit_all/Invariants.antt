use Rattle.std.proofs.Common.{◌≡◌, ◌+◌, ◌-◌, ◌*◌}
use Rattle.press_acceptor.specs.Seen.{Looks}
use Rattle.press_handover.specs.Voted.{Visits, blocks_values, voted_values}
use Rattle.press_handover.proofs.visiting.visit_all.Given as goal

abbrev pub invariant-loop-block : goal.invariant-loop-block
invariant-loop-block g l =
    let seen = g.S.PromiseStore.seen in
    let visits = g.V.Visitor.visits in
    record {
      honest : (seen l.store).is_honest → (seen l.fn.store).is_honest;
      looks : (seen l.store).is_honest → Looks (seen l.fn.store) (seen l.store);
      kept : (seen l.store).is_honest → (seen l.store).kept ≡ (seen l.fn.store).kept;
      visited : (seen l.store).is_honest → (after : _) → Visits visits l.visitor (blocks_values (62500 - l.block) (16 * l.block + 1) (seen l.fn.store).kept) after → Visits visits l.fn.visitor (voted_values (seen l.fn.store).kept) after;
    }
