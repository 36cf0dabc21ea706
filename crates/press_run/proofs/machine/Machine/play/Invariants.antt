use Rattle.std.proofs.Common.{◌≡◌, ◌+◌}
use Rattle.press_run.specs.Frames.{all_wait, frame_meaning, round, turns_left, weight}
use Rattle.press_run.specs.Outcome.{around, state_of}
use Rattle.press_run.specs.Standing.{machine_view}
use Rattle.press_run.proofs.Resumed.{Playing}
use Rattle.press_run.proofs.machine.Machine.play.Given as goal

abbrev pub invariant-loop-waiting : goal.invariant-loop-waiting
invariant-loop-waiting g l =
    let start = machine_view g.L.SiteLink.view g.L.SiteLink.fixed l.fn.self in
    record {
      playing : Playing g.L.SiteLink.changes (g.K.Callbacks.scripts l.kit) (frame_meaning g.L.SiteLink.changes (g.K.Callbacks.scripts l.kit) l.fn.top (around start) (state_of start)) (round l.fn.top (around start)) l.waiting l.top (machine_view g.L.SiteLink.view g.L.SiteLink.fixed l.self);
      limits : l.self.met_limit ≡ l.fn.self.met_limit;
    }

abbrev pub decreases-loop-waiting : goal.decreases-loop-waiting
decreases-loop-waiting g l = turns_left l.self.counts.turns + (weight l.top + all_wait l.waiting)
