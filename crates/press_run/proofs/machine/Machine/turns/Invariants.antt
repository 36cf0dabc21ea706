use Rattle.std.proofs.Common.{◌≡◌, ◌+◌}
use Rattle.press_run.specs.Frames.{Goes, KeepsCall, frame_meaning, turns_left}
use Rattle.press_run.specs.Outcome.{around, state_of}
use Rattle.press_run.specs.Standing.{machine_view}
use Rattle.press_run.specs.declared.frame.Frame.TheVariants as frame
use Rattle.press_run.proofs.machine.Machine.turns.Given as goal

abbrev pub invariant-loop-text : goal.invariant-loop-text
invariant-loop-text g l =
    let start = machine_view g.L.SiteLink.view g.L.SiteLink.fixed l.fn.self in
    record {
      goes : Goes g.L.SiteLink.changes (g.K.Callbacks.scripts l.kit) (frame_meaning g.L.SiteLink.changes (g.K.Callbacks.scripts l.kit) (frame.Callback l.fn.callback) (around start) (state_of start)) (around start) (turns_left start.counts.turns + 1) (frame.Callback l.callback) (machine_view g.L.SiteLink.view g.L.SiteLink.fixed l.self);
      called : KeepsCall l.fn.callback l.callback;
      limits : l.self.met_limit ≡ l.fn.self.met_limit;
    }

abbrev pub decreases-loop-text : goal.decreases-loop-text
decreases-loop-text g l = turns_left l.self.counts.turns
