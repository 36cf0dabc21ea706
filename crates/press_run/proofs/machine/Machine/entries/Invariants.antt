use Rattle.std.proofs.Common.{◌≡◌, ◌+◌}
use Rattle.press_run.specs.Frames.{Goes, IsOfHook, frame_meaning, round, turns_left}
use Rattle.press_run.specs.Outcome.{around, state_of}
use Rattle.press_run.specs.Standing.{machine_view}
use Rattle.press_run.specs.declared.frame.Frame.TheVariants as frame
use Rattle.press_run.proofs.machine.Machine.entries.Given as goal

abbrev pub invariant-loop-callback : goal.invariant-loop-callback
invariant-loop-callback g l =
    let start = machine_view g.L.SiteLink.view g.L.SiteLink.fixed l.fn.self in
    record {
      goes : Goes g.L.SiteLink.changes (g.K.Callbacks.scripts l.kit) (frame_meaning g.L.SiteLink.changes (g.K.Callbacks.scripts l.kit) (frame.Hook l.fn.run) (around start) (state_of start)) (round (frame.Hook l.fn.run) (around start)) (turns_left start.counts.turns + 3) (frame.Hook l.run) (machine_view g.L.SiteLink.view g.L.SiteLink.fixed l.self);
      spent : l.fn.run.left ≡ 0 → l.run.left ≡ 0;
      hook : IsOfHook l.callback;
      fixed : g.L.SiteLink.fixed l.self.site ≡ g.L.SiteLink.fixed l.fn.self.site;
      limits : l.self.met_limit ≡ l.fn.self.met_limit;
    }

abbrev pub decreases-loop-callback : goal.decreases-loop-callback
decreases-loop-callback g l = turns_left l.self.counts.turns
