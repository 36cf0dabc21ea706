use Rattle.std.proofs.Common.{◌^◌, refl, [], arith}
use Rattle.press_run.specs.Outcome.{state_of}
use Rattle.press_run.specs.Run.{apply_hook, at_depth, do_fires, most_open}
use Rattle.press_run.specs.Standing.{machine_view}
use Rattle.press_run.specs.Frames.{run_to_answer}
use Rattle.press_run.specs.declared.step.Kind.TheVariants.{Filter}
use Rattle.press_run.proofs.Begins.{answer_again, begins_as, fires_answer, fires_begin}
use Rattle.press_run.proofs.machine.Machine.begin_job.Goals as goal

pub returns-in_ok-new-in-Fires-clause-begins : goal.returns-in_ok-new-in-Fires-clause-begins
returns-in_ok-new-in-Fires-clause-begins g c = λ scripts.
    let m = at_depth g.L.SiteLink.changes most_open scripts in
    let w = machine_view g.L.SiteLink.view g.L.SiteLink.fixed c.args.self.now in
    rw (c.in_ok-new-in-Fires.ensures, c.new-fires.ensures.begins, c.new.ensures, c.in-Fires.is)
    (fires_begin g.L.SiteLink.changes scripts most_open c.in-Fires.fires [] (do_fires m c.in-Fires.fires (state_of w)) w (fires_answer m c.in-Fires.fires (state_of w)) c.new-fires.ensures.few)

pub returns-in-Apply-clause-begins : goal.returns-in-Apply-clause-begins
returns-in-Apply-clause-begins g c = λ scripts.
    let m = at_depth g.L.SiteLink.changes most_open scripts in
    let w = machine_view g.L.SiteLink.view g.L.SiteLink.fixed c.args.self.now in
    rw c.in-Apply.is (begins_as g.L.SiteLink.changes scripts (apply_hook m c.in-Apply.hook c.in-Apply.args (state_of w)) (run_to_answer m Filter c.in-Apply.hook c.in-Apply.args (state_of w)) 3 (2 ^ 66) w w (machine_view g.L.SiteLink.view g.L.SiteLink.fixed c.begin-begun.new.self) c.begin-begun.result
    (answer_again (apply_hook m c.in-Apply.hook c.in-Apply.args (state_of w))) refl (omega arith) (c.begin-begun.ensures.begins scripts))
