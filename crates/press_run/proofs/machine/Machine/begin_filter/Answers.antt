use Rattle.std.proofs.Common.{refl, ◌∙◌, ap₂, List, ℕ, arith}
use Rattle.press_run.specs.Outcome.{state_of}
use Rattle.press_run.specs.Run.{apply_hook, at_depth, filter_answer}
use Rattle.press_run.specs.Standing.{machine_view}
use Rattle.press_run.specs.Frames.{run_to_answer}
use Rattle.press_run.specs.declared.step.Kind.TheVariants.{Filter}
use Rattle.press_run.proofs.Begins.{answer_again, begins_as}
use Rattle.press_run.proofs.machine.Machine.begin_filter.Goals as goal

pub returns-clause-begins : goal.returns-clause-begins
returns-clause-begins g c = λ scripts.
    let m = at_depth g.L.SiteLink.changes c.args.room scripts in
    let w = machine_view g.L.SiteLink.view g.L.SiteLink.fixed c.args.self.now in
    let s = state_of w in
    begins_as g.L.SiteLink.changes scripts (filter_answer m c.args.tag c.args.answer s) (run_to_answer m Filter c.in_ok-hook.hook c.in_ok-args.args s) 3 3 w w (machine_view g.L.SiteLink.view g.L.SiteLink.fixed c.begin-begun.new.self) c.begin-begun.result
    (answer_again (apply_hook m c.in_ok-hook.hook c.in_ok-args.args s) ∙ ap₂ (λ (h : List ℕ) (ts : List (List ℕ)). apply_hook m h ts s) c.in_ok-hook.ensures (c.in_ok-args.ensures.value ∙ c.in_ok-vec.ensures.items)) refl (omega arith) (c.begin-begun.ensures.begins scripts)
