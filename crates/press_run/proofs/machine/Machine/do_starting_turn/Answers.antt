use Rattle.std.proofs.Common.{◌^◌, ◌∙◌, refl, ap, Some, arith}
use Rattle.press_site.specs.SiteView.{SiteView}
use Rattle.press_site.specs.declared.effect.Effect.TheVariants as effect
use Rattle.press_run.specs.Links.{publishes, schedules}
use Rattle.press_run.specs.Outcome.{state_of}
use Rattle.press_run.specs.Run.{at_depth, change_site, do_hook, scan}
use Rattle.press_run.specs.Standing.{machine_view}
use Rattle.press_run.specs.Frames.{run_to_answer}
use Rattle.press_run.specs.declared.step.Kind.TheVariants.{Filter}
use Rattle.press_run.proofs.Begins.{apply_comes, asks, do_comes, option_comes, publish_comes, scan_comes, schedule_comes}
use Rattle.press_run.proofs.machine.Machine.do_starting_turn.Goals as goal

pub returns-in_ok-begun-in-Apply-clause-steps : goal.returns-in_ok-begun-in-Apply-clause-steps
returns-in_ok-begun-in-Apply-clause-steps g c = λ scripts.
    let m = at_depth g.L.SiteLink.changes c.args.callback.now.room scripts in
    let old = machine_view g.L.SiteLink.view g.L.SiteLink.fixed c.args.self.now in
    rw c.into_step.ensures (asks g.L.SiteLink.changes scripts c.args.callback.now old c.args.turn (run_to_answer m Filter c.in-Apply.hook c.in-Apply.texts (state_of old)) 3 (machine_view g.L.SiteLink.view g.L.SiteLink.fixed c.begin-begun.new.self) c.in_ok-begun-in-Apply.field-0
    (apply_comes g.L.SiteLink.changes scripts c.args.callback.now old c.args.turn c.in-Apply.hook c.in-Apply.texts c.in-Apply.is) (omega arith) c.requires.few (c.in_ok-begun-in-Apply.ensures.begins scripts))

pub returns-in_ok-begun-in-Do-clause-steps : goal.returns-in_ok-begun-in-Do-clause-steps
returns-in_ok-begun-in-Do-clause-steps g c = λ scripts.
    let m = at_depth g.L.SiteLink.changes c.args.callback.now.room scripts in
    let old = machine_view g.L.SiteLink.view g.L.SiteLink.fixed c.args.self.now in
    rw c.into_step-in-Do.ensures (asks g.L.SiteLink.changes scripts c.args.callback.now old c.args.turn (do_hook m c.in-Do.hook c.in-Do.texts (state_of old)) 3 (machine_view g.L.SiteLink.view g.L.SiteLink.fixed c.begin_action-begun.new.self) c.in_ok-begun-in-Do.field-0
    (do_comes g.L.SiteLink.changes scripts c.args.callback.now old c.args.turn c.in-Do.hook c.in-Do.texts c.in-Do.is) (omega arith) c.requires.few (c.in_ok-begun-in-Do.ensures.begins scripts))

pub returns-in_ok-begin_scan-in-Shortcodes-clause-steps : goal.returns-in_ok-begin_scan-in-Shortcodes-clause-steps
returns-in_ok-begin_scan-in-Shortcodes-clause-steps g c = λ scripts.
    let m = at_depth g.L.SiteLink.changes c.args.callback.now.room scripts in
    let old = machine_view g.L.SiteLink.view g.L.SiteLink.fixed c.args.self.now in
    rw c.into_step-in-Shortcodes.ensures (asks g.L.SiteLink.changes scripts c.args.callback.now old c.args.turn (scan m c.in-Shortcodes.text (state_of old)) (2 ^ 24) (machine_view g.L.SiteLink.view g.L.SiteLink.fixed c.begin_scan.new.self) c.in_ok-begin_scan-in-Shortcodes.field-0
    (scan_comes g.L.SiteLink.changes scripts c.args.callback.now old c.args.turn c.in-Shortcodes.text c.in-Shortcodes.is) (omega arith) c.requires.few (c.in_ok-begin_scan-in-Shortcodes.ensures.begins scripts))

pub returns-in_ok-begin_change-in-SetOption-clause-steps : goal.returns-in_ok-begin_change-in-SetOption-clause-steps
returns-in_ok-begin_change-in-SetOption-clause-steps g c = λ scripts.
    let m = at_depth g.L.SiteLink.changes c.args.callback.now.room scripts in
    let old = machine_view g.L.SiteLink.view g.L.SiteLink.fixed c.args.self.now in
    rw c.into_step-in-SetOption.ensures (asks g.L.SiteLink.changes scripts c.args.callback.now old c.args.turn (change_site g.L.SiteLink.changes m (state_of old) (Some (effect.SetOption c.in-SetOption.name c.in-SetOption.value))) (2 ^ 66) (machine_view g.L.SiteLink.view g.L.SiteLink.fixed c.begin_change.new.self) c.in_ok-begin_change-in-SetOption.field-0
    (option_comes g.L.SiteLink.changes scripts c.args.callback.now old c.args.turn c.in-SetOption.name c.in-SetOption.value _ c.in-SetOption.is refl) (omega arith) c.requires.few (c.in_ok-begin_change-in-SetOption.ensures.begins scripts))

pub returns-in_ok-begin_change-in-Schedule-clause-steps : goal.returns-in_ok-begin_change-in-Schedule-clause-steps
returns-in_ok-begin_change-in-Schedule-clause-steps g c = λ scripts.
    let m = at_depth g.L.SiteLink.changes c.args.callback.now.room scripts in
    let old = machine_view g.L.SiteLink.view g.L.SiteLink.fixed c.args.self.now in
    let e = c.effect-effect.ensures ∙ ap (schedules c.in-Schedule.after c.in-Schedule.every c.in-Schedule.hook c.in-Schedule.arg) (c.now.ensures ∙ ap (λ (s : SiteView). s.moment) c.site.ensures) in
    rw c.into_step-in-Schedule.ensures (asks g.L.SiteLink.changes scripts c.args.callback.now old c.args.turn (change_site g.L.SiteLink.changes m (state_of old) c.effect-effect.result) (2 ^ 66) (machine_view g.L.SiteLink.view g.L.SiteLink.fixed c.begin_change-in-Schedule.new.self) c.in_ok-begin_change-in-Schedule.field-0
    (schedule_comes g.L.SiteLink.changes scripts c.args.callback.now old c.args.turn c.in-Schedule.after c.in-Schedule.every c.in-Schedule.hook c.in-Schedule.arg c.effect-effect.result c.in-Schedule.is e) (omega arith) c.requires.few (c.in_ok-begin_change-in-Schedule.ensures.begins scripts))

pub returns-in_ok-begin_change-in-Publish-clause-steps : goal.returns-in_ok-begin_change-in-Publish-clause-steps
returns-in_ok-begin_change-in-Publish-clause-steps g c = λ scripts.
    let m = at_depth g.L.SiteLink.changes c.args.callback.now.room scripts in
    let old = machine_view g.L.SiteLink.view g.L.SiteLink.fixed c.args.self.now in
    let e = c.publishes-effect.ensures ∙ ap (publishes c.in-Publish.id) (c.now-in-Publish.ensures ∙ ap (λ (s : SiteView). s.moment) c.site-in-Publish.ensures) in
    rw c.into_step-in-Publish.ensures (asks g.L.SiteLink.changes scripts c.args.callback.now old c.args.turn (change_site g.L.SiteLink.changes m (state_of old) c.publishes-effect.result) (2 ^ 66) (machine_view g.L.SiteLink.view g.L.SiteLink.fixed c.begin_change-in-Publish.new.self) c.in_ok-begin_change-in-Publish.field-0
    (publish_comes g.L.SiteLink.changes scripts c.args.callback.now old c.args.turn c.in-Publish.id c.publishes-effect.result c.in-Publish.is e) (omega arith) c.requires.few (c.in_ok-begin_change-in-Publish.ensures.begins scripts))
