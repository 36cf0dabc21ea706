use Rattle.std.proofs.Common.{◌<◌, ◌-◌, ◌∙◌, sym, arith}
use Rattle.press_callbacks.specs.Kits.{script_at}
use Rattle.press_callbacks.specs.declared.script.Turn.TheVariants as turns
use Rattle.press_run.specs.Outcome.{state_of}
use Rattle.press_run.specs.Run.{at_depth, or_empty}
use Rattle.press_run.specs.Standing.{machine_view}
use Rattle.press_run.proofs.Begins.{turn_steps}
use Rattle.press_run.proofs.Steps.{late_turns, long_turns, no_turns}
use Rattle.press_run.proofs.machine.Machine.turn.Goals as goal

pub returns-then-callback-eq0-clause-steps : goal.returns-then-callback-eq0-clause-steps
returns-then-callback-eq0-clause-steps g c =
    let k = g.K.Callbacks.scripts c.args.kit.now in
    rw c.if-callback-eq0.true (no_turns g.L.SiteLink.changes (at_depth g.L.SiteLink.changes c.args.callback.now.room k) (or_empty (script_at c.args.callback.now.place k)) c.args.callback.now.call (state_of (machine_view g.L.SiteLink.view g.L.SiteLink.fixed c.args.self.now)))

pub returns-then-not-has_turns-clause-steps : goal.returns-then-not-has_turns-clause-steps
returns-then-not-has_turns-clause-steps g c =
    let k = g.K.Callbacks.scripts c.args.kit.now in
    late_turns g.L.SiteLink.changes (at_depth g.L.SiteLink.changes c.args.callback.now.room k) (or_empty (script_at c.args.callback.now.place k)) c.args.callback.now.left c.args.callback.now.call (state_of (machine_view g.L.SiteLink.view g.L.SiteLink.fixed c.args.self.now))
    (sym c.has_turns.ensures ∙ c.if-not-has_turns.true)

pub returns-then-not-fits-clause-steps : goal.returns-then-not-fits-clause-steps
returns-then-not-fits-clause-steps g c =
    let k = g.K.Callbacks.scripts c.args.kit.now in
    long_turns g.L.SiteLink.changes (at_depth g.L.SiteLink.changes c.args.callback.now.room k) (or_empty (script_at c.args.callback.now.place k)) c.args.callback.now.left c.args.callback.now.call (state_of (machine_view g.L.SiteLink.view g.L.SiteLink.fixed c.args.self.now))
    (sym c.fits.ensures ∙ c.if-not-fits.true)

pub returns-in-Ok-Go-clause-steps : goal.returns-in-Ok-Go-clause-steps
returns-in-Ok-Go-clause-steps g c =
    let k = g.K.Callbacks.scripts c.args.kit.now in
    let more : 0 < c.args.callback.now.left = omega arith in
    turn_steps g.L.SiteLink.changes k c.args.callback.now c.set_value.new.callback (turns.Go c.in-Ok-Go.value) (machine_view g.L.SiteLink.view g.L.SiteLink.fixed c.args.self.now) (machine_view g.L.SiteLink.view g.L.SiteLink.fixed c.set_value.new.self) c.set_value.result
    more (sym c.in-Ok-Go.field-0-is ∙ c.in-Ok-Go.ensures) (c.set_value.ensures.steps k)

pub returns-in-Ok-Return-clause-steps : goal.returns-in-Ok-Return-clause-steps
returns-in-Ok-Return-clause-steps g c =
    let k = g.K.Callbacks.scripts c.args.kit.now in
    let more : 0 < c.args.callback.now.left = omega arith in
    turn_steps g.L.SiteLink.changes k c.args.callback.now (record (c.args.callback.now) { left = c.args.callback.now.left - 1 }) (turns.Return c.in-Ok-Return.text) (machine_view g.L.SiteLink.view g.L.SiteLink.fixed c.args.self.now) (machine_view g.L.SiteLink.view g.L.SiteLink.fixed c.return_text.new.self) c.return_text.result
    more (sym c.in-Ok-Return.field-0-is ∙ c.in-Ok-Return.ensures) (c.return_text.ensures.steps k)

pub returns-in-Ok-clause-steps : goal.returns-in-Ok-clause-steps
returns-in-Ok-clause-steps g c =
    let k = g.K.Callbacks.scripts c.args.kit.now in
    let more : 0 < c.args.callback.now.left = omega arith in
    turn_steps g.L.SiteLink.changes k c.args.callback.now c.count_turn.new.callback c.in-Ok.turn (machine_view g.L.SiteLink.view g.L.SiteLink.fixed c.args.self.now) (machine_view g.L.SiteLink.view g.L.SiteLink.fixed c.count_turn.new.self) c.count_turn.result
    more c.in-Ok.ensures (c.count_turn.ensures.steps k)
