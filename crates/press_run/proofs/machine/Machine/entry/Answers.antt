use Rattle.std.proofs.Common.{◌≡◌, ◌∙◌, ◌<◌, ap, sym, take, None, Some, arith}
use Rattle.std.proofs.lemmas.Result.{err_from_is_err_and}
use Rattle.press_hooks.specs.NextEntry.{entry_next}
use Rattle.press_run.specs.Run.{hook_call}
use Rattle.press_run.specs.Standing.{machine_view}
use Rattle.press_run.proofs.Entries.{entries_out, entry_calls, entry_ends, entry_stops}
use Rattle.press_run.proofs.machine.Machine.entry.Goals as goal

pub returns-then-run-eq0-clause-steps : goal.returns-then-run-eq0-clause-steps
returns-then-run-eq0-clause-steps g c = entries_out g.L.SiteLink.changes (g.K.Callbacks.scripts c.args.kit.now) c.args.run.now (machine_view g.L.SiteLink.view g.L.SiteLink.fixed c.args.self.now) c.if-run-eq0.true

pub returns-in_default-clause-steps : goal.returns-in_default-clause-steps
returns-in_default-clause-steps g c =
    let more : 0 < c.args.run.now.left = omega arith in
    let none : None ≡ entry_next c.args.self.now.tables.hooks.rows c.args.self.now.tables.hooks.open_runs = sym c.in_default.is ∙ c.in_ok-entry.ensures.given in
    entry_ends g.L.SiteLink.changes (g.K.Callbacks.scripts c.args.kit.now) c.args.run.now (machine_view g.L.SiteLink.view g.L.SiteLink.fixed c.args.self.now) c.next.new.self more c.requires.innermost c.in_ok-entry.ensures.advanced none

pub returns-in_err-opened-clause-steps : goal.returns-in_err-opened-clause-steps
returns-in_err-opened-clause-steps g c =
    let p = err_from_is_err_and c.from_residual-in_err-opened.result c.from_residual-in_err-opened.ensures.1 in
    let more : 0 < c.args.run.now.left = omega arith in
    let some : Some c.in-Some.entry ≡ entry_next c.args.self.now.tables.hooks.rows c.args.self.now.tables.hooks.open_runs = sym c.in-Some.is ∙ c.in_ok-entry.ensures.given in
    let asked : c.begin.new.self.call ≡ hook_call (take c.in-Some.entry.accepted c.args.run.now.args) = c.in_ok-begin.ensures.call ∙ ap hook_call c.in_ok-args.ensures in
    rw (p.1, p.2) (entry_stops g.L.SiteLink.changes (g.K.Callbacks.scripts c.args.kit.now) c.args.run.now (machine_view g.L.SiteLink.view g.L.SiteLink.fixed c.args.self.now) c.next.new.self more c.requires.innermost c.in_ok-entry.ensures.advanced
    c.in-Some.entry c.begin.new.self.call some asked c.in_err-opened.field-0.0 c.in_err-opened.ensures.begins)

pub returns-clause-steps : goal.returns-clause-steps
returns-clause-steps g c =
    let more : 0 < c.args.run.now.left = omega arith in
    let some : Some c.in-Some.entry ≡ entry_next c.args.self.now.tables.hooks.rows c.args.self.now.tables.hooks.open_runs = sym c.in-Some.is ∙ c.in_ok-entry.ensures.given in
    let asked : c.begin.new.self.call ≡ hook_call (take c.in-Some.entry.accepted c.args.run.now.args) = c.in_ok-begin.ensures.call ∙ ap hook_call c.in_ok-args.ensures in
    entry_calls g.L.SiteLink.changes (g.K.Callbacks.scripts c.args.kit.now) c.args.run.now (machine_view g.L.SiteLink.view g.L.SiteLink.fixed c.args.self.now) c.next.new.self more c.requires.innermost c.in_ok-entry.ensures.advanced
    c.in-Some.entry c.begin.new.self.call some asked (machine_view g.L.SiteLink.view g.L.SiteLink.fixed c.call_callback.new.self) c.call_callback.new.callback c.in_ok-opened.opened c.in_ok-opened.ensures.begins
