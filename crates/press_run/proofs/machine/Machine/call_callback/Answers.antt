use Rattle.std.proofs.Common.{◌≡◌, ◌∙◌, ◌<◌, sym, ap, subst, true, false, arith}
use Rattle.std.proofs.lemmas.Result.{err_from_is_err_and}
use Rattle.press_callbacks.specs.BuiltIns.{is_built_in}
use Rattle.press_run.specs.Frames.{CallsAs}
use Rattle.press_run.specs.Outcome.{state_of}
use Rattle.press_run.specs.Standing.{machine_view}
use Rattle.press_run.proofs.Begins.{built_in_stops, opens_built_in, opens_callback}
use Rattle.press_run.proofs.Steps.{no_depth}
use Rattle.press_run.proofs.machine.Machine.call_callback.Goals as goal

pub returns-then-room-eq0-clause-begins : goal.returns-then-room-eq0-clause-begins
returns-then-room-eq0-clause-begins g c = rw c.if-room-eq0.true (no_depth g.L.SiteLink.changes (g.K.Callbacks.scripts c.args.kit.now) c.args.id c.args.callback.now.call (state_of (machine_view g.L.SiteLink.view g.L.SiteLink.fixed c.args.self.now)))

pub returns-in_err-begun-clause-begins : goal.returns-in_err-begun-clause-begins
returns-in_err-begun-clause-begins g c =
    let k = g.K.Callbacks.scripts c.args.kit.now in
    let old = machine_view g.L.SiteLink.view g.L.SiteLink.fixed c.args.self.now in
    let new = machine_view g.L.SiteLink.view g.L.SiteLink.fixed c.open_built_in.new.self in
    let own : is_built_in c.args.id ≡ true = ap is_built_in (sym c.as_bytes.ensures.value) ∙ sym c.is_built_in.ensures ∙ c.if-is_built_in.true in
    let room : 0 < c.args.room = omega arith in
    let p = err_from_is_err_and c.from_residual.result c.from_residual.ensures.1 in
    rw (p.1, p.2) (built_in_stops g.L.SiteLink.changes k c.args.room c.args.id c.args.callback.now.call old new room own c.in_err-begun.field-0.0 (c.in_err-begun.ensures.begins k))

pub returns-then-is_built_in-clause-begins : goal.returns-then-is_built_in-clause-begins
returns-then-is_built_in-clause-begins g c =
    let k = g.K.Callbacks.scripts c.args.kit.now in
    let old = machine_view g.L.SiteLink.view g.L.SiteLink.fixed c.args.self.now in
    let new = machine_view g.L.SiteLink.view g.L.SiteLink.fixed c.open_built_in.new.self in
    let own : is_built_in c.args.id ≡ true = ap is_built_in (sym c.as_bytes.ensures.value) ∙ sym c.is_built_in.ensures ∙ c.if-is_built_in.true in
    let room : 0 < c.args.room = omega arith in
    rw c.into_opened.ensures (opens_built_in g.L.SiteLink.changes k c.args.room c.args.id c.args.callback.now.call old new room own c.args.callback.now c.in_ok-begun.begun (c.in_ok-begun.ensures.begins k))

pub turns-requires : goal.turns-requires
turns-requires g c = omega (arith, c.requires)

pub returns-clause-begins : goal.returns-clause-begins
returns-clause-begins g c =
    let k = g.K.Callbacks.scripts c.args.kit.now in
    let old = machine_view g.L.SiteLink.view g.L.SiteLink.fixed c.args.self.now in
    let own : is_built_in c.args.id ≡ false = ap is_built_in (sym c.as_bytes.ensures.value) ∙ sym c.is_built_in.ensures ∙ c.if-is_built_in.false in
    let room : 0 < c.args.room = omega arith in
    let opens = opens_callback g.L.SiteLink.changes k c.args.room c.args.id c.place-callback.result c.args.callback.now.call old room own c.place-callback.ensures c.requires in
    subst (λ o. CallsAs g.L.SiteLink.changes k o 1 c.turns.new.callback old (machine_view g.L.SiteLink.view g.L.SiteLink.fixed c.turns.new.self) c.turns.result) opens.same c.turns.ensures.begins
