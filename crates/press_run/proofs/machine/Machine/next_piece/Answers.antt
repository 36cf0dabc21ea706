use Rattle.std.proofs.Common.{◌∙◌, sym, ap}
use Rattle.std.proofs.lemmas.Result.{err_from_is_err_and}
use Rattle.press_scan.specs.Scans.{Progress}
use Rattle.press_run.specs.Standing.{machine_view}
use Rattle.press_run.proofs.Pieces.{call_begins, call_stops, scan_gives, text_goes}
use Rattle.press_run.proofs.machine.Machine.next_piece.Goals as goal

pub returns-in-Text-clause-steps : goal.returns-in-Text-clause-steps
returns-in-Text-clause-steps g c =
    text_goes c.computes_first.ensures.some c.computes_first.ensures.none c.ends_within.ensures g.L.SiteLink.changes (g.K.Callbacks.scripts c.args.kit.now) c.args.scan.now (machine_view g.L.SiteLink.view g.L.SiteLink.fixed c.args.self.now) (sym c.is_short.ensures ∙ c.if-not-is_short.false) c.requires.goes_on c.requires.off c.step.new.self (rw c.in-Text.is at c.in_ok-step.ensures.steps)

pub returns-in_ok-text-in-End-clause-steps : goal.returns-in_ok-text-in-End-clause-steps
returns-in_ok-text-in-End-clause-steps g c =
    let done = rw c.in-End.is at c.in_ok-step.ensures.steps in
    scan_gives c.computes_first.ensures.some c.computes_first.ensures.none c.ends_within.ensures g.L.SiteLink.changes (g.K.Callbacks.scripts c.args.kit.now) c.args.scan.now (machine_view g.L.SiteLink.view g.L.SiteLink.fixed c.args.self.now) (sym c.is_short.ensures ∙ c.if-not-is_short.false) c.requires.goes_on c.requires.off c.in_ok-text-in-End.text done.0 (c.in_ok-text-in-End.ensures ∙ ap (λ (p : Progress). p.output) done.1)

pub returns-in_err-opened-in-Call-clause-steps : goal.returns-in_err-opened-in-Call-clause-steps
returns-in_err-opened-in-Call-clause-steps g c =
    let p = err_from_is_err_and c.from_residual-in_err-opened-in-Call.result c.from_residual-in_err-opened-in-Call.ensures.1 in
    rw (p.1, p.2) (call_stops c.computes_first.ensures.some c.computes_first.ensures.none c.ends_within.ensures g.L.SiteLink.changes (g.K.Callbacks.scripts c.args.kit.now) c.args.scan.now (machine_view g.L.SiteLink.view g.L.SiteLink.fixed c.args.self.now) (sym c.is_short.ensures ∙ c.if-not-is_short.false) c.requires.goes_on c.requires.off c.step.new.self c.in-Call.shortcode (rw c.in-Call.is at c.in_ok-step.ensures.steps)
    c.text-text.result.now c.text-text.ensures c.in_ok-filtering-in-Call.filtering c.in_ok-filtering-in-Call.ensures.filtering c.on-callback.result.call c.in_err-opened-in-Call.field-0.0 (c.on-callback.ensures ∙ c.in_ok-call-in-Call.ensures) c.in_err-opened-in-Call.ensures.begins)

pub returns-in_ok-into_moved-in-Call-clause-steps : goal.returns-in_ok-into_moved-in-Call-clause-steps
returns-in_ok-into_moved-in-Call-clause-steps g c =
    rw c.in_ok-into_moved-in-Call.ensures (call_begins c.computes_first.ensures.some c.computes_first.ensures.none c.ends_within.ensures g.L.SiteLink.changes (g.K.Callbacks.scripts c.args.kit.now) c.args.scan.now (machine_view g.L.SiteLink.view g.L.SiteLink.fixed c.args.self.now) (sym c.is_short.ensures ∙ c.if-not-is_short.false) c.requires.goes_on c.requires.off c.step.new.self c.in-Call.shortcode (rw c.in-Call.is at c.in_ok-step.ensures.steps)
    c.text-text.result.now c.text-text.ensures c.in_ok-filtering-in-Call.filtering c.in_ok-filtering-in-Call.ensures.filtering c.on-callback.result.call (machine_view g.L.SiteLink.view g.L.SiteLink.fixed c.begin_shortcode.new.self) c.begin_shortcode.new.callback c.in_ok-opened-in-Call.opened (c.on-callback.ensures ∙ c.in_ok-call-in-Call.ensures) c.in_ok-opened-in-Call.ensures.begins)
