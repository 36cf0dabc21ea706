use Rattle.std.proofs.Common.{◌∙◌, ◌^◌, sym, ap, true, false, arith}
use Rattle.std.specs.Prelude.{bytes_eq}
use Rattle.press_callbacks.specs.BuiltIns.{do_shortcode}
use Rattle.press_run.specs.Standing.{machine_view}
use Rattle.press_run.proofs.Begins.{built_in_begins}
use Rattle.press_run.proofs.machine.Machine.open_built_in.Goals as goal

pub returns-then-is_do_shortcode-clause-begins : goal.returns-then-is_do_shortcode-clause-begins
returns-then-is_do_shortcode-clause-begins g c = λ scripts.
    built_in_begins g.L.SiteLink.changes scripts c.args.room c.args.id c.args.call.now true c.in_ok-argument.argument (2 ^ 24) (machine_view g.L.SiteLink.view g.L.SiteLink.fixed c.args.self.now) (machine_view g.L.SiteLink.view g.L.SiteLink.fixed c.begin_scan.new.self) c.take_turn.new.self c.begin_scan.result
    c.if-not-take_turn.ensures c.in_ok-argument.ensures (ap (λ x. bytes_eq x do_shortcode) (sym c.as_bytes.ensures.value) ∙ sym c.is_do_shortcode.ensures ∙ c.if-is_do_shortcode.true) (omega arith) (c.begin_scan.ensures.begins scripts)

pub returns-else-is_do_shortcode-clause-begins : goal.returns-else-is_do_shortcode-clause-begins
returns-else-is_do_shortcode-clause-begins g c = λ scripts.
    built_in_begins g.L.SiteLink.changes scripts c.args.room c.args.id c.args.call.now false c.in_ok-argument.argument (2 ^ 66) (machine_view g.L.SiteLink.view g.L.SiteLink.fixed c.args.self.now) (machine_view g.L.SiteLink.view g.L.SiteLink.fixed c.begin_publish.new.self) c.take_turn.new.self c.begin_publish.result
    c.if-not-take_turn.ensures c.in_ok-argument.ensures (ap (λ x. bytes_eq x do_shortcode) (sym c.as_bytes.ensures.value) ∙ sym c.is_do_shortcode.ensures ∙ c.if-is_do_shortcode.false) (omega arith) (c.begin_publish.ensures.begins scripts)
