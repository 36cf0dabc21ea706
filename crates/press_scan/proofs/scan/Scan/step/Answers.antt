use Rattle.std.proofs.Common.{arith, ap, ◌∙◌}
use Rattle.press_scan.specs.Scans.{Progress}
use Rattle.press_scan.proofs.Fronts.{takes_all, takes_front, front_to}
use Rattle.press_scan.proofs.scan.Scan.step.Goals as goal

pub returns-in-None-clause-steps : goal.returns-in-None-clause-steps
returns-in-None-clause-steps c = takes_all _ c.args.self.now _ c.end-end.result c.end-end.ensures c.in_ok-take_front-in-None.ensures.ok c.requires (omega arith) c.in-None.ensures.none

pub returns-then-place-shortcode-clause-steps : goal.returns-then-place-shortcode-clause-steps
returns-then-place-shortcode-clause-steps c = takes_front _ c.args.self.now _ c.in_ok-shortcode.shortcode (c.in_ok-take_front.ensures.ok ∙ ap (λ (p : Progress). front_to p c.in_ok-shortcode.shortcode.start) c.in_ok-shortcode.ensures.same) c.requires (omega (arith, ap (λ (p : Progress). p.at) c.in_ok-shortcode.ensures.same)) c.in_ok-shortcode.ensures.next
