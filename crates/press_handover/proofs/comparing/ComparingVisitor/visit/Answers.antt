use Rattle.std.proofs.Common.{◌∙◌, refl, sym, ap}
use Rattle.press_site.specs.SiteView.{SiteView}
use Rattle.press_site.specs.declared.token.Outcome.{Outcome}
use Rattle.press_handover.proofs.Telling.{notes_new}
use Rattle.press_handover.proofs.comparing.ComparingVisitor.visit.Goals as goal

pub returns : goal.returns
returns g c =
    let was = c.in_ok-before.ensures.applied in
    let is = c.in_ok-after.ensures.applied in
    record {
      same_old = refl;
      same_new = refl;
      before = ap (λ (p : SiteView × Outcome). p.0) was;
      after = ap (λ (p : SiteView × Outcome). p.0) is;
      noted =
          notes_new c.args.self.now.before c.args.value.now c.in_ok-before.before c.in_ok-after.after _ _ c.args.self.now.compared c.note.new.self (sym c.is_known-known.ensures ∙ c.if-known.false)
          (ap (λ (p : SiteView × Outcome). p.1) was) (ap (λ (p : SiteView × Outcome). p.1) is) c.in_ok-note.ensures;
    }
