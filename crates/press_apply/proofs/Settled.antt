-- What a command leaves of the site, once its work is done or refused.
use Rattle.std.proofs.Common.{◌≡◌, ◌∙◌, sym, ap, ap₂, ℕ, None, Result, Ok, Err}
use Rattle.std.specs.Prelude.{IfOk, OnOk}
use Rattle.std.specs.declared.alloc.AllocError.{AllocError}
use Rattle.press_callbacks.specs.Kits.{KitView}
use Rattle.press_site.specs.Open.{Open, site_at_start}
use Rattle.press_site.specs.SiteView.{SiteView}
use Rattle.press_site.specs.declared.token.Outcome.{Outcome}
use Rattle.press_site.specs.declared.token.Outcome.TheVariants.{Done, Refused}
use Rattle.press_apply.specs.Apply.{applied_where, keep_outcome, with_kept, work_of}
use Rattle.press_apply.specs.Faults.{apply_fault_number}
use Rattle.press_apply.specs.declared.command.Stamped.{Stamped}
use Rattle.press_apply.specs.declared.fault.ApplyFault.{ApplyFault}

module _ (kit : KitView) (s : SiteView) (c : Stamped) (after : SiteView) where
  pub done_applies : (site : Open) (id : ℕ) (r : Result Outcome AllocError) → work_of kit s c.command ≡ Ok (site.site, id) → site_at_start site ≡ s → IfOk r (λ o. o ≡ Done id) → OnOk r (after ≡ with_kept c.token (Done id) site.site site.site) → IfOk r (λ o. (after, o) ≡ applied_where kit s c None)
  done_applies site id (Ok x) m b o k =
      ap₂ (λ (v : SiteView) (y : Outcome). (v, y)) (k ∙ ap (λ (v : SiteView). with_kept c.token (Done id) v site.site) b) o
      ∙ ap (keep_outcome s c.token) (sym m)
  done_applies site id (Err e) m b o k = tt

  pub refused_applies : (site : SiteView) (f : ApplyFault) (r : Result Outcome AllocError) → work_of kit s c.command ≡ Err f → site ≡ s → IfOk r (λ o. o ≡ Refused (apply_fault_number f)) → OnOk r (after ≡ with_kept c.token (Refused (apply_fault_number f)) site site) → IfOk r (λ o. (after, o) ≡ applied_where kit s c None)
  refused_applies site f (Ok x) m b o k =
      ap₂ (λ (v : SiteView) (y : Outcome). (v, y)) (k ∙ ap (λ (v : SiteView). with_kept c.token (Refused (apply_fault_number f)) v v) b) o
      ∙ ap (keep_outcome s c.token) (sym m)
  refused_applies site f (Err e) m b o k = tt
