use Rattle.std.proofs.Common.{◌∙◌, sym, ap}
use Rattle.std.proofs.lemmas.Result.{err_from_is_err_and}
use Rattle.press_posts.specs.PostChange.{post_at}
use Rattle.press_site.specs.SiteView.{SiteView}
use Rattle.press_apply.specs.Apply.{delete_fault, callbacks_on, passes}
use Rattle.press_callbacks.specs.Kits.{kit_view}
use Rattle.press_apply.specs.Works.{state_in}
use Rattle.press_apply.proofs.Checked.{delete_is}
use Rattle.press_apply.proofs.work.Work.delete.Goals as goal

pub returns-in_err-change_between-clause-steps : goal.returns-in_err-change_between-clause-steps
returns-in_err-change_between-clause-steps g c =
    let p = err_from_is_err_and c.from_residual-in_err-change_between.result c.from_residual-in_err-change_between.ensures.1 in
    let passed = ap passes (ap (delete_fault) (ap (λ (v : SiteView). post_at v.posts c.args.id) (sym c.site.ensures) ∙ sym c.post.ensures) ∙ sym c.delete_fault.ensures) ∙ c.in_ok-passes.ensures.answer in
    rw (p.1, p.2, delete_is (callbacks_on (kit_view c.args.kit.now)) c.args.id (state_in c.args.self.now) _ passed) c.in_err-change_between.ensures.steps

pub returns-clause-steps : goal.returns-clause-steps
returns-clause-steps g c =
    let passed = ap passes (ap (delete_fault) (ap (λ (v : SiteView). post_at v.posts c.args.id) (sym c.site.ensures) ∙ sym c.post.ensures) ∙ sym c.delete_fault.ensures) ∙ c.in_ok-passes.ensures.answer in
    delete_is (callbacks_on (kit_view c.args.kit.now)) c.args.id (state_in c.args.self.now) _ passed ∙ c.in_ok-change_between.ensures.steps
