use Rattle.std.proofs.Common.{◌∙◌, refl, sym, length, ◌≤◌, arith}
use Rattle.std.proofs.lemmas.Result.{err_from_is_err_and}
use Rattle.press_page.specs.Rendering.{meaning_in, state_in}
use Rattle.press_page.proofs.Steps.{articles_stop, articles_more, articles_end}
use Rattle.press_page.proofs.rendering.Rendering.articles.Goals as goal

pub returns-in_err-article-clause-steps : goal.returns-in_err-article-clause-steps
returns-in_err-article-clause-steps g c =
    let p = err_from_is_err_and c.from_residual.result c.from_residual.ensures.1 in
    rw (p.1, p.2) (articles_stop c.in_err-article.field-0.0 (meaning_in c.args.kit.now) c.args.site.now.posts c.args.ids.now c.loop-id.id-index 0 _ (state_in c.loop-id.self) _ c.loop-id-test.true c.post.ensures c.loop-id.invariant.meaning c.in_err-article.ensures.steps)

pub loop-id-preserved : goal.loop-id-preserved
loop-id-preserved g c = record {
  meaning = sym (articles_more (meaning_in c.args.kit.now) c.args.site.now.posts c.args.ids.now c.loop-id.id-index 0 _ (state_in c.loop-id.self) (state_in c.article.new.self) c.loop-id-test.true c.post.ensures c.in_ok-article.ensures.steps) ∙ c.loop-id.invariant.meaning;
  limits = λ met. c.loop-id.invariant.limits (c.in_ok-article.ensures.limits refl met);
}

pub returns-clause-steps : goal.returns-clause-steps
returns-clause-steps g c =
    let done : length c.args.ids.now ≤ c.loop-id.id-index = omega arith in
    sym c.loop-id.invariant.meaning ∙ articles_end (meaning_in c.args.kit.now) c.args.site.now.posts c.args.ids.now c.loop-id.id-index (state_in c.loop-id.self) done
