use Rattle.std.proofs.Common.{◌∙◌, sym, ap, subst, List}
use Rattle.press_site.specs.Back.{MayPostsGoBack, options_back, posts_back}
use Rattle.press_site.specs.ContentView.{ContentView}
use Rattle.press_site.specs.declared.stood.Stood.{Stood}
use Rattle.press_site.proofs.Undoing.{may_pop, options_pushed, posts_pushed}
use Rattle.press_site.proofs.undo.put_back.Goals as goal

pub put_back-requires : goal.put_back-requires
put_back-requires c =
    (may_pop c.pop.new.self.items c.in-Some.last c.loop-last.content.posts
    (subst (λ (ws : List Stood). MayPostsGoBack ws c.loop-last.content.posts) c.in-Some.ensures.items c.loop-last.invariant.0)).0

pub loop-last-preserved : goal.loop-last-preserved
loop-last-preserved c =
    let may =
    may_pop c.pop.new.self.items c.in-Some.last c.loop-last.content.posts
    (subst (λ (ws : List Stood). MayPostsGoBack ws c.loop-last.content.posts) c.in-Some.ensures.items c.loop-last.invariant.0) in (
      subst (λ (v : ContentView). MayPostsGoBack c.pop.new.self.items v.posts) (sym c.put_back.ensures.posts) may.1,
      ap (λ (v : ContentView). posts_back c.pop.new.self.items v.posts) c.put_back.ensures.posts
          ∙ sym (posts_pushed c.pop.new.self.items c.in-Some.last c.loop-last.content.posts)
          ∙ ap (λ (ws : List Stood). posts_back ws c.loop-last.content.posts) (sym c.in-Some.ensures.items)
          ∙ c.loop-last.invariant.1,
      ap (λ (v : ContentView). v.events) c.put_back.ensures.posts ∙ c.loop-last.invariant.2,
      ap (options_back c.pop.new.self.items) c.put_back.ensures.options
          ∙ sym (options_pushed c.pop.new.self.items c.in-Some.last c.loop-last.options)
          ∙ ap (λ (ws : List Stood). options_back ws c.loop-last.options) (sym c.in-Some.ensures.items)
          ∙ c.loop-last.invariant.3,
    )
