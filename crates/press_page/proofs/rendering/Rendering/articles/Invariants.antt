use Rattle.std.proofs.Common.{◌≡◌, drop, true}
use Rattle.press_page.specs.Page.{articles}
use Rattle.press_page.specs.Rendering.{meaning_in, state_in}
use Rattle.press_page.proofs.rendering.Rendering.articles.Given as goal

abbrev pub invariant-loop-id : goal.invariant-loop-id
invariant-loop-id g l = record {
  meaning : articles (meaning_in l.kit) l.site.posts (drop l.id-index l.ids) (state_in l.self)
      ≡ articles (meaning_in l.kit) l.site.posts l.ids (state_in l.fn.self);
  limits : l.self.machine.met_limit ≡ true → l.fn.self.machine.met_limit ≡ true;
}
