use Rattle.std.proofs.Common.{◌≡◌}
use Rattle.std.specs.Vec.Iter.{into_iter_items}
use Rattle.press_play.specs.Sites.{all_active, site_with}
use Rattle.press_play.proofs.sites.site_with.Given as goal

abbrev pub invariant-loop-plugin : goal.invariant-loop-plugin
invariant-loop-plugin l = all_active (into_iter_items l.plugin-iterator) l.site ≡ site_with l.fn.active
