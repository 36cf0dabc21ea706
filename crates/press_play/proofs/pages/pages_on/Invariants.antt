use Rattle.std.proofs.Common.{◌≡◌, ◌++◌, string_bytes}
use Rattle.std.specs.Vec.Iter.{into_iter_items}
use Rattle.press_callbacks.specs.Kits.{kit_view}
use Rattle.press_play.specs.Pages.{page_lines}
use Rattle.press_play.proofs.pages.pages_on.Given as goal

abbrev pub invariant-loop-target : goal.invariant-loop-target
invariant-loop-target g l = string_bytes l.lines ++ page_lines (kit_view l.kit) l.site (into_iter_items l.target-iterator) ≡ page_lines (kit_view l.kit) l.site l.fn.targets
