use Rattle.std.proofs.Common.{◌≡◌, ◌++◌, string_bytes}
use Rattle.std.specs.Vec.Iter.{into_iter_items}
use Rattle.press_callbacks.specs.Kits.{kit_view}
use Rattle.press_play.specs.Commands.{outcome_lines, site_after}
use Rattle.press_play.proofs.commands.commands_on.Given as goal

abbrev pub invariant-loop-stamped : goal.invariant-loop-stamped
invariant-loop-stamped g l = record {
  after : site_after (kit_view l.kit) (into_iter_items l.stamped-iterator) l.site ≡ site_after (kit_view l.kit) l.fn.commands l.fn.site;
  told : string_bytes l.lines ++ outcome_lines (kit_view l.kit) (into_iter_items l.stamped-iterator) l.site ≡ outcome_lines (kit_view l.kit) l.fn.commands l.fn.site;
}
