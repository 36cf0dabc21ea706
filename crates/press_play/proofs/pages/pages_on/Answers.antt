use Rattle.std.proofs.Common.{◌≡◌, ◌++◌, rules, string_bytes}
use Rattle.std.specs.Vec.Iter.{into_iter_items}
use Rattle.press_callbacks.specs.Kits.{kit_view}
use Rattle.press_page.specs.Page.{page_of}
use Rattle.press_play.specs.Lines.{line}
use Rattle.press_play.specs.Pages.{page_lines, reply_data}
use Rattle.press_play.proofs.Shown.{shown_one}
use Rattle.press_play.proofs.pages.pages_on.Goals as goal

pub loop-target-preserved : goal.loop-target-preserved
loop-target-preserved g c =
    let at = c.loop-target in
    let pushed : string_bytes c.push_str.new.self ≡ string_bytes at.lines ++ string_bytes c.in_ok-line.line = search rules in
    let told : string_bytes c.push_str.new.self ≡ string_bytes at.lines ++ line (reply_data (page_of (kit_view c.args.kit.now) c.args.site.now c.in-Some.target)) = rw (pushed, c.in_ok-line.ensures) in
    shown_one (kit_view c.args.kit.now) c.args.site.now (string_bytes at.lines) (string_bytes c.push_str.new.self) c.in-Some.target (into_iter_items at.target-iterator) (into_iter_items c.next.new.self) (page_lines (kit_view c.args.kit.now) c.args.site.now c.args.targets)
    c.in-Some.ensures.steps.0 told at.invariant
