use Rattle.std.proofs.Common.{◌≡◌, ◌++◌, rules, string_bytes}
use Rattle.std.specs.Vec.Iter.{into_iter_items}
use Rattle.press_callbacks.specs.Kits.{kit_view}
use Rattle.press_apply.specs.Apply.{applied}
use Rattle.press_apply.specs.declared.value.Value.TheVariants.{Cmd}
use Rattle.press_page.specs.Json.{outcome_data}
use Rattle.press_play.specs.Lines.{line}
use Rattle.press_play.proofs.Applied.{after_one, told_one}
use Rattle.press_play.proofs.commands.commands_on.Goals as goal

pub loop-stamped-preserved : goal.loop-stamped-preserved
loop-stamped-preserved g c =
    let at = c.loop-stamped in
    let left = into_iter_items at.stamped-iterator in
    let still = into_iter_items c.next.new.self in
    let pushed : string_bytes c.push_str.new.self ≡ string_bytes at.lines ++ string_bytes c.in_ok-line.line = search rules in
    let told : string_bytes c.push_str.new.self ≡ string_bytes at.lines ++ line (outcome_data (applied (kit_view c.args.kit.now) at.site (Cmd c.in-Some.stamped)).1) = rw (pushed, c.in_ok-line.ensures.told) in
    record {
      after = after_one (kit_view c.args.kit.now) c.in-Some.stamped left still at.site c.command.new.site _ c.in-Some.ensures.steps.0 c.in_ok-line.ensures.after at.invariant.after;
      told = told_one (kit_view c.args.kit.now) (string_bytes at.lines) (string_bytes c.push_str.new.self) c.in-Some.stamped left still at.site c.command.new.site _ c.in-Some.ensures.steps.0 c.in_ok-line.ensures.after told at.invariant.told;
    }
