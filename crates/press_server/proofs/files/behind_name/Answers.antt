use Rattle.std.proofs.Common.{rules, ◌≡◌, ◌∙◌, ◌<◌, length, drop, Some, arith, ap, length-drop}
use Rattle.press_server.specs.Files.{behind}
use Rattle.press_server.proofs.Named.{found}
use Rattle.press_server.proofs.files.behind_name.Goals as goal

pub returns-in-Some : goal.returns-in-Some
returns-in-Some c =
    let within : c.loop-place.place < length c.args.text.now = search rules in
    let some : 0 < length (drop c.loop-place.place c.args.text.now) = omega (arith, within, length-drop c.loop-place.place c.args.text.now) in
    let is : Some c.in-Some.rest.now ≡ behind c.args.name.now (drop c.loop-place.place c.args.text.now) = c.in-Some.ensures ∙ ap (behind c.args.name.now) c.from.ensures in
    found c.args.name.now (drop c.loop-place.place c.args.text.now) c.in-Some.rest.now c.loop-place.begins c.if-begins.true some is ∙ c.loop-place.invariant
