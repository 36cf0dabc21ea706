use Rattle.std.proofs.Common.{rules, ◌≡◌, ◌∙◌, ◌++◌, ◌≤◌, ap₂, length, string_bytes, arith}
use Rattle.press_handover.specs.Handovers.{count_line, otherwise_lines}
use Rattle.press_handover.proofs.Telling.{lines_end}
use Rattle.press_handover.proofs.comparing.Compared.lines.Goals as goal

pub returns : goal.returns
unfolding count_line
returns c =
    let all = c.args.self.now.first.items in
    let past : length all ≤ c.loop-one.one-index = omega (arith, c.loop-one-test.false, c.deref-one-items.ensures.len) in
    let text_is : string_bytes c.loop-one.text ≡ otherwise_lines all = lines_end all c.loop-one.one-index (string_bytes c.loop-one.text) (otherwise_lines all) past c.loop-one.invariant in
    let line_is : c.deref-2.result.now ≡ count_line c.args.self.now.count = search rules in
    c.in_ok-push_str-2.ensures.bytes ∙ ap₂ (λ text line. text ++ line) text_is line_is
