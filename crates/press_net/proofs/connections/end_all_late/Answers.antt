use Rattle.std.proofs.Common.{rules, ◌≡◌, ◌≤◌, ◌+◌, ◌∙◌, ap, sym, take, get_or, if◌then◌else◌}
use Rattle.press_net.specs.Talking.{count_of, is_late, is_unheard, kept_unless, meets}
use Rattle.press_net.proofs.Counted.{count_more, one}
use Rattle.press_text.proofs.Mapped.{mapped_step, untouched}
use Rattle.press_net.proofs.connections.end_all_late.Goals as goal

pub loop-slot-preserved : goal.loop-slot-preserved
loop-slot-preserved g c =
    let i = c.loop-slot.invariant in
    let old = c.args.slots.now in
    let at = c.loop-slot.slot-index in
    let test = is_unheard c.args.now in
    let d = c.slot-item.result in
    let changed = mapped_step (kept_unless (is_late c.args.now)) old c.loop-slot.slots at d _ i.0 c.loop-slot-test.true c.end_if_late.ensures.free in
    let same : get_or c.loop-slot.slots c.loop-slot.slot-index c.slot-item.result ≡ get_or c.args.slots.now c.loop-slot.slot-index c.slot-item.result =
    ap (λ slots. get_or slots at d) i.0 ∙ untouched (kept_unless (is_late c.args.now)) old at d c.loop-slot-test.true in
    let byte : c.from.result ≡ (if c.end_if_late.result then 1 else 0) = search rules in
    let met : c.end_if_late.result ≡ meets (is_unheard c.args.now) (get_or c.args.slots.now c.loop-slot.slot-index c.slot-item.result) = c.end_if_late.ensures.unheard ∙ ap (meets test) same in
    let from : c.from.result ≡ one (is_unheard c.args.now) (get_or c.args.slots.now c.loop-slot.slot-index c.slot-item.result) = byte ∙ ap (λ b. if b then 1 else 0) met in
    let sum : c.loop-slot.count + c.from.result ≡ count_of (is_unheard c.args.now) (take (c.loop-slot.slot-index + 1) c.args.slots.now) =
    ap (λ n. n + c.from.result) i.1 ∙ ap (λ n. count_of test (take at old) + n) from ∙ sym (count_more test old at d c.loop-slot-test.true) in
    let small : c.from.result ≤ 1 = search rules in
    let whole : c.saturating_add-count.result ≡ c.loop-slot.count + c.from.result = search rules in
    let most : c.saturating_add-count.result ≤ c.loop-slot.slot-index + 1 = search rules in
    (changed, whole ∙ sum, most)
