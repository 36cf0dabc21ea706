use Rattle.std.proofs.Common.{rules, ◌≡◌, refl, sym, ◌∙◌, ap, length, leb, take, drop, get_or, ℕ, ◌+◌, ◌<◌, ◌≤◌, Bool, true, false, not, List, ◌++◌, bytes_eq, arith, None}
use Rattle.press_callbacks.proofs.Past.{past_parts}
use Rattle.press_callbacks.proofs.sizes.is_within.Goals as goal

pub returns-in-None : goal.returns-in-None
returns-in-None c = sym (past_parts c.args.call.now c.args.parts.now c.loop-part.part-index c.part-item.result c.loop-part.room c.args.most c.loop-part-test.true (sym c.part-item.is) c.loop-part.invariant (sym c.room_behind.ensures ∙ c.in-None.is))
