use Rattle.std.proofs.Common.{rules, ◌≡◌, refl, sym, ◌∙◌, ap, ap₂, length, leb, take, drop, get_or, ℕ, ◌+◌, ◌<◌, ◌≤◌, Bool, true, false, not, List, ◌++◌, bytes_eq, arith, None}
use Rattle.press_text.specs.Escapes.{escaped_text}
use Rattle.press_callbacks.specs.Turns.{text_of}
use Rattle.press_callbacks.proofs.Alike.{behind_fronts, fronts_differ, not_true, not_false}
use Rattle.press_callbacks.proofs.unread_text.are_same.Goals as goal

pub returns-then-ne : goal.returns-then-ne
returns-then-ne c =
    let l = c.fill.new.self in
    let r = c.fill-in-loop-left.new.self in
    let d : bytes_eq c.split_at.result.0.now c.split_at-in-loop-left.result.0.now ≡ false = not_true _ (sym c.ne.ensures ∙ c.if-ne.true) in
    let e = sym (ap₂ (λ (x y : List ℕ). bytes_eq x y) c.split_at.ensures.front c.split_at-in-loop-left.ensures.front) ∙ d in
    sym (sym c.loop-left.invariant ∙ sym (ap₂ (λ (x y : List ℕ). bytes_eq x y) c.fill.ensures.unread c.fill-in-loop-left.ensures.unread)
    ∙ fronts_differ c.min-both.result l.piece.now r.piece.now (escaped_text l.to_escape.now ++ text_of l.call.now l.parts.now) (escaped_text r.to_escape.now ++ text_of r.call.now r.parts.now)
    (omega (arith, c.min-both.ensures)) (omega (arith, c.min-both.ensures)) e)

pub loop-left-preserved : goal.loop-left-preserved
loop-left-preserved c =
    let l = c.fill.new.self in
    let r = c.fill-in-loop-left.new.self in
    let x = escaped_text l.to_escape.now ++ text_of l.call.now l.parts.now in
    let y = escaped_text r.to_escape.now ++ text_of r.call.now r.parts.now in
    let d : bytes_eq c.split_at.result.0.now c.split_at-in-loop-left.result.0.now ≡ true = not_false _ (sym c.ne.ensures ∙ c.if-ne.false) in
    let e = sym (ap₂ (λ (x y : List ℕ). bytes_eq x y) c.split_at.ensures.front c.split_at-in-loop-left.ensures.front) ∙ d in
    ap₂ (λ (p q : List ℕ). bytes_eq (p ++ x) (q ++ y)) c.split_at.ensures.back c.split_at-in-loop-left.ensures.back
    ∙ sym (behind_fronts c.min-both.result l.piece.now r.piece.now x y (omega (arith, c.min-both.ensures)) (omega (arith, c.min-both.ensures)) e)
    ∙ ap₂ (λ (x y : List ℕ). bytes_eq x y) c.fill.ensures.unread c.fill-in-loop-left.ensures.unread ∙ c.loop-left.invariant
