use Rattle.std.proofs.Common.{[], ◌∷◌, length, subst}
use Rattle.press_wire.specs.Spelling.{name}
use Rattle.press_chain.specs.Feeding.{Feeds}
use Rattle.press_chain.proofs.Pieces.{feeds_then}
use Rattle.press_chain.proofs.feed.feed_name.Goals as goal

pub returns : goal.returns
unfolding name
returns c =
    let text = c.args.name.now in
    subst (λ b. Feeds c.args.hasher.now c.feed.new.hasher (length text ∷ b)) c.as_bytes.ensures.value
    (feeds_then c.args.hasher.now c.feed_byte.new.hasher c.feed.new.hasher (length text ∷ []) c.as_bytes.result.now c.feed_byte.ensures c.feed.ensures)
