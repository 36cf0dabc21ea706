use Rattle.std.proofs.Common.{◌++◌, length, subst}
use Rattle.press_wire.specs.Spelling.{number4, text}
use Rattle.press_chain.specs.Feeding.{Feeds}
use Rattle.press_chain.proofs.Pieces.{feeds_then}
use Rattle.press_chain.proofs.feed.feed_text.Goals as goal

pub returns : goal.returns
unfolding text
returns c =
    let bytes = c.as_bytes-bytes.result.now in
    subst (λ b. Feeds c.args.hasher.now c.feed.new.hasher (number4 (length b) ++ b)) c.as_bytes-bytes.ensures
    (feeds_then c.args.hasher.now c.feed_number4.new.hasher c.feed.new.hasher (number4 (length bytes)) bytes c.feed_number4.ensures c.feed.ensures)
