use Rattle.std.proofs.Common.{◌++◌, drop, take, subst}
use Rattle.sha2.specs.Hashers.{Holds256}
use Rattle.press_wire.specs.Spelling.{number4}
use Rattle.press_chain.proofs.feed.feed_number4.Goals as goal

pub returns : goal.returns
unfolding number4
returns c = λ m h. subst (λ x. Holds256 c.feed.new.hasher (m ++ take 4 (drop 4 x))) c.to_be_bytes-bytes.ensures (c.feed.ensures m h)
