use Rattle.std.proofs.Common.{◌++◌, ◌∙◌, subst}
use Rattle.sha2.specs.Hashers.{Holds256}
use Rattle.press_wire.specs.Spelling.{number8}
use Rattle.press_chain.proofs.feed.feed_number8.Goals as goal

pub returns : goal.returns
unfolding number8
returns c = λ m h. subst (λ x. Holds256 c.feed.new.hasher (m ++ x)) (c.as_slice.ensures ∙ c.to_be_bytes.ensures) (c.feed.ensures m h)
