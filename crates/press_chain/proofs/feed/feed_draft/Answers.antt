use Rattle.std.proofs.Common.{[], ◌∷◌, ◌++◌, subst}
use Rattle.press_wire.specs.Kinds.{status_number}
use Rattle.press_wire.specs.Spelling.{draft, number8, text}
use Rattle.press_chain.specs.Feeding.{Feeds}
use Rattle.press_chain.proofs.Pieces.{feeds_then}
use Rattle.press_chain.proofs.feed.feed_draft.Goals as goal

pub returns : goal.returns
unfolding draft
returns c =
    let d = c.args.draft.now in
    let h = c.args.hasher.now in
    let h1 = c.feed_text.new.hasher in
    let h2 = c.feed_text-2.new.hasher in
    let h3 = c.feed_byte.new.hasher in
    let h4 = c.feed_number8.new.hasher in
    let status = subst (λ b. Feeds h2 h3 (b ∷ [])) c.status_number.ensures c.feed_byte.ensures in
    let date = subst (λ n. Feeds h3 h4 (number8 n)) c.seconds.ensures.value c.feed_number8.ensures in
    feeds_then h h1 h4 (text d.title) (text d.content ++ (status_number d.status ∷ number8 d.date)) c.feed_text.ensures
    (feeds_then h1 h2 h4 (text d.content) (status_number d.status ∷ number8 d.date) c.feed_text-2.ensures
    (feeds_then h2 h3 h4 (status_number d.status ∷ []) (number8 d.date) status date))
