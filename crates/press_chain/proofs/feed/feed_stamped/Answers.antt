use Rattle.std.proofs.Common.{◌++◌, subst}
use Rattle.press_wire.specs.Spelling.{fields, name, number8, stamped}
use Rattle.press_chain.specs.Feeding.{Feeds}
use Rattle.press_chain.proofs.Pieces.{feeds_then}
use Rattle.press_chain.proofs.feed.feed_stamped.Goals as goal

pub returns : goal.returns
unfolding stamped
returns c =
    let s = c.args.stamped.now in
    let h = c.args.hasher.now in
    let h1 = c.feed_name.new.hasher in
    let h2 = c.feed_number8.new.hasher in
    let h3 = c.feed_number8-2.new.hasher in
    let h4 = c.feed_fields.new.hasher in
    let editor = subst (λ b. Feeds h h1 (name b)) c.as_str.ensures.value c.feed_name.ensures in
    let at = subst (λ n. Feeds h2 h3 (number8 n)) c.seconds.ensures.value c.feed_number8-2.ensures in
    feeds_then h h1 h4 (name s.token.editor) (number8 s.token.seq ++ (number8 s.at ++ fields s.command)) editor
    (feeds_then h1 h2 h4 (number8 s.token.seq) (number8 s.at ++ fields s.command) c.feed_number8.ensures
    (feeds_then h2 h3 h4 (number8 s.at) (fields s.command) at c.feed_fields.ensures))
