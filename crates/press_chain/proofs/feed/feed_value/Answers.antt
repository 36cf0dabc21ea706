use Rattle.std.proofs.Common.{[], ◌∷◌, ◌∙◌, ap, sym, subst}
use Rattle.press_apply.specs.Kinds.{command_number, kind_of_command}
use Rattle.press_wire.specs.Spelling.{number8, spelled_command, stamped}
use Rattle.press_chain.specs.Feeding.{Feeds}
use Rattle.press_chain.proofs.Pieces.{feeds_then}
use Rattle.press_chain.proofs.feed.feed_value.Goals as goal

pub returns-in-Noop : goal.returns-in-Noop
unfolding spelled_command
returns-in-Noop c =
    let h1 = c.feed_byte.new.hasher in
    let h2 = c.feed_number8.new.hasher in
    let at = subst (λ n. Feeds h1 h2 (number8 n)) c.seconds.ensures.value c.feed_number8.ensures in
    subst (λ x. Feeds c.args.hasher.now h2 (spelled_command x)) (sym c.in-Noop.is) (feeds_then c.args.hasher.now h1 h2 (0 ∷ []) (number8 c.in-Noop.at) c.feed_byte.ensures at)

pub returns-in-Cmd : goal.returns-in-Cmd
unfolding spelled_command
returns-in-Cmd c =
    let s = c.in-Cmd.stamped in
    let h1 = c.feed_byte-in-Cmd.new.hasher in
    let h2 = c.feed_stamped.new.hasher in
    let kind = subst (λ b. Feeds c.args.hasher.now h1 (b ∷ [])) (c.number.ensures ∙ ap command_number c.of.ensures) c.feed_byte-in-Cmd.ensures in
    subst (λ x. Feeds c.args.hasher.now h2 (spelled_command x)) (sym c.in-Cmd.is) (feeds_then c.args.hasher.now h1 h2 (command_number (kind_of_command s.command) ∷ []) (stamped s) kind c.feed_stamped.ensures)
