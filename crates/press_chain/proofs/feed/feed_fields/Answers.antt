use Rattle.std.proofs.Common.{sym, subst}
use Rattle.press_wire.specs.Spelling.{draft, fields, name, number8, text}
use Rattle.press_chain.specs.Feeding.{Feeds}
use Rattle.press_chain.proofs.Pieces.{feeds_none, feeds_then}
use Rattle.press_chain.proofs.feed.feed_fields.Goals as goal

pub returns-in-Insert : goal.returns-in-Insert
unfolding fields
returns-in-Insert c = subst (λ x. Feeds c.args.hasher.now c.feed_draft.new.hasher (fields x)) (sym c.in-Insert.is) c.feed_draft.ensures

pub returns-in-Update : goal.returns-in-Update
unfolding fields
returns-in-Update c = subst (λ x. Feeds c.args.hasher.now c.feed_draft-in-Update.new.hasher (fields x)) (sym c.in-Update.is) (feeds_then c.args.hasher.now c.feed_number8.new.hasher c.feed_draft-in-Update.new.hasher (number8 c.in-Update.id) (draft c.in-Update.draft) c.feed_number8.ensures c.feed_draft-in-Update.ensures)

pub returns-in-Trash : goal.returns-in-Trash
unfolding fields
returns-in-Trash c = subst (λ x. Feeds c.args.hasher.now c.feed_number8-in-Trash.new.hasher (fields x)) (sym c.in-Trash.is) c.feed_number8-in-Trash.ensures

pub returns-in-Untrash : goal.returns-in-Untrash
unfolding fields
returns-in-Untrash c = subst (λ x. Feeds c.args.hasher.now c.feed_number8-in-Untrash.new.hasher (fields x)) (sym c.in-Untrash.is) c.feed_number8-in-Untrash.ensures

pub returns-in-Delete : goal.returns-in-Delete
unfolding fields
returns-in-Delete c = subst (λ x. Feeds c.args.hasher.now c.feed_number8-in-Delete.new.hasher (fields x)) (sym c.in-Delete.is) c.feed_number8-in-Delete.ensures

pub returns-in-SetOption : goal.returns-in-SetOption
unfolding fields
returns-in-SetOption c = subst (λ x. Feeds c.args.hasher.now c.feed_text.new.hasher (fields x)) (sym c.in-SetOption.is) (feeds_then c.args.hasher.now c.feed_name.new.hasher c.feed_text.new.hasher (name c.in-SetOption.name) (text c.in-SetOption.value)
    (subst (λ b. Feeds c.args.hasher.now c.feed_name.new.hasher (name b)) c.as_str.ensures.value c.feed_name.ensures) c.feed_text.ensures)

pub returns-in-Activate : goal.returns-in-Activate
unfolding fields
returns-in-Activate c = subst (λ x. Feeds c.args.hasher.now c.feed_name-in-Activate.new.hasher (fields x)) (sym c.in-Activate.is) (subst (λ b. Feeds c.args.hasher.now c.feed_name-in-Activate.new.hasher (name b)) c.as_str-in-Activate.ensures.value c.feed_name-in-Activate.ensures)

pub returns-in-Deactivate : goal.returns-in-Deactivate
unfolding fields
returns-in-Deactivate c = subst (λ x. Feeds c.args.hasher.now c.feed_name-in-Deactivate.new.hasher (fields x)) (sym c.in-Deactivate.is) (subst (λ b. Feeds c.args.hasher.now c.feed_name-in-Deactivate.new.hasher (name b)) c.as_str-in-Deactivate.ensures.value c.feed_name-in-Deactivate.ensures)

pub returns-in-Tick : goal.returns-in-Tick
unfolding fields
returns-in-Tick c = subst (λ x. Feeds c.args.hasher.now c.args.hasher.now (fields x)) (sym c.in-Tick.is) (feeds_none c.args.hasher.now)

pub returns-in-Profile : goal.returns-in-Profile
unfolding fields
returns-in-Profile c = subst (λ x. Feeds c.args.hasher.now c.feed_byte.new.hasher (fields x)) (sym c.in-Profile.is) c.feed_byte.ensures
