use Rattle.std.proofs.Common.{◌≡◌, ◌∙◌, ap, sym, filter, not, bytes_eq}
use Rattle.std.specs.Map.{remove_entry}
use Rattle.press_hooks.specs.Hooked.{GroupView, with_members}
use Rattle.press_hooks.specs.Keys.{group_entries_in}
use Rattle.press_hooks.specs.GroupEntries.{is_group_entry_of}
use Rattle.press_hooks.proofs.Mapped.{removed_one, none_left}
use Rattle.press_hooks.proofs.group.Group.remove.Goals as goal

pub returns-in_default-clause-members : goal.returns-in_default-clause-members
returns-in_default-clause-members c =
    let es = c.self.inside.members.entries in
    let left : group_entries_in c.clear.new.self.entries ≡ filter (λ m. not (is_group_entry_of c.args.callback m)) (group_entries_in es) =
    ap group_entries_in c.clear.ensures.empty
    ∙ (sym (none_left (group_entries_in es)) ∙ ap (λ o. filter (λ m. not (is_group_entry_of o m)) (group_entries_in es)) (sym c.in_default.is)) in
    ap (λ ms. let g : GroupView = record { priority = c.self.inside.priority; members = ms } in g) left
    ∙ ap (λ (g : GroupView). with_members (filter (λ m. not (is_group_entry_of c.args.callback m)) g.members) g) c.self.view_is

pub returns-clause-members : goal.returns-clause-members
returns-clause-members c =
    let es = c.self.inside.members.entries in
    let left : group_entries_in c.shift_remove.new.self.entries ≡ filter (λ m. not (is_group_entry_of c.args.callback m)) (group_entries_in es) =
    ap group_entries_in c.shift_remove.ensures.entries
    ∙ (ap (λ k. group_entries_in (remove_entry (bytes_eq k) es)) c.of.ensures
    ∙ (removed_one c.in-Some.callback es c.len-before.ensures.unique
    ∙ ap (λ o. filter (λ m. not (is_group_entry_of o m)) (group_entries_in es)) (sym c.in-Some.is))) in
    ap (λ ms. let g : GroupView = record { priority = c.self.inside.priority; members = ms } in g) left
    ∙ ap (λ (g : GroupView). with_members (filter (λ m. not (is_group_entry_of c.args.callback m)) g.members) g) c.self.view_is
