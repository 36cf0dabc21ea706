use Rattle.std.proofs.Common.{◌≡◌, ◌∙◌, ap, sym, map, bytes_eq, None}
use Rattle.std.specs.Map.{lookup, set_value}
use Rattle.press_hooks.specs.Hooked.{GroupView, with_members}
use Rattle.press_hooks.specs.Keys.{group_entries_in}
use Rattle.press_hooks.specs.GroupEntries.{accepted_if}
use Rattle.press_hooks.proofs.Mapped.{accepted_set, not_accepted}
use Rattle.press_hooks.proofs.group.Group.accept.Goals as goal

pub returns-in_default : goal.returns-in_default
returns-in_default c =
    let es = c.self.inside.members.entries in
    let callback = c.args.entry.now.callback in
    let accepted = c.args.entry.now.accepted in
    let none : lookup (bytes_eq callback) es ≡ None = rw (c.in_default.is, c.of.ensures) at (sym c.get_mut.ensures.value) in
    let set : group_entries_in c.get_mut.follows.lender-at-none.entries ≡ map (accepted_if callback accepted) (group_entries_in es) =
    ap (λ m. group_entries_in m.entries) c.get_mut.follows.holds-at-none ∙ not_accepted callback accepted es none in
    ap (λ ms. let g : GroupView = record { priority = c.self.inside.priority; members = ms } in g) set
    ∙ ap (λ (g : GroupView). with_members (map (accepted_if callback accepted) g.members) g) c.self.view_is

pub returns : goal.returns
returns c =
    let es = c.self.inside.members.entries in
    let callback = c.args.entry.now.callback in
    let accepted = c.args.entry.now.accepted in
    let written = (c.get_mut.follows.holds accepted).0 in
    let set : group_entries_in (c.get_mut.follows.lender accepted).entries ≡ map (accepted_if callback accepted) (group_entries_in es) =
    ap group_entries_in written
    ∙ (ap (λ k. group_entries_in (set_value (bytes_eq k) es accepted)) c.of.ensures
    ∙ accepted_set callback accepted es c.get_mut.ensures.unique) in
    ap (λ ms. let g : GroupView = record { priority = c.self.inside.priority; members = ms } in g) set
    ∙ ap (λ (g : GroupView). with_members (map (accepted_if callback accepted) g.members) g) c.self.view_is
