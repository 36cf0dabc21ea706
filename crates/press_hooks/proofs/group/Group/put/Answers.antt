use Rattle.std.proofs.Common.{◌≡◌, ◌∙◌, ap, false, bytes_eq, ◌∷◌, ◌++◌, []}
use Rattle.std.specs.List.{list_any}
use Rattle.std.proofs.lemmas.List.{map-append}
use Rattle.indexmap.specs.IndexMap.{insert_entry}
use Rattle.indexmap.proofs.CallerLemmas.{insert_entry-new}
use Rattle.press_hooks.specs.Hooked.{GroupView, with_members}
use Rattle.press_hooks.specs.Keys.{group_entry_in, group_entries_in}
use Rattle.press_hooks.specs.GroupEntries.{group_entry_of}
use Rattle.press_hooks.proofs.Mapped.{absent}
use Rattle.press_hooks.proofs.group.Group.put.Goals as goal

pub returns-clause-put : goal.returns-clause-put
returns-clause-put c =
    let es = c.self.inside.members.entries in
    let callback = c.args.entry.now.callback in
    let accepted = c.args.entry.now.accepted in
    let new : list_any (λ m. bytes_eq m.callback callback) (group_entries_in es) ≡ false =
    ap (λ (g : GroupView). list_any (λ m. bytes_eq m.callback callback) g.members) c.self.view_is ∙ c.requires in
    let inserted : c.insert.new.self.entries ≡ insert_entry bytes_eq es callback accepted =
    c.in_ok-insert.ensures.entries ∙ ap (λ k. insert_entry bytes_eq es k accepted) c.of.ensures in
    let put : group_entries_in c.insert.new.self.entries ≡ group_entries_in es ++ group_entry_of c.args.entry.now ∷ [] =
    ap group_entries_in (inserted ∙ insert_entry-new bytes_eq c.self.inside.members callback accepted (absent callback es new))
    ∙ map-append group_entry_in es ((callback, accepted) ∷ []) in
    ap (λ ms. let g : GroupView = record { priority = c.self.inside.priority; members = ms } in g) put
    ∙ ap (λ (g : GroupView). with_members (g.members ++ group_entry_of c.args.entry.now ∷ []) g) c.self.view_is
