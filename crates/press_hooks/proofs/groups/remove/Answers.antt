use Rattle.std.proofs.Common.{true≢false, ◌==◌, ◌≡◌, ◌∙◌, ap, sym, subst, rules, arith, length, set, to_z, of_z, w64}
use Rattle.std.proofs.lemmas.Int.{to_z-of_z}
use Rattle.press_hooks.specs.Hooked.{AreGroups, entries_of}
use Rattle.press_hooks.proofs.ByPriority.{removed_found, removed_missing, order_removed, order_dropped, empty_removed, length_set}
use Rattle.press_hooks.proofs.groups.remove.Goals as goal

pub returns-in_default-clause-entries : goal.returns-in_default-clause-entries
returns-in_default-clause-entries c =
    let z : to_z w64 (of_z w64 c.args.priority) ≡ c.args.priority = to_z-of_z w64 c.args.priority c.ranges.priority in
    let place = rw (z, c.as_slice.ensures.value) at c.in_default.ensures in
    removed_missing c.args.priority c.args.callback c.args.groups.now.items c.in_default.field-0 place.1

pub returns-else-is_empty-clause-entries : goal.returns-else-is_empty-clause-entries
returns-else-is_empty-clause-entries c =
    let z : to_z w64 (of_z w64 c.args.priority) ≡ c.args.priority = to_z-of_z w64 c.args.priority c.ranges.priority in
    let place = rw (z, c.as_slice.ensures.value) at c.in-Ok.ensures in
    removed_found c.args.priority c.args.callback c.args.groups.now.items c.in-Ok.place c.index_mut.result.now c.remove-gone.new.self c.requires place.0 place.1 c.index_mut.ensures.value c.remove-gone.ensures.members

pub returns-then-is_empty-clause-entries : goal.returns-then-is_empty-clause-entries
returns-then-is_empty-clause-entries c =
    let z : to_z w64 (of_z w64 c.args.priority) ≡ c.args.priority = to_z-of_z w64 c.args.priority c.ranges.priority in
    let place = rw (z, c.as_slice.ensures.value) at c.in-Ok.ensures in
    let none : length c.index.result.now.members ≡ 0 = search rules in
    ap entries_of c.remove.ensures.items
    ∙ (empty_removed c.args.groups.now.items c.in-Ok.place c.index.result.now c.remove-gone.new.self place.0 c.index.ensures none
    ∙ removed_found c.args.priority c.args.callback c.args.groups.now.items c.in-Ok.place c.index_mut.result.now c.remove-gone.new.self c.requires place.0 place.1 c.index_mut.ensures.value c.remove-gone.ensures.members)

pub returns-then-is_empty-clause-order : goal.returns-then-is_empty-clause-order
returns-then-is_empty-clause-order c = subst AreGroups (sym c.remove.ensures.items) (order_dropped c.args.groups.now.items c.in-Ok.place c.remove-gone.new.self c.requires)

pub returns-else-is_empty-clause-order : goal.returns-else-is_empty-clause-order
returns-else-is_empty-clause-order c =
    let place = rw c.as_slice.ensures.value at c.in-Ok.ensures in
    order_removed c.args.groups.now.items c.in-Ok.place c.index_mut.result.now c.index.result.now c.remove-gone.new.self _ c.requires place.0 c.index.ensures (λ e. true≢false (sym (c.is_empty.ensures ∙ ap (λ n. n == 0) e) ∙ c.if-is_empty.false)) c.index_mut.ensures.value c.remove-gone.ensures.members

pub returns-then-is_empty-clause-gone : goal.returns-then-is_empty-clause-gone
returns-then-is_empty-clause-gone c =
    let place = rw c.as_slice.ensures.value at c.in-Ok.ensures in
    let none : length c.index.result.now.members ≡ 0 = search rules in
    let same : length (entries_of c.remove.new.self.items) ≡ length (entries_of (set c.args.groups.now.items c.in-Ok.place c.remove-gone.new.self)) = ap (λ es. length es) (ap entries_of c.remove.ensures.items ∙ empty_removed c.args.groups.now.items c.in-Ok.place c.index.result.now c.remove-gone.new.self place.0 c.index.ensures none) in
    let long = length_set c.args.groups.now.items c.in-Ok.place c.index_mut.result.now c.remove-gone.new.self place.0 in
    let at = ap (λ g. length g.members) c.index_mut.ensures.value in
    let gone = c.remove-gone.ensures.gone in
    omega arith

pub returns-else-is_empty-clause-gone : goal.returns-else-is_empty-clause-gone
returns-else-is_empty-clause-gone c =
    let place = rw c.as_slice.ensures.value at c.in-Ok.ensures in
    let long = length_set c.args.groups.now.items c.in-Ok.place c.index_mut.result.now c.remove-gone.new.self place.0 in
    let at = ap (λ g. length g.members) c.index_mut.ensures.value in
    let gone = c.remove-gone.ensures.gone in
    omega arith
