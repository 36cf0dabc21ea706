-- The group that is at the cursor of a run is the next one of its hook.
use Rattle.std.proofs.Common.{◌≡◌, refl, sym, ◌∙◌, ap, subst, ℕ, zero, suc, ◌+◌, ◌<◌, ◌≤◌, nat_eq, Bool, true, false, not, List, [], ◌∷◌, ◌++◌, map, filter, length, get_or, drop, Some, int_eq, arith}
use Rattle.std.specs.Prelude.{◌&&◌, is_some, option_map}
use Rattle.std.specs.List.{list_any}
use Rattle.std.proofs.lemmas.Bool.{eqb-true}
use Rattle.press_hooks.specs.declared.row.Row.{Row}
use Rattle.press_hooks.specs.declared.entry.Entry.{Entry}
use Rattle.press_hooks.specs.declared.group_entry.GroupEntry.{GroupEntry}
use Rattle.press_hooks.specs.declared.open_run.OpenRun.{OpenRun}
use Rattle.press_hooks.specs.HookRows.{is_of_hook}
use Rattle.press_hooks.specs.NextEntry.{is_past, first_of, refilled_run, next_priority, is_done, moves_on}
use Rattle.press_hooks.specs.GroupEntries.{entry_at}
use Rattle.press_hooks.specs.Hooked.{GroupView, group_entries, entries_of, row_of, AreGroups, up_to}
use Rattle.press_hooks.specs.Placed.{at_group}
use Rattle.press_hooks.proofs.ByPriority.{order_entries, order_drop, ahead_entries, first_priority, first_entries, next_up_to}
use Rattle.press_hooks.proofs.OfHook.{next_is, ended, moved}

drop_at : (gs : List GroupView) (i : ℕ) (d : GroupView) → i < length gs → drop i gs ≡ get_or gs i d ∷ drop (i + 1) gs
drop_at [] i d lt = absurd (omega arith)
drop_at (g ∷ gs) zero d lt = refl
drop_at (g ∷ gs) (suc i) d lt = let lt' : i < length gs = omega arith in let k : suc i + 1 ≡ suc (i + 1) = omega arith in rw k (drop_at gs i d lt')

drop_past : (gs : List GroupView) (i : ℕ) → length gs ≤ i → drop i gs ≡ []
drop_past [] zero le = refl
drop_past [] (suc i) le = refl
drop_past (g ∷ gs) zero le = absurd (omega arith)
drop_past (g ∷ gs) (suc i) le = let le' : length gs ≤ i = omega arith in drop_past gs i le'

module _ (rows : List Row) (run : OpenRun) (gs : List GroupView) (i : ℕ) (h : filter (is_of_hook run.hook) rows ≡ map (row_of run.hook) (entries_of gs)) (o : AreGroups gs) (at : i ≡ up_to run.reached gs) (done : run.rest ≡ []) where
  ahead : entries_of (drop i gs) ≡ filter (λ (e : Entry). is_past run.reached e.priority) (entries_of gs)
  ahead = ap (λ n. entries_of (drop n gs)) at ∙ sym (ahead_entries run.reached gs o)

  pub no_group : length gs ≤ i → run ≡ refilled_run rows run
  no_group le =
      sym (ended rows run (entries_of gs) (entries_of (drop i gs)) h (order_entries gs o) ahead done (ap (λ fs. option_map (λ (e : Entry). e.priority) (first_of (entries_of fs))) (drop_past gs i le)))

  module _ (g : GroupView) (lt : i < length gs) (is : g ≡ get_or gs i g) where
    split : drop i gs ≡ g ∷ drop (i + 1) gs
    split = drop_at gs i g lt ∙ ap (λ (f : GroupView). f ∷ drop (i + 1) gs) (sym is)

    order : AreGroups (g ∷ drop (i + 1) gs)
    order = subst AreGroups split (order_drop gs i o)

    first : option_map (λ (e : Entry). e.priority) (first_of (entries_of (drop i gs))) ≡ Some g.priority
    first = ap (λ fs. option_map (λ (e : Entry). e.priority) (first_of (entries_of fs))) split ∙ first_priority g (drop (i + 1) gs) order

    pub next_group : at_group g run ≡ refilled_run rows run
    next_group =
        let mine : filter (λ (e : Entry). int_eq e.priority g.priority) (entries_of (drop i gs)) ≡ group_entries g = ap (λ fs. filter (λ (e : Entry). int_eq e.priority g.priority) (entries_of fs)) split ∙ first_entries g (drop (i + 1) gs) order in
        let at_entries : List Entry → OpenRun = λ es. record { hook = run.hook; reached = Some g.priority; rest = es } in
        sym (moved rows run (entries_of gs) (entries_of (drop i gs)) h (order_entries gs o) ahead done g.priority first ∙ ap at_entries mine)

    pub next_moves_on : moves_on rows run ≡ true
    next_moves_on =
        let some : next_priority rows run ≡ Some g.priority = next_is rows run (entries_of gs) (entries_of (drop i gs)) h (order_entries gs o) ahead done ∙ first in
        ap (λ es. is_done es && is_some (next_priority rows run)) done ∙ ap (λ p. is_some p) some

-- the cursor behind the group reached
pub behind_group : (gs : List GroupView) (i : ℕ) (g : GroupView) → AreGroups gs → i < length gs → g ≡ get_or gs i g → i + 1 ≡ up_to (Some g.priority) gs
behind_group gs i g o lt is = sym (ap (λ (f : GroupView). up_to (Some f.priority) gs) is ∙ next_up_to gs i g o lt)

-- ---- what the rows of a hook say where it has groups

pub some_group : (gs : List GroupView) (b : Bool) → AreGroups gs → b ≡ nat_eq (length gs) 0 → not b ≡ list_any (λ (e : Entry). true) (entries_of gs)
some_group [] b o e = ap not e
some_group (g ∷ gs) b o e = ap not (e ∙ not_zero (length gs) (nat_eq (suc (length gs)) 0) refl) ∙ filled g.members o.0
  where
    not_zero : (n : ℕ) (b : Bool) → nat_eq (suc n) 0 ≡ b → b ≡ false
    not_zero n true k = let e : suc n ≡ 0 = eqb-true (suc n) 0 k in absurd (omega arith)
    not_zero n false k = refl

    filled : (ms : List GroupEntry) → 0 < length ms → true ≡ list_any (λ (e : Entry). true) (map (entry_at g.priority) ms ++ entries_of gs)
    filled [] lt = absurd (omega arith)
    filled (m ∷ ms) lt = refl
