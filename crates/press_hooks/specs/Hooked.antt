-- The rows of a table as they are kept: hook by hook in the order of names, each in groups by priority, a group's entries in the order in which they were added.
use Rattle.std.specs.Prelude.{◌≡◌, ℕ, ℤ, List, [], ◌∷◌, ◌++◌, length, Bool, true, false, not, ◌&&◌, cond, int_lt, bytes_eq, Option, Some, None, filter, map, ◌<◌, ◌≤◌, Result, MatchResult}
use Rattle.std.specs.List.{HoldsAt, list_any}
use Rattle.std.specs.List.Sorted.{IsPartitionPoint}
use Rattle.std.specs.Cmp.Lexicographic.{slice_cmp}
use Rattle.std.specs.Ordering.{nat_cmp, int_cmp, int_eq}
use Rattle.std.specs.declared.cmp.Ordering.TheVariants.{Less, Equal, Greater}
use Rattle.press_hooks.specs.declared.row.Row.{Row}
use Rattle.press_hooks.specs.declared.entry.Entry.{Entry}
use Rattle.press_hooks.specs.declared.group_entry.GroupEntry.{GroupEntry}
use Rattle.press_hooks.specs.GroupEntries.{entry_at}
use Rattle.press_hooks.specs.NextEntry.{is_past}

-- the entries of a priority
pub record GroupView : Type 0 where
  pub priority : ℤ
  pub members : List GroupEntry

abbrev pub with_members : List GroupEntry → GroupView → GroupView
with_members members g = record g { members = members }

abbrev pub group_entries : GroupView → List Entry
group_entries g = map (entry_at g.priority) g.members

abbrev pub entries_of : List GroupView → List Entry
entries_of [] = []
entries_of (g ∷ gs) = group_entries g ++ entries_of gs

pub record HookView : Type 0 where
  pub name : List ℕ
  pub groups : List GroupView

abbrev pub hook_entries : HookView → List Entry
hook_entries h = entries_of h.groups

abbrev pub row_of : List ℕ → Entry → Row
row_of hook e = record { hook = hook; priority = e.priority; callback = e.callback; accepted = e.accepted }

abbrev pub hook_rows : HookView → List Row
hook_rows h = map (row_of h.name) (hook_entries h)

abbrev pub table_rows : List HookView → List Row
table_rows [] = []
table_rows (h ∷ hs) = hook_rows h ++ table_rows hs

abbrev pub IsEach : {X : Type 0} → (X → Type 0) → List X → Type 0
IsEach P [] = Unit {0}
IsEach P (x ∷ xs) = P x × IsEach P xs

-- no entry has a lesser priority than one before it
abbrev pub IsByPriority : List Entry → Type 0
IsByPriority [] = Unit {0}
IsByPriority (e ∷ es) = IsEach (λ (f : Entry). int_lt f.priority e.priority ≡ false) es × IsByPriority es

-- each group has a member, and a lesser priority than those behind it
abbrev pub AreGroups : List GroupView → Type 0
AreGroups [] = Unit {0}
AreGroups (g ∷ gs) = (0 < length g.members) × IsEach (λ (h : GroupView). int_lt g.priority h.priority ≡ true) gs × AreGroups gs

-- where the group of that priority is, or else the place between the lesser ones and the greater ones
abbrev pub IsPlaceAt : ℤ → List GroupView → Result ℕ ℕ → Type 0
IsPlaceAt p gs r =
    MatchResult r (λ i. (i < length gs) × HoldsAt (λ (g : GroupView). int_cmp g.priority p ≡ Equal) gs i)
    (λ i. (i ≤ length gs) × IsPartitionPoint (λ (g : GroupView). int_cmp g.priority p ≡ Less) (λ (g : GroupView). int_cmp g.priority p ≡ Greater) gs i)

-- how many groups are at priorities not greater than the one reached
abbrev pub up_to : Option ℤ → List GroupView → ℕ
up_to reached gs = length (filter (λ (g : GroupView). not (is_past reached g.priority)) gs)

-- each name is before those behind it
abbrev pub IsByName : List HookView → Type 0
IsByName [] = Unit {0}
IsByName (h ∷ hs) = IsEach (λ (g : HookView). slice_cmp nat_cmp h.name g.name ≡ Less) hs × IsByName hs

-- where the hook of that name is, or else the place between the names before it and those after it
abbrev pub IsPlaceOf : List ℕ → List HookView → Result ℕ ℕ → Type 0
IsPlaceOf hook hs r =
    MatchResult r (λ i. (i < length hs) × HoldsAt (λ (h : HookView). slice_cmp nat_cmp h.name hook ≡ Equal) hs i)
    (λ i. (i ≤ length hs) × IsPartitionPoint (λ (h : HookView). slice_cmp nat_cmp h.name hook ≡ Less) (λ (h : HookView). slice_cmp nat_cmp h.name hook ≡ Greater) hs i)

-- the groups of the hook of that name
abbrev pub groups_named : List ℕ → List HookView → List GroupView
groups_named name [] = []
groups_named name (h ∷ hs) = cond (bytes_eq h.name name) h.groups (groups_named name hs)

-- the groups of other hooks are as they were
abbrev pub KeepsOthers : List ℕ → List HookView → List HookView → Type 0
KeepsOthers name old new = (other : List ℕ) → bytes_eq other name ≡ false → groups_named other new ≡ groups_named other old

-- whether an entry is of the priority and of the callback, where these are named
abbrev pub is_at : Option ℤ → Entry → Bool
is_at None e = true
is_at (Some p) e = int_eq e.priority p

abbrev pub is_of : Option (List ℕ) → Entry → Bool
is_of None e = true
is_of (Some callback) e = bytes_eq e.callback callback

abbrev pub is_named : Option ℤ → Option (List ℕ) → Entry → Bool
is_named priority callback e = is_at priority e && is_of callback e

-- whether there is an entry of the priority and the callback
abbrev pub has_entry : ℤ → List ℕ → List Entry → Bool
has_entry priority callback es = list_any (λ (e : Entry). bytes_eq e.callback callback) (filter (λ (e : Entry). int_eq e.priority priority) es)

-- the entry with this `accepted`, where it is the one named
abbrev pub accepted_where : ℤ → List ℕ → ℕ → Entry → Entry
accepted_where priority callback accepted e = cond (is_named (Some priority) (Some callback) e) (record e { accepted = accepted }) e

-- before the first entry of a greater priority, or last
abbrev pub put_entry : Entry → List Entry → List Entry
put_entry e [] = e ∷ []
put_entry e (f ∷ fs) = cond (int_lt e.priority f.priority) (e ∷ f ∷ fs) (f ∷ put_entry e fs)

abbrev pub entry_in : Row → Entry
entry_in r = record { priority = r.priority; callback = r.callback; accepted = r.accepted }

abbrev pub is_row_named : List ℕ → Option ℤ → Option (List ℕ) → Row → Bool
is_row_named hook priority callback r = bytes_eq r.hook hook && is_named priority callback (entry_in r)
