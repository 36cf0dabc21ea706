-- Hooks in the order of names: what the rows of the one named are, and what an edit of it makes of all rows.
use Rattle.std.proofs.Common.{◌≡◌, refl, sym, true≢false, ◌∙◌, ap, ap₂, subst, ℕ, zero, suc, ◌+◌, ◌<◌, ◌≤◌, ℤ, Bool, true, false, not, cond, List, [], ◌∷◌, ◌++◌, map, filter, length, get_or, set, insert, Option, Some, None, Result, Ok, Err, int_lt, bytes_eq, length-append, arith}
use Rattle.std.specs.Prelude.{◌&&◌, remove}
use Rattle.std.specs.List.{AllWithin, HoldsAt}
use Rattle.std.specs.List.Sorted.{IsNonDecreasingBy, IsPartitionPoint, IsSearchInRange, IsBinarySearchResult}
use Rattle.std.specs.Cmp.Lexicographic.{slice_cmp}
use Rattle.std.specs.Ordering.{nat_cmp, is_eq, ordering_reverse, ordering_index}
use Rattle.std.specs.declared.cmp.Ordering.{Ordering}
use Rattle.std.specs.declared.cmp.Ordering.TheVariants.{Less, Equal, Greater}
use Rattle.std.proofs.lemmas.Cmp.{nat_list_cmp_total, tied_itself}
use Rattle.std.proofs.lemmas.Map.Text.{is_eq-slice_cmp}
use Rattle.std.proofs.lemmas.Slice.Eq.{bytes_eq-Decides}
use Rattle.press_hooks.specs.declared.row.Row.{Row}
use Rattle.press_hooks.specs.declared.entry.Entry.{Entry}
use Rattle.press_hooks.specs.HookRows.{is_of_hook, stands_after, put_row, accepted_as}
use Rattle.press_hooks.specs.Hooked.{HookView, hook_entries, row_of, hook_rows, table_rows, groups_named, KeepsOthers, IsEach, IsByName, IsPlaceOf, put_entry, accepted_where, is_named, is_row_named}
use Rattle.press_hooks.proofs.Cuts.{each_at, length_mapped, filter_joined, map_joined, append_none}
use Rattle.press_hooks.proofs.Numbers.{put_before, put_is}

-- ---- how two names stand to each other

same_where : (a b : List ℕ) (o : Ordering) → slice_cmp nat_cmp a b ≡ o → bytes_eq a b ≡ is_eq o
same_where a b o e = sym (is_eq-slice_cmp a b) ∙ ap is_eq e

turned : (a b : List ℕ) (o : Ordering) → slice_cmp nat_cmp a b ≡ o → slice_cmp nat_cmp b a ≡ ordering_reverse o
turned a b o e = nat_list_cmp_total.antisymm b a ∙ ap ordering_reverse e

tied_by : (o : Ordering) → is_eq o ≡ true → o ≡ Equal
tied_by Less e = cc
tied_by Equal e = refl
tied_by Greater e = cc

tied : (a b : List ℕ) → bytes_eq a b ≡ true → slice_cmp nat_cmp a b ≡ Equal
tied a b e = tied_by (slice_cmp nat_cmp a b) (is_eq-slice_cmp a b ∙ e)

equal : (a b : List ℕ) → slice_cmp nat_cmp a b ≡ Equal → a ≡ b
equal a b e = (bytes_eq-Decides a b).0 (same_where a b Equal e)

-- ---- the rows of one hook

kept_rows : (n name : List ℕ) (es : List Entry) → bytes_eq name n ≡ true → filter (is_of_hook n) (map (row_of name) es) ≡ map (row_of name) es
kept_rows n name [] e = refl
kept_rows n name (x ∷ xs) e = ap (λ c. cond c (row_of name x ∷ filter (is_of_hook n) (map (row_of name) xs)) (filter (is_of_hook n) (map (row_of name) xs))) e ∙ ap (λ zs. row_of name x ∷ zs) (kept_rows n name xs e)

no_rows_kept : (n name : List ℕ) (es : List Entry) → bytes_eq name n ≡ false → filter (is_of_hook n) (map (row_of name) es) ≡ []
no_rows_kept n name [] e = refl
no_rows_kept n name (x ∷ xs) e = ap (λ c. cond c (row_of name x ∷ filter (is_of_hook n) (map (row_of name) xs)) (filter (is_of_hook n) (map (row_of name) xs))) e ∙ no_rows_kept n name xs e

-- none of these hooks is of the name
others_none : (n : List ℕ) (hs : List HookView) → IsEach (λ (h : HookView). bytes_eq h.name n ≡ false) hs → filter (is_of_hook n) (table_rows hs) ≡ []
others_none n [] o = refl
others_none n (h ∷ hs) o =
    filter_joined (is_of_hook n) (hook_rows h) (table_rows hs)
    ∙ (ap (λ xs. xs ++ filter (is_of_hook n) (table_rows hs)) (no_rows_kept n h.name (hook_entries h) o.0) ∙ others_none n hs o.1)

-- hooks behind one of that name are of other names
behind_others : (n : List ℕ) (h : HookView) (hs : List HookView) → slice_cmp nat_cmp h.name n ≡ Equal → IsEach (λ (g : HookView). slice_cmp nat_cmp h.name g.name ≡ Less) hs → IsEach (λ (g : HookView). slice_cmp nat_cmp g.name n ≡ Greater) hs
behind_others n h [] e o = tt
behind_others n h (g ∷ gs) e o =
    let same : h.name ≡ n = equal h.name n e in
    let less : slice_cmp nat_cmp n g.name ≡ Less = ap (λ m. slice_cmp nat_cmp m g.name) (sym same) ∙ o.0 in
    (turned n g.name Less less, behind_others n h gs e o.1)

unlike_greater : (n : List ℕ) (hs : List HookView) → IsEach (λ (g : HookView). slice_cmp nat_cmp g.name n ≡ Greater) hs → IsEach (λ (g : HookView). bytes_eq g.name n ≡ false) hs
unlike_greater n [] o = tt
unlike_greater n (g ∷ gs) o = (same_where g.name n Greater o.0, unlike_greater n gs o.1)

-- a hook before one of that name is of another
before_one : (n : List ℕ) (h : HookView) (hs : List HookView) (i : ℕ) → IsEach (λ (g : HookView). slice_cmp nat_cmp h.name g.name ≡ Less) hs → i < length hs → HoldsAt (λ (g : HookView). slice_cmp nat_cmp g.name n ≡ Equal) hs i → slice_cmp nat_cmp h.name n ≡ Less
before_one n h hs i o lt at =
    let here : slice_cmp nat_cmp h.name (get_or hs i h).name ≡ Less = each_at (λ (g : HookView). slice_cmp nat_cmp h.name g.name ≡ Less) hs i h o lt in
    let same : (get_or hs i h).name ≡ n = equal (get_or hs i h).name n (at h) in
    ap (slice_cmp nat_cmp h.name) (sym same) ∙ here

pub found_rows : (n : List ℕ) (hs : List HookView) (i : ℕ) (d : HookView) → IsByName hs → i < length hs → HoldsAt (λ (g : HookView). slice_cmp nat_cmp g.name n ≡ Equal) hs i → filter (is_of_hook n) (table_rows hs) ≡ map (row_of n) (hook_entries (get_or hs i d))
found_rows n [] i d o lt at = absurd (omega arith)
found_rows n (h ∷ hs) zero d o lt at =
    let e : slice_cmp nat_cmp h.name n ≡ Equal = at h in
    filter_joined (is_of_hook n) (hook_rows h) (table_rows hs)
    ∙ (ap (λ ys. filter (is_of_hook n) (hook_rows h) ++ ys) (others_none n hs (unlike_greater n hs (behind_others n h hs e o.0)))
    ∙ (append_none (filter (is_of_hook n) (hook_rows h))
    ∙ (kept_rows n h.name (hook_entries h) (same_where h.name n Equal e) ∙ ap (λ m. map (row_of m) (hook_entries h)) (equal h.name n e))))
found_rows n (h ∷ hs) (suc i) d o lt at =
    let lt' : i < length hs = omega arith in
    let less : slice_cmp nat_cmp h.name n ≡ Less = before_one n h hs i o.0 lt' (λ g. at g) in
    filter_joined (is_of_hook n) (hook_rows h) (table_rows hs)
    ∙ (ap (λ xs. xs ++ filter (is_of_hook n) (table_rows hs)) (no_rows_kept n h.name (hook_entries h) (same_where h.name n Less less))
    ∙ found_rows n hs i d o.1 lt' (λ g. at g))

split_unlike : (n : List ℕ) (hs : List HookView) (i : ℕ) → AllWithin (λ (g : HookView). slice_cmp nat_cmp g.name n ≡ Less) hs 0 i → AllWithin (λ (g : HookView). slice_cmp nat_cmp g.name n ≡ Greater) hs i (length hs) → IsEach (λ (g : HookView). bytes_eq g.name n ≡ false) hs
split_unlike n [] i low high = tt
split_unlike n (h ∷ hs) zero low high =
    let at : slice_cmp nat_cmp h.name n ≡ Greater = high 0 h (omega arith) (omega arith) in
    (same_where h.name n Greater at, split_unlike n hs 0 (λ k d a b. absurd (omega arith)) (λ k d a b. high (suc k) d (omega arith) (omega arith)))
split_unlike n (h ∷ hs) (suc i) low high =
    let at : slice_cmp nat_cmp h.name n ≡ Less = low 0 h (omega arith) (omega arith) in
    (same_where h.name n Less at, split_unlike n hs i (λ k d a b. low (suc k) d (omega arith) (omega arith)) (λ k d a b. high (suc k) d (omega arith) (omega arith)))

pub missing_rows : (n : List ℕ) (hs : List HookView) (i : ℕ) → IsPartitionPoint (λ (g : HookView). slice_cmp nat_cmp g.name n ≡ Less) (λ (g : HookView). slice_cmp nat_cmp g.name n ≡ Greater) hs i → filter (is_of_hook n) (table_rows hs) ≡ []
missing_rows n hs i p = others_none n hs (split_unlike n hs i p.0 p.1)

-- ---- the binary search

rank_less : (a b n : List ℕ) (o : Ordering) → slice_cmp nat_cmp a b ≡ Less → slice_cmp nat_cmp b n ≡ o → ordering_index (slice_cmp nat_cmp a n) ≤ ordering_index o
rank_less a b n Less l e = let k : slice_cmp nat_cmp a n ≡ Less = nat_list_cmp_total.trans a b n l e in rw k (omega arith)
rank_less a b n Equal l e = let k : slice_cmp nat_cmp a n ≡ Less = ap (slice_cmp nat_cmp a) (sym (equal b n e)) ∙ l in rw k (omega arith)
rank_less a b n Greater l e = top (slice_cmp nat_cmp a n)
  where
    top : (o : Ordering) → ordering_index o ≤ 2
    top Less = omega arith
    top Equal = omega arith
    top Greater = omega arith

pub rising : (n : List ℕ) (hs : List HookView) → IsByName hs → IsNonDecreasingBy (λ (g : HookView). ordering_index (slice_cmp nat_cmp g.name n)) hs
rising n [] o i j d le lt = absurd (omega arith)
rising n (h ∷ hs) o zero zero d le lt = omega arith
rising n (h ∷ hs) o zero (suc j) d le lt =
    let lt' : j < length hs = omega arith in
    rank_less h.name (get_or hs j d).name n (slice_cmp nat_cmp (get_or hs j d).name n) (each_at (λ (g : HookView). slice_cmp nat_cmp h.name g.name ≡ Less) hs j d o.0 lt') refl
rising n (h ∷ hs) o (suc i) zero d le lt = absurd (omega arith)
rising n (h ∷ hs) o (suc i) (suc j) d le lt =
    let le' : i ≤ j = omega arith in
    let lt' : j < length hs = omega arith in
    rising n hs o.1 i j d le' lt'

-- ---- an edit of the hook named, which leaves the rows of others as they are

module _ (n : List ℕ) (f : List Row → List Row) (joins : (xs ys : List Row) → f (xs ++ ys) ≡ f xs ++ f ys) (none : f [] ≡ [])
    (skips : (h : HookView) → bytes_eq h.name n ≡ false → f (hook_rows h) ≡ hook_rows h) where
  pub others_same : (hs : List HookView) → IsEach (λ (h : HookView). bytes_eq h.name n ≡ false) hs → f (table_rows hs) ≡ table_rows hs
  others_same [] o = none
  others_same (h ∷ hs) o =
      joins (hook_rows h) (table_rows hs)
      ∙ (ap (λ xs. xs ++ f (table_rows hs)) (skips h o.0) ∙ ap (λ ys. hook_rows h ++ ys) (others_same hs o.1))

  pub edited : (hs : List HookView) (i : ℕ) (d h' : HookView) → IsByName hs → i < length hs → HoldsAt (λ (g : HookView). slice_cmp nat_cmp g.name n ≡ Equal) hs i → hook_rows h' ≡ f (hook_rows (get_or hs i d)) → table_rows (set hs i h') ≡ f (table_rows hs)
  edited [] i d h' o lt at e = absurd (omega arith)
  edited (h ∷ hs) zero d h' o lt at e =
      let rest : f (table_rows hs) ≡ table_rows hs = others_same hs (unlike_greater n hs (behind_others n h hs (at h) o.0)) in
      ap (λ xs. xs ++ table_rows hs) e ∙ (ap (λ ys. f (hook_rows h) ++ ys) (sym rest) ∙ sym (joins (hook_rows h) (table_rows hs)))
  edited (h ∷ hs) (suc i) d h' o lt at e =
      let lt' : i < length hs = omega arith in
      let less : slice_cmp nat_cmp h.name n ≡ Less = before_one n h hs i o.0 lt' (λ g. at g) in
      let rest : table_rows (set hs i h') ≡ f (table_rows hs) = edited hs i d h' o.1 lt' (λ g. at g) e in
      ap (λ ys. hook_rows h ++ ys) rest ∙ (ap (λ xs. xs ++ f (table_rows hs)) (sym (skips h (same_where h.name n Less less))) ∙ sym (joins (hook_rows h) (table_rows hs)))

-- ---- names in order after an edit

order_set_each : (P : List ℕ → Type 0) (hs : List HookView) (i : ℕ) (d h' : HookView) → i < length hs → h'.name ≡ (get_or hs i d).name → IsEach (λ (g : HookView). P g.name) hs → IsEach (λ (g : HookView). P g.name) (set hs i h')
order_set_each P [] i d h' lt e o = absurd (omega arith)
order_set_each P (h ∷ hs) zero d h' lt e o = (subst P (sym e) o.0, o.1)
order_set_each P (h ∷ hs) (suc i) d h' lt e o = let lt' : i < length hs = omega arith in (o.0, order_set_each P hs i d h' lt' e o.1)

pub order_set : (hs : List HookView) (i : ℕ) (d h' : HookView) → i < length hs → h'.name ≡ (get_or hs i d).name → IsByName hs → IsByName (set hs i h')
order_set [] i d h' lt e o = absurd (omega arith)
order_set (h ∷ hs) zero d h' lt e o = (subst (λ m. IsEach (λ (g : HookView). slice_cmp nat_cmp m g.name ≡ Less) hs) (sym e) o.0, o.1)
order_set (h ∷ hs) (suc i) d h' lt e o =
    let lt' : i < length hs = omega arith in
    (order_set_each (λ m. slice_cmp nat_cmp h.name m ≡ Less) hs i d h' lt' e o.0, order_set hs i d h' lt' e o.1)

each_removed : (P : HookView → Type 0) (hs : List HookView) (i : ℕ) → IsEach P hs → IsEach P (remove hs i)
each_removed P [] zero o = tt
each_removed P [] (suc i) o = tt
each_removed P (h ∷ hs) zero o = o.1
each_removed P (h ∷ hs) (suc i) o = (o.0, each_removed P hs i o.1)

pub order_remove : (hs : List HookView) (i : ℕ) → IsByName hs → IsByName (remove hs i)
order_remove [] zero o = tt
order_remove [] (suc i) o = tt
order_remove (h ∷ hs) zero o = o.1
order_remove (h ∷ hs) (suc i) o = (each_removed (λ (g : HookView). slice_cmp nat_cmp h.name g.name ≡ Less) hs i o.0, order_remove hs i o.1)

-- a hook without an entry has no row
pub removed_rows : (hs : List HookView) (i : ℕ) (d : HookView) → i < length hs → (hook_entries (get_or hs i d)) ≡ [] → table_rows (remove hs i) ≡ table_rows hs
removed_rows [] i d lt e = absurd (omega arith)
removed_rows (h ∷ hs) zero d lt e = ap (λ es. map (row_of h.name) es ++ table_rows hs) (sym e)
removed_rows (h ∷ hs) (suc i) d lt e = let lt' : i < length hs = omega arith in ap (λ ys. hook_rows h ++ ys) (removed_rows hs i d lt' e)

each_inserted : (P : HookView → Type 0) (x : HookView) (hs : List HookView) (i : ℕ) → P x → IsEach P hs → IsEach P (insert hs i x)
each_inserted P x [] zero a o = (a, tt)
each_inserted P x [] (suc i) a o = (a, tt)
each_inserted P x (h ∷ hs) zero a o = (a, o)
each_inserted P x (h ∷ hs) (suc i) a o = (o.0, each_inserted P x hs i a o.1)

all_behind : (x : HookView) (hs : List HookView) → AllWithin (λ (g : HookView). slice_cmp nat_cmp g.name x.name ≡ Greater) hs 0 (length hs) → IsEach (λ (g : HookView). slice_cmp nat_cmp x.name g.name ≡ Less) hs
all_behind x [] high = tt
all_behind x (h ∷ hs) high = (turned h.name x.name Greater (high 0 h (omega arith) (omega arith)), all_behind x hs (λ k d a b. high (suc k) d (omega arith) (omega arith)))

pub order_insert : (x : HookView) (hs : List HookView) (i : ℕ) → i ≤ length hs → AllWithin (λ (g : HookView). slice_cmp nat_cmp g.name x.name ≡ Less) hs 0 i → AllWithin (λ (g : HookView). slice_cmp nat_cmp g.name x.name ≡ Greater) hs i (length hs) → IsByName hs → IsByName (insert hs i x)
order_insert x [] zero le low high o = (tt, tt)
order_insert x [] (suc i) le low high o = absurd (omega arith)
order_insert x (h ∷ hs) zero le low high o = (all_behind x (h ∷ hs) high, o)
order_insert x (h ∷ hs) (suc i) le low high o =
    let at : slice_cmp nat_cmp h.name x.name ≡ Less = low 0 h (omega arith) (omega arith) in
    let le' : i ≤ length hs = omega arith in (
      each_inserted (λ (g : HookView). slice_cmp nat_cmp h.name g.name ≡ Less) x hs i at o.0,
      order_insert x hs i le' (λ k d a b. low (suc k) d (omega arith) (omega arith)) (λ k d a b. high (suc k) d (omega arith) (omega arith)) o.1,
    )

-- ---- a row more

after_where : (n name : List ℕ) (p q : ℤ) (o : Ordering) → slice_cmp nat_cmp n name ≡ o → (e : Entry) → e.priority ≡ q → stands_after n p (row_of name e) ≡ elim o [ Less ↦ true | Equal ↦ int_lt p q | Greater ↦ false ]
after_where n name p q o k e h = ap (λ (w : Ordering). elim w [ Less ↦ true | Equal ↦ int_lt p e.priority | Greater ↦ false ]) k ∙ ap (λ z. elim o [ Less ↦ true | Equal ↦ int_lt p z | Greater ↦ false ]) h

-- behind rows of a name before it
put_behind : (n : List ℕ) (r : Row) (name : List ℕ) (es : List Entry) (ys : List Row) → slice_cmp nat_cmp n name ≡ Greater → put_before (stands_after n r.priority) r (map (row_of name) es ++ ys) ≡ map (row_of name) es ++ put_before (stands_after n r.priority) r ys
put_behind n r name [] ys k = refl
put_behind n r name (e ∷ es) ys k =
    let rows : List Row = map (row_of name) es ++ ys in
    ap (λ c. cond c (r ∷ row_of name e ∷ rows) (row_of name e ∷ put_before (stands_after n r.priority) r rows)) (after_where n name r.priority e.priority Greater k e refl)
    ∙ ap (λ zs. row_of name e ∷ zs) (put_behind n r name es ys k)

-- before rows of names behind it
put_first_by : (n : List ℕ) (r : Row) (name : List ℕ) (es : List Entry) (ys : List Row) → slice_cmp nat_cmp n name ≡ Less → put_before (stands_after n r.priority) r ys ≡ r ∷ ys → put_before (stands_after n r.priority) r (map (row_of name) es ++ ys) ≡ r ∷ (map (row_of name) es ++ ys)
put_first_by n r name [] ys k ih = ih
put_first_by n r name (e ∷ es) ys k ih =
    let rows : List Row = map (row_of name) es ++ ys in
    ap (λ c. cond c (r ∷ row_of name e ∷ rows) (row_of name e ∷ put_before (stands_after n r.priority) r rows)) (after_where n name r.priority e.priority Less k e refl)

put_first : (n : List ℕ) (r : Row) (hs : List HookView) → IsEach (λ (h : HookView). slice_cmp nat_cmp n h.name ≡ Less) hs → put_before (stands_after n r.priority) r (table_rows hs) ≡ r ∷ table_rows hs
put_first n r [] o = refl
put_first n r (h ∷ hs) o = put_first_by n r h.name (hook_entries h) (table_rows hs) o.0 (put_first n r hs o.1)

-- among the rows of its hook
put_among_by : (n : List ℕ) (e f : Entry) (fs gs : List Entry) (ys zs : List Row) (c : Bool) → zs ≡ map (row_of n) gs ++ ys → cond c (row_of n e ∷ row_of n f ∷ (map (row_of n) fs ++ ys)) (row_of n f ∷ zs) ≡ map (row_of n) (cond c (e ∷ f ∷ fs) (f ∷ gs)) ++ ys
put_among_by n e f fs gs ys zs true k = refl
put_among_by n e f fs gs ys zs false k = ap (λ ws. row_of n f ∷ ws) k

put_among : (n : List ℕ) (e : Entry) (es : List Entry) (ys : List Row) → put_before (stands_after n e.priority) (row_of n e) ys ≡ row_of n e ∷ ys → put_before (stands_after n e.priority) (row_of n e) (map (row_of n) es ++ ys) ≡ map (row_of n) (put_entry e es) ++ ys
put_among n e [] ys ih = ih
put_among n e (f ∷ fs) ys ih =
    let rows : List Row = map (row_of n) fs ++ ys in
    ap (λ c. cond c (row_of n e ∷ row_of n f ∷ rows) (row_of n f ∷ put_before (stands_after n e.priority) (row_of n e) rows)) (after_where n n e.priority f.priority Equal (tied_itself nat_list_cmp_total n) f refl)
    ∙ put_among_by n e f fs (put_entry e fs) ys (put_before (stands_after n e.priority) (row_of n e) rows) (int_lt e.priority f.priority) (put_among n e fs ys ih)

found_put : (n : List ℕ) (e : Entry) (hs : List HookView) (i : ℕ) (d h' : HookView) → IsByName hs → i < length hs → HoldsAt (λ (g : HookView). slice_cmp nat_cmp g.name n ≡ Equal) hs i → hook_rows h' ≡ map (row_of n) (put_entry e (hook_entries (get_or hs i d))) → table_rows (set hs i h') ≡ put_before (stands_after n e.priority) (row_of n e) (table_rows hs)
found_put n e [] i d h' o lt at k = absurd (omega arith)
found_put n e (h ∷ hs) zero d h' o lt at k =
    let same : h.name ≡ n = equal h.name n (at h) in
    let first : put_before (stands_after n e.priority) (row_of n e) (table_rows hs) ≡ row_of n e ∷ table_rows hs = put_first n (row_of n e) hs (all_turned hs (behind_others n h hs (at h) o.0)) in
    ap (λ xs. xs ++ table_rows hs) k
    ∙ (sym (put_among n e (hook_entries h) (table_rows hs) first) ∙ ap (λ m. put_before (stands_after n e.priority) (row_of n e) (map (row_of m) (hook_entries h) ++ table_rows hs)) (sym same))
  where
    all_turned : (gs : List HookView) → IsEach (λ (g : HookView). slice_cmp nat_cmp g.name n ≡ Greater) gs → IsEach (λ (g : HookView). slice_cmp nat_cmp n g.name ≡ Less) gs
    all_turned [] q = tt
    all_turned (g ∷ gs) q = (turned g.name n Greater q.0, all_turned gs q.1)
found_put n e (h ∷ hs) (suc i) d h' o lt at k =
    let lt' : i < length hs = omega arith in
    let less : slice_cmp nat_cmp h.name n ≡ Less = before_one n h hs i o.0 lt' (λ g. at g) in
    ap (λ ys. hook_rows h ++ ys) (found_put n e hs i d h' o.1 lt' (λ g. at g) k) ∙ sym (put_behind n (row_of n e) h.name (hook_entries h) (table_rows hs) (turned h.name n Less less))

missing_put : (e : Entry) (x : HookView) (hs : List HookView) (i : ℕ) → (hook_entries x) ≡ e ∷ [] → i ≤ length hs → AllWithin (λ (g : HookView). slice_cmp nat_cmp g.name x.name ≡ Less) hs 0 i → AllWithin (λ (g : HookView). slice_cmp nat_cmp g.name x.name ≡ Greater) hs i (length hs) → table_rows (insert hs i x) ≡ put_before (stands_after x.name e.priority) (row_of x.name e) (table_rows hs)
missing_put e x [] zero k le low high = ap (λ es. map (row_of x.name) es ++ []) k
missing_put e x [] (suc i) k le low high = absurd (omega arith)
missing_put e x (h ∷ hs) zero k le low high =
    ap (λ es. map (row_of x.name) es ++ table_rows (h ∷ hs)) k ∙ sym (put_first x.name (row_of x.name e) (h ∷ hs) (all_behind x (h ∷ hs) high))
missing_put e x (h ∷ hs) (suc i) k le low high =
    let at : slice_cmp nat_cmp h.name x.name ≡ Less = low 0 h (omega arith) (omega arith) in
    let le' : i ≤ length hs = omega arith in
    let rest : table_rows (insert hs i x) ≡ put_before (stands_after x.name e.priority) (row_of x.name e) (table_rows hs) = missing_put e x hs i k le' (λ j d a b. low (suc j) d (omega arith) (omega arith)) (λ j d a b. high (suc j) d (omega arith) (omega arith)) in
    ap (λ ys. hook_rows h ++ ys) rest ∙ sym (put_behind x.name (row_of x.name e) h.name (hook_entries h) (table_rows hs) (turned h.name x.name Less at))

-- the rows of a changed hook, which keeps its name
changed_rows : (n : List ℕ) (hs : List HookView) (i : ℕ) (d h' : HookView) (es : List Entry → List Entry) → HoldsAt (λ (g : HookView). slice_cmp nat_cmp g.name n ≡ Equal) hs i → d ≡ get_or hs i d → h'.name ≡ d.name → hook_entries h' ≡ es (hook_entries d) → hook_rows h' ≡ map (row_of n) (es (hook_entries (get_or hs i d)))
changed_rows n hs i d h' es at x k e =
    let name : h'.name ≡ n = k ∙ (ap (λ (g : HookView). g.name) x ∙ equal (get_or hs i d).name n (at d)) in
    ap (λ m. map (row_of m) (hook_entries h')) name ∙ ap (map (row_of n)) (e ∙ ap (λ (g : HookView). es (hook_entries g)) x)

pub put_found : (n : List ℕ) (e : Entry) (hs : List HookView) (i : ℕ) (d h' : HookView) → IsByName hs → i < length hs → HoldsAt (λ (g : HookView). slice_cmp nat_cmp g.name n ≡ Equal) hs i → d ≡ get_or hs i d → h'.name ≡ d.name → hook_entries h' ≡ put_entry e (hook_entries d) → table_rows (set hs i h') ≡ put_row (row_of n e) (table_rows hs)
put_found n e hs i d h' o lt at x k es =
    found_put n e hs i d h' o lt at (changed_rows n hs i d h' (put_entry e) at x k es) ∙ sym (put_is (row_of n e) (table_rows hs))

parts_of : (n m : List ℕ) (hs : List HookView) (i : ℕ) → m ≡ n → IsPartitionPoint (λ (g : HookView). slice_cmp nat_cmp g.name n ≡ Less) (λ (g : HookView). slice_cmp nat_cmp g.name n ≡ Greater) hs i → IsPartitionPoint (λ (g : HookView). slice_cmp nat_cmp g.name m ≡ Less) (λ (g : HookView). slice_cmp nat_cmp g.name m ≡ Greater) hs i
parts_of n m hs i k p = subst (λ l. IsPartitionPoint (λ (g : HookView). slice_cmp nat_cmp g.name l ≡ Less) (λ (g : HookView). slice_cmp nat_cmp g.name l ≡ Greater) hs i) (sym k) p

pub put_missing : (n : List ℕ) (e : Entry) (x : HookView) (hs : List HookView) (i : ℕ) → x.name ≡ n → hook_entries x ≡ e ∷ [] → i ≤ length hs → IsPartitionPoint (λ (g : HookView). slice_cmp nat_cmp g.name n ≡ Less) (λ (g : HookView). slice_cmp nat_cmp g.name n ≡ Greater) hs i → table_rows (insert hs i x) ≡ put_row (row_of n e) (table_rows hs)
put_missing n e x hs i k es le p =
    let parts = parts_of n x.name hs i k p in
    missing_put e x hs i es le parts.0 parts.1
    ∙ (ap (λ m. put_before (stands_after m e.priority) (row_of m e) (table_rows hs)) k ∙ sym (put_is (row_of n e) (table_rows hs)))

pub order_missing : (n : List ℕ) (x : HookView) (hs : List HookView) (i : ℕ) → x.name ≡ n → i ≤ length hs → IsPartitionPoint (λ (g : HookView). slice_cmp nat_cmp g.name n ≡ Less) (λ (g : HookView). slice_cmp nat_cmp g.name n ≡ Greater) hs i → IsByName hs → IsByName (insert hs i x)
order_missing n x hs i k le p o = let parts = parts_of n x.name hs i k p in order_insert x hs i le parts.0 parts.1 o

-- ---- the row named with its `accepted`

module _ (n : List ℕ) (p : ℤ) (c : List ℕ) (a : ℕ) where
  accepted_row_by : (e : Entry) (b s : Bool) → s ≡ true → elim (s && b) [ true ↦ (let r : Row = row_of n e in record r { accepted = a }) | false ↦ row_of n e ] ≡ row_of n (cond b (record e { accepted = a }) e)
  accepted_row_by e true s k = ap (λ w. elim (w && true) [ true ↦ (let r : Row = row_of n e in record r { accepted = a }) | false ↦ row_of n e ]) k
  accepted_row_by e false s k = ap (λ w. elim (w && false) [ true ↦ (let r : Row = row_of n e in record r { accepted = a }) | false ↦ row_of n e ]) k

  accepted_rows : (es : List Entry) → map (row_of n) (map (accepted_where p c a) es) ≡ map (accepted_as n p c a) (map (row_of n) es)
  accepted_rows [] = refl
  accepted_rows (e ∷ es) = ap₂ (λ r rs. r ∷ rs) (sym (accepted_row_by e (is_named (Some p) (Some c) e) (bytes_eq n n) (same_where n n Equal (tied_itself nat_list_cmp_total n)))) (accepted_rows es)

  skipped_rows : (name : List ℕ) (es : List Entry) → bytes_eq name n ≡ false → map (accepted_as n p c a) (map (row_of name) es) ≡ map (row_of name) es
  skipped_rows name [] k = refl
  skipped_rows name (e ∷ es) k =
      ap₂ (λ r rs. r ∷ rs) (ap (λ w. elim (w && is_named (Some p) (Some c) e) [ true ↦ (let r : Row = row_of name e in record r { accepted = a }) | false ↦ row_of name e ]) k) (skipped_rows name es k)

  pub accepted_found : (hs : List HookView) (i : ℕ) (d h' : HookView) → IsByName hs → i < length hs → HoldsAt (λ (g : HookView). slice_cmp nat_cmp g.name n ≡ Equal) hs i → d ≡ get_or hs i d → h'.name ≡ d.name → hook_entries h' ≡ map (accepted_where p c a) (hook_entries d) → table_rows (set hs i h') ≡ map (accepted_as n p c a) (table_rows hs)
  accepted_found hs i d h' o lt at x k es =
      let same : (get_or hs i d).name ≡ n = equal (get_or hs i d).name n (at d) in
      let old : List Entry = hook_entries (get_or hs i d) in
      let rows : hook_rows h' ≡ map (accepted_as n p c a) (hook_rows (get_or hs i d)) = changed_rows n hs i d h' (map (accepted_where p c a)) at x k es ∙ (accepted_rows old ∙ ap (λ m. map (accepted_as n p c a) (map (row_of m) old)) (sym same)) in
      edited n (map (accepted_as n p c a)) (map_joined (accepted_as n p c a)) refl (λ h e. skipped_rows h.name (hook_entries h) e) hs i d h' o lt at rows

  pub accepted_missing : (hs : List HookView) (i : ℕ) → IsPartitionPoint (λ (g : HookView). slice_cmp nat_cmp g.name n ≡ Less) (λ (g : HookView). slice_cmp nat_cmp g.name n ≡ Greater) hs i → table_rows hs ≡ map (accepted_as n p c a) (table_rows hs)
  accepted_missing hs i q = sym (others_same n (map (accepted_as n p c a)) (map_joined (accepted_as n p c a)) refl (λ h e. skipped_rows h.name (hook_entries h) e) hs (split_unlike n hs i q.0 q.1))

-- ---- without the rows named

module _ (n : List ℕ) (p : Option ℤ) (c : Option (List ℕ)) where
  pub gone_rows : (es : List Entry) → map (row_of n) (filter (λ (e : Entry). not (is_named p c e)) es) ≡ filter (λ (r : Row). not (is_row_named n p c r)) (map (row_of n) es)
  gone_rows [] = refl
  gone_rows (e ∷ es) = by (is_named p c e) (bytes_eq n n) (same_where n n Equal (tied_itself nat_list_cmp_total n)) (gone_rows es)
    where
      by : (b s : Bool) → s ≡ true → map (row_of n) (filter (λ (f : Entry). not (is_named p c f)) es) ≡ filter (λ (r : Row). not (is_row_named n p c r)) (map (row_of n) es) → map (row_of n) (cond (not b) (e ∷ filter (λ (f : Entry). not (is_named p c f)) es) (filter (λ (f : Entry). not (is_named p c f)) es)) ≡ cond (not (s && b)) (row_of n e ∷ filter (λ (r : Row). not (is_row_named n p c r)) (map (row_of n) es)) (filter (λ (r : Row). not (is_row_named n p c r)) (map (row_of n) es))
      by true s k ih = rw k ih
      by false s k ih = rw k (ap (λ rs. row_of n e ∷ rs) ih)

  kept_others : (name : List ℕ) (es : List Entry) → bytes_eq name n ≡ false → filter (λ (r : Row). not (is_row_named n p c r)) (map (row_of name) es) ≡ map (row_of name) es
  kept_others name [] k = refl
  kept_others name (e ∷ es) k =
      let rows : List Row = filter (λ (r : Row). not (is_row_named n p c r)) (map (row_of name) es) in
      ap (λ w. cond (not (w && is_named p c e)) (row_of name e ∷ rows) rows) k ∙ ap (λ rs. row_of name e ∷ rs) (kept_others name es k)

  pub removed_found : (hs : List HookView) (i : ℕ) (d h' : HookView) → IsByName hs → i < length hs → HoldsAt (λ (g : HookView). slice_cmp nat_cmp g.name n ≡ Equal) hs i → d ≡ get_or hs i d → h'.name ≡ d.name → hook_entries h' ≡ filter (λ (e : Entry). not (is_named p c e)) (hook_entries d) → table_rows (set hs i h') ≡ filter (λ (r : Row). not (is_row_named n p c r)) (table_rows hs)
  removed_found hs i d h' o lt at x k es =
      let same : (get_or hs i d).name ≡ n = equal (get_or hs i d).name n (at d) in
      let old : List Entry = hook_entries (get_or hs i d) in
      let f : List Row → List Row = filter (λ (r : Row). not (is_row_named n p c r)) in
      let rows : hook_rows h' ≡ f (hook_rows (get_or hs i d)) = changed_rows n hs i d h' (filter (λ (e : Entry). not (is_named p c e))) at x k es ∙ (gone_rows old ∙ ap (λ m. f (map (row_of m) old)) (sym same)) in
      edited n f (filter_joined (λ (r : Row). not (is_row_named n p c r))) refl (λ h e. kept_others h.name (hook_entries h) e) hs i d h' o lt at rows

  pub removed_missing : (hs : List HookView) (i : ℕ) → IsPartitionPoint (λ (g : HookView). slice_cmp nat_cmp g.name n ≡ Less) (λ (g : HookView). slice_cmp nat_cmp g.name n ≡ Greater) hs i → table_rows hs ≡ filter (λ (r : Row). not (is_row_named n p c r)) (table_rows hs)
  removed_missing hs i q = sym (others_same n (filter (λ (r : Row). not (is_row_named n p c r))) (filter_joined (λ (r : Row). not (is_row_named n p c r))) refl (λ h e. kept_others h.name (hook_entries h) e) hs (split_unlike n hs i q.0 q.1))

-- ---- without a hook

all_gone : (n : List ℕ) (es : List Entry) → filter (λ (r : Row). not (is_row_named n None None r)) (map (row_of n) es) ≡ []
all_gone n [] = refl
all_gone n (e ∷ es) =
    let rows : List Row = filter (λ (r : Row). not (is_row_named n None None r)) (map (row_of n) es) in
    ap (λ w. cond (not (w && true)) (row_of n e ∷ rows) rows) (same_where n n Equal (tied_itself nat_list_cmp_total n)) ∙ all_gone n es

pub hook_removed : (n : List ℕ) (hs : List HookView) (i : ℕ) → IsByName hs → i < length hs → HoldsAt (λ (g : HookView). slice_cmp nat_cmp g.name n ≡ Equal) hs i → table_rows (remove hs i) ≡ filter (λ (r : Row). not (is_row_named n None None r)) (table_rows hs)
hook_removed n [] i o lt at = absurd (omega arith)
hook_removed n (h ∷ hs) zero o lt at =
    let f : List Row → List Row = filter (λ (r : Row). not (is_row_named n None None r)) in
    let mine : f (hook_rows h) ≡ [] = subst (λ m. f (map (row_of m) (hook_entries h)) ≡ []) (sym (equal h.name n (at h))) (all_gone n (hook_entries h)) in
    let rest : f (table_rows hs) ≡ table_rows hs = others_same n f (filter_joined (λ (r : Row). not (is_row_named n None None r))) refl (λ g e. kept_others n None None g.name (hook_entries g) e) hs (unlike_greater n hs (behind_others n h hs (at h) o.0)) in
    sym (filter_joined (λ (r : Row). not (is_row_named n None None r)) (hook_rows h) (table_rows hs) ∙ (ap (λ xs. xs ++ f (table_rows hs)) mine ∙ rest))
hook_removed n (h ∷ hs) (suc i) o lt at =
    let f : List Row → List Row = filter (λ (r : Row). not (is_row_named n None None r)) in
    let lt' : i < length hs = omega arith in
    let less : slice_cmp nat_cmp h.name n ≡ Less = before_one n h hs i o.0 lt' (λ g. at g) in
    ap (λ ys. hook_rows h ++ ys) (hook_removed n hs i o.1 lt' (λ g. at g))
    ∙ (ap (λ xs. xs ++ f (table_rows hs)) (sym (kept_others n None None h.name (hook_entries h) (same_where h.name n Less less)))
    ∙ sym (filter_joined (λ (r : Row). not (is_row_named n None None r)) (hook_rows h) (table_rows hs)))

-- ---- how many rows there are

length_rows : (h : HookView) (hs : List HookView) → length (table_rows (h ∷ hs)) ≡ length (hook_entries h) + length (table_rows hs)
length_rows h hs = length-append (hook_rows h) (table_rows hs) ∙ ap (λ k. k + length (table_rows hs)) (length_mapped (row_of h.name) (hook_entries h))

pub length_set : (hs : List HookView) (i : ℕ) (d h' : HookView) → i < length hs → length (table_rows (set hs i h')) + length (hook_entries (get_or hs i d)) ≡ length (table_rows hs) + length (hook_entries h')
length_set [] i d h' lt = absurd (omega arith)
length_set (h ∷ hs) zero d h' lt = let a = length_rows h hs in let b = length_rows h' hs in omega arith
length_set (h ∷ hs) (suc i) d h' lt =
    let lt' : i < length hs = omega arith in
    let a = length_rows h hs in let b = length_rows h (set hs i h') in let r = length_set hs i d h' lt' in omega arith

-- ---- what the binary search answers

pub placed : (n : List ℕ) (hs : List HookView) (r : Result ℕ ℕ) → IsByName hs → IsSearchInRange r (length hs) → IsBinarySearchResult (λ (g : HookView). slice_cmp nat_cmp g.name n) hs r → IsPlaceOf n hs r
placed n hs (Ok i) o within at = (within, at)
placed n hs (Err i) o within at = (within, at (rising n hs o))

-- without a hook, whose rows are as many as its entries
pub length_removed : (hs : List HookView) (i : ℕ) (d : HookView) → i < length hs → length (hook_entries (get_or hs i d)) + length (table_rows (remove hs i)) ≡ length (table_rows hs)
length_removed [] i d lt = absurd (omega arith)
length_removed (h ∷ hs) zero d lt = sym (length_rows h hs)
length_removed (h ∷ hs) (suc i) d lt =
    let lt' : i < length hs = omega arith in
    let a = length_rows h hs in let b = length_rows h (remove hs i) in let r = length_removed hs i d lt' in omega arith

pub length_within : (hs : List HookView) (i : ℕ) (d : HookView) → i < length hs → length (hook_entries (get_or hs i d)) ≤ length (table_rows hs)
length_within hs i d lt = let e = length_removed hs i d lt in omega arith

pub empty_where : {X : Type 0} (xs : List X) → length xs ≡ 0 → xs ≡ []
empty_where [] e = refl
empty_where (x ∷ xs) e = absurd (omega arith)

length_put_by : (r x : Row) (xs ys : List Row) (c : Bool) → length ys ≡ length xs + 1 → length (cond c (r ∷ x ∷ xs) (x ∷ ys)) ≡ length (x ∷ xs) + 1
length_put_by r x xs ys true e = omega arith
length_put_by r x xs ys false e = omega arith

length_before : (t : Row → Bool) (r : Row) (xs : List Row) → length (put_before t r xs) ≡ length xs + 1
length_before t r [] = refl
length_before t r (x ∷ xs) = length_put_by r x xs (put_before t r xs) (t x) (length_before t r xs)

pub length_put : (r : Row) (rows : List Row) → length (put_row r rows) ≡ length rows + 1
length_put r rows = ap length (put_is r rows) ∙ length_before (stands_after r.hook r.priority) r rows

-- ---- the groups of a hook by its name

first_named : (n : List ℕ) (h : HookView) (hs : List HookView) → bytes_eq h.name n ≡ true → groups_named n (h ∷ hs) ≡ h.groups
first_named n h hs e = ap (λ c. cond c h.groups (groups_named n hs)) e

pub next_named : (n : List ℕ) (h : HookView) (hs : List HookView) → bytes_eq h.name n ≡ false → groups_named n (h ∷ hs) ≡ groups_named n hs
next_named n h hs e = ap (λ c. cond c h.groups (groups_named n hs)) e

pub found_named : (n : List ℕ) (hs : List HookView) (i : ℕ) (d : HookView) → IsByName hs → i < length hs → HoldsAt (λ (g : HookView). slice_cmp nat_cmp g.name n ≡ Equal) hs i → (get_or hs i d).groups ≡ groups_named n hs
found_named n [] i d o lt at = absurd (omega arith)
found_named n (h ∷ hs) zero d o lt at = sym (first_named n h hs (same_where h.name n Equal (at h)))
found_named n (h ∷ hs) (suc i) d o lt at =
    let lt' : i < length hs = omega arith in
    let less : slice_cmp nat_cmp h.name n ≡ Less = before_one n h hs i o.0 lt' (λ g. at g) in
    found_named n hs i d o.1 lt' (λ g. at g) ∙ sym (next_named n h hs (same_where h.name n Less less))

-- where a hook of that name is met, that is where it stands
pub stands_at : (n : List ℕ) (hs : List HookView) (i : ℕ) (h : HookView) → i < length hs → h ≡ get_or hs i h → bytes_eq h.name n ≡ true → HoldsAt (λ (g : HookView). slice_cmp nat_cmp g.name n ≡ Equal) hs i
stands_at n [] i h lt is e = absurd (omega (arith, lt))
stands_at n (x ∷ xs) zero h lt is e = λ d. subst (λ (g : HookView). slice_cmp nat_cmp g.name n ≡ Equal) is (tied h.name n e)
stands_at n (x ∷ xs) (suc i) h lt is e = λ d. let lt' : i < length xs = omega (arith, lt) in stands_at n xs i h lt' is e d

unlike_named : (n : List ℕ) (hs : List HookView) → IsEach (λ (h : HookView). bytes_eq h.name n ≡ false) hs → groups_named n hs ≡ []
unlike_named n [] o = refl
unlike_named n (h ∷ hs) o = next_named n h hs o.0 ∙ unlike_named n hs o.1

pub missing_named : (n : List ℕ) (hs : List HookView) (i : ℕ) → IsPartitionPoint (λ (g : HookView). slice_cmp nat_cmp g.name n ≡ Less) (λ (g : HookView). slice_cmp nat_cmp g.name n ≡ Greater) hs i → [] ≡ groups_named n hs
missing_named n hs i p = sym (unlike_named n hs (split_unlike n hs i p.0 p.1))

-- a hook of the one name is not of the other
turned_unlike : (n m l : List ℕ) → l ≡ n → bytes_eq m n ≡ false → bytes_eq l m ≡ false
turned_unlike n m l k e = by (bytes_eq l m) refl
  where
    by : (b : Bool) → bytes_eq l m ≡ b → b ≡ false
    by false w = refl
    by true w = let same : m ≡ n = sym ((bytes_eq-Decides l m).0 w) ∙ k in absurd (true≢false (sym ((bytes_eq-Decides m n).1 same) ∙ e))

set_named : (m : List ℕ) (hs : List HookView) (i : ℕ) (d h' : HookView) → i < length hs → bytes_eq h'.name m ≡ false → bytes_eq (get_or hs i d).name m ≡ false → groups_named m (set hs i h') ≡ groups_named m hs
set_named m [] i d h' lt a b = absurd (omega arith)
set_named m (h ∷ hs) zero d h' lt a b = next_named m h' hs a ∙ sym (next_named m h hs b)
set_named m (h ∷ hs) (suc i) d h' lt a b = let lt' : i < length hs = omega arith in ap (cond (bytes_eq h.name m) h.groups) (set_named m hs i d h' lt' a b)

insert_named : (m : List ℕ) (hs : List HookView) (i : ℕ) (x : HookView) → bytes_eq x.name m ≡ false → groups_named m (insert hs i x) ≡ groups_named m hs
insert_named m [] zero x a = next_named m x [] a
insert_named m [] (suc i) x a = next_named m x [] a
insert_named m (h ∷ hs) zero x a = next_named m x (h ∷ hs) a
insert_named m (h ∷ hs) (suc i) x a = ap (cond (bytes_eq h.name m) h.groups) (insert_named m hs i x a)

remove_named : (m : List ℕ) (hs : List HookView) (i : ℕ) (d : HookView) → i < length hs → bytes_eq (get_or hs i d).name m ≡ false → groups_named m (remove hs i) ≡ groups_named m hs
remove_named m [] i d lt b = absurd (omega arith)
remove_named m (h ∷ hs) zero d lt b = sym (next_named m h hs b)
remove_named m (h ∷ hs) (suc i) d lt b = let lt' : i < length hs = omega arith in ap (cond (bytes_eq h.name m) h.groups) (remove_named m hs i d lt' b)

-- a hook without a group is as none
empty_named : (m : List ℕ) (hs : List HookView) (i : ℕ) (d : HookView) → IsByName hs → i < length hs → (get_or hs i d).groups ≡ [] → groups_named m (remove hs i) ≡ groups_named m hs
empty_named m [] i d o lt e = absurd (omega arith)
empty_named m (h ∷ hs) zero d o lt e = by (bytes_eq h.name m) refl
  where
    by : (b : Bool) → bytes_eq h.name m ≡ b → groups_named m hs ≡ cond b h.groups (groups_named m hs)
    by false k = refl
    by true k =
        let same : h.name ≡ m = (bytes_eq-Decides h.name m).0 k in
        unlike_named m hs (unlike_greater m hs (subst (λ l. IsEach (λ (g : HookView). slice_cmp nat_cmp g.name l ≡ Greater) hs) same (behind_others h.name h hs (tied_itself nat_list_cmp_total h.name) o.0))) ∙ sym e
empty_named m (h ∷ hs) (suc i) d o lt e = let lt' : i < length hs = omega arith in ap (cond (bytes_eq h.name m) h.groups) (empty_named m hs i d o.1 lt' e)

pub groups_same : (hs : List HookView) (i : ℕ) (d : HookView) → IsByName hs → i < length hs → (get_or hs i d).groups ≡ [] → (m : List ℕ) → groups_named m (remove hs i) ≡ groups_named m hs
groups_same hs i d o lt e = λ m. empty_named m hs i d o lt e

pub others_set : (n : List ℕ) (hs : List HookView) (i : ℕ) (d h' : HookView) → i < length hs → HoldsAt (λ (g : HookView). slice_cmp nat_cmp g.name n ≡ Equal) hs i → d ≡ get_or hs i d → h'.name ≡ d.name → KeepsOthers n hs (set hs i h')
others_set n hs i d h' lt at x k = λ m e.
    let name : (get_or hs i d).name ≡ n = equal (get_or hs i d).name n (at d) in
    set_named m hs i d h' lt (turned_unlike n m h'.name (k ∙ (ap (λ (g : HookView). g.name) x ∙ name)) e) (turned_unlike n m (get_or hs i d).name name e)

pub others_insert : (n : List ℕ) (hs : List HookView) (i : ℕ) (x : HookView) → x.name ≡ n → KeepsOthers n hs (insert hs i x)
others_insert n hs i x k = λ m e. insert_named m hs i x (turned_unlike n m x.name k e)

pub others_remove : (n : List ℕ) (hs : List HookView) (i : ℕ) (d : HookView) → i < length hs → HoldsAt (λ (g : HookView). slice_cmp nat_cmp g.name n ≡ Equal) hs i → KeepsOthers n hs (remove hs i)
others_remove n hs i d lt at = λ m e. remove_named m hs i d lt (turned_unlike n m (get_or hs i d).name (equal (get_or hs i d).name n (at d)) e)
