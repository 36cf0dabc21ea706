-- What is asked of the rows of a hook is asked of its entries.
use Rattle.std.proofs.Common.{◌≡◌, refl, sym, ◌∙◌, ap, ℕ, zero, suc, ◌<◌, ◌≤◌, ◌≢◌, nat_eq, drop, ℤ, Bool, true, false, cond, List, [], ◌∷◌, map, filter, length, Option, Some, None, int_lt, int_eq, bytes_eq, arith}
use Rattle.std.specs.Prelude.{◌&&◌, ◌||◌, option_map}
use Rattle.std.specs.List.{list_any, find}
use Rattle.std.proofs.lemmas.Bool.{eqb-true, eqb-false}
use Rattle.std.proofs.lemmas.Bool.Decides.{Decides-int_eq}
use Rattle.press_hooks.specs.declared.row.Row.{Row}
use Rattle.press_hooks.specs.declared.entry.Entry.{Entry}
use Rattle.press_hooks.specs.declared.group_entry.GroupEntry.{GroupEntry}
use Rattle.press_hooks.specs.declared.open_run.OpenRun.{OpenRun}
use Rattle.press_hooks.specs.HookRows.{is_row, is_of_hook, lesser, least_priority, priority_of, has_rows, entry_of}
use Rattle.press_hooks.specs.NextEntry.{entries_at, is_past, is_ahead, next_priority, first_of, run_at_priority, refilled_run, refilled_by, is_done}
use Rattle.press_hooks.specs.GroupEntries.{entry_at}
use Rattle.press_hooks.specs.Hooked.{row_of, IsEach, IsByPriority}
use Rattle.press_hooks.proofs.Cuts.{filter_two, filter_alike}

-- ---- a test of two parts

any_by : (a b c d : Bool) → c ≡ d → ((a && b) || c) ≡ cond a (b || d) d
any_by true b c d e = ap (λ z. b || z) e
any_by false b c d e = e

any_kept_by : {X : Type 0} (b : X → Bool) (x : X) (xs : List X) (a : Bool) → cond a (b x || list_any b xs) (list_any b xs) ≡ list_any b (cond a (x ∷ xs) xs)
any_kept_by b x xs true = refl
any_kept_by b x xs false = refl

any_two : {X : Type 0} (a b : X → Bool) (xs : List X) → list_any (λ x. a x && b x) xs ≡ list_any b (filter a xs)
any_two a b [] = refl
any_two a b (x ∷ xs) = any_by (a x) (b x) (list_any (λ y. a y && b y) xs) (list_any b (filter a xs)) (any_two a b xs) ∙ any_kept_by b x (filter a xs) (a x)

some_by : {X : Type 0} (a x : Bool) (r : X) (rs : List X) → x ≡ list_any (λ s. true) rs → (a || x) ≡ list_any (λ s. true) (cond a (r ∷ rs) rs)
some_by true x r rs k = refl
some_by false x r rs k = k

any_some : {X : Type 0} (a : X → Bool) (rs : List X) → list_any a rs ≡ list_any (λ r. true) (filter a rs)
any_some a [] = refl
any_some a (r ∷ rs) = some_by (a r) (list_any a rs) r (filter a rs) (any_some a rs)

any_mapped : {X Y : Type 0} (f : X → Y) (t : Y → Bool) (xs : List X) → list_any t (map f xs) ≡ list_any (λ x. t (f x)) xs
any_mapped f t [] = refl
any_mapped f t (x ∷ xs) = ap (λ b. t (f x) || b) (any_mapped f t xs)

filter_mapped_by : {X Y : Type 0} (f : X → Y) (x : X) (xs : List X) (b : Bool) → cond b (f x ∷ map f xs) (map f xs) ≡ map f (cond b (x ∷ xs) xs)
filter_mapped_by f x xs true = refl
filter_mapped_by f x xs false = refl

filter_mapped : {X Y : Type 0} (f : X → Y) (t : Y → Bool) (xs : List X) → filter t (map f xs) ≡ map f (filter (λ x. t (f x)) xs)
filter_mapped f t [] = refl
filter_mapped f t (x ∷ xs) = ap (λ ys. cond (t (f x)) (f x ∷ ys) ys) (filter_mapped f t xs) ∙ filter_mapped_by f x (filter (λ y. t (f y)) xs) (t (f x))

least_by : (a b : Row → Bool) (r : Row) (c : Bool) (o : Option ℤ) (rows : List Row) → o ≡ least_priority b rows → cond (c && b r) (Some (lesser r.priority o)) o ≡ least_priority b (cond c (r ∷ rows) rows)
least_by a b r true o rows e = ap (λ z. cond (b r) (Some (lesser r.priority z)) z) e
least_by a b r false o rows e = e

least_two : (a b : Row → Bool) (rows : List Row) → least_priority (λ r. a r && b r) rows ≡ least_priority b (filter a rows)
least_two a b [] = refl
least_two a b (r ∷ rs) = least_by a b r (a r) (least_priority (λ s. a s && b s) rs) (filter a rs) (least_two a b rs)

-- ---- of entries by priority the first has the least

lesser_first : (p : ℤ) (u : Entry → Bool) (es : List Entry) → IsEach (λ (f : Entry). int_lt f.priority p ≡ false) es → lesser p (option_map (λ (e : Entry). e.priority) (find u es)) ≡ p
lesser_first p u [] h = refl
lesser_first p u (f ∷ fs) h = by (u f) (lesser_first p u fs h.1)
  where
    by : (b : Bool) → lesser p (option_map (λ (e : Entry). e.priority) (find u fs)) ≡ p → lesser p (option_map (λ (e : Entry). e.priority) (cond b (Some f) (find u fs))) ≡ p
    by true k = ap (λ c. elim c [ true ↦ f.priority | false ↦ p ]) h.0
    by false k = k

least_first : (n : List ℕ) (t : Row → Bool) (es : List Entry) → IsByPriority es → least_priority t (map (row_of n) es) ≡ option_map (λ (e : Entry). e.priority) (find (λ (e : Entry). t (row_of n e)) es)
least_first n t [] o = refl
least_first n t (e ∷ es) o =
    ap (λ z. cond (t (row_of n e)) (Some (lesser e.priority z)) z) (least_first n t es o.1)
    ∙ by (t (row_of n e))
  where
    by : (b : Bool) → cond b (Some (lesser e.priority (option_map (λ (f : Entry). f.priority) (find (λ (f : Entry). t (row_of n f)) es)))) (option_map (λ (f : Entry). f.priority) (find (λ (f : Entry). t (row_of n f)) es)) ≡ option_map (λ (f : Entry). f.priority) (cond b (Some e) (find (λ (f : Entry). t (row_of n f)) es))
    by true = ap (λ p. Some p) (lesser_first e.priority (λ (f : Entry). t (row_of n f)) es o.0)
    by false = refl

find_kept : (u : Entry → Bool) (es : List Entry) → find u es ≡ first_of (filter u es)
find_kept u [] = refl
find_kept u (e ∷ es) = by (u e) (find_kept u es)
  where
    by : (b : Bool) → find u es ≡ first_of (filter u es) → cond b (Some e) (find u es) ≡ first_of (cond b (e ∷ filter u es) (filter u es))
    by true k = refl
    by false k = k

-- ---- the rows of one hook

entries_back : (n : List ℕ) (es : List Entry) → map entry_of (map (row_of n) es) ≡ es
entries_back n [] = refl
entries_back n (e ∷ es) = ap (λ xs. e ∷ xs) (entries_back n es)

module _ (n : List ℕ) (rows : List Row) (es : List Entry) (h : filter (is_of_hook n) rows ≡ map (row_of n) es) where
  pub stands : (p : ℤ) (c : List ℕ) → list_any (is_row n p c) rows ≡ list_any (λ (e : Entry). bytes_eq e.callback c) (filter (λ (e : Entry). int_eq e.priority p) es)
  stands p c =
      any_two (is_of_hook n) (λ (r : Row). int_eq r.priority p && bytes_eq r.callback c) rows
      ∙ (ap (list_any (λ (r : Row). int_eq r.priority p && bytes_eq r.callback c)) h
      ∙ (any_mapped (row_of n) (λ (r : Row). int_eq r.priority p && bytes_eq r.callback c) es
      ∙ any_two (λ (e : Entry). int_eq e.priority p) (λ (e : Entry). bytes_eq e.callback c) es))

  pub has_is : (b : Bool) → b ≡ list_any (λ (e : Entry). true) es → has_rows n rows ≡ b
  has_is b e = any_some (is_of_hook n) rows ∙ (ap (list_any (λ (r : Row). true)) h ∙ (any_mapped (row_of n) (λ (r : Row). true) es ∙ sym e))

  pub priority_is : IsByPriority es → (c : List ℕ) → priority_of n c rows ≡ option_map (λ (e : Entry). e.priority) (find (λ (e : Entry). bytes_eq e.callback c) es)
  priority_is o c =
      least_two (is_of_hook n) (λ (r : Row). bytes_eq r.callback c) rows
      ∙ (ap (least_priority (λ (r : Row). bytes_eq r.callback c)) h ∙ least_first n (λ (r : Row). bytes_eq r.callback c) es o)

  pub ahead_is : IsByPriority es → (reached : Option ℤ) → least_priority (is_ahead n reached) rows ≡ option_map (λ (e : Entry). e.priority) (first_of (filter (λ (e : Entry). is_past reached e.priority) es))
  ahead_is o reached =
      least_two (is_of_hook n) (λ (r : Row). is_past reached r.priority) rows
      ∙ (ap (least_priority (λ (r : Row). is_past reached r.priority)) h
      ∙ (least_first n (λ (r : Row). is_past reached r.priority) es o
      ∙ ap (option_map (λ (e : Entry). e.priority)) (find_kept (λ (e : Entry). is_past reached e.priority) es)))

  pub at_is : (p : ℤ) → entries_at rows n p ≡ filter (λ (e : Entry). int_eq e.priority p) es
  at_is p =
      ap (map entry_of) (sym (filter_two (is_of_hook n) (λ (r : Row). int_eq r.priority p) rows) ∙ (ap (filter (λ (r : Row). int_eq r.priority p)) h ∙ filter_mapped (row_of n) (λ (r : Row). int_eq r.priority p) es))
      ∙ entries_back n (filter (λ (e : Entry). int_eq e.priority p) es)

-- ---- the next priority of a run

first_past : (t : ℤ → Bool) (es : List Entry) (p : ℤ) → option_map (λ (e : Entry). e.priority) (first_of (filter (λ (e : Entry). t e.priority) es)) ≡ Some p → t p ≡ true
first_past t [] p k = cc
first_past t (e ∷ es) p k = by (t e.priority) refl k (first_past t es p)
  where
    by : (b : Bool) → b ≡ t e.priority → option_map (λ (f : Entry). f.priority) (first_of (cond b (e ∷ filter (λ (f : Entry). t f.priority) es) (filter (λ (f : Entry). t f.priority) es))) ≡ Some p → (option_map (λ (f : Entry). f.priority) (first_of (filter (λ (f : Entry). t f.priority) es)) ≡ Some p → t p ≡ true) → t p ≡ true
    by true k l ih = let same : e.priority ≡ p = cc in ap t (sym same) ∙ sym k
    by false k l ih = ih l

ahead_by : (t : ℤ → Bool) (p q : ℤ) → t p ≡ true → (b : Bool) → int_eq q p ≡ b → (t q && b) ≡ b
ahead_by t p q k true e = let same : q ≡ p = (Decides-int_eq q p).0 e in ap (λ z. t z && true) same ∙ ap (λ c. c && true) k
ahead_by t p q k false e = both (t q)
  where
    both : (c : Bool) → (c && false) ≡ false
    both true = refl
    both false = refl

group_ahead : (t : ℤ → Bool) (es : List Entry) (p : ℤ) → t p ≡ true → filter (λ (e : Entry). int_eq e.priority p) (filter (λ (e : Entry). t e.priority) es) ≡ filter (λ (e : Entry). int_eq e.priority p) es
group_ahead t es p k =
    filter_two (λ (e : Entry). t e.priority) (λ (e : Entry). int_eq e.priority p) es
    ∙ filter_alike (λ (e : Entry). t e.priority && int_eq e.priority p) (λ (e : Entry). int_eq e.priority p) es (λ e. ahead_by t p e.priority k (int_eq e.priority p) refl)

module _ (rows : List Row) (run : OpenRun) (es ahead : List Entry) (h : filter (is_of_hook run.hook) rows ≡ map (row_of run.hook) es) (o : IsByPriority es)
    (a : ahead ≡ filter (λ (e : Entry). is_past run.reached e.priority) es) (done : run.rest ≡ []) where
  pub next_is : next_priority rows run ≡ option_map (λ (e : Entry). e.priority) (first_of ahead)
  next_is = ahead_is run.hook rows es h o run.reached ∙ ap (λ xs. option_map (λ (e : Entry). e.priority) (first_of xs)) (sym a)

  pub ended : option_map (λ (e : Entry). e.priority) (first_of ahead) ≡ None → refilled_run rows run ≡ run
  ended none = ap (refilled_by rows run) done ∙ ap (run_at_priority rows run) (next_is ∙ none)

  pub moved : (p : ℤ) → option_map (λ (e : Entry). e.priority) (first_of ahead) ≡ Some p → refilled_run rows run ≡ record { hook = run.hook; reached = Some p; rest = filter (λ (e : Entry). int_eq e.priority p) ahead }
  moved p some =
      let past : is_past run.reached p ≡ true = first_past (is_past run.reached) es p (ap (λ xs. option_map (λ (e : Entry). e.priority) (first_of xs)) (sym a) ∙ some) in
      let group : entries_at rows run.hook p ≡ filter (λ (e : Entry). int_eq e.priority p) ahead =
      at_is run.hook rows es h p ∙ (sym (group_ahead (is_past run.reached) es p past) ∙ ap (filter (λ (e : Entry). int_eq e.priority p)) (sym a)) in
      ap (refilled_by rows run) done ∙ (ap (run_at_priority rows run) (next_is ∙ some) ∙ moved_with p group)
    where
      moved_with : (q : ℤ) {g : List Entry} → entries_at rows run.hook q ≡ g → run_at_priority rows run (Some q) ≡ record { hook = run.hook; reached = Some q; rest = g }
      moved_with q e = ap (λ g. let r : OpenRun = record { hook = run.hook; reached = Some q; rest = g } in r) e

pub done_empty : (es : List Entry) → is_done es ≡ true → es ≡ []
done_empty [] e = refl
done_empty (x ∷ xs) e = cc

unmoved_by : (rows : List Row) (run : OpenRun) (es : List Entry) → is_done es ≡ false → run ≡ refilled_by rows run es
unmoved_by rows run [] e = cc
unmoved_by rows run (x ∷ xs) e = refl

pub unmoved : (rows : List Row) (run : OpenRun) → is_done run.rest ≡ false → run ≡ refilled_run rows run
unmoved rows run e = unmoved_by rows run run.rest e

done_drop : (p : ℤ) (ms : List GroupEntry) (i : ℕ) → i ≡ length ms → is_done (map (entry_at p) (drop i ms)) ≡ true
done_drop p [] zero h = refl
done_drop p [] (suc i) h = refl
done_drop p (x ∷ xs) zero h = absurd (omega arith)
done_drop p (x ∷ xs) (suc i) h = let h' : i ≡ length xs = omega arith in done_drop p xs i h'

left_drop : (p : ℤ) (ms : List GroupEntry) (i : ℕ) → i < length ms → is_done (map (entry_at p) (drop i ms)) ≡ false
left_drop p [] i h = absurd (omega arith)
left_drop p (x ∷ xs) zero h = refl
left_drop p (x ∷ xs) (suc i) h = let h' : i < length xs = omega arith in left_drop p xs i h'

given_by : (p : ℤ) (ms : List GroupEntry) (i n : ℕ) (b : Bool) → nat_eq i n ≡ b → n ≡ length ms → i ≤ length ms → b ≡ is_done (map (entry_at p) (drop i ms))
given_by p ms i n true k e h = sym (done_drop p ms i (eqb-true i n k ∙ e))
given_by p ms i n false k e h = let differ : i ≢ n = eqb-false i n k in let lt : i < length ms = omega arith in sym (left_drop p ms i lt)

pub all_given : (p : ℤ) (ms : List GroupEntry) (i n : ℕ) → n ≡ length ms → i ≤ length ms → nat_eq i n ≡ is_done (map (entry_at p) (drop i ms))
all_given p ms i n e h = given_by p ms i n (nat_eq i n) refl e h

pub filled : (p : ℤ) (ms : List GroupEntry) → map (entry_at p) ms ≡ map (entry_at p) (drop 0 ms)
filled p [] = refl
filled p (m ∷ ms) = refl
