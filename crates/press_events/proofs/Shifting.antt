-- A change of events is taken back by its way back.
use Rattle.std.proofs.Common.{◌≡◌, refl, sym, ◌∙◌, ap, ap₂, subst, ℕ, zero, suc, ◌<◌, ◌≤◌, List, [], ◌∷◌, length, get_or, Bool, true, false, not, cond, Option, Some, None, arith}
use Rattle.std.specs.Prelude.{◌&&◌, ◌||◌, nat_eq, nat_le, insert, remove, is_some, option_map, IfSome, IfNone}
use Rattle.std.specs.List.{list_any, slice_get}
use Rattle.std.proofs.lemmas.Bool.Decides.{nat_tests}
use Rattle.std.proofs.lemmas.List.Edits.{length-insert, length-remove}
use Rattle.std.proofs.lemmas.List.Quantifiers.{position-Some}
use Rattle.std.proofs.lemmas.List.Sums.{sum_by-cons, sum_by-insert, sum_by-remove, get_or-le-sum_by}
use Rattle.press_text.specs.declared.every.Every.{Every}
use Rattle.press_events.specs.declared.event.Event.{Event}
use Rattle.press_events.specs.declared.shift.Shift.{Shift}
use Rattle.press_events.specs.declared.shift.Shift.TheVariants.{Came, Moved}
use Rattle.press_events.specs.DueEvents.{HasEachOnce, IsSchedule, again, cancel_events, cancels, is_of, is_same, moment_next, place_of, put_again, insert_event, stands, take_event, take_event_at}
use Rattle.press_events.specs.Marks.{Covers, count_of, mark}
use Rattle.press_events.specs.Shifts.{FitsIn, IsOnly, MayGoBack, ShiftsBack, comes_again, comes_at, comes_of, event_at, move_event, move_among, put_at, shift_back}
use Rattle.press_events.proofs.Halves.{stands_is}
use Rattle.press_events.proofs.Moments.{next_behind}
use Rattle.press_events.proofs.Once.{none_remove}
use Rattle.press_events.proofs.Schedules.{alone_at, stands_elsewhere}
use Rattle.press_events.proofs.Numbers.{mark_one, marked, none_has, one_of_it, same_one}

-- ---- one in and out again, one out and in again

out_again : (es : List Event) (i : ℕ) (e : Event) → i ≤ length es → remove (insert es i e) i ≡ es
out_again [] zero e le = refl
out_again [] (suc i) e le = absurd (omega arith)
out_again (x ∷ xs) zero e le = refl
out_again (x ∷ xs) (suc i) e le = ap (λ (ys : List Event). x ∷ ys) (out_again xs i e (omega arith))

pub in_again : (es : List Event) (i : ℕ) (e : Event) → i < length es → e ≡ get_or es i e → insert (remove es i) i e ≡ es
in_again [] i e lt at = absurd (omega arith)
in_again (x ∷ []) zero e lt at = ap (λ (y : Event). y ∷ []) at
in_again (x ∷ y ∷ ys) zero e lt at = ap (λ (z : Event). z ∷ y ∷ ys) at
in_again (x ∷ xs) (suc i) e lt at = ap (λ (ys : List Event). x ∷ ys) (in_again xs i e (omega arith) at)

there : (es : List Event) (i : ℕ) (e : Event) → i ≤ length es → slice_get (insert es i e) i ≡ Some e
there [] zero e le = refl
there [] (suc i) e le = absurd (omega arith)
there (x ∷ xs) zero e le = refl
there (x ∷ xs) (suc i) e le = there xs i e (omega arith)

pub got : (es : List Event) (i : ℕ) (e : Event) → i < length es → e ≡ get_or es i e → slice_get es i ≡ Some e
got [] i e lt at = absurd (omega arith)
got (x ∷ xs) zero e lt at = ap (λ (y : Event). Some y) (sym at)
got (x ∷ xs) (suc i) e lt at = got xs i e (omega arith) at

pub any_default : (es : List Event) (i : ℕ) (d e : Event) → i < length es → get_or es i d ≡ get_or es i e
any_default [] i d e lt = absurd (omega arith)
any_default (x ∷ xs) zero d e lt = refl
any_default (x ∷ xs) (suc i) d e lt = any_default xs i d e (omega arith)

pub came : (es : List Event) (i : ℕ) (e : Event) → i ≤ length es → ShiftsBack (Came i) (insert es i e) es
came es i e le = (omega (arith, length-insert es i e le), out_again es i e le)

both : (a b : Bool) → (a && b) ≡ true → (a ≡ true) × (b ≡ true)
both true b e = (refl, e)
both false b e = absurd (cc)

pub moved : (es : List Event) (i to time : ℕ) (every : Every) (old : Event) → i < length es → to ≤ length (remove es i) → old ≡ get_or es i old → IsSchedule es
    → ShiftsBack (Moved to i old.time old.every) (insert (remove es i) to (record old { time = time; every = every })) es
moved es i to time every old lt le at s =
    let e : Event = record old { time = time; every = every } in
    let back : put_at (slice_get (insert (remove es i) to e) to) i old.time old.every (remove (insert (remove es i) to e) to) ≡ es =
    ap (λ x. put_at x i old.time old.every (remove (insert (remove es i) to e) to)) (there (remove es i) to e le)
    ∙ ap (λ (xs : List Event). insert xs i old) (out_again (remove es i) to e le)
    ∙ in_again es i old lt at in
    let long = length-insert (remove es i) to e le in
    let less = length-remove es i lt in
    ((omega arith, omega arith, subst IsSchedule (sym back) s), back)

pub back_at : (es : List Event) (to from time : ℕ) (every : Every) (e : Event) → to < length es → e ≡ get_or es to e → insert (remove es to) from (record e { time = time; every = every }) ≡ shift_back (Moved to from time every) es
back_at es to from time every e lt at = ap (λ x. put_at x from time every (remove es to)) (sym (got es to e lt at))

-- one that went, put in again
pub went_fits : (es : List Event) (i : ℕ) (e : Event) → i < length es → e ≡ get_or es i e → IsSchedule es → FitsIn i e (remove es i)
went_fits es i e lt at s = (omega (arith, length-remove es i lt), subst IsSchedule (sym (in_again es i e lt at)) s)

-- an event with its argument, put in where another went
pub covers_moved : (es : List Event) (i to : ℕ) (e new : Event) (ms : List ℕ) → i < length es → e ≡ get_or es i e → new.arg ≡ e.arg → Covers ms es → Covers ms (insert (remove es i) to new)
covers_moved es i to e new ms lt at same c x =
    let one_of : mark_one x new ≡ mark_one x (get_or es i e) = ap (λ (arg : List ℕ). mark_one x (record new { arg = arg })) same ∙ ap (mark_one x) at in
    omega (arith, sum_by-remove (mark_one x) es i e lt, sum_by-insert (mark_one x) (remove es i) to new, c x)

-- ---- the only one

pub none_cancelled : (hook arg : List ℕ) (es : List Event) → cancels hook arg es ≡ false → cancel_events hook arg es ≡ es
none_cancelled hook arg [] n = refl
none_cancelled hook arg (e ∷ es) n = by (is_of hook arg e) n (none_cancelled hook arg es)
  where
    by : (b : Bool) → (b || cancels hook arg es) ≡ false → (cancels hook arg es ≡ false → cancel_events hook arg es ≡ es) → cond (not b) (e ∷ cancel_events hook arg es) (cancel_events hook arg es) ≡ e ∷ es
    by true n rest = absurd (cc)
    by false n rest = ap (λ (xs : List Event). e ∷ xs) (rest n)

one_out : (hook arg : List ℕ) (es : List Event) (i : ℕ) (d : Event) → i < length es → is_of hook arg (get_or es i d) ≡ true → marked (mark arg) es ≤ 1 → cancel_events hook arg es ≡ remove es i
one_out hook arg [] i d lt t n = absurd (omega arith)
one_out hook arg (e ∷ es) zero d lt t n =
    let o : mark_one (mark arg) e ≡ 1 = one_of_it hook arg (mark arg) e t ∙ same_one (mark arg) in
    let none : marked (mark arg) es ≡ 0 = omega (arith, sum_by-cons (mark_one (mark arg)) e es) in
    ap (λ (b : Bool). cond (not b) (e ∷ cancel_events hook arg es) (cancel_events hook arg es)) t ∙ none_cancelled hook arg es (sym (none_has hook arg es none))
one_out hook arg (e ∷ es) (suc i) d lt t n = by (is_of hook arg e) refl (λ (few : marked (mark arg) es ≤ 1). one_out hook arg es i d (omega arith) t few)
  where
    by : (b : Bool) → is_of hook arg e ≡ b → (marked (mark arg) es ≤ 1 → cancel_events hook arg es ≡ remove es i) → cond (not b) (e ∷ cancel_events hook arg es) (cancel_events hook arg es) ≡ e ∷ remove es i
    by true h rest =
        let o : mark_one (mark arg) e ≡ 1 = one_of_it hook arg (mark arg) e h ∙ same_one (mark arg) in
        let p : mark_one (mark arg) (get_or es i d) ≡ 1 = one_of_it hook arg (mark arg) (get_or es i d) t ∙ same_one (mark arg) in
        absurd (omega (arith, sum_by-cons (mark_one (mark arg)) e es, get_or-le-sum_by (mark_one (mark arg)) es i d (omega arith)))
    by false h rest = ap (λ (xs : List Event). e ∷ xs) (rest (omega (arith, sum_by-cons (mark_one (mark arg)) e es)))

pub at_most : (n : ℕ) → nat_le n 1 ≡ true → n ≤ 1
at_most n h = grind (arith, nat_tests)

pub beside_like : (a b : Bool) → a ≡ false → false ≡ (a && b)
beside_like a b e = rw e refl

pub none_stands : (a b : Bool) → b ≡ false → false ≡ (a && b)
none_stands true b e = sym e
none_stands false b e = refl

and_none : (a b : Bool) → b ≡ false → (a && b) ≡ false
and_none true b e = e
and_none false b e = refl

none_of : (time : ℕ) (hook arg : List ℕ) (es : List Event) → cancels hook arg es ≡ false → stands (event_at time hook arg) es ≡ false
none_of time hook arg [] n = refl
none_of time hook arg (e ∷ es) n = by (is_of hook arg e) refl n (none_of time hook arg es)
  where
    by : (b : Bool) → is_of hook arg e ≡ b → (b || cancels hook arg es) ≡ false → (cancels hook arg es ≡ false → stands (event_at time hook arg) es ≡ false)
        → (is_same e (event_at time hook arg) || stands (event_at time hook arg) es) ≡ false
    by true i n rest = absurd (cc)
    by false i n rest = rw (and_none (nat_eq e.time time) (is_of hook arg e) i) (rest n)

pub no_place : (time : ℕ) (hook arg : List ℕ) (es : List Event) → cancels hook arg es ≡ false → is_some (place_of (event_at time hook arg) es) ≡ false
no_place time hook arg es n = stands_is (event_at time hook arg) es ∙ none_of time hook arg es n

pub by_place : (a b c : Bool) → a ≡ true → c ≡ b → c ≡ (a && b)
by_place a b c e g = rw e g

pub only : (time : ℕ) (hook arg : List ℕ) (es : List Event) (ms : List ℕ) (place : Option ℕ) → place ≡ place_of (event_at time hook arg) es → Covers ms es → count_of (mark arg) ms ≤ 1 → IfSome place (λ i. IsOnly hook arg i es)
only time hook arg es ms None is c n = tt
only time hook arg es ms (Some i) is c n =
    let e : Event = event_at time hook arg in
    let p = position-Some (λ x. is_same x e) es i e (sym is) in
    let of_it = (both (nat_eq (get_or es i e).time time) (is_of hook arg (get_or es i e)) p.1).1 in
    record {
      within = p.0;
      of_it = λ d. ap (is_of hook arg) (any_default es i d e p.0) ∙ of_it;
      only = one_out hook arg es i e p.0 of_it (omega (arith, c (mark arg)));
    }

-- ---- an event that gets another time

moves_by : (es : List Event) (i time : ℕ) (every : Every) (e : Event) (b : Bool) → i < length es → e ≡ get_or es i e → b ≡ stands (record e { time = time }) (remove es i)
    → move_event i time every es ≡ cond b None (Some (insert_event (record e { time = time; every = every }) (remove es i)))
moves_by es i time every e b lt at s =
    ap (λ (o : Option Event). move_among o time every (remove es i)) (got es i e lt at)
    ∙ ap (λ (c : Bool). cond c None (Some (insert_event (record e { time = time; every = every }) (remove es i)))) (sym s)

-- that there is one is known by the length, so that any default does
pub move_stands : (es : List Event) (i time : ℕ) (every : Every) → i < length es → ((d : Event) → stands (record (get_or es i d) { time = time }) (remove es i) ≡ true) → None ≡ move_event i time every es
move_stands [] i time every lt s = absurd (omega arith)
move_stands (x ∷ xs) i time every lt s =
    let e : Event = get_or (x ∷ xs) i x in sym (moves_by (x ∷ xs) i time every e true lt (any_default (x ∷ xs) i x e lt) (sym (s x)))

pub move_free : (es : List Event) (i time : ℕ) (every : Every) (new : List Event) → i < length es → ((d : Event) → stands (record (get_or es i d) { time = time }) (remove es i) ≡ false)
    → ((d : Event) → new ≡ insert_event (record (get_or es i d) { time = time; every = every }) (remove es i)) → Some new ≡ move_event i time every es
move_free [] i time every new lt s n = absurd (omega arith)
move_free (x ∷ xs) i time every new lt s n =
    let e : Event = get_or (x ∷ xs) i x in
    ap (λ (ys : List Event). Some ys) (n x) ∙ sym (moves_by (x ∷ xs) i time every e false lt (any_default (x ∷ xs) i x e lt) (sym (s x)))

-- ---- an event that goes

or_none : (a b : Bool) → a ≡ false → b ≡ (a || b)
or_none a b e = rw e refl

others : (p : Event → Bool) (d : Event) (es : List Event) (i : ℕ) → p (get_or es i d) ≡ false → list_any p (remove es i) ≡ list_any p es
others p d [] zero n = refl
others p d [] (suc i) n = refl
others p d (x ∷ xs) zero n = or_none (p x) (list_any p xs) n
others p d (x ∷ xs) (suc i) n = ap (λ (b : Bool). p x || b) (others p d xs i n)

put_none : (e : Event) (es : List Event) → stands e es ≡ true → put_again e es ≡ es
put_none e es s = rw s refl

differ : (m n : ℕ) → m < n → nat_eq m n ≡ false
differ m n h = grind (arith, nat_tests)

and_left : (a b : Bool) → a ≡ false → (a && b) ≡ false
and_left a b e = rw e refl

not_false : (b : Bool) → not b ≡ false → b ≡ true
not_false true e = refl
not_false false e = absurd (cc)

-- where it comes later, whether its like stands doesn't hang on it
later : (i time : ℕ) (event : Event) (es : List Event) → i < length es → (get_or es i event).time < time → stands (record (get_or es i event) { time = time }) (remove es i) ≡ stands (record (get_or es i event) { time = time }) es
later i time event es lt late =
    let e : Event = get_or es i event in
    let new : Event = record e { time = time } in
    let other : is_same e new ≡ false = and_left (nat_eq e.time time) (is_of e.hook e.arg e) (differ e.time time late) in
    let here : is_same (get_or es i new) new ≡ false = ap (λ (x : Event). is_same x new) (any_default es i new event lt) ∙ other in
    others (λ x. is_same x new) new es i here

gone_at : (m : Option ℕ) (i : ℕ) (event : Event) (es : List Event) → i < length es → ((t : ℕ) → m ≡ Some t → (get_or es i event).time < t) → comes_at m (get_or es i event) es ≡ false → again m (get_or es i event) (remove es i) ≡ remove es i
gone_at None i event es lt late c = refl
gone_at (Some t) i event es lt late c =
    let new : Event = record (get_or es i event) { time = t } in
    put_none new (remove es i) (later i t event es lt (late t refl) ∙ not_false (stands new es) c)

gone_of : (place : Option ℕ) (i : ℕ) (event : Event) (now : ℕ) (es : List Event) → place ≡ Some i → i < length es → comes_of place event now es ≡ false → take_event_at place event now es ≡ remove es i
gone_of place i event now es p lt c =
    let e : Event = get_or es i event in
    ap (λ (o : Option ℕ). take_event_at o event now es) p
    ∙ gone_at (moment_next now e) i event es lt (λ t m. next_behind e.every e.time now t m) (ap (λ (o : Option ℕ). comes_of o event now es) (sym p) ∙ c)

pub gone : (i : ℕ) (event : Event) (now : ℕ) (es : List Event) → place_of event es ≡ Some i → i < length es → comes_again event now es ≡ false → take_event event now es ≡ remove es i
gone i event now es p lt c = gone_of (place_of event es) i event now es p lt c

-- ---- an event that comes again

comes_some : (i time : ℕ) (event : Event) (now : ℕ) (es : List Event) → place_of event es ≡ Some i → moment_next now (get_or es i event) ≡ Some time
    → comes_again event now es ≡ not (stands (record (get_or es i event) { time = time }) es)
comes_some i time event now es p m =
    ap (λ (o : Option ℕ). comes_of o event now es) p ∙ ap (λ (o : Option ℕ). comes_at o (get_or es i event) es) m

taken_some : (i time : ℕ) (event : Event) (now : ℕ) (es : List Event) → place_of event es ≡ Some i → moment_next now (get_or es i event) ≡ Some time
    → take_event event now es ≡ put_again (record (get_or es i event) { time = time }) (remove es i)
taken_some i time event now es p m =
    ap (λ (o : Option ℕ). take_event_at o event now es) p ∙ ap (λ (o : Option ℕ). again o (get_or es i event) (remove es i)) m

pub none_comes : (i : ℕ) (event : Event) (now : ℕ) (es : List Event) → place_of event es ≡ Some i → moment_next now (get_or es i event) ≡ None → false ≡ comes_again event now es
none_comes i event now es p m =
    sym (ap (λ (o : Option ℕ). comes_of o event now es) p ∙ ap (λ (o : Option ℕ). comes_at o (get_or es i event) es) m)

module _ (i time : ℕ) (event : Event) (now : ℕ) (es : List Event) (p : place_of event es ≡ Some i) (lt : i < length es) (m : moment_next now (get_or es i event) ≡ Some time) where
  abbrev e : Event
  e = get_or es i event

  here : e ≡ get_or es i e
  here = any_default es i event e lt

  free : stands (record e { time = time }) (remove es i) ≡ stands (record e { time = time }) es
  free = later i time event es lt (next_behind e.every e.time now time m)

  told_by : (b : Bool) (r : Option Shift) (new xs : List Event) → option_map (λ _. new) r ≡ cond b None (Some xs) → is_some r ≡ not b
  told_by true (Some s) new xs d = absurd (cc)
  told_by true None new xs d = refl
  told_by false (Some s) new xs d = refl
  told_by false None new xs d = absurd (cc)

  pub again_told : (r : Option Shift) (new : List Event) → option_map (λ _. new) r ≡ move_event i time e.every es → is_some r ≡ comes_again event now es
  again_told r new d =
      told_by (stands (record e { time = time }) (remove es i)) r new (insert_event (record e { time = time }) (remove es i)) (d ∙ moves_by es i time e.every e _ lt here refl)
      ∙ ap not free ∙ sym (comes_some i time event now es p m)

  after_by : (b : Bool) (r : Option Shift) (new xs ys : List Event) → option_map (λ _. new) r ≡ cond b None (Some xs) → IfSome r (λ _. new ≡ cond b ys xs)
  after_by true (Some s) new xs ys d = absurd (cc)
  after_by true None new xs ys d = tt
  after_by false (Some s) new xs ys d = cc
  after_by false None new xs ys d = absurd (cc)

  pub again_after : (r : Option Shift) (new : List Event) → option_map (λ _. new) r ≡ move_event i time e.every es → IfSome r (λ _. new ≡ take_event event now es)
  again_after r new d =
      subst (λ (xs : List Event). IfSome r (λ _. new ≡ xs)) (sym (taken_some i time event now es p m))
      (after_by (stands (record e { time = time }) (remove es i)) r new (insert_event (record e { time = time }) (remove es i)) (remove es i) (d ∙ moves_by es i time e.every e _ lt here refl))

pub back_some : (r : Option Shift) (new old : List Event) → MayGoBack r new old → IfSome r (λ s. ShiftsBack s new old)
back_some (Some s) new old g = g
back_some None new old g = tt

pub stays_none : (r : Option Shift) (new old : List Event) → MayGoBack r new old → IfNone r (new ≡ old)
stays_none (Some s) new old g = tt
stays_none None new old g = g

-- whether another has its hook and argument then
pub none_other : (es : List Event) (i time : ℕ) (hook arg : List ℕ) (e : Event) → hook ≡ e.hook → arg ≡ e.arg → place_of (event_at time hook arg) es ≡ None → false ≡ stands (record e { time = time }) (remove es i)
none_other es i time hook arg e h a p =
    let none : stands (event_at time hook arg) es ≡ false = sym (stands_is (event_at time hook arg) es) ∙ ap is_some p in
    sym (none_remove (λ x. is_same x (record e { time = time })) es i (ap₂ (λ (x y : List ℕ). stands (event_at time x y) es) (sym h) (sym a) ∙ none))

unlike : (i j : ℕ) → nat_eq j i ≡ false → j ≡ i → ⊥
unlike i j n e = grind (arith, nat_tests)

equal : (i j : ℕ) → nat_eq j i ≡ true → j ≡ i
equal i j n = grind (arith, nat_tests)

pub some_other : (es : List Event) (i j time : ℕ) (hook arg : List ℕ) (e : Event) (b : Bool) → i < length es → HasEachOnce es → hook ≡ e.hook → arg ≡ e.arg → place_of (event_at time hook arg) es ≡ Some j → b ≡ not (nat_eq j i)
    → b ≡ stands (record e { time = time }) (remove es i)
some_other es i j time hook arg e b lt once h a p n = by (nat_eq j i) refl
  where
    new : Event
    new = record e { time = time }

    found : (j < length es) × (is_same (get_or es j new) new ≡ true)
    found =
        let q = position-Some (λ x. is_same x (event_at time hook arg)) es j new (p) in
        (q.0, ap₂ (λ (x y : List ℕ). is_same (get_or es j new) (event_at time x y)) (sym h) (sym a) ∙ q.1)

    by : (c : Bool) → nat_eq j i ≡ c → b ≡ stands new (remove es i)
    by true c = n ∙ ap not c ∙ sym (alone_at es i new new lt (subst (λ k. is_same (get_or es k new) new ≡ true) (equal i j c) found.1) once)
    by false c = n ∙ ap not c ∙ sym (stands_elsewhere es i j new new lt found.0 (unlike i j c) found.1)
