-- Whatever is done to events leaves such as scheduling makes.
use Rattle.std.proofs.Common.{◌≡◌, refl, sym, ◌∙◌, ap, ap₂, subst, ℕ, zero, suc, ◌<◌, ◌≤◌, List, [], ◌∷◌, length, get_or, filter, Bool, true, false, not, nat_lt, nat_eq, cond, Result, Ok, Err, arith}
use Rattle.std.specs.Prelude.{◌&&◌, ◌||◌, bytes_eq, insert, remove, nat_le, IfOk}
use Rattle.std.specs.List.{list_any}
use Rattle.std.proofs.lemmas.Bool.Decides.{nat_tests}
use Rattle.std.proofs.lemmas.List.Edits.{length-remove}
use Rattle.std.proofs.lemmas.Slice.Eq.{bytes_eq-Decides}
use Rattle.press_events.specs.declared.event.Event.{Event}
use Rattle.press_events.specs.declared.fault.EventFault.{EventFault}
use Rattle.press_events.specs.declared.fault.EventFault.TheVariants.{TooLong, TooManyEvents}
use Rattle.press_events.specs.DueEvents.{AreShort, HasEachOnce, IsSchedule, add_event, cancel_events, is_of, is_same, place_in, put_again, insert_event, stands}
use Rattle.press_events.proofs.ByTime.{by_time_filter, by_time_remove, by_time_scheduled}
use Rattle.press_events.proofs.Halves.{fewer_left}
use Rattle.press_events.proofs.Once.{length_insert, neither, once_insert, once_remove, or_false, same_flip}

-- ---- short arguments

short_insert : (e : Event) (es : List Event) (i : ℕ) → length e.arg ≤ 256 → AreShort es → AreShort (insert es i e)
short_insert e [] zero h s = (h, tt)
short_insert e [] (suc i) h s = (h, tt)
short_insert e (x ∷ xs) zero h s = (h, s)
short_insert e (x ∷ xs) (suc i) h s = (s.0, short_insert e xs i h s.1)

short_remove : (es : List Event) (i : ℕ) → AreShort es → AreShort (remove es i)
short_remove [] zero s = tt
short_remove [] (suc i) s = tt
short_remove (x ∷ xs) zero s = s.1
short_remove (x ∷ xs) (suc i) s = (s.0, short_remove xs i s.1)

short_at : (es : List Event) (i : ℕ) (d : Event) → i < length es → AreShort es → length (get_or es i d).arg ≤ 256
short_at [] i d lt s = absurd (omega arith)
short_at (x ∷ xs) zero d lt s = s.0
short_at (x ∷ xs) (suc i) d lt s = short_at xs i d (omega arith) s.1

short_cond : (b : Bool) (e : Event) (es : List Event) → length e.arg ≤ 256 → AreShort es → AreShort (cond b (e ∷ es) es)
short_cond true e es h s = (h, s)
short_cond false e es h s = s

short_filter : (p : Event → Bool) (es : List Event) → AreShort es → AreShort (filter p es)
short_filter p [] s = tt
short_filter p (e ∷ es) s = short_cond (p e) e (filter p es) s.0 (short_filter p es s.1)

-- ---- each once

none_cond : (b : Bool) (q : Event → Bool) (e : Event) (es : List Event) → q e ≡ false → list_any q es ≡ false → list_any q (cond b (e ∷ es) es) ≡ false
none_cond true q e es h k = or_false (q e) (list_any q es) h k
none_cond false q e es h k = k

none_filter : (p q : Event → Bool) (es : List Event) → list_any q es ≡ false → list_any q (filter p es) ≡ false
none_filter p q [] h = refl
none_filter p q (e ∷ es) h = let n = neither (q e) (list_any q es) h in none_cond (p e) q e (filter p es) n.0 (none_filter p q es n.1)

once_cond : (b : Bool) (e : Event) (es : List Event) → stands e es ≡ false → HasEachOnce es → HasEachOnce (cond b (e ∷ es) es)
once_cond true e es h o = (h, o)
once_cond false e es h o = o

once_filter : (p : Event → Bool) (es : List Event) → HasEachOnce es → HasEachOnce (filter p es)
once_filter p [] o = tt
once_filter p (e ∷ es) o = once_cond (p e) e (filter p es) (none_filter p (λ x. is_same x e) es o.0) (once_filter p es o.1)

-- ---- all of it

pub schedule_none : IsSchedule []
schedule_none = record { by_time = tt; once = tt; short = tt; few = omega arith }

pub schedule_removed : (es : List Event) (i : ℕ) → i < length es → IsSchedule es → IsSchedule (remove es i)
schedule_removed es i lt s = record {
  by_time = by_time_remove es i s.by_time;
  once = once_remove es i s.once;
  short = short_remove es i s.short;
  few = let few = s.few in omega (arith, length-remove es i lt);
}

pub schedule_scheduled : (e : Event) (es : List Event) → length e.arg ≤ 256 → stands e es ≡ false → length es < 4096 → IsSchedule es → IsSchedule (insert_event e es)
schedule_scheduled e es short new room s = record {
  by_time = by_time_scheduled e es s.by_time;
  once = once_insert e es (place_in e.time es) new s.once;
  short = short_insert e es (place_in e.time es) short s.short;
  few = omega (arith, length_insert e es (place_in e.time es));
}

pub schedule_cancelled : (hook arg : List ℕ) (es : List Event) → IsSchedule es → IsSchedule (cancel_events hook arg es)
schedule_cancelled hook arg es s = record {
  by_time = by_time_filter (λ e. not (is_of hook arg e)) es s.by_time;
  once = once_filter (λ e. not (is_of hook arg e)) es s.once;
  short = short_filter (λ e. not (is_of hook arg e)) es s.short;
  few = let few = s.few in omega (arith, fewer_left hook arg es);
}

-- one with the argument of another that went, put in where its like doesn't stand
pub schedule_moved : (es : List Event) (i : ℕ) (e new : Event) → i < length es → e ≡ get_or es i e → new.arg ≡ e.arg → stands new (remove es i) ≡ false → IsSchedule es → IsSchedule (insert_event new (remove es i))
schedule_moved es i e new lt at arg free s =
    let few = s.few in
    let short : length new.arg ≤ 256 = subst (λ (a : List ℕ). length a ≤ 256) (sym (arg ∙ ap (λ (x : Event). x.arg) at)) (short_at es i e lt s.short) in
    schedule_scheduled new (remove es i) short free (omega (arith, length-remove es i lt)) (schedule_removed es i lt s)

again_by : (b : Bool) (e : Event) (es : List Event) → (b ≡ false → IsSchedule (insert_event e es)) → IsSchedule es → IsSchedule (cond b es (insert_event e es))
again_by true e es put s = s
again_by false e es put s = put refl

pub schedule_again : (es : List Event) (i : ℕ) (e new : Event) → i < length es → e ≡ get_or es i e → new.arg ≡ e.arg → IsSchedule es → IsSchedule (put_again new (remove es i))
schedule_again es i e new lt at arg s =
    again_by (stands new (remove es i)) new (remove es i) (λ free. schedule_moved es i e new lt at arg free s) (schedule_removed es i lt s)

-- ---- an event stands nowhere but at its place

same_time : (m n : ℕ) → nat_eq m n ≡ true → m ≡ n
same_time m n h = grind (arith, nat_tests)

parts : (a b c : Bool) → (a && (b && c)) ≡ true → (a ≡ true) × (b ≡ true) × (c ≡ true)
parts true true true e = (refl, refl, refl)
parts true true false e = absurd (cc)
parts true false c e = absurd (cc)
parts false b c e = absurd (cc)

-- what is the same as one is the same as the other
alike : (a b : Event) → is_same a b ≡ true → (x : Event) → is_same x b ≡ is_same x a
alike a b s x =
    let p = parts (nat_eq a.time b.time) (bytes_eq a.hook b.hook) (bytes_eq a.arg b.arg) s in
    ap (λ (t : ℕ). nat_eq x.time t && is_of b.hook b.arg x) (sym (same_time a.time b.time p.0))
    ∙ ap (λ (h : List ℕ). nat_eq x.time a.time && is_of h b.arg x) (sym ((bytes_eq-Decides a.hook b.hook).0 p.1))
    ∙ ap (λ (g : List ℕ). nat_eq x.time a.time && is_of a.hook g x) (sym ((bytes_eq-Decides a.arg b.arg).0 p.2))

stands_alike : (a b : Event) → is_same a b ≡ true → (es : List Event) → stands b es ≡ stands a es
stands_alike a b s [] = refl
stands_alike a b s (x ∷ xs) = ap₂ (λ (p q : Bool). p || q) (alike a b s x) (stands_alike a b s xs)

none_at : (p : Event → Bool) (es : List Event) (i : ℕ) (d : Event) → i < length es → list_any p es ≡ false → p (get_or es i d) ≡ false
none_at p [] i d lt h = absurd (omega arith)
none_at p (x ∷ xs) zero d lt h = (neither (p x) (list_any p xs) h).0
none_at p (x ∷ xs) (suc i) d lt h = none_at p xs i d (omega arith) (neither (p x) (list_any p xs) h).1

pub alone_at : (es : List Event) (i : ℕ) (d new : Event) → i < length es → is_same (get_or es i d) new ≡ true → HasEachOnce es → stands new (remove es i) ≡ false
alone_at [] i d new lt s o = absurd (omega arith)
alone_at (x ∷ xs) zero d new lt s o = stands_alike x new s xs ∙ o.0
alone_at (x ∷ xs) (suc i) d new lt s o =
    let e : Event = get_or xs i d in
    let here : is_same x new ≡ false = alike e new s x ∙ same_flip x e ∙ none_at (λ y. is_same y x) xs i d (omega arith) o.0 in
    or_false (is_same x new) (stands new (remove xs i)) here (alone_at xs i d new (omega arith) s o.1)

-- one that stands elsewhere stands among the others
pub stands_elsewhere : (es : List Event) (i j : ℕ) (d new : Event) → i < length es → j < length es → (j ≡ i → ⊥) → is_same (get_or es j d) new ≡ true → stands new (remove es i) ≡ true
stands_elsewhere [] i j d new lt within other s = absurd (omega arith)
stands_elsewhere (x ∷ xs) zero zero d new lt within other s = absurd (other refl)
stands_elsewhere (x ∷ xs) zero (suc j) d new lt within other s = found xs j (omega arith) s
  where
    or_found : (a b : Bool) → b ≡ true → (a || b) ≡ true
    or_found true b h = refl
    or_found false b h = h

    found : (ys : List Event) (k : ℕ) → k < length ys → is_same (get_or ys k d) new ≡ true → stands new ys ≡ true
    found [] k lt s = absurd (omega arith)
    found (y ∷ ys) zero lt s = rw s refl
    found (y ∷ ys) (suc k) lt s = or_found (is_same y new) (stands new ys) (found ys k (omega arith) s)
stands_elsewhere (x ∷ xs) (suc i) zero d new lt within other s = rw s refl
stands_elsewhere (x ∷ xs) (suc i) (suc j) d new lt within other s =
    or_found (is_same x new) (stands new (remove xs i)) (stands_elsewhere xs i j d new (omega arith) (omega arith) (λ e. other (ap suc e)) s)
  where
    or_found : (a b : Bool) → b ≡ true → (a || b) ≡ true
    or_found true b h = refl
    or_found false b h = h

-- ---- adding

added_by : (long stood full : Bool) (e : Event) (es : List Event) → long ≡ nat_lt 256 (length e.arg) → stood ≡ stands e es → full ≡ nat_le 4096 (length es) → IsSchedule es
    → IfOk (let r : Result (List Event × Bool) EventFault = cond long (Err TooLong) (cond stood (Ok (es, false)) (cond full (Err TooManyEvents) (Ok (insert_event e es, true)))) in r) (λ after. IsSchedule after.0)
added_by true stood full e es l t f s = tt
added_by false true full e es l t f s = s
added_by false false true e es l t f s = tt
added_by false false false e es l t f s = schedule_scheduled e es (short 256 (length e.arg) (sym l)) (sym t) (room 4096 (length es) (sym f)) s
  where
    short : (m n : ℕ) → nat_lt m n ≡ false → n ≤ m
    short m n k = grind (arith, nat_tests)

    room : (m n : ℕ) → nat_le m n ≡ false → n < m
    room m n k = grind (arith, nat_tests)

pub schedule_added : (e : Event) (es : List Event) → IsSchedule es → IfOk (add_event e es) (λ after. IsSchedule after.0)
schedule_added e es s = added_by (nat_lt 256 (length e.arg)) (stands e es) (nat_le 4096 (length es)) e es refl refl refl s
