-- Scheduling, cancelling and taking events keep them by time.
use Rattle.std.proofs.Common.{◌≡◌, refl, ap, ℕ, zero, suc, ◌+◌, ◌≤◌, List, [], ◌∷◌, length, filter, Bool, true, false, not, cond, nat_lt, Some, None, arith}
use Rattle.std.specs.Prelude.{insert, remove, unwrap_or}
use Rattle.std.specs.List.{position_or_len}
use Rattle.std.proofs.lemmas.Bool.Decides.{nat_tests}
use Rattle.press_events.specs.declared.event.Event.{Event}
use Rattle.press_events.specs.DueEvents.{NoneBefore, IsByTime, is_later, place_in, insert_event}

none_weaker : (s t : ℕ) (es : List Event) → s ≤ t → NoneBefore t es → NoneBefore s es
none_weaker s t [] h k = tt
none_weaker s t (e ∷ es) h k = (omega (arith, k.0), none_weaker s t es h k.1)

-- ---- fewer events

none_cond : (b : Bool) (t : ℕ) (e : Event) (es : List Event) → t ≤ e.time → NoneBefore t es → NoneBefore t (cond b (e ∷ es) es)
none_cond true t e es h k = (h, k)
none_cond false t e es h k = k

none_filter : (p : Event → Bool) (t : ℕ) (es : List Event) → NoneBefore t es → NoneBefore t (filter p es)
none_filter p t [] h = tt
none_filter p t (e ∷ es) h = none_cond (p e) t e (filter p es) h.0 (none_filter p t es h.1)

by_time_cond : (b : Bool) (e : Event) (es : List Event) → NoneBefore e.time es → IsByTime es → IsByTime (cond b (e ∷ es) es)
by_time_cond true e es h k = (h, k)
by_time_cond false e es h k = k

pub by_time_filter : (p : Event → Bool) (es : List Event) → IsByTime es → IsByTime (filter p es)
by_time_filter p [] h = tt
by_time_filter p (e ∷ es) h = by_time_cond (p e) e (filter p es) (none_filter p e.time es h.0) (by_time_filter p es h.1)

none_remove : (t : ℕ) (es : List Event) (i : ℕ) → NoneBefore t es → NoneBefore t (remove es i)
none_remove t [] zero h = tt
none_remove t [] (suc i) h = tt
none_remove t (e ∷ es) zero h = h.1
none_remove t (e ∷ es) (suc i) h = (h.0, none_remove t es i h.1)

pub by_time_remove : (es : List Event) (i : ℕ) → IsByTime es → IsByTime (remove es i)
by_time_remove [] zero h = tt
by_time_remove [] (suc i) h = tt
by_time_remove (e ∷ es) zero h = h.1
by_time_remove (e ∷ es) (suc i) h = (none_remove e.time es i h.0, by_time_remove es i h.1)

-- ---- one event more, put in by recursion

abbrev pub put : Event → List Event → List Event
put e [] = e ∷ []
put e (x ∷ xs) = cond (is_later e.time x) (e ∷ x ∷ xs) (x ∷ put e xs)

abbrev place : Event → List Event → ℕ
place e es = position_or_len (is_later e.time) es

puts_by : (b : Bool) (e x : Event) (xs : List Event) → insert xs (place e xs) e ≡ put e xs → insert (x ∷ xs) (cond (not b) (1 + place e xs) 0) e ≡ cond b (e ∷ x ∷ xs) (x ∷ put e xs)
puts_by true e x xs h = refl
puts_by false e x xs h = let one : 1 + place e xs ≡ suc (place e xs) = omega arith in rw one (ap (λ (ys : List Event). x ∷ ys) h)

puts : (e : Event) (es : List Event) → insert es (place e es) e ≡ put e es
puts e [] = refl
puts e (x ∷ xs) = puts_by (is_later e.time x) e x xs (puts e xs)

within_by : (b : Bool) (n m : ℕ) → n ≤ m → cond (not b) (1 + n) 0 ≤ suc m
within_by true n m h = omega arith
within_by false n m h = omega arith

within : (e : Event) (es : List Event) → place e es ≤ length es
within e [] = omega arith
within e (x ∷ xs) = within_by (is_later e.time x) (place e xs) (length xs) (within e xs)

pub or_last : (n m : ℕ) → n ≤ m → unwrap_or (cond (nat_lt n m) (Some n) None) m ≡ n
or_last n m h = grind (arith, nat_tests)

none_put_by : (b : Bool) (t : ℕ) (e x : Event) (xs : List Event) → t ≤ e.time → t ≤ x.time → NoneBefore t xs → NoneBefore t (put e xs) → NoneBefore t (cond b (e ∷ x ∷ xs) (x ∷ put e xs))
none_put_by true t e x xs h k m n = (h, (k, m))
none_put_by false t e x xs h k m n = (k, n)

none_put : (t : ℕ) (e : Event) (es : List Event) → t ≤ e.time → NoneBefore t es → NoneBefore t (put e es)
none_put t e [] h k = (h, tt)
none_put t e (x ∷ xs) h k = none_put_by (is_later e.time x) t e x xs h k.0 k.1 (none_put t e xs h k.1)

is_after : (s t : ℕ) → nat_lt s t ≡ true → s ≤ t
is_after s t h = grind (arith, nat_tests)

pub is_before : (s t : ℕ) → nat_lt s t ≡ false → t ≤ s
is_before s t h = grind (arith, nat_tests)

by_time_put_by : (b : Bool) (e x : Event) (xs : List Event) → is_later e.time x ≡ b → IsByTime (x ∷ xs) → IsByTime (put e xs) → IsByTime (cond b (e ∷ x ∷ xs) (x ∷ put e xs))
by_time_put_by true e x xs l h k = let early = is_after e.time x.time l in ((early, none_weaker e.time x.time xs early h.0), h)
by_time_put_by false e x xs l h k = (none_put x.time e xs (is_before e.time x.time l) h.0, k)

by_time_put : (e : Event) (es : List Event) → IsByTime es → IsByTime (put e es)
by_time_put e [] h = (tt, tt)
by_time_put e (x ∷ xs) h = by_time_put_by (is_later e.time x) e x xs refl h (by_time_put e xs h.1)

pub scheduled_put : (e : Event) (es : List Event) → insert_event e es ≡ put e es
scheduled_put e es =
    let at : place_in e.time es ≡ place e es = or_last (place e es) (length es) (within e es) in
    rw (at, puts e es) refl

pub by_time_scheduled : (e : Event) (es : List Event) → IsByTime es → IsByTime (insert_event e es)
by_time_scheduled e es h = rw (scheduled_put e es) (by_time_put e es h)
