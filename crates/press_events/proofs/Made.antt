-- Events such as scheduling makes are made by scheduling them one by one: each comes last.
use Rattle.std.proofs.Common.{◌≡◌, refl, sym, ◌∙◌, ap, subst, ℕ, ◌+◌, ◌<◌, ◌≤◌, List, [], ◌∷◌, ◌++◌, length, Bool, true, false, cond, nat_lt, Result, Ok, Err, arith, append_assoc, append-nil}
use Rattle.std.specs.Prelude.{nat_le}
use Rattle.std.specs.List.{list_any}
use Rattle.std.proofs.lemmas.Bool.Decides.{nat_tests}
use Rattle.std.proofs.lemmas.List.{length-append}
use Rattle.press_events.specs.declared.event.Event.{Event}
use Rattle.press_events.specs.declared.fault.EventFault.{EventFault}
use Rattle.press_events.specs.declared.fault.EventFault.TheVariants.{TooLong, TooManyEvents}
use Rattle.press_events.specs.DueEvents.{AreShort, HasEachOnce, IsByTime, IsSchedule, NoneBefore, add_all, add_event, after_adding, is_same, insert_event, stands}
use Rattle.press_events.proofs.ByTime.{put, scheduled_put}
use Rattle.press_events.proofs.Once.{neither, or_false, same_flip}

-- ---- of an event between others

time_of : (t : ℕ) (xs : List Event) (e : Event) (ys : List Event) → NoneBefore t (xs ++ e ∷ ys) → t ≤ e.time
time_of t [] e ys h = h.0
time_of t (x ∷ xs) e ys h = time_of t xs e ys h.1

short_of : (xs : List Event) (e : Event) (ys : List Event) → AreShort (xs ++ e ∷ ys) → length e.arg ≤ 256
short_of [] e ys h = h.0
short_of (x ∷ xs) e ys h = short_of xs e ys h.1

none_of : (p : Event → Bool) (xs : List Event) (e : Event) (ys : List Event) → list_any p (xs ++ e ∷ ys) ≡ false → p e ≡ false
none_of p [] e ys h = (neither (p e) (list_any p ys) h).0
none_of p (x ∷ xs) e ys h = none_of p xs e ys (neither (p x) (list_any p (xs ++ e ∷ ys)) h).1

new_behind : (xs : List Event) (e : Event) (ys : List Event) → HasEachOnce (xs ++ e ∷ ys) → stands e xs ≡ false
new_behind [] e ys o = refl
new_behind (x ∷ xs) e ys o = or_false (is_same x e) (stands e xs) (same_flip x e ∙ none_of (λ y. is_same y x) xs e ys o.0) (new_behind xs e ys o.1)

not_later : (m n : ℕ) → m ≤ n → nat_lt n m ≡ false
not_later m n h = grind (arith, nat_tests)

comes_last : (xs : List Event) (e : Event) (ys : List Event) → IsByTime (xs ++ e ∷ ys) → put e xs ≡ xs ++ e ∷ []
comes_last [] e ys h = refl
comes_last (x ∷ xs) e ys h = rw (not_later x.time e.time (time_of x.time xs e ys h.0)) (ap (λ (zs : List Event). x ∷ zs) (comes_last xs e ys h.1))

-- ---- so it is put in

put_by : (long stood full : Bool) (new es : List Event) → long ≡ false → stood ≡ false → full ≡ false
    → (let r : Result (List Event × Bool) EventFault = cond long (Err TooLong) (cond stood (Ok (es, false)) (cond full (Err TooManyEvents) (Ok (new, true)))) in r) ≡ Ok (new, true)
put_by long stood full new es l s f = rw (l, s, f) refl

not_long : (m n : ℕ) → n ≤ m → nat_lt m n ≡ false
not_long m n h = grind (arith, nat_tests)

not_full : (m n : ℕ) → n < m → nat_le m n ≡ false
not_full m n h = grind (arith, nat_tests)

behind : (xs : List Event) (e : Event) (ys : List Event) → IsSchedule (xs ++ e ∷ ys) → after_adding (add_event e xs) xs ≡ xs ++ e ∷ []
behind xs e ys s =
    let few = s.few in
    let long : length (xs ++ e ∷ ys) ≡ length xs + length (e ∷ ys) = length-append xs (e ∷ ys) in
    let room : length xs < 4096 = omega arith in
    ap (λ (r : Result (List Event × Bool) EventFault). after_adding r xs)
    (put_by (nat_lt 256 (length e.arg)) (stands e xs) (nat_le 4096 (length xs)) (insert_event e xs) xs (not_long 256 (length e.arg) (short_of xs e ys s.short)) (new_behind xs e ys s.once) (not_full 4096 (length xs) room))
    ∙ scheduled_put e xs ∙ comes_last xs e ys s.by_time

pub made : (es xs : List Event) → IsSchedule (xs ++ es) → add_all es xs ≡ xs ++ es
made [] xs s = sym (append-nil xs)
made (e ∷ es) xs s =
    let whole : (xs ++ e ∷ []) ++ es ≡ xs ++ e ∷ es = append_assoc xs (e ∷ []) es in
    ap (add_all es) (behind xs e es s) ∙ made es (xs ++ e ∷ []) (subst IsSchedule (sym whole) s) ∙ whole
