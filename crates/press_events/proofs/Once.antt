-- Scheduling and taking events leave one of each identity, and not too many.
use Rattle.std.proofs.Common.{◌≡◌, refl, sym, ◌∙◌, ap₂, ℕ, zero, suc, ◌+◌, ◌≤◌, List, [], ◌∷◌, length, Bool, true, false, nat_lt, nat_eq, cond, Option, Some, None, Result, Ok, Err, arith}
use Rattle.std.specs.Prelude.{◌||◌, ◌&&◌, insert, remove, nat_le, bytes_eq, slice_index_or, IfOk}
use Rattle.std.specs.List.{list_any}
use Rattle.std.proofs.lemmas.Bool.Decides.{nat_tests}
use Rattle.std.proofs.lemmas.Slice.Eq.{bytes_eq-Decides}
use Rattle.press_events.specs.declared.event.Event.{Event}
use Rattle.press_events.specs.declared.fault.EventFault.{EventFault}
use Rattle.press_events.specs.declared.fault.EventFault.TheVariants.{TooLong, TooManyEvents}
use Rattle.press_events.specs.DueEvents.{is_same, stands, insert_event, place_in, place_of, add_event, again, take_event_at, take_event, moment_next, HasEachOnce}

bytes_flip : (a b : List ℕ) → bytes_eq a b ≡ bytes_eq b a
bytes_flip a b = alike (bytes_eq a b) (bytes_eq b a) refl refl
  where
    alike : (p q : Bool) → p ≡ bytes_eq a b → q ≡ bytes_eq b a → p ≡ q
    alike true q e f = sym (f ∙ (bytes_eq-Decides b a).1 (sym ((bytes_eq-Decides a b).0 (sym e))))
    alike false true e f = e ∙ (bytes_eq-Decides a b).1 (sym ((bytes_eq-Decides b a).0 (sym f)))
    alike false false e f = refl

nat_flip : (m n : ℕ) → nat_eq m n ≡ nat_eq n m
nat_flip m n = grind (arith, nat_tests)

pub same_flip : (a b : Event) → is_same a b ≡ is_same b a
same_flip a b = ap₂ (λ (x y : Bool). x && y) (nat_flip a.time b.time) (ap₂ (λ (x y : Bool). x && y) (bytes_flip a.hook b.hook) (bytes_flip a.arg b.arg))

pub neither : (a b : Bool) → (a || b) ≡ false → (a ≡ false) × (b ≡ false)
neither true b e = absurd (cc)
neither false b e = (refl, e)

pub or_false : (a b : Bool) → a ≡ false → b ≡ false → (a || b) ≡ false
or_false a b e f = rw (e, f) refl

-- ---- one more, one less

none_insert : (p : Event → Bool) (e : Event) (es : List Event) (i : ℕ) → p e ≡ false → list_any p es ≡ false → list_any p (insert es i e) ≡ false
none_insert p e [] zero h k = or_false (p e) false h refl
none_insert p e [] (suc i) h k = or_false (p e) false h refl
none_insert p e (x ∷ xs) zero h k = or_false (p e) (list_any p (x ∷ xs)) h k
none_insert p e (x ∷ xs) (suc i) h k = let n = neither (p x) (list_any p xs) k in or_false (p x) (list_any p (insert xs i e)) n.0 (none_insert p e xs i h n.1)

pub once_insert : (e : Event) (es : List Event) (i : ℕ) → stands e es ≡ false → HasEachOnce es → HasEachOnce (insert es i e)
once_insert e [] zero h o = (refl, tt)
once_insert e [] (suc i) h o = (refl, tt)
once_insert e (x ∷ xs) zero h o = (h, o)
once_insert e (x ∷ xs) (suc i) h o =
    let n = neither (is_same x e) (stands e xs) h in
    (none_insert (λ y. is_same y x) e xs i (same_flip e x ∙ n.0) o.0, once_insert e xs i n.1 o.1)

pub none_remove : (p : Event → Bool) (es : List Event) (i : ℕ) → list_any p es ≡ false → list_any p (remove es i) ≡ false
none_remove p [] zero k = refl
none_remove p [] (suc i) k = refl
none_remove p (x ∷ xs) zero k = (neither (p x) (list_any p xs) k).1
none_remove p (x ∷ xs) (suc i) k = let n = neither (p x) (list_any p xs) k in or_false (p x) (list_any p (remove xs i)) n.0 (none_remove p xs i n.1)

pub once_remove : (es : List Event) (i : ℕ) → HasEachOnce es → HasEachOnce (remove es i)
once_remove [] zero o = tt
once_remove [] (suc i) o = tt
once_remove (x ∷ xs) zero o = o.1
once_remove (x ∷ xs) (suc i) o = (none_remove (λ y. is_same y x) xs i o.0, once_remove xs i o.1)

-- ---- scheduling

once_by : (long stood full : Bool) (e : Event) (es : List Event) → stood ≡ stands e es → HasEachOnce es
    → IfOk (let r : Result (List Event × Bool) EventFault = cond long (Err TooLong) (cond stood (Ok (es, false)) (cond full (Err TooManyEvents) (Ok (insert_event e es, true)))) in r) (λ after. HasEachOnce after.0)
once_by true stood full e es h o = tt
once_by false true full e es h o = o
once_by false false true e es h o = tt
once_by false false false e es h o = once_insert e es (place_in e.time es) (sym h) o

pub once_added : (e : Event) (es : List Event) → HasEachOnce es → IfOk (add_event e es) (λ after. HasEachOnce after.0)
once_added e es o = once_by (nat_lt 256 (length e.arg)) (stands e es) (nat_le 4096 (length es)) e es refl o

-- ---- taking

put_by : (stood : Bool) (e : Event) (es : List Event) → stood ≡ stands e es → HasEachOnce es → HasEachOnce (cond stood es (insert_event e es))
put_by true e es h o = o
put_by false e es h o = once_insert e es (place_in e.time es) (sym h) o

once_again : (time : Option ℕ) (e : Event) (es : List Event) → HasEachOnce es → HasEachOnce (again time e es)
once_again None e es o = o
once_again (Some time) e es o = put_by (stands (record e { time = time }) es) (record e { time = time }) es refl o

once_at : (place : Option ℕ) (event : Event) (now : ℕ) (es : List Event) → HasEachOnce es → HasEachOnce (take_event_at place event now es)
once_at None event now es o = o
once_at (Some i) event now es o = let e = slice_index_or es i event in once_again (moment_next now e) e (remove es i) (once_remove es i o)

pub once_taken : (event : Event) (now : ℕ) (es : List Event) → HasEachOnce es → HasEachOnce (take_event event now es)
once_taken event now es o = once_at (place_of event es) event now es o

-- ---- how many

pub length_insert : (e : Event) (es : List Event) (i : ℕ) → length (insert es i e) ≡ length es + 1
length_insert e [] zero = omega arith
length_insert e [] (suc i) = omega arith
length_insert e (x ∷ xs) zero = omega arith
length_insert e (x ∷ xs) (suc i) = let h = length_insert e xs i in omega arith

few_by : (long stood full : Bool) (most : ℕ) (e : Event) (es : List Event) → full ≡ nat_le most (length es) → length es ≤ most
    → IfOk (let r : Result (List Event × Bool) EventFault = cond long (Err TooLong) (cond stood (Ok (es, false)) (cond full (Err TooManyEvents) (Ok (insert_event e es, true)))) in r) (λ after. length after.0 ≤ most)
few_by true stood full most e es h le = tt
few_by false true full most e es h le = le
few_by false false true most e es h le = tt
few_by false false false most e es h le = omega (arith, length_insert e es (place_in e.time es), short most (length es) (sym h))
  where
    short : (m n : ℕ) → nat_le m n ≡ false → n + 1 ≤ m
    short m n k = grind (arith, nat_tests)

pub few_added : (e : Event) (es : List Event) → length es ≤ 4096 → IfOk (add_event e es) (λ after. length after.0 ≤ 4096)
few_added e es le = few_by (nat_lt 256 (length e.arg)) (stands e es) (nat_le 4096 (length es)) 4096 e es refl le
