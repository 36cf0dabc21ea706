-- The events beside a post: once those of its id are out, its own is put in wherever there is room.
use Rattle.std.proofs.Common.{◌≡◌, refl, sym, subst, ◌∙◌, ap, ℕ, ◌+◌, ◌<◌, ◌≤◌, ◌^◌, Bool, true, false, not, cond, zero, suc, List, [], ◌∷◌, length, Option, Some, None, arith, codes}
use Rattle.std.specs.Prelude.{◌&&◌, remove, slice_index_or, bytes_eq, is_some, unwrap_or, nat_eq, nat_lt, nat_le, if◌then◌else◌, decimal, Result, Ok, Err}
use Rattle.std.proofs.lemmas.Bool.{and_right, le-ltb}
use Rattle.std.proofs.lemmas.Bool.Decides.{nat_tests}
use Rattle.std.proofs.lemmas.Fmt.{length-decimal-le}
use Rattle.std.proofs.lemmas.List.Edits.{length-remove}
use Rattle.std.specs.List.{slice_get}
use Rattle.std.proofs.lemmas.Slice.Eq.{bytes_eq-Decides}
use Rattle.press_text.specs.declared.every.Every.TheVariants.{Once}
use Rattle.press_events.specs.Shifts.{IsOnly, move_event, move_among}
use Rattle.press_events.specs.declared.event.Event.{Event}
use Rattle.press_events.specs.declared.fault.EventFault.{EventFault}
use Rattle.press_events.specs.declared.fault.EventFault.TheVariants as event
use Rattle.press_events.specs.DueEvents as events
use Rattle.press_events.specs.DueEvents.{IsSchedule, is_of, is_same, stands, cancel_events, cancels, add_event, insert_event}
use Rattle.press_site.specs.declared.fault.SiteFault.{SiteFault}
use Rattle.press_site.specs.declared.fault.SiteFault.TheVariants.{TooManyEvents}
use Rattle.press_site.specs.Becomes.{Refuses}
use Rattle.press_site.specs.Contents.{publish_event, events_without, events_of}
use Rattle.std.specs.Prelude.{◌||◌}
use Rattle.press_site.specs.Faults.{of_events}

kept : (e event : Event) (rest : List Event) (b : Bool) → is_of event.hook event.arg e ≡ b → stands event rest ≡ false → stands event (cond (not b) (e ∷ rest) rest) ≡ false
kept e event rest true h s = s
kept e event rest false h s = rw (and_right (nat_eq e.time event.time) (is_of event.hook event.arg e) h) s

stands_not : (event : Event) (es : List Event) → stands event (cancel_events event.hook event.arg es) ≡ false
stands_not event [] = refl
stands_not event (e ∷ es) = kept e event (cancel_events event.hook event.arg es) (is_of event.hook event.arg e) refl (stands_not event es)

abbrev Added : Type 0
Added = Result (List Event × Bool) EventFault

abbrev put_new : List Event → Added
put_new new = Ok (new, true)

abbrev already : List Event → Added
already es = Ok (es, false)

chosen : (long there full : Bool) (es new : List Event) → long ≡ false → there ≡ false →
    (if long then Err event.TooLong else (if there then already es else (if full then Err event.TooManyEvents else put_new new))) ≡ (if full then Err event.TooManyEvents else put_new new)
chosen long there full es new l t = rw (l, t) refl

added : (id date : ℕ) (es : List Event) → id < 2 ^ 64 → add_event (publish_event id date) (events_without id es) ≡ (if nat_le 4096 (length (events_without id es)) then Err event.TooManyEvents else put_new (insert_event (publish_event id date) (events_without id es)))
added id date es small =
    let short : length (decimal id) ≤ 20 = length-decimal-le 20 id (omega arith) (omega arith) small in
    chosen (nat_lt 256 (length (decimal id))) (stands (publish_event id date) (events_without id es)) (nat_le 4096 (length (events_without id es))) (events_without id es) (insert_event (publish_event id date) (events_without id es))
    (le-ltb 256 (length (decimal id)) (omega arith)) (stands_not (publish_event id date) es)

put_of : (full : Bool) (new after : List Event) (b : Bool) → (if full then Err event.TooManyEvents else put_new new) ≡ Ok (after, b) → (if full then Err TooManyEvents else Ok new) ≡ Ok after
put_of true new after b e = absurd (cc)
put_of false new after b e = let same : (new, true) ≡ (after, b) = cc in ap (λ (p : List Event × Bool). Ok p.0) same

-- what is put in
pub put_in : (id date : ℕ) (es after : List Event) (b : Bool) → id < 2 ^ 64 → add_event (publish_event id date) (events_without id es) ≡ Ok (after, b) → events_of (Some date) id es ≡ Ok after
put_in id date es after b small e =
    put_of (nat_le 4096 (length (events_without id es))) (insert_event (publish_event id date) (events_without id es)) after b (sym (added id date es small) ∙ e)

refused_of : (f : EventFault) (full : Bool) (new : List Event) → full ≡ false → events.Refuses f (if full then Err event.TooManyEvents else put_new new) → Refuses (of_events f) (if full then Err TooManyEvents else Ok new)
refused_of event.NoMemory true new e h = absurd (cc)
refused_of event.NoMemory false new e h = tt
refused_of event.TooLong true new e h = absurd (cc)
refused_of event.TooLong false new e h = cc
refused_of event.TooManyEvents true new e h = absurd (cc)
refused_of event.TooManyEvents false new e h = cc

-- a refusal, where there is room
pub refused : (id date : ℕ) (es : List Event) (f : EventFault) → id < 2 ^ 64 → nat_le 4096 (length (events_without id es)) ≡ false → events.Refuses f (add_event (publish_event id date) (events_without id es)) → Refuses (of_events f) (events_of (Some date) id es)
refused id date es f small room h =
    refused_of f (nat_le 4096 (length (events_without id es))) (insert_event (publish_event id date) (events_without id es)) room (rw (sym (added id date es small)) h)

-- ---- where none is for the post

stays : (hook arg : List ℕ) (e : Event) (es : List Event) (b : Bool) → is_of hook arg e ≡ b → (b || cancels hook arg es) ≡ false → (cancels hook arg es ≡ false → cancel_events hook arg es ≡ es) → cond (not b) (e ∷ cancel_events hook arg es) (cancel_events hook arg es) ≡ e ∷ es
stays hook arg e es true h n rest = absurd (cc)
stays hook arg e es false h n rest = ap (λ (xs : List Event). e ∷ xs) (rest n)

none_cancelled : (hook arg : List ℕ) (es : List Event) → cancels hook arg es ≡ false → cancel_events hook arg es ≡ es
none_cancelled hook arg [] n = refl
none_cancelled hook arg (e ∷ es) n = stays hook arg e es (is_of hook arg e) refl n (none_cancelled hook arg es)

pub none_out : (id : ℕ) (es : List Event) → cancels (codes "publish_future_post") (decimal id) es ≡ false → es ≡ events_without id es
none_out id es n = sym (none_cancelled (codes "publish_future_post") (decimal id) es n)

-- ---- where its own is the only one

own_room : (m n k : ℕ) → m + 1 ≡ n → n ≤ k → nat_le k m ≡ false
own_room m n k e h = grind (arith, nat_tests)

abbrev limited : Bool → List Event → Result (List Event) SiteFault
limited b xs = if b then Err TooManyEvents else Ok xs

-- it is there, with its hook and argument
own_there : (hook arg : List ℕ) (es : List Event) (i : ℕ) → i < length es → ((d : Event) → is_of hook arg (slice_index_or es i d) ≡ true) → (e : Event) × (slice_get es i ≡ Some e) × (is_of hook arg e ≡ true)
own_there hook arg [] i lt s = absurd (omega arith)
own_there hook arg (x ∷ xs) zero lt s = (x, refl, s x)
own_there hook arg (x ∷ xs) (suc i) lt s = own_there hook arg xs i (omega arith) s

both : (a b : Bool) → (a && b) ≡ true → (a ≡ true) × (b ≡ true)
both true b e = (refl, e)
both false b e = absurd (cc)

same_of : (date : ℕ) (hook arg : List ℕ) (e : Event) → is_of hook arg e ≡ true → record e { time = date; every = Once } ≡ record { time = date; hook = hook; arg = arg; every = Once }
same_of date hook arg e s =
    let p = both (bytes_eq e.hook hook) (bytes_eq e.arg arg) s in
    let h = (bytes_eq-Decides e.hook hook).0 p.0 in
    let a = (bytes_eq-Decides e.arg arg).0 p.1 in
    λ i. record { time = date; hook = h i; arg = a i; every = Once }

pub moves_own : (id date place : ℕ) (es : List Event) → IsOnly (codes "publish_future_post") (decimal id) place es → move_event place date Once es ≡ Some (insert_event (publish_event id date) (remove es place))
moves_own id date place es o =
    let own = own_there (codes "publish_future_post") (decimal id) es place o.within o.of_it in
    let new : Event = publish_event id date in
    let free : stands new (remove es place) ≡ false = subst (λ (xs : List Event). stands new xs ≡ false) o.only (stands_not new es) in
    ap (λ (e : Option Event). move_among e date Once (remove es place)) own.1
    ∙ ap (λ (e : Event). if stands e (remove es place) then None else Some (insert_event e (remove es place))) (same_of date (codes "publish_future_post") (decimal id) own.0 own.2)
    ∙ ap (λ (b : Bool). if b then None else Some (insert_event new (remove es place))) free

pub own_moved : (id date place : ℕ) (es : List Event) → IsSchedule es → IsOnly (codes "publish_future_post") (decimal id) place es → events_of (Some date) id es ≡ Ok (unwrap_or (move_event place date Once es) es)
own_moved id date place es s o =
    let room : nat_le 4096 (length (events_without id es)) ≡ false = ap (λ (xs : List Event). nat_le 4096 (length xs)) o.only ∙ own_room (length (remove es place)) (length es) 4096 (length-remove es place o.within) s.few in
    ap (λ (b : Bool). limited b (insert_event (publish_event id date) (events_without id es))) room
    ∙ ap (λ (xs : List Event). Ok (insert_event (publish_event id date) xs)) o.only
    ∙ sym (ap (λ (x : Option (List Event)). Ok (unwrap_or x es)) (moves_own id date place es o))

pub may_move : (id date place : ℕ) (es : List Event) → IsOnly (codes "publish_future_post") (decimal id) place es → is_some (move_event place date Once es) ≡ true
may_move id date place es o = ap is_some (moves_own id date place es o)

-- where none is for it
pub own_new : (id date : ℕ) (es : List Event) → cancels (codes "publish_future_post") (decimal id) es ≡ false → nat_le 4096 (length (events_without id es)) ≡ false → events_of (Some date) id es ≡ Ok (insert_event (publish_event id date) es)
own_new id date es n room =
    ap (λ (b : Bool). limited b (insert_event (publish_event id date) (events_without id es))) room
    ∙ ap (λ (xs : List Event). Ok (insert_event (publish_event id date) xs)) (sym (none_out id es n))

-- and it may be scheduled
pub may_come : (id date : ℕ) (es : List Event) → id < 2 ^ 64 → cancels (codes "publish_future_post") (decimal id) es ≡ false → nat_le 4096 (length (events_without id es)) ≡ false → add_event (publish_event id date) es ≡ put_new (insert_event (publish_event id date) es)
may_come id date es small n room =
    let out = none_out id es n in
    subst (λ (xs : List Event). add_event (publish_event id date) xs ≡ put_new (insert_event (publish_event id date) xs)) (sym out)
    (added id date es small ∙ ap (λ (b : Bool). if b then Err event.TooManyEvents else put_new (insert_event (publish_event id date) (events_without id es))) room)
