-- Events that are taken one after the other.
use Rattle.std.proofs.Common.{◌≡◌, refl, ap, ◌∙◌, ℕ, ◌+◌, ◌<◌, ◌≤◌, length, List, [], ◌∷◌, drop, get_or, add-one, drop-cons, Ok}
use Rattle.std.proofs.Math.ListN.{drop_of_length-le}
use Rattle.press_events.specs.declared.event.Event.{Event}
use Rattle.press_run.specs.Run.{Meaning, State}
use Rattle.press_apply.specs.declared.fault.ApplyFault.{ApplyFault}
use Rattle.press_apply.specs.Apply.{◌>>=◌, takes, takes_all}
use Rattle.press_apply.specs.Works.{Refuses}
use Rattle.press_apply.proofs.Refusals.{handed_on}

none_left : (callback : Meaning) (s : State) → takes_all callback [] s ≡ Ok s
unfolding takes_all
none_left callback s = refl

one_taken : (callback : Meaning) (e : Event) (es : List Event) (s : State) → takes_all callback (e ∷ es) s ≡ (takes callback e s >>= λ s'. takes_all callback es s')
unfolding takes_all
one_taken callback e es s = refl

one_of : (callback : Meaning) (events : List Event) (i : ℕ) (e : Event) (s : State) → i < length events → e ≡ get_or events i e → takes_all callback (drop i events) s ≡ (takes callback e s >>= λ s'. takes_all callback (drop (i + 1) events) s')
one_of callback events i e s lt at =
    let cut : drop i events ≡ e ∷ drop (i + 1) events = rw (add-one, drop-cons events i e lt, ← at) refl in
    rw cut (one_taken callback e (drop (i + 1) events) s)

pub takes_more : (callback : Meaning) (events : List Event) (i : ℕ) (e : Event) (s s' : State) → i < length events → e ≡ get_or events i e → takes callback e s ≡ Ok s' → takes_all callback (drop i events) s ≡ takes_all callback (drop (i + 1) events) s'
takes_more callback events i e s s' lt at taken = one_of callback events i e s lt at ∙ ap (λ o. o >>= λ x. takes_all callback (drop (i + 1) events) x) taken

pub takes_refused : (callback : Meaning) (events : List Event) (i : ℕ) (e : Event) (s : State) (f : ApplyFault) → i < length events → e ≡ get_or events i e → Refuses f (takes callback e s) → Refuses f (takes_all callback (drop i events) s)
takes_refused callback events i e s f lt at h = rw (one_of callback events i e s lt at) (handed_on f _ _ h)

pub takes_end : (callback : Meaning) (events : List Event) (i : ℕ) (s : State) → length events ≤ i → takes_all callback (drop i events) s ≡ Ok s
takes_end callback events i s le = rw (drop_of_length-le events le) (none_left callback s)
