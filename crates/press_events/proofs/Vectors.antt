-- A worked row, computed by the definitions: a daily event.
use Rattle.std.specs.Prelude.{◌≡◌, refl, ℕ, [], ◌∷◌, true, false, Ok, codes}
use Rattle.press_text.specs.declared.every.Every.{Every}
use Rattle.press_text.specs.declared.every.Every.TheVariants.{Once, Daily}
use Rattle.press_events.specs.declared.event.Event.{Event}
use Rattle.press_events.specs.DueEvents.{add_event, cancels, cancel_events, due, moment_after, take_event}

abbrev event : ℕ → Every → Event
event time every = record { time = time; hook = codes "h"; arg = codes "a"; every = every }

abbrev daily : ℕ → Event
daily time = event time Daily

adds : add_event (daily 100) [] ≡ Ok (daily 100 ∷ [], true)
adds = refl

comes_again : moment_after 86400 100 172900 ≡ 259300
comes_again = refl

takes : take_event (event 100 Once) 172900 (daily 100 ∷ []) ≡ daily 259300 ∷ []
takes = refl

-- a time ahead of now moves by one interval
takes_ahead : take_event (daily 100) 50 (daily 100 ∷ []) ≡ daily 86500 ∷ []
takes_ahead = refl

adds_once : add_event (event 259300 Once) (daily 259300 ∷ []) ≡ Ok (daily 259300 ∷ [], false)
adds_once = refl

cancels_first : cancels (codes "h") (codes "a") (daily 259300 ∷ []) ≡ true
cancels_first = refl

cancels_once : cancels (codes "h") (codes "a") (cancel_events (codes "h") (codes "a") (daily 259300 ∷ [])) ≡ false
cancels_once = refl

-- where the event of that identity is already, the taken one goes
goes : take_event (daily 100) 100 (daily 100 ∷ daily 86500 ∷ []) ≡ daily 86500 ∷ []
goes = refl

due_at_its_moment : due 100 (daily 100 ∷ daily 101 ∷ []) ≡ daily 100 ∷ []
due_at_its_moment = refl
