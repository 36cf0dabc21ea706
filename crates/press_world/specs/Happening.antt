-- What an event did to a world: it was done, or refused; or running out of memory ended it.
use Rattle.std.specs.Prelude.{ℕ, ◌+◌, ◌-◌, ◌≡◌, Option, None, Result, Ok, Err, length, slice_get}
use Rattle.press_node.specs.declared.event.Event.{Event}
use Rattle.press_world.specs.Refusing.{event_refusal}
use Rattle.press_world.specs.Stepped.{Fails}
use Rattle.press_world.specs.Stored.{StoredWorld, stored_does}
use Rattle.press_world.specs.Telling.{applied_count_in, first_of, is_cut, or_none}
use Rattle.press_world.specs.declared.fault.WorldFault.{WorldFault}
use Rattle.press_world.specs.declared.played.Played.{Played}
use Rattle.press_world.specs.declared.step.Cut.{Cut}

abbrev pub event_result : StoredWorld → StoredWorld → ℕ → Option Cut → Played
event_result before after index cut =
    record {
      node = index + 1;
      first = first_of (length before.sent) (length after.sent - length before.sent);
      count = length after.sent - length before.sent;
      stopped = is_cut cut;
      applied = or_none (applied_count_in (slice_get after.places index));
      reply = None;
    }

-- the event of the node at this index of n, which the message at `which` brought, if one did
abbrev pub Happens : ℕ → StoredWorld → ℕ → ℕ → Event → Option Cut → StoredWorld → Result Played WorldFault → Type 0
Happens n s which index event cut t (Ok played) =
    (event_refusal (slice_get s.places index) event cut ≡ None)
    × (t ≡ stored_does n s which index (slice_get s.places index) event cut)
    × (played ≡ event_result s t index cut)
Happens n s which index event cut t (Err fault) =
    Fails s (λ stop. stored_does n s which index (slice_get s.places index) event stop) (event_refusal (slice_get s.places index) event cut) fault t
