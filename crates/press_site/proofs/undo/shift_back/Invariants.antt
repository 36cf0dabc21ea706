use Rattle.std.proofs.Common.{◌≡◌, vec_len}
use Rattle.press_site.specs.Back.{MayEventsGoBack, events_back}
use Rattle.press_site.proofs.undo.shift_back.Given as goal

abbrev pub invariant-loop-last : goal.invariant-loop-last
invariant-loop-last l =
    MayEventsGoBack l.shifts.items l.content.events
    × (events_back l.shifts.items l.content.events ≡ events_back l.initial.shifts.items l.initial.content.events)
    × (l.content.posts ≡ l.initial.content.posts)

abbrev pub decreases-loop-last : goal.decreases-loop-last
decreases-loop-last l = vec_len l.shifts
