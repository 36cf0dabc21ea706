use Rattle.std.proofs.Common.{sym, ◌∙◌, ap, ◌+◌}
use Rattle.std.specs.Prelude.{option_map}
use Rattle.press_events.specs.Shifts.{event_at}
use Rattle.press_events.proofs.Halves.{among, in_turn}
use Rattle.press_events.proofs.events.place_at.Goals as goal

pub returns-in_err-place-clause-place : goal.returns-in_err-place-clause-place
returns-in_err-place-clause-place c =
    c.from_residual.ensures ∙ ap (option_map (λ i. c.start_of-start.result + i)) c.in_err-place.ensures.place
    ∙ sym (among (event_at c.args.time c.args.hook.now c.args.arg.now) c.args.events.now c.start_of-start.result c.place_in-end.result c.start_of-start.ensures.parts.0 c.place_in-end.ensures.parts.1 c.start_of-start.ensures.within c.place_in-end.ensures.within)

pub returns-clause-place : goal.returns-clause-place
returns-clause-place c =
    ap (option_map (λ i. c.start_of-start.result + i)) c.in_ok-place.ensures.place
    ∙ sym (among (event_at c.args.time c.args.hook.now c.args.arg.now) c.args.events.now c.start_of-start.result c.place_in-end.result c.start_of-start.ensures.parts.0 c.place_in-end.ensures.parts.1 c.start_of-start.ensures.within c.place_in-end.ensures.within)

pub slice_bounds-place_among-start : goal.slice_bounds-place_among-start
slice_bounds-place_among-start c =
    in_turn c.args.time c.args.events.now c.start_of-start.result c.place_in-end.result (event_at c.args.time c.args.hook.now c.args.arg.now) c.start_of-start.ensures.parts.0 c.place_in-end.ensures.parts.1 c.start_of-start.ensures.within

pub slice_bounds-place_among-count : goal.slice_bounds-place_among-count
slice_bounds-place_among-count c =
    in_turn c.args.time c.args.events.now c.start_of-start.result c.place_in-end.result (event_at c.args.time c.args.hook.now c.args.arg.now) c.start_of-start.ensures.parts.0 c.place_in-end.ensures.parts.1 c.start_of-start.ensures.within
