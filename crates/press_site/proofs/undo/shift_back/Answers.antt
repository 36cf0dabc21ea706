use Rattle.std.proofs.Common.{◌∙◌, sym, ap, subst, List}
use Rattle.press_events.specs.declared.shift.Shift.{Shift}
use Rattle.press_site.specs.Back.{MayEventsGoBack, events_back}
use Rattle.press_site.specs.ContentView.{ContentView}
use Rattle.press_site.proofs.Undoing.{events_pushed, may_shift_pop}
use Rattle.press_site.proofs.undo.shift_back.Goals as goal

pub shift_back-requires : goal.shift_back-requires
shift_back-requires c =
    (may_shift_pop c.pop.new.self.items c.in-Some.last c.loop-last.content.events
    (subst (λ (ws : List Shift). MayEventsGoBack ws c.loop-last.content.events) c.in-Some.ensures.items c.loop-last.invariant.0)).0

pub loop-last-preserved : goal.loop-last-preserved
loop-last-preserved c =
    let may =
    may_shift_pop c.pop.new.self.items c.in-Some.last c.loop-last.content.events
    (subst (λ (ws : List Shift). MayEventsGoBack ws c.loop-last.content.events) c.in-Some.ensures.items c.loop-last.invariant.0) in (
      subst (λ (v : ContentView). MayEventsGoBack c.pop.new.self.items v.events) (sym c.shift_back.ensures) may.1,
      ap (λ (v : ContentView). events_back c.pop.new.self.items v.events) c.shift_back.ensures
          ∙ sym (events_pushed c.pop.new.self.items c.in-Some.last c.loop-last.content.events)
          ∙ ap (λ (ws : List Shift). events_back ws c.loop-last.content.events) (sym c.in-Some.ensures.items)
          ∙ c.loop-last.invariant.1,
      ap (λ (v : ContentView). v.posts) c.shift_back.ensures ∙ c.loop-last.invariant.2,
    )
