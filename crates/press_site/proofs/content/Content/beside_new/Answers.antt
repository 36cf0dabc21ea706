use Rattle.std.proofs.Common.{rules, ◌≡◌, ◌∙◌, ap, sym, subst, true}
use Rattle.std.specs.Prelude.{Ok}
use Rattle.press_events.specs.declared.event.Event.{Event}
use Rattle.press_events.specs.DueEvents.{add_event, insert_event}
use Rattle.press_site.proofs.Beside.{may_come, own_new}
use Rattle.press_site.proofs.content.Content.beside_new.Goals as goal

pub returns-clause-does : goal.returns-clause-does
returns-clause-does c =
    own_new c.args.id c.args.date c.args.self.now.events c.requires (sym c.is_full_beside.ensures ∙ c.if-is_full_beside.false)
    ∙ ap (λ (e : Event). Ok (insert_event e c.args.self.now.events)) (sym c.in_ok-event.ensures)

pub returns-clause-may : goal.returns-clause-may
returns-clause-may c =
    subst (λ (e : Event). add_event e c.args.self.now.events ≡ Ok (insert_event e c.args.self.now.events, true)) (sym c.in_ok-event.ensures)
    (may_come c.args.id c.args.date c.args.self.now.events (search rules) c.requires (sym c.is_full_beside.ensures ∙ c.if-is_full_beside.false))
