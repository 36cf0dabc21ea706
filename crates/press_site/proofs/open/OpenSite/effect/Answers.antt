use Rattle.std.proofs.Common.{◌≡◌, subst, Bool}
use Rattle.std.specs.Prelude.{Err, IfOk}
use Rattle.press_site.specs.Back.{GoesBack, log_back}
use Rattle.press_site.specs.Becomes.{Becomes}
use Rattle.press_site.specs.Contents.{ChangesSome}
use Rattle.press_site.specs.Effects.{effect_on}
use Rattle.press_site.specs.declared.fault.SiteFault.TheVariants.{NoMemory}
use Rattle.press_site.specs.Open.{Open, site_at_start}
use Rattle.press_site.proofs.Noted.{may_of}
use Rattle.press_site.proofs.Unchanged.{done_stays}
use Rattle.press_site.proofs.open.OpenSite.effect.Goals as goal

pub note-requires : goal.note-requires
note-requires c = may_of c.change-done.result c.wants_events-wants.result c.change-done.new.self c.self.inside.site c.change-done.ensures.back

pub invariant_of-self : goal.invariant_of-self
invariant_of-self c =
    let back = subst (λ (w : Bool). IfOk c.change-done.result (λ d. GoesBack w d.undone c.change-done.new.self c.self.inside.site)) c.wants_events-wants.ensures c.change-done.ensures.back in
    (c.note.ensures.notes (effect_on c.self.inside.site c.args.effect) c.self.inside.site c.change-done.ensures.does back (done_stays c.self.inside.site c.args.effect c.change-done.result c.change-done.new.self c.change-done.ensures.does)).1.may c.self.invariant

pub returns-clause-does : goal.returns-clause-does
returns-clause-does c =
    let back = subst (λ (w : Bool). IfOk c.change-done.result (λ d. GoesBack w d.undone c.change-done.new.self c.self.inside.site)) c.wants_events-wants.ensures c.change-done.ensures.back in
    subst (λ (o : Open). Becomes c.note.result (effect_on o.site c.args.effect) o.site c.note.new.site) c.self.view_is
    (c.note.ensures.notes (effect_on c.self.inside.site c.args.effect) c.self.inside.site c.change-done.ensures.does back (done_stays c.self.inside.site c.args.effect c.change-done.result c.change-done.new.self c.change-done.ensures.does)).0

pub returns-clause-begun : goal.returns-clause-begun
returns-clause-begun c =
    let back = subst (λ (w : Bool). IfOk c.change-done.result (λ d. GoesBack w d.undone c.change-done.new.self c.self.inside.site)) c.wants_events-wants.ensures c.change-done.ensures.back in
    subst (λ (o : Open). log_back c.note.new.undo c.note.new.site ≡ site_at_start o) c.self.view_is
    (c.note.ensures.notes (effect_on c.self.inside.site c.args.effect) c.self.inside.site c.change-done.ensures.does back (done_stays c.self.inside.site c.args.effect c.change-done.result c.change-done.new.self c.change-done.ensures.does)).1.same

pub returns-clause-memory : goal.returns-clause-memory
returns-clause-memory c =
    subst (λ (o : Open). c.note.result ≡ Err NoMemory → ChangesSome (effect_on o.site c.args.effect)) c.self.view_is
    (c.note.ensures.memory (effect_on c.self.inside.site c.args.effect) c.self.inside.site c.change-done.ensures.does c.change-done.ensures.memory)

pub returns-clause-profile : goal.returns-clause-profile
returns-clause-profile c = λ to e. c.note.ensures.none (c.change-done.ensures.profile to e)
