use Rattle.std.proofs.Common.{sym, ap}
use Rattle.std.proofs.lemmas.List.{length-map}
use Rattle.press_apply.specs.Apply.{site_after}
use Rattle.press_page.specs.Page.{page_of}
use Rattle.press_world.specs.Models.{model, size, statics}
use Rattle.press_world.specs.Seats.{place_of, static_of}
use Rattle.press_world.proofs.Members.{same_size}
use Rattle.press_world.proofs.Wholes.{added_by, chosen_of, once_of, values_of, answered_by}
use Rattle.press_world.proofs.world.World.play.Goals as goal

pub returns-clause-added : goal.returns-clause-added
returns-clause-added g c =
    let w = c.args.self.now in
    added_by (size w) (model w) (model c.dispatch.new.self) (statics w) c.args.step.now c.dispatch.result (sym (length-map w.cluster.seats.items place_of)) w.sound w.members c.dispatch.ensures.step

pub returns-clause-applied : goal.returns-clause-applied
returns-clause-applied g c =
    let after = c.dispatch.new.self in
    chosen_of (size after) (model after) (sym (length-map after.cluster.seats.items place_of)) after.sound

pub returns-clause-once : goal.returns-clause-once
returns-clause-once g c =
    let w = c.args.self.now in
    let after = c.dispatch.new.self in
    once_of (size after) (model w) (model after) (sym (length-map after.cluster.seats.items place_of)) after.sound
    (added_by (size w) (model w) (model after) (statics w) c.args.step.now c.dispatch.result (sym (length-map w.cluster.seats.items place_of)) w.sound w.members c.dispatch.ensures.step)

pub returns-clause-equal : goal.returns-clause-equal
returns-clause-equal g c i j vs ws = λ h k e.
    let w = c.args.self.now in
    let after = c.dispatch.new.self in
    let same = values_of (model w) (model after) (same_size place_of static_of w.cluster.seats.items after.cluster.seats.items c.dispatch.ensures.statics) w.sound after.sound
    (added_by (size w) (model w) (model after) (statics w) c.args.step.now c.dispatch.result (sym (length-map w.cluster.seats.items place_of)) w.sound w.members c.dispatch.ensures.step) i j vs ws h k e in
    (same, λ kit target. ap (λ xs. page_of kit (site_after kit xs) target) same)

pub returns-clause-headline : goal.returns-clause-headline
returns-clause-headline g c kit = λ have.
    let w = c.args.self.now in
    let after = c.dispatch.new.self in
    answered_by kit (size w) (size after) (model w) (model after) c.args.step.now c.dispatch.result (sym (length-map after.cluster.seats.items place_of)) after.sound (c.dispatch.ensures.step kit have)
