use Rattle.std.proofs.Common.{◌∙◌, ◌∷◌, ap, refl}
use Rattle.std.proofs.lemmas.Result.{err_from_is_err_and}
use Rattle.press_run.specs.Frames.{frame_meaning, round}
use Rattle.press_run.specs.Outcome.{around, state_of}
use Rattle.press_run.specs.Standing.{machine_view}
use Rattle.press_run.proofs.Resumed.{begins, ends, gives, gives_less, nests, nests_less, opens, opens_less, plays_fixed, pops, stops}
use Rattle.press_run.proofs.machine.Machine.play.Goals as goal

pub loop-waiting-init : goal.loop-waiting-init
loop-waiting-init g c = record {
  playing = rw c.new-waiting.ensures (begins g.L.SiteLink.changes (g.K.Callbacks.scripts c.args.kit.now) c.args.top (machine_view g.L.SiteLink.view g.L.SiteLink.fixed c.args.self.now) c.requires);
  limits = refl;
}

pub returns-in_err-step-clause-gives : goal.returns-in_err-step-clause-gives
returns-in_err-step-clause-gives g c =
    let p = err_from_is_err_and c.from_residual.result c.from_residual.ensures.1 in
    rw (p.1, p.2) (stops g.L.SiteLink.changes (g.K.Callbacks.scripts c.args.kit.now) (frame_meaning g.L.SiteLink.changes (g.K.Callbacks.scripts c.args.kit.now) c.args.top (around (machine_view g.L.SiteLink.view g.L.SiteLink.fixed c.args.self.now)) (state_of (machine_view g.L.SiteLink.view g.L.SiteLink.fixed c.args.self.now))) (round c.args.top (around (machine_view g.L.SiteLink.view g.L.SiteLink.fixed c.args.self.now))) c.loop-waiting.waiting c.loop-waiting.top (machine_view g.L.SiteLink.view g.L.SiteLink.fixed c.loop-waiting.self) c.loop-waiting.invariant.playing c.in_err-step.field-0.0 c.in_err-step.ensures.steps)

pub loop-waiting-smaller-in-Continue-branch-4 : goal.loop-waiting-smaller-in-Continue-branch-4
loop-waiting-smaller-in-Continue-branch-4 g c =
    opens_less g.L.SiteLink.changes (g.K.Callbacks.scripts c.args.kit.now) (frame_meaning g.L.SiteLink.changes (g.K.Callbacks.scripts c.args.kit.now) c.args.top (around (machine_view g.L.SiteLink.view g.L.SiteLink.fixed c.args.self.now)) (state_of (machine_view g.L.SiteLink.view g.L.SiteLink.fixed c.args.self.now))) (round c.args.top (around (machine_view g.L.SiteLink.view g.L.SiteLink.fixed c.args.self.now))) c.loop-waiting.waiting c.loop-waiting.top (machine_view g.L.SiteLink.view g.L.SiteLink.fixed c.loop-waiting.self) c.loop-waiting.invariant.playing
    c.step.new.top c.in-By-Opens.inner c.replace.new.dest c.push.new.self (machine_view g.L.SiteLink.view g.L.SiteLink.fixed c.step.new.self) c.replace.ensures.after (c.in_ok-push-in-By-Opens.ensures ∙ ap (λ f. f ∷ c.loop-waiting.waiting) c.replace.ensures.value) (rw (c.in-By-Opens.is, c.in-By-Opens.field-0-is) at c.in_ok-step.ensures.steps)

pub loop-waiting-preserved-in-Continue-branch-4 : goal.loop-waiting-preserved-in-Continue-branch-4
loop-waiting-preserved-in-Continue-branch-4 g c = record {
  playing = opens g.L.SiteLink.changes (g.K.Callbacks.scripts c.args.kit.now) (frame_meaning g.L.SiteLink.changes (g.K.Callbacks.scripts c.args.kit.now) c.args.top (around (machine_view g.L.SiteLink.view g.L.SiteLink.fixed c.args.self.now)) (state_of (machine_view g.L.SiteLink.view g.L.SiteLink.fixed c.args.self.now))) (round c.args.top (around (machine_view g.L.SiteLink.view g.L.SiteLink.fixed c.args.self.now))) c.loop-waiting.waiting c.loop-waiting.top (machine_view g.L.SiteLink.view g.L.SiteLink.fixed c.loop-waiting.self) c.loop-waiting.invariant.playing
      c.step.new.top c.in-By-Opens.inner c.replace.new.dest c.push.new.self (machine_view g.L.SiteLink.view g.L.SiteLink.fixed c.step.new.self) c.replace.ensures.after (c.in_ok-push-in-By-Opens.ensures ∙ ap (λ f. f ∷ c.loop-waiting.waiting) c.replace.ensures.value) (rw (c.in-By-Opens.is, c.in-By-Opens.field-0-is) at c.in_ok-step.ensures.steps);
  limits = c.in_ok-step.ensures.limits ∙ c.loop-waiting.invariant.limits;
}

pub returns-in_default-clause-gives : goal.returns-in_default-clause-gives
returns-in_default-clause-gives g c =
    ends g.L.SiteLink.changes (g.K.Callbacks.scripts c.args.kit.now) (frame_meaning g.L.SiteLink.changes (g.K.Callbacks.scripts c.args.kit.now) c.args.top (around (machine_view g.L.SiteLink.view g.L.SiteLink.fixed c.args.self.now)) (state_of (machine_view g.L.SiteLink.view g.L.SiteLink.fixed c.args.self.now))) (round c.args.top (around (machine_view g.L.SiteLink.view g.L.SiteLink.fixed c.args.self.now))) c.loop-waiting.waiting c.loop-waiting.top (machine_view g.L.SiteLink.view g.L.SiteLink.fixed c.loop-waiting.self) c.loop-waiting.invariant.playing
    c.in-By-Gives.text (machine_view g.L.SiteLink.view g.L.SiteLink.fixed c.step.new.self) (rw (c.in-By-Gives.is, c.in-By-Gives.field-0-is) at c.in_ok-step.ensures.steps) (rw c.in_default.is at c.in_ok-frame-in-By-Gives.ensures.frame).0

pub take-requires-in-By-Gives : goal.take-requires-in-By-Gives
take-requires-in-By-Gives g c =
    pops g.L.SiteLink.changes (g.K.Callbacks.scripts c.args.kit.now) (frame_meaning g.L.SiteLink.changes (g.K.Callbacks.scripts c.args.kit.now) c.args.top (around (machine_view g.L.SiteLink.view g.L.SiteLink.fixed c.args.self.now)) (state_of (machine_view g.L.SiteLink.view g.L.SiteLink.fixed c.args.self.now))) (round c.args.top (around (machine_view g.L.SiteLink.view g.L.SiteLink.fixed c.args.self.now))) c.loop-waiting.waiting c.loop-waiting.top (machine_view g.L.SiteLink.view g.L.SiteLink.fixed c.loop-waiting.self) c.loop-waiting.invariant.playing
    c.in-By-Gives.text (machine_view g.L.SiteLink.view g.L.SiteLink.fixed c.step.new.self) (rw (c.in-By-Gives.is, c.in-By-Gives.field-0-is) at c.in_ok-step.ensures.steps) c.in-Some.frame c.in-Some.frame c.pop.new.self (rw c.in-Some.is at c.in_ok-frame-in-By-Gives.ensures.frame)

pub loop-waiting-smaller-in-Continue-branch-8 : goal.loop-waiting-smaller-in-Continue-branch-8
loop-waiting-smaller-in-Continue-branch-8 g c =
    gives_less g.L.SiteLink.changes (g.K.Callbacks.scripts c.args.kit.now) (frame_meaning g.L.SiteLink.changes (g.K.Callbacks.scripts c.args.kit.now) c.args.top (around (machine_view g.L.SiteLink.view g.L.SiteLink.fixed c.args.self.now)) (state_of (machine_view g.L.SiteLink.view g.L.SiteLink.fixed c.args.self.now))) (round c.args.top (around (machine_view g.L.SiteLink.view g.L.SiteLink.fixed c.args.self.now))) c.loop-waiting.waiting c.loop-waiting.top (machine_view g.L.SiteLink.view g.L.SiteLink.fixed c.loop-waiting.self) c.loop-waiting.invariant.playing
    c.in-By-Gives.text (machine_view g.L.SiteLink.view g.L.SiteLink.fixed c.step.new.self) (rw (c.in-By-Gives.is, c.in-By-Gives.field-0-is) at c.in_ok-step.ensures.steps) c.in-Some.frame c.take-in-By-Gives.new.self c.pop.new.self (rw c.in-Some.is at c.in_ok-frame-in-By-Gives.ensures.frame) c.in_ok-take-in-By-Gives.ensures

pub loop-waiting-preserved-in-Continue-branch-8 : goal.loop-waiting-preserved-in-Continue-branch-8
loop-waiting-preserved-in-Continue-branch-8 g c = record {
  playing = gives g.L.SiteLink.changes (g.K.Callbacks.scripts c.args.kit.now) (frame_meaning g.L.SiteLink.changes (g.K.Callbacks.scripts c.args.kit.now) c.args.top (around (machine_view g.L.SiteLink.view g.L.SiteLink.fixed c.args.self.now)) (state_of (machine_view g.L.SiteLink.view g.L.SiteLink.fixed c.args.self.now))) (round c.args.top (around (machine_view g.L.SiteLink.view g.L.SiteLink.fixed c.args.self.now))) c.loop-waiting.waiting c.loop-waiting.top (machine_view g.L.SiteLink.view g.L.SiteLink.fixed c.loop-waiting.self) c.loop-waiting.invariant.playing
      c.in-By-Gives.text (machine_view g.L.SiteLink.view g.L.SiteLink.fixed c.step.new.self) (rw (c.in-By-Gives.is, c.in-By-Gives.field-0-is) at c.in_ok-step.ensures.steps) c.in-Some.frame c.take-in-By-Gives.new.self c.pop.new.self (rw c.in-Some.is at c.in_ok-frame-in-By-Gives.ensures.frame) c.in_ok-take-in-By-Gives.ensures;
  limits = c.in_ok-step.ensures.limits ∙ c.loop-waiting.invariant.limits;
}

pub loop-waiting-smaller : goal.loop-waiting-smaller
loop-waiting-smaller g c =
    nests_less g.L.SiteLink.changes (g.K.Callbacks.scripts c.args.kit.now) (frame_meaning g.L.SiteLink.changes (g.K.Callbacks.scripts c.args.kit.now) c.args.top (around (machine_view g.L.SiteLink.view g.L.SiteLink.fixed c.args.self.now)) (state_of (machine_view g.L.SiteLink.view g.L.SiteLink.fixed c.args.self.now))) (round c.args.top (around (machine_view g.L.SiteLink.view g.L.SiteLink.fixed c.args.self.now))) c.loop-waiting.waiting c.loop-waiting.top (machine_view g.L.SiteLink.view g.L.SiteLink.fixed c.loop-waiting.self) c.loop-waiting.invariant.playing
    c.step.new.top c.in-Calls.callback c.in-Calls.inner c.replace-in-Calls.new.dest c.push-in-Calls.new.self c.push-in-Calls-2.new.self (machine_view g.L.SiteLink.view g.L.SiteLink.fixed c.step.new.self) c.replace-in-Calls.ensures.after (c.in_ok-push-in-Calls.ensures ∙ ap (λ f. f ∷ c.loop-waiting.waiting) c.replace-in-Calls.ensures.value) c.in_ok-push-in-Calls-2.ensures (rw c.in-Calls.is at c.in_ok-step.ensures.steps)

pub loop-waiting-preserved : goal.loop-waiting-preserved
loop-waiting-preserved g c = record {
  playing = nests g.L.SiteLink.changes (g.K.Callbacks.scripts c.args.kit.now) (frame_meaning g.L.SiteLink.changes (g.K.Callbacks.scripts c.args.kit.now) c.args.top (around (machine_view g.L.SiteLink.view g.L.SiteLink.fixed c.args.self.now)) (state_of (machine_view g.L.SiteLink.view g.L.SiteLink.fixed c.args.self.now))) (round c.args.top (around (machine_view g.L.SiteLink.view g.L.SiteLink.fixed c.args.self.now))) c.loop-waiting.waiting c.loop-waiting.top (machine_view g.L.SiteLink.view g.L.SiteLink.fixed c.loop-waiting.self) c.loop-waiting.invariant.playing
      c.step.new.top c.in-Calls.callback c.in-Calls.inner c.replace-in-Calls.new.dest c.push-in-Calls.new.self c.push-in-Calls-2.new.self (machine_view g.L.SiteLink.view g.L.SiteLink.fixed c.step.new.self) c.replace-in-Calls.ensures.after (c.in_ok-push-in-Calls.ensures ∙ ap (λ f. f ∷ c.loop-waiting.waiting) c.replace-in-Calls.ensures.value) c.in_ok-push-in-Calls-2.ensures (rw c.in-Calls.is at c.in_ok-step.ensures.steps);
  limits = c.in_ok-step.ensures.limits ∙ c.loop-waiting.invariant.limits;
}

pub returns-in_err-step-clause-fixed : goal.returns-in_err-step-clause-fixed
returns-in_err-step-clause-fixed g c = c.in_err-step.ensures.fixed ∙ plays_fixed g.L.SiteLink.changes (g.K.Callbacks.scripts c.args.kit.now) (frame_meaning g.L.SiteLink.changes (g.K.Callbacks.scripts c.args.kit.now) c.args.top (around (machine_view g.L.SiteLink.view g.L.SiteLink.fixed c.args.self.now)) (state_of (machine_view g.L.SiteLink.view g.L.SiteLink.fixed c.args.self.now))) c.loop-waiting.waiting c.loop-waiting.top c.args.top (machine_view g.L.SiteLink.view g.L.SiteLink.fixed c.loop-waiting.self) (machine_view g.L.SiteLink.view g.L.SiteLink.fixed c.args.self.now) c.loop-waiting.invariant.playing

pub returns-in_err-push-in-By-Opens-clause-fixed : goal.returns-in_err-push-in-By-Opens-clause-fixed
returns-in_err-push-in-By-Opens-clause-fixed g c = c.in_ok-step.ensures.fixed ∙ plays_fixed g.L.SiteLink.changes (g.K.Callbacks.scripts c.args.kit.now) (frame_meaning g.L.SiteLink.changes (g.K.Callbacks.scripts c.args.kit.now) c.args.top (around (machine_view g.L.SiteLink.view g.L.SiteLink.fixed c.args.self.now)) (state_of (machine_view g.L.SiteLink.view g.L.SiteLink.fixed c.args.self.now))) c.loop-waiting.waiting c.loop-waiting.top c.args.top (machine_view g.L.SiteLink.view g.L.SiteLink.fixed c.loop-waiting.self) (machine_view g.L.SiteLink.view g.L.SiteLink.fixed c.args.self.now) c.loop-waiting.invariant.playing

pub returns-in_err-push-in-Calls-clause-fixed : goal.returns-in_err-push-in-Calls-clause-fixed
returns-in_err-push-in-Calls-clause-fixed g c = c.in_ok-step.ensures.fixed ∙ plays_fixed g.L.SiteLink.changes (g.K.Callbacks.scripts c.args.kit.now) (frame_meaning g.L.SiteLink.changes (g.K.Callbacks.scripts c.args.kit.now) c.args.top (around (machine_view g.L.SiteLink.view g.L.SiteLink.fixed c.args.self.now)) (state_of (machine_view g.L.SiteLink.view g.L.SiteLink.fixed c.args.self.now))) c.loop-waiting.waiting c.loop-waiting.top c.args.top (machine_view g.L.SiteLink.view g.L.SiteLink.fixed c.loop-waiting.self) (machine_view g.L.SiteLink.view g.L.SiteLink.fixed c.args.self.now) c.loop-waiting.invariant.playing

pub returns-in_err-push-in-Calls-2-clause-fixed : goal.returns-in_err-push-in-Calls-2-clause-fixed
returns-in_err-push-in-Calls-2-clause-fixed g c = c.in_ok-step.ensures.fixed ∙ plays_fixed g.L.SiteLink.changes (g.K.Callbacks.scripts c.args.kit.now) (frame_meaning g.L.SiteLink.changes (g.K.Callbacks.scripts c.args.kit.now) c.args.top (around (machine_view g.L.SiteLink.view g.L.SiteLink.fixed c.args.self.now)) (state_of (machine_view g.L.SiteLink.view g.L.SiteLink.fixed c.args.self.now))) c.loop-waiting.waiting c.loop-waiting.top c.args.top (machine_view g.L.SiteLink.view g.L.SiteLink.fixed c.loop-waiting.self) (machine_view g.L.SiteLink.view g.L.SiteLink.fixed c.args.self.now) c.loop-waiting.invariant.playing

pub returns-in_err-take-in-By-Takes-clause-fixed : goal.returns-in_err-take-in-By-Takes-clause-fixed
returns-in_err-take-in-By-Takes-clause-fixed g c = c.in_ok-step.ensures.fixed ∙ plays_fixed g.L.SiteLink.changes (g.K.Callbacks.scripts c.args.kit.now) (frame_meaning g.L.SiteLink.changes (g.K.Callbacks.scripts c.args.kit.now) c.args.top (around (machine_view g.L.SiteLink.view g.L.SiteLink.fixed c.args.self.now)) (state_of (machine_view g.L.SiteLink.view g.L.SiteLink.fixed c.args.self.now))) c.loop-waiting.waiting c.loop-waiting.top c.args.top (machine_view g.L.SiteLink.view g.L.SiteLink.fixed c.loop-waiting.self) (machine_view g.L.SiteLink.view g.L.SiteLink.fixed c.args.self.now) c.loop-waiting.invariant.playing

pub returns-in_default-clause-fixed : goal.returns-in_default-clause-fixed
returns-in_default-clause-fixed g c = c.in_ok-step.ensures.fixed ∙ plays_fixed g.L.SiteLink.changes (g.K.Callbacks.scripts c.args.kit.now) (frame_meaning g.L.SiteLink.changes (g.K.Callbacks.scripts c.args.kit.now) c.args.top (around (machine_view g.L.SiteLink.view g.L.SiteLink.fixed c.args.self.now)) (state_of (machine_view g.L.SiteLink.view g.L.SiteLink.fixed c.args.self.now))) c.loop-waiting.waiting c.loop-waiting.top c.args.top (machine_view g.L.SiteLink.view g.L.SiteLink.fixed c.loop-waiting.self) (machine_view g.L.SiteLink.view g.L.SiteLink.fixed c.args.self.now) c.loop-waiting.invariant.playing

pub returns-in_err-take-in-By-Gives-clause-fixed : goal.returns-in_err-take-in-By-Gives-clause-fixed
returns-in_err-take-in-By-Gives-clause-fixed g c = c.in_ok-step.ensures.fixed ∙ plays_fixed g.L.SiteLink.changes (g.K.Callbacks.scripts c.args.kit.now) (frame_meaning g.L.SiteLink.changes (g.K.Callbacks.scripts c.args.kit.now) c.args.top (around (machine_view g.L.SiteLink.view g.L.SiteLink.fixed c.args.self.now)) (state_of (machine_view g.L.SiteLink.view g.L.SiteLink.fixed c.args.self.now))) c.loop-waiting.waiting c.loop-waiting.top c.args.top (machine_view g.L.SiteLink.view g.L.SiteLink.fixed c.loop-waiting.self) (machine_view g.L.SiteLink.view g.L.SiteLink.fixed c.args.self.now) c.loop-waiting.invariant.playing

pub returns-in_err-frame-in-By-Gives-clause-fixed : goal.returns-in_err-frame-in-By-Gives-clause-fixed
returns-in_err-frame-in-By-Gives-clause-fixed g c = c.in_ok-step.ensures.fixed ∙ plays_fixed g.L.SiteLink.changes (g.K.Callbacks.scripts c.args.kit.now) (frame_meaning g.L.SiteLink.changes (g.K.Callbacks.scripts c.args.kit.now) c.args.top (around (machine_view g.L.SiteLink.view g.L.SiteLink.fixed c.args.self.now)) (state_of (machine_view g.L.SiteLink.view g.L.SiteLink.fixed c.args.self.now))) c.loop-waiting.waiting c.loop-waiting.top c.args.top (machine_view g.L.SiteLink.view g.L.SiteLink.fixed c.loop-waiting.self) (machine_view g.L.SiteLink.view g.L.SiteLink.fixed c.args.self.now) c.loop-waiting.invariant.playing
