-- An event of a member is a step of the definition's world.
use Rattle.std.proofs.Common.{ℕ, ◌+◌, ◌-◌, ◌<◌, ◌≡◌, true, cond, nat_eq, nat_le, length, slice_get, Option, None, Some, subst, ap, ◌∙◌, arith}
use Rattle.std.proofs.lemmas.Bool.{and_parts, and_from, eqb-true, le-leb}
use Rattle.std.proofs.lemmas.Option.{slice_get_within}
use Rattle.press_acceptor.specs.Trace.{IsMember}
use Rattle.press_node.specs.declared.event.Event.{Event}
use Rattle.press_node.specs.declared.event.Event.TheVariants as event
use Rattle.press_node.specs.NodeEvent.{RunningNode, is_for, on_event}
use Rattle.press_node.specs.Refusals.{refusal}
use Rattle.press_world.specs.Adding.{Adds}
use Rattle.press_world.specs.Agreeing.{Agrees}
use Rattle.press_world.specs.Worlds.{Place, World, with_query, at_index, comes, does, does_at, effect, index_of, new_world, refusal_before, restarts, step, unless_refused}
use Rattle.press_world.specs.declared.step.Cut.{Cut}
use Rattle.press_world.specs.declared.step.Step.{Step}
use Rattle.press_world.specs.declared.step.Step.TheVariants.{Submit, Wake, Deliver, Restart}
use Rattle.press_member.specs.Members.{Comes}

-- what the law of steps says
pub record Law : Type 0 where
  pub new : (n : ℕ) → Agrees n (new_world n)
  pub agrees : (n : ℕ) (w : World) (x : Step) → Agrees n w → Agrees n (step n w x)
  pub adds : (n : ℕ) (w : World) (x : Step) → Adds w.trace (step n w x).trace
  pub question : (n : ℕ) (w : World) (from to slot : ℕ) → IsMember n from → IsMember n to → Agrees n w → Agrees n (with_query w from to slot)

-- a message is for this member, and from one
abbrev pub IsDirected : ℕ → ℕ → Event → Type 0
IsDirected n id (event.Submit command) = Unit {0}
IsDirected n id event.Wake = Unit {0}
IsDirected n id (event.Deliver message) = is_for n id message ≡ true

index_at : (count index : ℕ) → index < count → index_of count (index + 1) ≡ Some index
index_at count index lt =
    let h = and_from (nat_le 1 (index + 1)) (nat_le (index + 1) count) (le-leb 1 (index + 1) (omega arith)) (le-leb (index + 1) count (omega (arith, lt))) in
    let e : index + 1 - 1 ≡ index = omega arith in
    ap (λ b. cond b (Some (index + 1 - 1)) None) h ∙ ap Some e

module _ (law : Law) (n : ℕ) (w : World) (index : ℕ) (p : Place) (at : slice_get w.places index ≡ Some p) (a : Agrees n w) where
  here : index_of (length w.places) (index + 1) ≡ Some index
  here = index_at (length w.places) index (slice_get_within w.places index p at)

  by_step : (x : Step) (v : World) → step n w x ≡ v → Agrees n v × Adds w.trace v.trace
  by_step x v e = (subst (Agrees n) e (law.agrees n w x a), subst (λ (u : World). Adds w.trace u.trace) e (law.adds n w x))

  -- it starts again
  pub restart_agrees : Agrees n (restarts n w index (Some p)) × Adds w.trace (restarts n w index (Some p)).trace
  restart_agrees = by_step (Restart (index + 1)) (restarts n w index (Some p))
      (ap (λ o. at_index o (λ i. restarts n w i (slice_get w.places i)) w) here ∙ ap (restarts n w index) at)

  module _ (node : RunningNode) (up : p.up ≡ Some node) (cut : Option Cut) where
    abbrev Done : Event → World
    Done e = effect w index p cut (on_event n (index + 1) p.store node e)

    does_is : (e : Event) → refusal_before cut (refusal p.store (Some node) e) ≡ None → does n w index (slice_get w.places index) e cut ≡ Done e
    does_is e passes =
        ap (λ o. does n w index o e cut) at
        ∙ ap (λ o. does_at n w index p o e cut) up
        ∙ ap (λ o. unless_refused o (Done e) w) passes

    pub event_agrees : (e : Event) → Comes w.sent e → IsDirected n (index + 1) e → refusal_before cut (refusal p.store (Some node) e) ≡ None → Agrees n (Done e) × Adds w.trace (Done e).trace
    event_agrees (event.Submit command) c d passes = by_step (Submit (index + 1) command cut) (Done (event.Submit command))
        (ap (λ o. at_index o (λ i. does n w i (slice_get w.places i) (event.Submit command) cut) w) here ∙ does_is (event.Submit command) passes)
    event_agrees event.Wake c d passes = by_step (Wake (index + 1) cut) (Done event.Wake)
        (ap (λ o. at_index o (λ i. does n w i (slice_get w.places i) event.Wake cut) w) here ∙ does_is event.Wake passes)
    event_agrees (event.Deliver m) c d passes =
        let found : index_of (length w.sent) (c.0 + 1) ≡ Some c.0 = index_at (length w.sent) c.0 (slice_get_within w.sent c.0 m c.1) in
        let to : m.to ≡ index + 1 = eqb-true m.to (index + 1) (and_parts (nat_eq m.to (index + 1)) (nat_le m.from n) d).0 in
        let back : m.to - 1 ≡ index = omega (arith, to) in
        by_step (Deliver (c.0 + 1) cut) (Done (event.Deliver m))
        (ap (λ o. at_index o (λ i. comes n w (slice_get w.sent i) cut) w) found
        ∙ ap (λ o. comes n w o cut) c.1
        ∙ ap (λ i. does n w i (slice_get w.places i) (event.Deliver m) cut) back
        ∙ does_is (event.Deliver m) passes)
