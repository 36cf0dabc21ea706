-- A store that answers is open.
use Rattle.std.proofs.Common.{◌≡◌, inl, inr, IsTrue, List, [], ◌∷◌, Option, None, Some, Result, Ok, Err, refl, sym, subst, ap, ◌∙◌}
use Rattle.press_wire.specs.declared.message.Message.{Message}
use Rattle.press_acceptor.specs.Seen.{Call, Seen}
use Rattle.press_acceptor.specs.StoreMap.{StoreMap, Save}
use Rattle.press_acceptor.specs.Turned.{TurnedBy, store_move}
use Rattle.press_node.specs.declared.event.Event.{Event}
use Rattle.press_node.specs.declared.fault.NodeFault.{NodeFault}
use Rattle.press_node.specs.EventPlans.{event_calls}
use Rattle.press_node.specs.NodeEvent.{RunningNode}
use Rattle.press_node.specs.Plays.{Plays, PlaysUp, PlaysWhere, state_move}
use Rattle.press_node.specs.Refusals.{refusal_up}
use Rattle.press_node.specs.States.{NodeState, running_in}
use Rattle.press_member.specs.Members.{WhileUp}

pub while_any : (r : Option RunningNode) (P : Type 0) → P → WhileUp r P
while_any None P p = tt
while_any (Some node) P p = p

module _ {S : Type 0} (seen : S → Seen) (s t : S) (honest : (seen t).is_honest) where
  same_open : IsTrue (seen s).is_open → t ≡ s → IsTrue (seen t).is_open
  same_open opened e = subst (λ x. IsTrue (seen x).is_open) (sym e) opened

  done_open : IsTrue (seen s).is_open → (calls : List Call) (takes : StoreMap → Type 0) (save : StoreMap → Option Save) → TurnedBy calls takes save (store_move seen s t) None → IsTrue (seen t).is_open
  done_open opened [] takes save h = same_open opened h.0
  done_open opened (c ∷ cs) takes save h = h.is_open refl honest

  pub stays_open : (old new : NodeState) (e : Event) (o : Result (List Message) NodeFault) → WhileUp (running_in old) (IsTrue (seen s).is_open) → Plays (store_move seen s t) (state_move old new) e o → WhileUp (running_in new) (IsTrue (seen t).is_open)
  stays_open old new e o opened p = go (running_in old) refl opened p
    where
      any : IsTrue (seen t).is_open → WhileUp (running_in new) (IsTrue (seen t).is_open)
      any h = while_any (running_in new) (IsTrue (seen t).is_open) h

      up : (node : RunningNode) (r : Option NodeFault) (o : Result (List Message) NodeFault) → IsTrue (seen s).is_open → PlaysUp r node (store_move seen s t) (state_move old new) e o → WhileUp (running_in new) (IsTrue (seen t).is_open)
      up node (Some f) o k h = any (same_open k h.2)
      up node None (Ok out) k h = any (done_open k (event_calls old.members old.id node e) _ _ h.turned)
      up node None (Err fault) k (inl h) = subst (λ r. WhileUp r (IsTrue (seen t).is_open)) (sym (ap running_in h.down)) tt
      up node None (Err fault) k (inr h) = any (h.turned.is_open refl honest)

      go : (r : Option RunningNode) → running_in old ≡ r → WhileUp r (IsTrue (seen s).is_open) → PlaysWhere r (store_move seen s t) (state_move old new) e o → WhileUp (running_in new) (IsTrue (seen t).is_open)
      go None is k h = subst (λ r. WhileUp r (IsTrue (seen t).is_open)) (sym (ap running_in h.1 ∙ is)) tt
      go (Some node) is k h = up node (refusal_up node e) o k h
