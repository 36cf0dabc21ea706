-- A wake that was not done, as its proposer tells of it.
use Rattle.std.proofs.Common.{ℕ, ◌≡◌, inl, inr, Bool, true, false, cond, IsTrue, None, Some, Err, refl, sym, subst}
use Rattle.press_acceptor.specs.Turned.{StoreMove}
use Rattle.press_learner.specs.Chosen.{has_gap}
use Rattle.press_proposer.specs.Turns.{is_used_up}
use Rattle.press_proposer.specs.Wakes.{Wakes}
use Rattle.press_proposer.specs.declared.fault.ProposerFault.{ProposerFault}
use Rattle.press_proposer.specs.declared.fault.ProposerFault.TheVariants as proposer_fault
use Rattle.press_node.specs.declared.event.Event.TheVariants.{Wake}
use Rattle.press_node.specs.declared.fault.NodeFault.TheVariants.{RoundsUsedUp, SlotsUsedUp}
use Rattle.press_node.specs.Faults.{of_proposer}
use Rattle.press_node.specs.NodeEvent.{RunningNode, is_at_end}
use Rattle.press_node.specs.Plays.{MemoryMove, PlaysUp}

used : (b : Bool) → IsTrue b → cond b (Some RoundsUsedUp) None ≡ Some RoundsUsedUp
used true h = refl
used false h = cc

used_back : (b : Bool) → cond b (Some RoundsUsedUp) None ≡ Some RoundsUsedUp → IsTrue b
used_back true h = refl
used_back false h = cc

module _ (members id : ℕ) (running : RunningNode) (store : StoreMove) (same : Type 0) (has : RunningNode → Type 0) where
  abbrev pub move : MemoryMove
  move = record { id = id; members = members; before = Some running; same = same; has = has; down = Unit {0} }

  fails : (fault : ProposerFault) → same → Wakes running.proposer running.learner.applied (has_gap running.learner) store (Some fault) → PlaysUp None running store move Wake (Err (of_proposer fault))
  fails proposer_fault.Full s h = absurd h
  fails proposer_fault.RoundsUsedUp s h =
      inr (record { is = refl; wanted = (h.wanted, h.needed); same = s; turned = h.turned; none_left = λ honest. used (is_used_up store.old.kept running.proposer running.learner.applied (has_gap running.learner)) (h.last honest) })
  fails (proposer_fault.Store by) s h =
      inl (record { by = by; is = refl; down = tt; turned = h.turned; last = λ honest e. h.last honest (used_back (is_used_up store.old.kept running.proposer running.learner.applied (has_gap running.learner)) e) })

  pub wake_fails : (fault : ProposerFault) → is_at_end running ≡ false → same → Wakes running.proposer running.learner.applied (has_gap running.learner) store (Some fault) →
      PlaysUp (cond (is_at_end running) (Some SlotsUsedUp) None) running store move Wake (Err (of_proposer fault))
  wake_fails fault e s h = subst (λ b. PlaysUp (cond b (Some SlotsUsedUp) None) running store move Wake (Err (of_proposer fault))) (sym e) (fails fault s h)
