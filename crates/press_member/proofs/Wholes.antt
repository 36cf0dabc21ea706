-- What holds of members that a world stands for.
use Rattle.std.proofs.Common.{ℕ, ◌+◌, ◌≡◌, inl, inr, true, List, ◌∷◌, ◌++◌, slice_get, Option, None, Some, refl, sym, subst, ap}
use Rattle.press_apply.specs.Apply.{site_after}
use Rattle.press_apply.specs.declared.value.Value.{Value}
use Rattle.press_page.specs.Page.{page_of}
use Rattle.press_acceptor.specs.Agrees.{IsOf, StoreAgrees, fact_of}
use Rattle.press_wire.specs.Blocks.{block_of}
use Rattle.press_acceptor.specs.Seen.{Seen}
use Rattle.press_acceptor.specs.StoreMap.{StoreMap, Save, with_any_save}
use Rattle.press_acceptor.specs.StoreMap.Save.{SaveRound, SavePromise, SaveVote}
use Rattle.press_acceptor.specs.Trace.{Chosen, Fact, Legal}
use Rattle.press_node.specs.NodeEvent.{RunningNode, on_event}
use Rattle.press_node.specs.States.{running_in}
use Rattle.press_world.specs.Adding.{Adds}
use Rattle.press_world.specs.Agreeing.{UpAgrees}
use Rattle.press_world.specs.Whole.{ChoosesOnce, HasValues}
use Rattle.press_world.specs.Worlds.{Place, World, trace_after_save}
use Rattle.press_world.specs.declared.step.Cut.TheVariants.{AfterSave}
use Rattle.press_member.specs.Holds.{HasApplied, Holds, HoldsOn, LeavesAgreeing, ShowsAlike}
use Rattle.press_member.specs.Members.{AreMoves, Comes, MayLeave, Member, Members, Move, after_all, new_members}
use Rattle.press_member.proofs.Directed.{Law, event_agrees}
use Rattle.press_member.proofs.Lists.{same_lists, set_here}
use Rattle.press_member.proofs.Standing.{CanLeave, Stands, StandsAt, StandsWhere, all_move_on, directed, new_stands}

-- no slot is chosen two ways in a legal trace
abbrev pub Once : Type 0
Once = (n : ℕ) (block_of : ℕ → ℕ) (later earlier : List Fact) (slot : ℕ) (v w : Value) → Legal n block_of (later ++ earlier) → Chosen n earlier slot v → Chosen n (later ++ earlier) slot w → v ≡ w

own_fact : (id : ℕ) (store : StoreMap) (save : Save) → IsOf id (fact_of id store save)
own_fact id store (SaveRound round block) = refl
own_fact id store (SavePromise slot ballot) = refl
own_fact id store (SaveVote slot vote) = refl

module _ {S : Type 0} (seen : S → Seen) (law : Law) (n : ℕ) (m : Members S) (w : World) (stands : Stands seen n m w) where
  leaves_agreeing : (i : ℕ) (p : Place) (left : StoreMap) → slice_get w.places i ≡ Some p → CanLeave n (i + 1) m.sent p left → LeavesAgreeing n (i + 1) left w.trace
  leaves_agreeing i p left at (inl e) = inl (subst (λ k. StoreAgrees (i + 1) k w.trace) (sym e) (stands.agrees.stores i p at))
  leaves_agreeing i p left at (inr b) =
      let c = subst (λ l. Comes l b.event) (sym stands.sent) b.comes in
      let k = event_agrees law n w i p at stands.agrees b.node b.up (Some AfterSave) b.event c (directed n (i + 1) p.store b.node b.event b.save b.saves) b.passes in
      let l : Place = record { store = with_any_save p.store (on_event n (i + 1) p.store b.node b.event).save; up = None } in
      let s = k.0.stores i l (set_here w.places i l p at) in
      let legal = subst (λ o. Legal n block_of (trace_after_save w.trace (i + 1) p.store true o)) b.saves k.0.legal in
      let store = subst (λ o. StoreAgrees (i + 1) (with_any_save p.store o) (trace_after_save w.trace (i + 1) p.store true o)) b.saves s in
      inr (fact_of (i + 1) p.store b.save, own_fact (i + 1) p.store b.save, legal.0, subst (λ x. StoreAgrees (i + 1) x (fact_of (i + 1) p.store b.save ∷ w.trace)) (sym b.is) store)

  stores_agree : (i : ℕ) (x : Member S) (left : StoreMap) → slice_get m.all i ≡ Some x → MayLeave seen x.store left → LeavesAgreeing n (i + 1) left w.trace
  stores_agree i x left at l = go (running_in x.state) one.2.stands
    where
      one : (p : Place) × (slice_get w.places i ≡ Some p) × StandsAt seen n i m.sent x p
      one = stands.each i x at

      go : (o : Option RunningNode) → StandsWhere seen n (i + 1) m.sent x.store o one.0 → LeavesAgreeing n (i + 1) left w.trace
      go None h = leaves_agreeing i one.0 left one.1 (h left l)
      go (Some node) h = leaves_agreeing i one.0 left one.1 (inl (h.settled.only left (subst (λ o. MayLeave seen o left) h.is l)))

  applied_chosen : (index : ℕ) (values : List Value) → HasApplied (slice_get m.all index) values → (i : ℕ) (v : Value) → slice_get values i ≡ Some v → Chosen n w.trace (i + 1) v
  applied_chosen index values has i v e = go (slice_get m.all index) refl has
    where
      go : (o : Option (Member S)) → slice_get m.all index ≡ o → HasApplied o values → Chosen n w.trace (i + 1) v
      go None at h = absurd h
      go (Some x) at h = up (running_in x.state) one.2.stands h
        where
          one : (p : Place) × (slice_get w.places index ≡ Some p) × StandsAt seen n index m.sent x p
          one = stands.each index x at

          up : (o : Option RunningNode) → StandsWhere seen n (index + 1) m.sent x.store o one.0 → HasValues o values → Chosen n w.trace (i + 1) v
          up None k h = absurd h
          up (Some node) k h =
              let u = subst (λ o. UpAgrees n (index + 1) o w.trace) k.up (stands.agrees.nodes index one.0 one.1) in
              u.applied i v (subst (λ l. slice_get l i ≡ Some v) (sym h) e)

  pub holds : Holds seen n m w.trace
  holds = record { legal = stands.agrees.legal; stores = stores_agree; applied = applied_chosen }

module _ {S : Type 0} (seen : S → Seen) (law : Law) (once : Once) (n : ℕ) where
  pub after_moves : (moves : List (Move S)) → AreMoves seen n (new_members n) moves → (trace : List Fact) × Holds seen n (after_all (new_members n) moves) trace
  after_moves moves h =
      let one = all_move_on seen law n moves (new_members n) _ (new_stands seen law n) h in
      (one.0.trace, holds seen law n (after_all (new_members n) moves) one.0 one.2)

  once_by : (before trace : List Fact) → Legal n block_of trace → Adds before trace → ChoosesOnce n before trace
  once_by before trace legal adds slot v w h k =
      once n block_of adds.0 before slot v w (subst (Legal n block_of) (sym adds.1) legal) h (subst (λ t. Chosen n t slot w) (sym adds.1) k)

  pub on_moves : (early late : List (Move S)) → AreMoves seen n (new_members n) early → AreMoves seen n (after_all (new_members n) early) late →
      HoldsOn seen n (after_all (new_members n) early) (after_all (after_all (new_members n) early) late)
  on_moves early late h k =
      let first = after_all (new_members n) early in
      let last = after_all first late in
      let one = all_move_on seen law n early (new_members n) _ (new_stands seen law n) h in
      let two = all_move_on seen law n late first one.0 one.2 k in
      let x = holds seen law n first one.0 one.2 in
      let y = holds seen law n last two.0 two.2 in
      record { before = one.0.trace; trace = two.0.trace; early_holds = x; late_holds = y; adds = two.1; once = once_by one.0.trace two.0.trace y.legal two.1 }

  pub alike : (early late : Members S) → HoldsOn seen n early late → ShowsAlike early late
  alike early late h i j vs ws a b e =
      let same : vs ≡ ws = same_lists vs ws e (λ k v w p q. h.once (k + 1) v w (h.early_holds.applied i vs a k v p) (h.late_holds.applied j ws b k w q)) in
      (same, λ kit target. ap (λ xs. page_of kit (site_after kit xs) target) same)
