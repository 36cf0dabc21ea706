-- The first moves of a member.
use Rattle.std.proofs.Common.{ℕ, zero, suc, ◌+◌, ◌-◌, ◌<◌, ◌≤◌, ◌≡◌, List, [], slice_get, None, Some, Result, refl, sym, subst, ap, ◌∙◌, arith}
use Rattle.press_wire.specs.declared.message.Message.{Message}
use Rattle.press_acceptor.specs.InMemory.{seen_of}
use Rattle.press_acceptor.specs.StoreMap.{StoreMap, new_store}
use Rattle.press_acceptor.specs.Turned.{store_move}
use Rattle.press_node.specs.Nodes.{IsPlayed}
use Rattle.press_node.specs.Plays.{Plays, state_move}
use Rattle.press_node.specs.States.{NodeState, started_at}
use Rattle.press_node.specs.declared.event.Event.{Event}
use Rattle.press_node.specs.declared.fault.NodeFault.{NodeFault}
use Rattle.press_member.specs.Members.{AreMoves, Comes, Member, new_members, unstarted_members}
use Rattle.press_member.specs.Members.Holding.{Leaves}
use Rattle.press_member.specs.Moving.{first_moves}
use Rattle.press_member.proofs.Lists.{set_here}

-- a member that hasn't started
abbrev blank : ℕ → ℕ → Member StoreMap
blank n id = record { store = Leaves new_store; state = record { id = id; members = n; up = None } }

unstarted_at : (n id k i : ℕ) → i < k → slice_get (unstarted_members {S = StoreMap} n id k) i ≡ Some (blank n (id + i))
unstarted_at n id zero i lt = absurd (omega (arith, lt))
unstarted_at n id (suc k) zero lt = let same : id ≡ id + 0 = omega arith in ap (λ j. Some (blank n j)) same
unstarted_at n id (suc k) (suc i) lt = let same : id + 1 + i ≡ id + suc i = omega arith in unstarted_at n (id + 1) k i (omega (arith, lt)) ∙ ap (λ j. Some (blank n j)) same

module _ (n id : ℕ) (one : 1 ≤ id) (most : id ≤ n) where
  abbrev index : ℕ
  index = id - 1

  own : index + 1 ≡ id
  own = omega (arith, one)

  at_first : slice_get (new_members {S = StoreMap} n).all index ≡ Some (blank n id)
  at_first =
      let same : 1 + index ≡ id = omega (arith, one) in
      unstarted_at n 1 n index (omega (arith, one, most)) ∙ ap (λ j. Some (blank n j)) same

  pub are_moves : (e : Event) (outcome : Result (List Message) NodeFault) (s t : StoreMap) (old new : NodeState) → Comes [] e → s ≡ new_store → old ≡ started_at id n 0 →
      IsPlayed old new (Plays (store_move seen_of s t) (state_move old new) e outcome) → AreMoves seen_of n (new_members n) (first_moves n id e outcome t new)
  are_moves e outcome s t old new comes is begun played = (
    record {
      before = blank n id;
      at = at_first;
      left = refl;
      is_open = refl;
      durable = λ left m. m;
      started = ap (λ i. started_at i n 0) (sym own);
    },
    (
      record {
        before = new_store;
        state_before = started_at id n 0;
        at = set_here (new_members {S = StoreMap} n).all index _ (blank n id) at_first;
        is = record {
          comes = comes;
          played =
              subst (λ x. IsPlayed (started_at id n 0) new (Plays (store_move seen_of x t) (state_move (started_at id n 0) new) e outcome)) is
              (subst (λ o. IsPlayed o new (Plays (store_move seen_of s t) (state_move o new) e outcome)) begun played);
          is_honest = tt;
        };
      },
      tt,
    ),
  )
