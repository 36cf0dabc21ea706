-- A start of a member, as a move of the members (own).
use Rattle.std.specs.Prelude.{ℕ, ◌+◌, ◌≡◌, IsTrue, [], Some, slice_get}
use Rattle.press_acceptor.specs.Seen.{Seen}
use Rattle.press_acceptor.specs.StoreMap.{Only}
use Rattle.press_node.specs.States.{NodeState}
use Rattle.press_member.specs.Acts.{View}
use Rattle.press_member.specs.Among.{IsAmong}
use Rattle.press_member.specs.Members.{IsMove, MayLeave, Member, Members, after}
use Rattle.press_member.specs.Members.Move.{Starts}

module _ {S : Type 0} (seen : S → Seen) where
  -- The store shows what a stop of the member at this index may have left, and a crash leaves
  -- nothing else.
  pub record ShowsLeft (w : Members S) (index : ℕ) (store : S) : Type 0 where
    pub before : Member S
    pub at : slice_get w.all index ≡ Some before
    pub left : MayLeave seen before.store (seen store).kept
    pub durable : Only (seen store).kept (seen store).may_leave

  -- Of members of whom the one at an index may have left what this store shows, its start is a
  -- move, if its store is open and honest then; and it is among them, with nothing waiting.
  abbrev pub IsItsStart : {N : Type 0} → (N → S) → (N → NodeState) → S → View N → Type 0
  IsItsStart store state shown new =
      (index : ℕ) (w : Members S) → new.id ≡ index + 1 → ShowsLeft w index shown →
      (seen (store new.node)).is_honest → IsTrue (seen (store new.node)).is_open →
      IsMove seen new.members w (Starts index (store new.node) (state new.node))
      × IsAmong seen (after w (Starts index (store new.node) (state new.node))) index (store new.node) (state new.node) (record { own = new.own; out = [] }) []
