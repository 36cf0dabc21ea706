-- What other members do leaves a member among them, and moves after moves are moves.
use Rattle.std.proofs.Common.{ℕ, ◌≡◌, ◌≢◌, List, [], ◌∷◌, ◌++◌, slice_set, refl, ◌∙◌}
use Rattle.press_wire.specs.declared.message.Message.{Message}
use Rattle.press_acceptor.specs.Seen.{Seen}
use Rattle.press_node.specs.States.{NodeState}
use Rattle.press_member.specs.Among.{AreBy, IsAmong, IsBy, Letters}
use Rattle.press_member.specs.Members.{AreMoves, Member, Members, Move, after, after_all, out_of, question}
use Rattle.press_member.specs.Members.Move.{Acts, Breaks, Starts, Asks}
use Rattle.press_member.proofs.Lists.{set_other}
use Rattle.press_member.proofs.Mailing.{still_sent}

module _ {S : Type 0} (seen : S → Seen) (index other : ℕ) (apart : index ≢ other) (store : S) (state : NodeState) (mail : Letters) (heard : List Message) where
  moved_on : (w : Members S) (j : ℕ) (x : Member S) (out : List Message) → j ≡ other → IsAmong seen w index store state mail heard → IsAmong seen (record { all = slice_set w.all j x; sent = w.sent ++ out }) index store state mail heard
  moved_on w j x out is a = record {
    at = set_other w.all j x index (λ e. apart (e ∙ is)) ∙ a.at;
    is_open = a.is_open;
    own = still_sent w.sent out mail.own a.own;
    out = still_sent w.sent out mail.out a.out;
    heard_of = still_sent w.sent out heard a.heard_of;
  }

  pub stays : (w : Members S) (m : Move S) → IsBy other m → IsAmong seen w index store state mail heard → IsAmong seen (after w m) index store state mail heard
  stays w (Acts j e o t s) by a = moved_on w j _ (out_of o) by a
  stays w (Breaks j e left out s) by a = moved_on w j _ out by a
  stays w (Starts j t s) by a = record { at = set_other w.all j _ index (λ e. apart (e ∙ by)) ∙ a.at; is_open = a.is_open; own = a.own; out = a.out; heard_of = a.heard_of }
  stays w (Asks from to slot) by a = record {
    at = a.at;
    is_open = a.is_open;
    own = still_sent w.sent (question from to slot ∷ []) mail.own a.own;
    out = still_sent w.sent (question from to slot ∷ []) mail.out a.out;
    heard_of = still_sent w.sent (question from to slot ∷ []) heard a.heard_of;
  }

  pub all_stay : (moves : List (Move S)) (w : Members S) → AreBy other moves → IsAmong seen w index store state mail heard → IsAmong seen (after_all w moves) index store state mail heard
  all_stay [] w by a = a
  all_stay (m ∷ moves) w by a = all_stay moves (after w m) by.1 (stays w m by.0 a)

module _ {S : Type 0} (seen : S → Seen) (n : ℕ) where
  pub moves_then : (first last : List (Move S)) (w : Members S) → AreMoves seen n w first → AreMoves seen n (after_all w first) last → AreMoves seen n w (first ++ last)
  moves_then [] last w h k = k
  moves_then (m ∷ moves) last w h k = (h.0, moves_then moves last (after w m) h.1 k)

pub after_then : {S : Type 0} (first last : List (Move S)) (w : Members S) → after_all w (first ++ last) ≡ after_all (after_all w first) last
after_then [] last w = refl
after_then (m ∷ moves) last w = after_then moves last (after w m)
