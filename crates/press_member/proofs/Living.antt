-- Inputs of a member, one after the other, among what the others do.
use Rattle.std.proofs.Common.{ℕ, ◌+◌, ◌<◌, ◌≡◌, List, [], ◌∷◌, ◌++◌, sym, subst, ◌∙◌}
use Rattle.press_wire.specs.declared.message.Message.{Message}
use Rattle.press_acceptor.specs.Seen.{Seen}
use Rattle.press_node.specs.Nodes.{NodeMove}
use Rattle.press_node.specs.States.{NodeState}
use Rattle.press_member.specs.Acts.{View}
use Rattle.press_member.specs.Among.{IsAmong, Letters}
use Rattle.press_member.specs.Lives.{AreOfOthers, Lives, LivesAmong, Step}
use Rattle.press_member.specs.Members.{AreMoves, Members, Move, after, after_all}
use Rattle.press_member.proofs.Others.{after_then, moves_then, stays}

module _ {S N : Type 0} (seen : S → Seen) (moved : N → N → NodeMove) (store : N → S) (state : N → NodeState) where
  pub lives_then : (first last : List (Step N)) (old mid new : View N) → Lives seen moved store state first old mid → Lives seen moved store state last mid new → Lives seen moved store state (first ++ last) old new
  lives_then [] last old mid new h k = subst (λ v. Lives seen moved store state last v new) h k
  lives_then (s ∷ first) last old mid new h k = (h.0, h.1, lives_then first last s.next mid new h.2 k)

  others_stay : (index : ℕ) (t : S) (x : NodeState) (mail : Letters) (heard : List Message) (moves : List (Move S)) (w : Members S) → AreOfOthers index moves → IsAmong seen w index t x mail heard → IsAmong seen (after_all w moves) index t x mail heard
  others_stay index t x mail heard [] w by a = a
  others_stay index t x mail heard (m ∷ moves) w by a = others_stay index t x mail heard moves (after w m) by.1 (stays seen index by.0.0 by.0.1 t x mail heard w m by.0.2 a)

  pub lives_among : (n index : ℕ) (steps : List (Step N)) (w : Members S) (old new : View N) (out : List Message) → old.id ≡ index + 1 → old.members ≡ n → index < n → IsAmong seen w index (store old.node) (state old.node) (record { own = old.own; out = out }) [] →
      Lives seen moved store state steps old new → LivesAmong seen moved store state n index steps w
  lives_among n index [] w old new out own count few among lives = tt
  lives_among n index (s ∷ steps) w old new out own count few among lives = λ others are by heard honest.
      let a = others_stay index (store old.node) (state old.node) (record { own = old.own; out = out }) [] others w by among in
      let c = lives.1 index (after_all w others) own (subst (λ m. index < m) (sym count) few)
      (record { at = a.at; is_open = a.is_open; own = a.own; out = λ m h. absurd h; heard_of = heard }) honest in
      let moves = c.2.moves in
      let joined : after_all w (others ++ moves) ≡ after_all (after_all w others) moves = after_then others moves w in
      let is_among = subst (λ v. IsAmong seen v index (store s.next.node) (state s.next.node) (record { own = s.next.own; out = c.0 }) []) (sym joined) c.2.is_among in (
        record {
          out = c.0;
          sends = c.1;
          own = moves;
          are = moves_then seen n others moves w are (subst (λ m. AreMoves seen m (after_all w others) moves) count c.2.are);
          by = c.2.by;
          is_among = is_among;
        },
        lives_among n index steps (after_all w (others ++ moves)) s.next new c.0 (lives.0.id ∙ own) (lives.0.members ∙ count) few is_among lives.2,
      )
