-- A start over a store that shows what was left.
use Rattle.std.proofs.Common.{ℕ, ◌+◌, ◌≡◌, Bool, List, false, replicate, IsTrue, [], None, sym, subst, ap, ◌∙◌}
use Rattle.press_acceptor.specs.Seen.{Looks, Seen}
use Rattle.press_acceptor.specs.StoreMap.{StoreMap}
use Rattle.press_node.specs.States.{NodeState, running_in, started_at}
use Rattle.press_batch.specs.declared.report.Digests.{Digests}
use Rattle.press_chain.specs.declared.chain.Chain.{Chain}
use Rattle.press_member.specs.Acts.{View, first_view}
use Rattle.press_member.specs.Among.{IsAmong}
use Rattle.press_member.specs.declared.beginning.Beginning.{Beginning}
use Rattle.press_member.specs.Members.{IsMove, MayLeave, Members, after}
use Rattle.press_member.specs.Members.Holding.{Over}
use Rattle.press_member.specs.Members.Move.{Starts}
use Rattle.press_member.specs.Starting.{IsItsStart, ShowsLeft}
use Rattle.press_member.proofs.Lists.{set_here}
use Rattle.press_member.proofs.Opening.{while_any}

pub starts_among : {S : Type 0} (seen : S → Seen) (n id index : ℕ) (w : Members S) (s t : S) (state : NodeState) → id ≡ index + 1 → ShowsLeft seen w index s → IsTrue (seen t).is_open → Looks (seen s) (seen t) →
    state ≡ started_at id n (seen s).kept.last_round → IsMove seen n w (Starts index t state) × IsAmong seen (after w (Starts index t state)) index t state (record { own = []; out = [] }) []
starts_among seen n id index w s t state own left opened looks is =
    let same : (seen t).kept ≡ (seen s).kept = looks.same opened in (
      record {
        before = left.before;
        at = left.at;
        left = subst (λ k. MayLeave seen left.before.store k) (sym same) left.left;
        is_open = opened;
        durable = λ l m. left.durable l (looks.crash l m) ∙ sym same;
        started = is ∙ ap (λ i. started_at i n (seen s).kept.last_round) own ∙ ap (λ (k : StoreMap). started_at (index + 1) n k.last_round) (sym same);
      },
      record {
        at = set_here w.all index (record { store = Over t; state = state }) left.before left.at;
        is_open = while_any (running_in state) (IsTrue (seen t).is_open) opened;
        own = λ m h. absurd h;
        out = λ m h. absurd h;
        heard_of = λ m h. absurd h;
      },
    )

-- one that begins, by the peers that it has
abbrev by_peers : {N : Type 0} → Beginning → N → Chain → ℕ → Digests → List Bool → View N
by_peers b node c n d l = record {
  id = b.id;
  members = n;
  digests = d;
  node = node;
  own = [];
  stop = None;
  is_open = false;
  chain = c;
  differing = l;
}

pub begun_is : {N : Type 0} (b : Beginning) (node : N) (c : Chain) (n : ℕ) (d : Digests) (l : List Bool) (v : View N) → v ≡ by_peers b node c n d l → n ≡ b.members → d ≡ b.digests → l ≡ replicate b.members false → v ≡ first_view b node c
begun_is b node c n d l v e f g h = e ∙ ap (λ m. by_peers b node c m d l) f ∙ ap (λ x. by_peers b node c b.members x l) g ∙ ap (by_peers b node c b.members b.digests) h

pub its_start : {S N : Type 0} (seen : S → Seen) (store : N → S) (state : N → NodeState) (shown : S) (b : Beginning) (node : N) (c : Chain) (v : View N) → v ≡ first_view b node c → ((seen (store node)).is_honest → Looks (seen shown) (seen (store node))) →
    ((seen (store node)).is_honest → state node ≡ started_at b.id b.members (seen shown).kept.last_round) → IsItsStart seen store state shown v
its_start seen store state shown b node c v e looks started =
    subst (λ x. IsItsStart seen store state shown x) (sym e) (λ index w own left honest opened. starts_among seen b.members b.id index w shown (store node) (state node) own left opened (looks honest) (started honest))
