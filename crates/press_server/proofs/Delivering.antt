-- Deliveries, one after the other.
use Rattle.std.proofs.Common.{ℕ, zero, suc, ◌≡◌, ◌+◌, List, [], ◌∷◌, ◌++◌, Option, None, Result, refl, sym, subst, ap, length, drop, ◌∙◌, arith}
use Rattle.press_wire.specs.declared.message.Message.{Message}
use Rattle.press_node.specs.Nodes.{NodeMove}
use Rattle.press_node.specs.declared.event.Event.TheVariants.{Deliver}
use Rattle.press_node.specs.declared.fault.NodeFault.{NodeFault}
use Rattle.press_server.specs.Turns.{Delivers, GoesOn}

module _ {N : Type 0} (moved : N → N → NodeMove) where
  pub none_more : (most : ℕ) (waiting : List Message) (node : N) → most ≡ 0 → Delivers moved most waiting node node None
  none_more zero waiting node e = (refl, refl)
  none_more (suc most) waiting node e = absurd (omega (arith, e))

  pub none_left : (most : ℕ) (waiting : List Message) (node : N) → waiting ≡ [] → Delivers moved most waiting node node None
  none_left zero waiting node e = (refl, refl)
  none_left (suc most) waiting node e = subst (λ w. Delivers moved (suc most) w node node None) (sym e) (refl, refl)

  pub one_more : (left most : ℕ) (waiting rest : List Message) (message : Message) (node next after : N) (outcome : Result (List Message) NodeFault) (fault : Option NodeFault)
      → left + 1 ≡ most → waiting ≡ message ∷ rest
      → (moved node next).plays (Deliver message) outcome
      → GoesOn moved (λ sent. Delivers moved left (rest ++ sent) next after fault) next after fault outcome
      → Delivers moved most waiting node after fault
  one_more left zero waiting rest message node next after outcome fault e w p on = absurd (omega (arith, e))
  one_more left (suc most) waiting rest message node next after outcome fault e w p on =
      let same : left ≡ most = omega (arith, e) in
      subst (λ v. Delivers moved (suc most) v node after fault) (sym w)
      (outcome, next, p, subst (λ n. GoesOn moved (λ sent. Delivers moved n (rest ++ sent) next after fault) next after fault outcome) same on)

  -- what was sent is all that waits
  pub only_sent : (most : ℕ) (waiting sent all : List Message) (node after : N) (fault : Option NodeFault) → waiting ≡ [] → all ≡ waiting ++ sent
      → Delivers moved most all node after fault → Delivers moved most sent node after fault
  only_sent most waiting sent all node after fault none is d =
      subst (λ w. Delivers moved most w node after fault) (is ∙ ap (λ (v : List Message). v ++ sent) none) d

  pub same_waiting : (most : ℕ) (all other : List Message) (node after : N) (fault : Option NodeFault) → all ≡ other
      → Delivers moved most all node after fault → Delivers moved most other node after fault
  same_waiting most all other node after fault is d = subst (λ w. Delivers moved most w node after fault) is d

-- nothing is there where nothing came off
pub none_there : (xs ys : List Message) → xs ≡ ys → ys ≡ drop 1 xs → xs ≡ []
none_there [] ys a b = refl
none_there (x ∷ xs) ys a b = let e : length (x ∷ xs) ≡ length xs = ap length (a ∙ b) in absurd (omega (arith, e))
