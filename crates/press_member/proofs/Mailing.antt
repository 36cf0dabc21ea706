-- What was sent stays sent.
use Rattle.std.proofs.Common.{zero, suc, inl, inr, List, [], ◌∷◌, ◌++◌, Some, ap}
use Rattle.press_wire.specs.declared.message.Message.{Message}
use Rattle.press_member.specs.Among.{AreSent, IsIn}
use Rattle.press_member.specs.Members.{IsSent}
use Rattle.press_member.proofs.Lists.{get_front}

pub sent_first : (ms : List Message) (m : Message) → IsIn ms m → IsSent ms m
sent_first [] m h = absurd h
sent_first (x ∷ xs) m (inl e) = (zero, ap Some e)
sent_first (x ∷ xs) m (inr h) = let k = sent_first xs m h in (suc k.0, k.1)

pub still_sent : (sent out ms : List Message) → AreSent sent ms → AreSent (sent ++ out) ms
still_sent sent out ms a = λ m h. let k = a m h in (k.0, get_front sent out k.0 m k.1)
