-- What is told of a request at a place.
use Rattle.std.proofs.Common.{◌≡◌, ℕ, List, Option, Some, MatchOption, sym, subst}
use Rattle.press_net.specs.declared.answers.Errand.{Errand}
use Rattle.press_net.specs.declared.outgoing_connection.OutgoingConnection.{OutgoingConnection}
use Rattle.press_net.specs.Answering.{Credit, credit}
use Rattle.press_net.specs.Lanes.{HasSameAim, IsCredited, reply_in}

pub credited : {A : Type 0} (hears : A → Credit → A → Type 0) (slot : Option OutgoingConnection) (call stepped : OutgoingConnection) (told : Option (List ℕ)) (old new : A)
    → slot ≡ Some call → HasSameAim stepped call → told ≡ reply_in stepped.course stepped.reply.items
    → MatchOption told (new ≡ old) (λ reply. hears old (credit call.place call.errand reply) new)
    → MatchOption slot (new ≡ old) (λ call. IsCredited hears call old new)
credited hears slot call stepped told old new is aim e m =
    subst (λ slot. MatchOption slot (new ≡ old) (λ call. IsCredited hears call old new)) (sym is)
    (stepped, aim, subst (λ told. MatchOption told (new ≡ old) (λ reply. hears old (credit call.place call.errand reply) new)) e m)

pub named : {A : Type 0} (hears : A → Credit → A → Type 0) (place other : ℕ) (errand same : Errand) (reply : List ℕ) (old new : A)
    → place ≡ other → errand ≡ same → hears old (credit place errand reply) new → hears old (credit other same reply) new
named hears place other errand same reply old new p e h =
    subst (λ n. hears old (credit n same reply) new) p (subst (λ e. hears old (credit place e reply) new) e h)
