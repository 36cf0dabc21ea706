-- The replies to an event.
use Rattle.std.proofs.Common.{ℕ, ◌≡◌, List, [], Option, Result, Ok, Err, IfOk, IfErr, OnErr, MatchResult, subst, ◌∙◌}
use Rattle.std.specs.Io.KnownBytes.{Appends}
use Rattle.press_text.specs.Streams.{AppendsProperFront}
use Rattle.press_http.specs.declared.fault.HttpFault.{HttpFault}
use Rattle.press_http.specs.declared.fault.HttpFault.TheVariants.{WriteFault}
use Rattle.press_http.specs.Replies.{fault_bytes}
use Rattle.press_page.specs.declared.reply.Reply.{Reply}
use Rattle.press_wire.specs.declared.message.Message.{Message}
use Rattle.press_node.specs.declared.fault.NodeFault.{NodeFault}
use Rattle.press_node.specs.Serving.{AnswersBy, AnswersFront, Tells, TellsFront, status_of_node}

module _ {T : Type 0} (status : T → ℕ) (items : T → List Message) (reply : Reply) (old new : Option (List ℕ)) where
  pub told_answers : (r : Result T HttpFault) (out : List Message) → IfOk r (λ s. items s ≡ out) → IfOk r (λ s. Tells old new reply (status s)) → OnErr r (TellsFront old new reply) → IfErr r (λ e. e ≡ WriteFault)
      → MatchResult r (λ s. AnswersBy (Ok out) reply old new (status s) (items s)) (λ e. (e ≡ WriteFault) × AnswersFront (Ok out) reply old new)
  told_answers (Ok s) out i t f w = (i, t)
  told_answers (Err e) out i t f w = (w, f)

  pub refused_answers : (r : Result T HttpFault) (fault : NodeFault) (code : ℕ) → code ≡ status_of_node fault
      → IfOk r (λ s. (status s ≡ code) × (items s ≡ []) × Appends old new (fault_bytes code)) → OnErr r (AppendsProperFront old new (fault_bytes code)) → IfErr r (λ e. e ≡ WriteFault)
      → MatchResult r (λ s. AnswersBy (Err fault) reply old new (status s) (items s)) (λ e. (e ≡ WriteFault) × AnswersFront (Err fault) reply old new)
  refused_answers (Ok s) fault code is t f w = (t.1, t.0 ∙ is, subst (λ n. Appends old new (fault_bytes n)) is t.2)
  refused_answers (Err e) fault code is t f w = (w, subst (λ n. AppendsProperFront old new (fault_bytes n)) is f)
