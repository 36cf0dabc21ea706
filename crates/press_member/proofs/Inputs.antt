-- What an input does to a member, from its parts.
use Rattle.std.proofs.Common.{ℕ, Bool, ◌≡◌, inl, inr, List, [], ◌++◌, Option, None, Some, Result, Ok, IfOk, IfErr, IfSome, IsTrue, is_ok, true, false, refl, sym, subst, ◌∙◌, append-nil}
use Rattle.std.specs.declared.alloc.AllocError.{AllocError}
use Rattle.press_apply.specs.declared.command.Stamped.{Stamped}
use Rattle.press_wire.specs.declared.message.Message.{Message}
use Rattle.press_chain.specs.Chains.{IsChainOf}
use Rattle.press_batch.specs.declared.report.Report.{Report}
use Rattle.press_node.specs.Nodes.{NodeMove}
use Rattle.press_node.specs.States.{values_where}
use Rattle.press_node.specs.declared.fault.NodeFault.{NodeFault}
use Rattle.press_member.specs.Acts.{Acts, Answers, Has, Submits, TakesMemory, View, moment, taken_answer, answer_if_taking}
use Rattle.press_member.specs.Deeds.{Deed}
use Rattle.press_node.specs.declared.event.Event.{Event}
use Rattle.press_node.specs.declared.event.Event.TheVariants as event
use Rattle.press_member.specs.declared.output.Answer.{Answer}
use Rattle.press_member.specs.declared.output.Answer.TheVariants as answer
use Rattle.press_member.specs.Parts.{IsSame, Turns}
use Rattle.press_member.specs.Turns.{Brings, Delivers, IsVotedNext, MaySubmit, Turned}
use Rattle.press_member.specs.Differing.{Notes}
use Rattle.press_member.specs.declared.input.Input.{Input}
use Rattle.press_member.specs.declared.input.Input.TheVariants as input
use Rattle.press_member.specs.declared.output.Outputs.{Outputs}
use Rattle.press_member.proofs.Turning.{still, turns_on}

-- a member that takes no commands does nothing with a form
pub closed_form : (N : Type 0) (e : Event) (b r : Bool) → r ≡ b → r ≡ false → Submits {N = N} b e None []
closed_form N e true r is shut = absurd (let f = sym is ∙ shut in cc)
closed_form N e false r is shut = refl

pub opened_form : (N : Type 0) (e : Event) (refused : Option NodeFault) (b : Bool) → b ≡ true → (ds : List (Deed N)) → Brings e refused ds → Submits b e refused ds
opened_form N e refused true is ds h = h
opened_form N e refused false is ds h = absurd (let f = is in cc)

pub opened_answer : (b : Bool) (refused : Option NodeFault) (given : Answer) → b ≡ true → given ≡ taken_answer refused → given ≡ answer_if_taking b refused
opened_answer true refused given is e = e
opened_answer false refused given is e = absurd (let f = is in cc)

pub closed_answer : (b r : Bool) (given : Answer) → r ≡ b → r ≡ false → given ≡ answer.NotYet → given ≡ answer_if_taking b None
closed_answer true r given is shut e = absurd (let f = sym is ∙ shut in cc)
closed_answer false r given is shut e = e

-- ---- a message, and what may be submitted behind it

same_command : (a b : Stamped) → Some a ≡ Some b → a ≡ b
same_command a b e = cc

-- what is submitted is such a command
are_such : {N : Type 0} (command : Option Stamped) (Which : Stamped → Type 0) → IfSome command Which → (ds : List (Deed N)) → MaySubmit (λ it. command ≡ Some it) ds → MaySubmit Which ds
are_such command Which is ds (inl h) = inl h
are_such None Which is ds (inr h) = absurd (let f = h.1 in cc)
are_such (Some command) Which is ds (inr h) = inr (h.0, subst Which (same_command command h.0 h.1) is, h.2)

pub delivers : {N : Type 0} (id next : ℕ) (message : Message) (refused : Option NodeFault) (command : Option Stamped) → IfSome command (IsVotedNext id next message) →
    (ds es : List (Deed N)) → Brings (event.Deliver message) refused ds → MaySubmit (λ it. command ≡ Some it) es → Delivers id next message refused (ds ++ es)
delivers id next message refused command is ds es h k = record { first = ds; more = es; are = refl; brings = h; submits = are_such command (IsVotedNext id next message) is es k }

pub none_more : (N : Type 0) (Which : Stamped → Type 0) → MaySubmit {N = N} Which []
none_more N Which = inl refl

pub delivers_only : {N : Type 0} (id next : ℕ) (message : Message) (refused : Option NodeFault) (ds : List (Deed N)) → Brings (event.Deliver message) refused ds → Delivers id next message refused ds
delivers_only id next message refused ds h = record { first = ds; more = []; are = sym (append-nil ds); brings = h; submits = none_more _ (IsVotedNext id next message) }

module _ {N : Type 0} (moved : N → N → NodeMove) where
  pub same_then : (old mid new : View N) → IsSame moved old mid → IsSame moved mid new → IsSame moved old new
  same_then old mid new s t = record { id = t.id ∙ s.id; members = t.members ∙ s.members; digests = t.digests ∙ s.digests; chain = t.chain ∙ s.chain; differing = t.differing ∙ s.differing; kit = t.kit ∙ s.kit }

  -- a turn of a member that is the same by then
  pub turns_then : (K L M : List (Deed N) → Type 0) (old mid new : View N) (V W X : Type 0) (out out1 out2 : List Message) → IsSame moved old mid → Turns moved old mid K out out1 V → Turns moved mid new L out1 out2 W →
      ((ds es : List (Deed N)) → K ds → L es → M (ds ++ es)) → (X → V) → (X → W) → Turns moved old new M out out2 X
  turns_then K L M old mid new V W X out out1 out2 s t u kinds v w =
      turns_on moved old.members old.id K L M V W X (moment old) (moment mid) (moment new) out out1 out2 t mid.id s.id
      (subst (λ n. Turned moved n mid.id L W (moment mid) (moment new) out1 out2) s.members u) kinds v w

  -- nothing is done but an answer given
  pub rests : (input : Input) (old new : View N) (outputs : Outputs) → IsSame moved old new → moment new ≡ moment old → outputs.messages.items ≡ [] →
      Has {N = N} old (moved old.node old.node).up (IsTrue true) input None [] → Answers old (moved old.node old.node).kit (moved old.node old.node).up input None outputs.answer → Notes old.digests old.chain old.differing input new.differing → Acts moved input old new (Ok outputs)
  rests input old new outputs s same none has given notes = record {
    id = s.id;
    members = s.members;
    digests = s.digests;
    kit = s.kit;
    refused = None;
    out = [];
    turned = still moved old.members old.id (Has old (moved old.node old.node).up (IsTrue true) input None) (IsTrue true) (moment old) (moment new) [] same has;
    sent = none;
    answered = given;
    memory = tt;
    chain = subst (IsChainOf (values_where (moved new.node new.node).up)) (sym s.chain);
    notes = notes;
  }

  -- a report is heard, and noted
  pub reports : (from : ℕ) (report : Report) (old new : View N) (outputs : Outputs) → new.id ≡ old.id → new.members ≡ old.members → new.digests ≡ old.digests → new.chain ≡ old.chain → (moved new.node new.node).kit ≡ (moved old.node old.node).kit → moment new ≡ moment old →
      outputs.messages.items ≡ [] → Answers old (moved old.node old.node).kit (moved old.node old.node).up (input.Report from report) None outputs.answer → Notes old.digests old.chain old.differing (input.Report from report) new.differing → Acts moved (input.Report from report) old new (Ok outputs)
  reports from report old new outputs id members digests chain kit same none given notes = record {
    id = id;
    members = members;
    digests = digests;
    kit = kit;
    refused = None;
    out = [];
    turned = still moved old.members old.id (Has old (moved old.node old.node).up (IsTrue true) (input.Report from report) None) (IsTrue true) (moment old) (moment new) [] same refl;
    sent = none;
    answered = given;
    memory = tt;
    chain = subst (IsChainOf (values_where (moved new.node new.node).up)) (sym chain);
    notes = notes;
  }

  -- a turn is done, and this is answered
  pub turns : (input : Input) (old new : View N) (result : Result Outputs AllocError) (refused : Option NodeFault) (out out1 : List Message) → IsSame moved old new → out ≡ [] →
      Turns moved old new (Has old (moved old.node old.node).up (IsTrue (is_ok result)) input refused) out out1 (IsTrue (is_ok result)) → IfOk result (λ outputs. outputs.messages.items ≡ out1) →
      IfOk result (λ outputs. Answers old (moved old.node old.node).kit (moved old.node old.node).up input refused outputs.answer) → IfErr result (λ fault. TakesMemory old input) → Notes old.digests old.chain old.differing input new.differing → Acts moved input old new result
  turns input old new result refused out out1 s none t sent given memory notes = record {
    id = s.id;
    members = s.members;
    digests = s.digests;
    kit = s.kit;
    refused = refused;
    out = out1;
    turned = subst (λ l. Turns moved old new (Has old (moved old.node old.node).up (IsTrue (is_ok result)) input refused) l out1 (IsTrue (is_ok result))) none t;
    sent = sent;
    answered = given;
    memory = memory;
    chain = subst (IsChainOf (values_where (moved new.node new.node).up)) (sym s.chain);
    notes = notes;
  }
