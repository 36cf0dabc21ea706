-- What a step did to a world: it was played as the definition has it, or refused; or running out of
-- memory ended it.
use Rattle.std.specs.Prelude.{ℕ, ◌≡◌, ◌⊎◌, Bool, true, false, Option, None, Some, Result, Ok, Err}
use Rattle.press_callbacks.specs.Kits.{KitView}
use Rattle.press_node.specs.Faults.{stops}
use Rattle.press_node.specs.declared.fault.NodeFault.{NodeFault}
use Rattle.press_node.specs.declared.fault.NodeFault.TheVariants.{NoMemory}
use Rattle.press_world.specs.Refusing.{step_refusal}
use Rattle.press_world.specs.Stored.{StoredWorld, stored_step}
use Rattle.press_world.specs.Telling.{step_result}
use Rattle.press_world.specs.declared.fault.WorldFault.{WorldFault}
use Rattle.press_world.specs.declared.fault.WorldFault.TheVariants.{NoSuchMessage, NoSuchNode, Node}
use Rattle.press_world.specs.declared.played.Played.{Played}
use Rattle.press_world.specs.declared.step.Cut.{Cut}
use Rattle.press_world.specs.declared.step.Cut.TheVariants.{BeforeSave, AfterSave}
use Rattle.press_world.specs.declared.step.Step.{Step}
use Rattle.press_world.specs.declared.step.Step.TheVariants.{Submit, Wake, Deliver, Restart, Get}

-- out of memory stops a node before its save or after it
abbrev pub cut_of : Bool → Cut
cut_of false = BeforeSave
cut_of true = AfterSave

-- as if a stop had cut it there
abbrev pub IsCut : (Option Cut → StoredWorld) → StoredWorld → Type 0
IsCut by t = (b : Bool) × (t ≡ by (Some (cut_of b)))

-- A fault of a node: the step was refused and nothing changed; or nothing refuses it and it was out
-- of memory, which came before the event or stopped the node.
abbrev pub FailsBy : StoredWorld → (Option Cut → StoredWorld) → Option WorldFault → NodeFault → Bool → StoredWorld → Type 0
FailsBy s by refused fault true t = (fault ≡ NoMemory) × (refused ≡ None) × ((t ≡ s) ⊎ IsCut by t)
FailsBy s by refused fault false t = (refused ≡ Some (Node fault)) × (t ≡ s)

abbrev pub Fails : StoredWorld → (Option Cut → StoredWorld) → Option WorldFault → WorldFault → StoredWorld → Type 0
Fails s by refused NoSuchMessage t = (refused ≡ Some NoSuchMessage) × (t ≡ s)
Fails s by refused NoSuchNode t = (refused ≡ Some NoSuchNode) × (t ≡ s)
Fails s by refused (Node fault) t = FailsBy s by refused fault (stops fault) t

-- the step with this cut in place of its own
abbrev pub with_cut : Step → Option Cut → Step
with_cut (Submit number command cut) stop = Submit number command stop
with_cut (Wake number cut) stop = Wake number stop
with_cut (Deliver number cut) stop = Deliver number stop
with_cut (Restart number) stop = Restart number
with_cut (Get number target) stop = Get number target

-- Of n nodes of this kit, the step made t of s, with this result.
abbrev pub Steps : KitView → ℕ → StoredWorld → Step → StoredWorld → Result Played WorldFault → Type 0
Steps kit n s x t (Ok played) = (step_refusal s x ≡ None) × (t ≡ stored_step n s x) × (played ≡ step_result kit s t x)
Steps kit n s x t (Err fault) = Fails s (λ stop. stored_step n s (with_cut x stop)) (step_refusal s x) fault t
