-- A kit file without a mistake gives a whole kit.
use Rattle.std.proofs.Common.{◌≡◌, refl, sym, ◌∙◌, ap, ℕ, List, map, Option, Some, None}
use Rattle.std.specs.Prelude.{option_map}
use Rattle.press_callbacks.specs.Faults.{kit_fault_number}
use Rattle.press_callbacks.specs.Kits.{kit_fault}
use Rattle.press_callbacks.specs.declared.kit_fault.KitFault.{KitFault}
use Rattle.press_callbacks.specs.declared.plugin.Plugin.{Plugin}
use Rattle.press_kit.specs.declared.kit_parts.KitParts.{KitParts}
use Rattle.press_kit.specs.declared.kit_parts.Scripted.{Scripted}
use Rattle.press_lint.specs.Mistakes.{mistake_by, mistake_in, why_number}
use Rattle.press_lint.specs.declared.mistake.Mistake.{Mistake}
use Rattle.press_upgrade.specs.Differences.{kit_given}
use Rattle.press_upgrade.specs.Extends.{IsWhole}

-- a mistake is found exactly where there is a fault
abbrev pub MistakesAreFaults : Type 0
MistakesAreFaults = (callbacks : List Scripted) (plugins : List Plugin) → option_map (λ (m : Mistake). why_number m.why) (mistake_by callbacks plugins) ≡ option_map kit_fault_number (kit_fault (map (λ (c : Scripted). (c.id, c.script)) callbacks) plugins)

none_under : (o : Option KitFault) → option_map kit_fault_number o ≡ None → o ≡ None
none_under None e = refl
none_under (Some fault) e = cc

pub whole_of : MistakesAreFaults → (kit : KitParts) → mistake_in kit ≡ None → IsWhole (kit_given kit)
whole_of law kit e =
    none_under (kit_fault (kit_given kit).scripts kit.plugins) (sym (law kit.callbacks kit.plugins) ∙ ap (option_map (λ (m : Mistake). why_number m.why)) e)
