-- What a script runs: the hooks that its steps run, or have run later (own).
use Rattle.std.specs.Prelude.{ℕ, List, Bool, false, bytes_eq}
use Rattle.std.specs.List.{list_any}
use Rattle.press_callbacks.specs.declared.script.Op.{Op}
use Rattle.press_callbacks.specs.declared.script.Op.TheVariants as op
use Rattle.press_kit.specs.declared.kit_parts.Scripted.{Scripted}

-- a step that runs it, or has it run later
abbrev pub runs : List ℕ → Op → Bool
runs hook (op.Apply h value more) = bytes_eq h hook
runs hook (op.Do h args) = bytes_eq h hook
runs hook (op.Schedule after every h arg) = bytes_eq h hook
runs hook (op.Set text) = false
runs hook (op.AddHook h c p a) = false
runs hook (op.RemoveHook h c p) = false
runs hook (op.RemoveAll h p) = false
runs hook (op.AddTag tag c) = false
runs hook (op.RemoveTag tag) = false
runs hook (op.SkipIf left right n) = false
runs hook (op.Shortcodes text) = false
runs hook (op.Ask ask) = false
runs hook (op.SetOption name value) = false
runs hook (op.Publish post) = false
runs hook (op.Echo text) = false
runs hook (op.Return text) = false

abbrev pub is_run_by : List Scripted → List ℕ → Bool
is_run_by callbacks hook = list_any (λ (c : Scripted). list_any (runs hook) c.script) callbacks
