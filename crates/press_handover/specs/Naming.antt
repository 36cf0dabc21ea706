-- What a value makes of the search for a plugin that was named before the kit had it (own).
use Rattle.std.specs.Prelude.{◌≡◌, ℕ, List, Option, None, Some, cond, true, false}
use Rattle.press_apply.specs.declared.value.Value.{Value}
use Rattle.press_upgrade.specs.Differences.{kit_given}
use Rattle.press_upgrade.specs.Extends.{asks_new, is_new}
use Rattle.press_handover.specs.Handovers.{plugin_in}
use Rattle.press_handover.specs.declared.naming.Naming.{Naming}

-- what was found stays; else a value that names a plugin that is new is found, and no other is
abbrev pub Finds : Naming → Value → Option (List ℕ) → Option (List ℕ) → Type 0
Finds n value (Some name) found = found ≡ Some name
Finds n value None None = asks_new (kit_given n.old.now) (kit_given n.new.now) value ≡ false
Finds n value None (Some name) = (asks_new (kit_given n.old.now) (kit_given n.new.now) value ≡ true) × (plugin_in value ≡ Some name)

-- what was found stays; else a name that is new is found
abbrev pub FindsName : Naming → List ℕ → Option (List ℕ) → Option (List ℕ) → Type 0
FindsName n name (Some before) found = found ≡ Some before
FindsName n name None found = found ≡ cond (is_new (kit_given n.old.now) (kit_given n.new.now) name) (Some name) None

pub record Notes (old : Naming) (value : Value) (new : Naming) : Type 0 where
  pub same_old : new.old ≡ old.old
  pub same_new : new.new ≡ old.new
  pub found : Finds old value old.found new.found
