-- The first value that names a plugin that is new, by what each value makes of the search for it.
use Rattle.std.proofs.Common.{◌≡◌, ◌∙◌, ℕ, Bool, true, false, cond, bytes_eq, List, [], ◌∷◌, refl, sym, ap, subst, Bor}
use Rattle.std.specs.Prelude.{◌||◌, MatchOption, Option, None, Some, is_some}
use Rattle.std.specs.List.{list_any}
use Rattle.press_apply.specs.declared.command.Command.{Command}
use Rattle.press_apply.specs.declared.command.Command.TheVariants.{Insert, Update, Trash, Untrash, Delete, SetOption, Activate, Deactivate, Tick, Profile}
use Rattle.press_apply.specs.declared.value.Value.{Value}
use Rattle.press_apply.specs.declared.value.Value.TheVariants.{Noop, Cmd}
use Rattle.press_callbacks.specs.Kits.{KitView, plugin_of}
use Rattle.press_callbacks.specs.declared.plugin.Plugin.{Plugin}
use Rattle.press_kit.specs.declared.kit_parts.KitParts.{KitParts}
use Rattle.press_upgrade.specs.Differences.{kit_given}
use Rattle.press_upgrade.specs.Extends.{ask_new, asks_new, is_new, names_new}
use Rattle.press_handover.specs.Handovers.{NamesFirst, plugin_in, plugin_of_command}
use Rattle.press_handover.specs.Naming.{Finds, FindsName, Notes}
use Rattle.press_handover.specs.Voted.{Visits}
use Rattle.press_handover.specs.declared.naming.Naming.{Naming}

-- whether a plugin has the name
pub among_is : (name : List ℕ) (plugins : List Plugin) → list_any (λ (p : Plugin). bytes_eq p.name name) plugins ≡ is_some (plugin_of name plugins)
among_is name [] = refl
among_is name (p ∷ ps) = go (bytes_eq p.name name) (among_is name ps)
  where
    go : (b : Bool) → list_any (λ (q : Plugin). bytes_eq q.name name) ps ≡ is_some (plugin_of name ps)
        → (b || list_any (λ (q : Plugin). bytes_eq q.name name) ps) ≡ is_some (cond b (Some p) (plugin_of name ps))
    go true e = refl
    go false e = e

-- what a value asks, by the plugin that it names
abbrev asked : KitView → KitView → Option (List ℕ) → Bool
asked old new None = false
asked old new (Some name) = is_new old new name

asks_is : (old new : KitView) (value : Value) → asks_new old new value ≡ asked old new (plugin_in value)
asks_is old new (Noop at) = refl
asks_is old new (Cmd c) = go c.command
  where
    go : (command : Command) → names_new old new command ≡ asked old new (plugin_of_command command)
    go (Insert draft) = refl
    go (Update id draft) = refl
    go (Trash id) = refl
    go (Untrash id) = refl
    go (Delete id) = refl
    go (SetOption name value) = refl
    go (Activate plugin) = refl
    go (Deactivate plugin) = refl
    go Tick = refl
    go (Profile to) = refl

module _ (n : Naming) (value : Value) where
  pub finds_none : (found : Option (List ℕ)) → plugin_in value ≡ None → Finds n value found found
  finds_none None e = asks_is (kit_given n.old.now) (kit_given n.new.now) value ∙ ap (asked (kit_given n.old.now) (kit_given n.new.now)) e
  finds_none (Some name) e = refl

  pub finds_name : (name : List ℕ) (before after : Option (List ℕ)) → plugin_in value ≡ Some name → FindsName n name before after → Finds n value before after
  finds_name name (Some found) after e noted = noted
  finds_name name None after e noted = subst (λ (found : Option (List ℕ)). Finds n value None found) (sym noted) (go (is_new (kit_given n.old.now) (kit_given n.new.now) name) refl)
    where
      asks : asks_new (kit_given n.old.now) (kit_given n.new.now) value ≡ is_new (kit_given n.old.now) (kit_given n.new.now) name
      asks = asks_is (kit_given n.old.now) (kit_given n.new.now) value ∙ ap (asked (kit_given n.old.now) (kit_given n.new.now)) e

      go : (b : Bool) → b ≡ is_new (kit_given n.old.now) (kit_given n.new.now) name → Finds n value None (cond b (Some name) None)
      go true is = (asks ∙ sym is, e)
      go false is = asks ∙ sym is

-- what was found stays
stays : (values : List Value) (old new : Naming) (name : List ℕ) → old.found ≡ Some name → Visits Notes old values new → new.found ≡ Some name
stays [] old new name e h = subst (λ (n : Naming). n.found ≡ Some name) h e
stays (x ∷ xs) old new name e h =
    stays xs h.0 new name (subst (λ (found : Option (List ℕ)). Finds old x found h.0.found) e h.1.found) h.2

module _ (old_kit new_kit : KitView) where
  abbrev Says : List Value → Option (List ℕ) → Type 0
  Says values found = MatchOption found (ask_new old_kit new_kit values ≡ false) (λ name. NamesFirst old_kit new_kit values name)

  -- a value in front that names none
  later : (x : Value) (xs : List Value) (found : Option (List ℕ)) → asks_new old_kit new_kit x ≡ false → Says xs found → Says (x ∷ xs) found
  later x xs None e said = rw e said
  later x xs (Some name) e said = (x ∷ said.0, said.1, said.2, ap (λ (vs : List Value). x ∷ vs) said.3, rw e said.4, said.5, said.6)

  pub says : (values : List Value) (old new : Naming) → kit_given old.old.now ≡ old_kit → kit_given old.new.now ≡ new_kit → old.found ≡ None → Visits Notes old values new
      → Says values new.found
  says [] old new o n none h = subst (λ (a : Naming). Says [] a.found) h (subst (λ (found : Option (List ℕ)). Says [] found) (sym none) refl)
  says (x ∷ xs) old new o n none h =
      go h.0.found refl (subst (λ (found : Option (List ℕ)). Finds old x found h.0.found) none h.1.found)
      (λ still. says xs h.0 new (ap (λ (r : Bor KitParts). kit_given r.now) h.1.same_old ∙ o) (ap (λ (r : Bor KitParts). kit_given r.now) h.1.same_new ∙ n) still h.2)
    where
      go : (found : Option (List ℕ)) → h.0.found ≡ found → Finds old x None found → (h.0.found ≡ None → Says xs new.found) → Says (x ∷ xs) new.found
      go None e noted again = later x xs new.found (subst (λ (a : KitView). asks_new a new_kit x ≡ false) o (subst (λ (b : KitView). asks_new (kit_given old.old.now) b x ≡ false) n noted)) (again e)
      go (Some name) e noted again =
          let asked : asks_new old_kit new_kit x ≡ true = subst (λ (a : KitView). asks_new a new_kit x ≡ true) o (subst (λ (b : KitView). asks_new (kit_given old.old.now) b x ≡ true) n noted.0) in
          subst (λ (found : Option (List ℕ)). Says (x ∷ xs) found) (sym (stays xs h.0 new name e h.2)) ([], x, xs, refl, refl, asked, noted.1)
