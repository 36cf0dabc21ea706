-- What a whole kit names it has, so one that extends it has the same of each such name: the script of a callback, the loads of a plugin, and the tables of a boot.
use Rattle.std.proofs.Common.{◌≡◌, refl, sym, ◌∙◌, ap, ℕ, pos, List, [], ◌∷◌, Bool, true, false, not, cond, bytes_eq, if◌then◌else◌, Option, Some, None}
use Rattle.std.specs.Prelude.{◌||◌, ◌&&◌, IfSome, is_some}
use Rattle.std.specs.List.{AllByRecursion, list_all}
use Rattle.std.proofs.lemmas.Slice.Eq.{bytes_eq-Decides}
use Rattle.press_text.proofs.NameOrder.{both}
use Rattle.press_callbacks.specs.declared.kit_fault.KitFault.TheVariants.{TwoNames, UnknownCallback, BadLoad}
use Rattle.press_callbacks.specs.declared.plugin.Load.{Load}
use Rattle.press_callbacks.specs.declared.plugin.Load.TheVariants.{Hook, Tag}
use Rattle.press_callbacks.specs.declared.plugin.Plugin.{Plugin}
use Rattle.press_callbacks.specs.declared.script.Op.{Op}
use Rattle.press_callbacks.specs.BuiltIns.{check_and_publish_future_post, do_shortcode, is_built_in}
use Rattle.press_callbacks.specs.Kits.{KitView, Scripts, callback_loaded, callback_named, has_many_loads, has_two_names, is_known, is_known_where, is_named, knows_all, knows_plugin, knows_script, plugin_of, script_of}
use Rattle.press_hooks.specs.HookRows.{add_row}
use Rattle.press_run.specs.Boot.{LoadedTables, boot_with, fresh, load_all, load_one, load_plugins, loads_of, publish_future_post, the_content}
use Rattle.press_run.specs.Run.{or_empty}
use Rattle.press_upgrade.specs.Extends.{Extends, HasCallback, HasPlugin, IsWhole, Knows, is_new}
use Rattle.press_upgrade.proofs.Tables.{RowsAre, TagsAre, either, rows_added, tags_added}
use Rattle.press_upgrade.proofs.Runs.{OpIs, SameScripts, ScriptIs}

-- ---- what a whole kit knows

each_true : {A : Type 0} (P : A → Type 0) (test : A → Bool) (xs : List A) → ((x : A) → test x ≡ true → P x) → list_all test xs ≡ true → AllByRecursion P xs
each_true P test [] f e = tt
each_true P test (x ∷ xs) f e = let b = both (test x) (list_all test xs) e in (f x b.0, each_true P test xs f b.1)

knowing : (two known many : Bool) → (if two then Some TwoNames else (if not known then Some UnknownCallback else (if many then Some BadLoad else None))) ≡ None → known ≡ true
knowing true known many e = cc
knowing false true many e = refl
knowing false false many e = cc

module _ (kit : KitView) where
  abbrev pub LoadIs : Load → Type 0
  LoadIs l = Knows kit (callback_loaded l)

  knows_named : (o : Option (List ℕ)) → is_known_where (λ c. c.0) kit.scripts o ≡ true → IfSome o (Knows kit)
  knows_named None e = tt
  knows_named (Some id) e = e

  script_is : (script : List Op) → knows_script (λ c. c.0) kit.scripts script ≡ true → ScriptIs (Knows kit) script
  script_is script e = each_true (OpIs (Knows kit)) (λ o. is_known_where (λ c. c.0) kit.scripts (callback_named o)) script (λ o k. knows_named (callback_named o) k) e

  plugin_is : (p : Plugin) → knows_plugin (λ c. c.0) kit.scripts p ≡ true → AllByRecursion LoadIs p.load
  plugin_is p e = each_true LoadIs (λ l. is_known (λ c. c.0) kit.scripts (callback_loaded l)) p.load (λ l k. k) e

  module _ (whole : IsWhole kit) where
    knows : knows_all (λ c. c.0) (λ c. c.1) kit.scripts kit.plugins ≡ true
    knows = knowing (has_two_names (λ c. c.0) kit.scripts kit.plugins) (knows_all (λ c. c.0) (λ c. c.1) kit.scripts kit.plugins) (has_many_loads kit.plugins) whole

    parts : (list_all (λ c. knows_script (λ d. d.0) kit.scripts c.1) kit.scripts ≡ true) × (list_all (knows_plugin (λ d. d.0) kit.scripts) kit.plugins ≡ true)
    parts = both (list_all (λ c. knows_script (λ d. d.0) kit.scripts c.1) kit.scripts) (list_all (knows_plugin (λ d. d.0) kit.scripts) kit.plugins) knows

    pub scripts_are : AllByRecursion (λ (c : List ℕ × List Op). ScriptIs (Knows kit) c.1) kit.scripts
    scripts_are = each_true (λ (c : List ℕ × List Op). ScriptIs (Knows kit) c.1) (λ c. knows_script (λ d. d.0) kit.scripts c.1) kit.scripts (λ c e. script_is c.1 e) parts.0

    pub plugins_are : AllByRecursion (λ (p : Plugin). AllByRecursion LoadIs p.load) kit.plugins
    plugins_are = each_true (λ (p : Plugin). AllByRecursion LoadIs p.load) (knows_plugin (λ d. d.0) kit.scripts) kit.plugins plugin_is parts.1

-- ---- the script of a callback, and the plugin of a name

named : (a b : Bool) → a ≡ false → (a || b) ≡ true → b ≡ true
named true b e k = cc
named false b e k = k

module _ (P : List ℕ → Type 0) (new : Scripts) (id : List ℕ) where
  script_found : (cs : Scripts) → is_named (λ c. c.0) cs id ≡ true → AllByRecursion (HasCallback new) cs → AllByRecursion (λ (c : List ℕ × List Op). ScriptIs P c.1) cs → (script_of id cs ≡ script_of id new) × ScriptIs P (or_empty (script_of id cs))
  script_found [] e a s = cc
  script_found (c ∷ cs) e a s = go (bytes_eq c.0 id) refl e (λ f. script_found cs f a.1 s.1)
    where
      go : (b : Bool) → b ≡ bytes_eq c.0 id → (b || is_named (λ d. d.0) cs id) ≡ true → (is_named (λ d. d.0) cs id ≡ true → (script_of id cs ≡ script_of id new) × ScriptIs P (or_empty (script_of id cs)))
          → (cond b (Some c.1) (script_of id cs) ≡ script_of id new) × ScriptIs P (or_empty (cond b (Some c.1) (script_of id cs)))
      go true k f later = let same : c.0 ≡ id = (bytes_eq-Decides c.0 id).0 (sym k) in (sym (ap (λ n. script_of n new) (sym same) ∙ a.0), s.0)
      go false k f later = later f

pub same_scripts : (old new : KitView) → IsWhole old → Extends old new → SameScripts (Knows old) old.scripts new.scripts
same_scripts old new whole extends id known other =
    script_found (Knows old) new.scripts id old.scripts (named (is_built_in id) (is_named (λ c. c.0) old.scripts id) other known) extends.callbacks (scripts_are old whole)

module _ (new : List Plugin) (name : List ℕ) where
  plugin_found : (ps : List Plugin) → is_some (plugin_of name ps) ≡ true → AllByRecursion (HasPlugin new) ps → plugin_of name ps ≡ plugin_of name new
  plugin_found [] e a = cc
  plugin_found (p ∷ ps) e a = go (bytes_eq p.name name) refl e (λ f. plugin_found ps f a.1)
    where
      go : (b : Bool) → b ≡ bytes_eq p.name name → is_some (cond b (Some p) (plugin_of name ps)) ≡ true → (is_some (plugin_of name ps) ≡ true → plugin_of name ps ≡ plugin_of name new) → cond b (Some p) (plugin_of name ps) ≡ plugin_of name new
      go true k f later = let same : p.name ≡ name = (bytes_eq-Decides p.name name).0 (sym k) in sym (ap (λ n. plugin_of n new) (sym same) ∙ a.0)
      go false k f later = later f

-- both kits have the same plugin of a name, or both none
abbrev pub HasSame : KitView → KitView → List ℕ → Type 0
HasSame old new name = plugin_of name old.plugins ≡ plugin_of name new.plugins

neither : (o : Option Plugin) → (is_some o && true) ≡ false → o ≡ None
neither None e = refl
neither (Some p) e = cc

pub has_same : (old new : KitView) → Extends old new → (name : List ℕ) → is_new old new name ≡ false → HasSame old new name
has_same old new extends name e = go (plugin_of name old.plugins) refl e
  where
    go : (o : Option Plugin) → o ≡ plugin_of name old.plugins → (is_some (plugin_of name new.plugins) && not (is_some o)) ≡ false → HasSame old new name
    go None k f = sym k ∙ sym (neither (plugin_of name new.plugins) f)
    go (Some p) k f = plugin_found new.plugins name old.plugins (ap is_some (sym k)) extends.plugins

-- ---- a boot

abbrev pub TablesAre : (List ℕ → Type 0) → LoadedTables → Type 0
TablesAre P t = RowsAre P t.rows × TagsAre P t.tags

module _ (kit : KitView) where
  loads_one : (l : Load) (t : LoadedTables) → LoadIs kit l → TablesAre (Knows kit) t → TablesAre (Knows kit) (load_one l t)
  loads_one (Hook h p c a) t k is = (rows_added (Knows kit) h c p a t.rows k is.0, is.1)
  loads_one (Tag n c) t k is = (is.0, tags_added (Knows kit) n c t.tags k is.1)

  loads_all : (ls : List Load) (t : LoadedTables) → AllByRecursion (LoadIs kit) ls → TablesAre (Knows kit) t → TablesAre (Knows kit) (load_all ls t)
  loads_all [] t k is = is
  loads_all (l ∷ ls) t k is = loads_all ls (load_one l t) k.1 (loads_one l t k.0 is)

  loads_found : (name : List ℕ) (ps : List Plugin) → AllByRecursion (λ (p : Plugin). AllByRecursion (LoadIs kit) p.load) ps → AllByRecursion (LoadIs kit) (loads_of (plugin_of name ps))
  loads_found name [] a = tt
  loads_found name (p ∷ ps) a = either (λ o. AllByRecursion (LoadIs kit) (loads_of o)) (bytes_eq p.name name) (Some p) (plugin_of name ps) a.0 (loads_found name ps a.1)

  loads_plugins : IsWhole kit → (names : List (List ℕ)) (t : LoadedTables) → TablesAre (Knows kit) t → TablesAre (Knows kit) (load_plugins kit.plugins names t)
  loads_plugins whole [] t is = is
  loads_plugins whole (n ∷ ns) t is = loads_plugins whole ns (load_all (loads_of (plugin_of n kit.plugins)) t) (loads_all (loads_of (plugin_of n kit.plugins)) t (loads_found n kit.plugins (plugins_are kit whole)) is)

  fresh_is : TablesAre (Knows kit) fresh
  fresh_is = (
    rows_added (Knows kit) publish_future_post check_and_publish_future_post (pos 10) 1 (add_row the_content do_shortcode (pos 11) 1 []) refl (rows_added (Knows kit) the_content do_shortcode (pos 11) 1 [] refl tt),
    tt,
  )

  pub boot_is : IsWhole kit → (active : List (List ℕ)) → TablesAre (Knows kit) (boot_with kit.plugins active)
  boot_is whole active = loads_plugins whole active fresh fresh_is

module _ (old new : KitView) where
  loads_same : (names : List (List ℕ)) (t : LoadedTables) → AllByRecursion (HasSame old new) names → load_plugins old.plugins names t ≡ load_plugins new.plugins names t
  loads_same [] t a = refl
  loads_same (n ∷ ns) t a =
      loads_same ns (load_all (loads_of (plugin_of n old.plugins)) t) a.1 ∙ ap (λ (o : Option Plugin). load_plugins new.plugins ns (load_all (loads_of o) t)) a.0

  pub boots_same : (active : List (List ℕ)) → AllByRecursion (HasSame old new) active → boot_with old.plugins active ≡ boot_with new.plugins active
  boots_same active a = loads_same active fresh a
