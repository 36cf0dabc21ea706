-- A part by its name, and the same of a kit as plain data.
use Rattle.std.proofs.Common.{◌≡◌, refl, sym, ◌∙◌, ap, ap₂, ℕ, zero, suc, ◌+◌, ◌<◌, List, [], ◌∷◌, map, take, length, get_or, Bool, true, false, cond, bytes_eq, Option, Some, None, arith}
use Rattle.std.specs.Prelude.{slice_get, option_map}
use Rattle.std.specs.List.{AllByRecursion}
use Rattle.std.proofs.lemmas.Slice.Eq.{bytes_eq-Decides}
use Rattle.press_callbacks.specs.declared.plugin.Plugin.{Plugin}
use Rattle.press_callbacks.specs.Kits.{plugin_of, script_of}
use Rattle.press_kit.specs.declared.kit_parts.KitParts.{KitParts}
use Rattle.press_kit.specs.declared.kit_parts.Scripted.{Scripted}
use Rattle.press_upgrade.specs.Differences.{callback_title, kit_given, plugin_title}
use Rattle.press_upgrade.specs.Extends.{Extends, HasCallback}
use Rattle.press_upgrade.specs.declared.part.Loss.{Loss}
use Rattle.press_upgrade.specs.declared.part.Loss.TheVariants.{Other, Gone}
use Rattle.press_upgrade.specs.Parts.{AreKept, IsFirstLost, Stands, part_of}
use Rattle.press_upgrade.proofs.Tables.{each_as, each_mapped, each_under}

-- ---- a list as it is walked

pub each_more : {A : Type 0} (P : A → Type 0) (xs : List A) (i : ℕ) (x : A) → i < length xs → x ≡ get_or xs i x → AllByRecursion P (take i xs) → P x → AllByRecursion P (take (i + 1) xs)
each_more P [] i x lt is a p = absurd (omega arith)
each_more P (y ∷ ys) zero x lt is a p = rw (← is) (p, tt)
each_more P (y ∷ ys) (suc i) x lt is a p =
    let k : suc i + 1 ≡ suc (i + 1) = omega arith in
    rw k (a.0, each_more P ys i x (omega arith) is a.1 p)

pub seen : {A : Type 0} (xs : List A) (i : ℕ) (x : A) → i < length xs → x ≡ get_or xs i x → slice_get xs i ≡ Some x
seen [] i x lt is = absurd (omega arith)
seen (y ∷ ys) zero x lt is = ap (λ z. Some z) (sym is)
seen (y ∷ ys) (suc i) x lt is = seen ys i x (omega arith) is

at_place : {A : Type 0} (P : A → Type 0) (xs : List A) (i : ℕ) (x : A) → AllByRecursion P xs → slice_get xs i ≡ Some x → P x
at_place P [] i x a e = cc
at_place P (y ∷ ys) zero x a e = let same : y ≡ x = cc in rw (← same) a.0
at_place P (y ∷ ys) (suc i) x a e = at_place P ys i x a.1 e

-- ---- kits as plain data

-- the part that is found under a name has that name
part_named : {A : Type 0} (title : A → List ℕ) (name : List ℕ) (xs : List A) (x : A) → part_of title name xs ≡ Some x → title x ≡ name
part_named title name [] x e = cc
part_named title name (y ∷ ys) x e = go (bytes_eq (title y) name) refl e (λ f. part_named title name ys x f)
  where
    go : (b : Bool) → b ≡ bytes_eq (title y) name → cond b (Some y) (part_of title name ys) ≡ Some x → (part_of title name ys ≡ Some x → title x ≡ name) → title x ≡ name
    go true k f again = let same : y ≡ x = cc in ap title (sym same) ∙ (bytes_eq-Decides (title y) name).0 (sym k)
    go false k f again = again f

mapped : {A B : Type 0} (f : A → B) (b : Bool) (x : A) (o : Option A) → cond b (Some (f x)) (option_map f o) ≡ option_map f (cond b (Some x) o)
mapped f true x o = refl
mapped f false x o = refl

script_part : (id : List ℕ) (cs : List Scripted) → script_of id (map (λ (c : Scripted). (c.id, c.script)) cs) ≡ option_map (λ (c : Scripted). c.script) (part_of callback_title id cs)
script_part id [] = refl
script_part id (c ∷ cs) =
    ap (λ o. cond (bytes_eq c.id id) (Some c.script) o) (script_part id cs) ∙ mapped (λ (d : Scripted). d.script) (bytes_eq c.id id) c (part_of callback_title id cs)

plugin_part : (name : List ℕ) (ps : List Plugin) → plugin_of name ps ≡ part_of plugin_title name ps
plugin_part name [] = refl
plugin_part name (p ∷ ps) = ap (λ o. cond (bytes_eq p.name name) (Some p) o) (plugin_part name ps)

module _ (new : List Scripted) (c : Scripted) where
  has_kept : part_of callback_title c.id new ≡ Some c → HasCallback (map (λ (d : Scripted). (d.id, d.script)) new) (c.id, c.script)
  has_kept e = script_part c.id new ∙ ap (option_map (λ (d : Scripted). d.script)) e

  kept_has : HasCallback (map (λ (d : Scripted). (d.id, d.script)) new) (c.id, c.script) → part_of callback_title c.id new ≡ Some c
  kept_has e = go (part_of callback_title c.id new) refl (sym (script_part c.id new) ∙ e)
    where
      go : (o : Option Scripted) → part_of callback_title c.id new ≡ o → option_map (λ (d : Scripted). d.script) o ≡ Some c.script → part_of callback_title c.id new ≡ Some c
      go None k f = cc
      go (Some d) k f =
          let script : d.script ≡ c.script = cc in
          let name : d.id ≡ c.id = part_named callback_title c.id new d k in
          let same : d ≡ c = ap₂ (λ n s. record { id = n; script = s }) name script in
          k ∙ ap (λ x. Some x) same

pub kept_extends : (old new : KitParts) → AreKept callback_title new.callbacks old.callbacks → AreKept plugin_title new.plugins old.plugins → Extends (kit_given old) (kit_given new)
kept_extends old new cs ps =
    record {
      callbacks = each_mapped (HasCallback (kit_given new).scripts) (λ (c : Scripted). (c.id, c.script)) old.callbacks (each_as _ _ old.callbacks (λ c e. has_kept new.callbacks c e) cs);
      plugins = each_as _ _ old.plugins (λ p e. plugin_part p.name new.plugins ∙ e) ps;
    }

pub extends_keeps : (old new : KitParts) → Extends (kit_given old) (kit_given new) → AreKept callback_title new.callbacks old.callbacks × AreKept plugin_title new.plugins old.plugins
extends_keeps old new e = (
  each_as _ _ old.callbacks (λ c k. kept_has new.callbacks c k) (each_under (HasCallback (kit_given new).scripts) (λ (c : Scripted). (c.id, c.script)) old.callbacks e.callbacks),
  each_as _ _ old.plugins (λ p k. sym (plugin_part p.name new.plugins) ∙ k) e.plugins,
)

-- what is lost isn't kept
pub lost : {A : Type 0} (title : A → List ℕ) (among xs : List A) (x : A) (loss : Loss) → IsFirstLost title among xs x loss → AreKept title among xs → ⊥
lost title among xs x loss l a = clash loss l.3 (at_place (λ y. Stands title among y None) xs l.0 x a l.1)
  where
    clash : (why : Loss) → Stands title among x (Some why) → Stands title among x None → ⊥
    clash Other s k = let same : s.0 ≡ x = cc in s.2 same
    clash Gone s k = cc
