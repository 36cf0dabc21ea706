-- Where a kit puts its callbacks: each hook, callback and priority of a load or an `add_hook`, and
-- of the built-in callbacks (own). The three are one text, which no other three give, since no name
-- has a space.
use Rattle.std.specs.Prelude.{ℕ, ℤ, List, ◌++◌, Bool, false, ◌||◌, bytes_eq, codes, string_bytes}
use Rattle.std.specs.Fmt.{signed_decimal}
use Rattle.std.specs.List.{list_any}
use Rattle.std.specs.BTreeSet.{contains_by}
use Rattle.std.specs.Cmp.Lexicographic.{slice_cmp}
use Rattle.std.specs.Ordering.{nat_cmp}
use Rattle.press_callbacks.specs.declared.plugin.Load.{Load}
use Rattle.press_callbacks.specs.declared.plugin.Load.TheVariants.{Hook, Tag}
use Rattle.press_callbacks.specs.declared.plugin.Plugin.{Plugin}
use Rattle.press_callbacks.specs.declared.script.Op.{Op}
use Rattle.press_callbacks.specs.declared.script.Op.TheVariants as op
use Rattle.press_kit.specs.declared.kit_parts.KitParts.{KitParts}
use Rattle.press_kit.specs.declared.kit_parts.Scripted.{Scripted}
use Rattle.press_lint.specs.declared.spots.Spots.{Spots}

-- whether a set has a spot
abbrev pub has_spot : Spots → List ℕ → Bool
has_spot set q = contains_by (λ k. slice_cmp nat_cmp q (string_bytes k)) set.spots

abbrev pub spot : List ℕ → List ℕ → ℤ → List ℕ
spot hook callback priority = hook ++ (codes " " ++ (callback ++ (codes " " ++ signed_decimal priority)))

abbrev pub loads_at : List ℕ → Load → Bool
loads_at q (Hook hook priority callback accepted) = bytes_eq (spot hook callback priority) q
loads_at q (Tag tag callback) = false

abbrev pub adds_at : List ℕ → Op → Bool
adds_at q (op.AddHook hook callback priority accepted) = bytes_eq (spot hook callback priority) q
adds_at q (op.Set text) = false
adds_at q (op.RemoveHook h c p) = false
adds_at q (op.RemoveAll h p) = false
adds_at q (op.AddTag tag c) = false
adds_at q (op.RemoveTag tag) = false
adds_at q (op.SkipIf left right n) = false
adds_at q (op.Apply h value more) = false
adds_at q (op.Do h args) = false
adds_at q (op.Shortcodes text) = false
adds_at q (op.Ask ask) = false
adds_at q (op.SetOption name value) = false
adds_at q (op.Schedule after every h arg) = false
adds_at q (op.Publish post) = false
adds_at q (op.Echo text) = false
adds_at q (op.Return text) = false

-- where a boot puts those that are built in
abbrev pub boots_at : List ℕ → Bool
boots_at q =
    bytes_eq (codes "the_content do_shortcode 11") q
    || bytes_eq (codes "publish_future_post check_and_publish_future_post 10") q

abbrev pub is_put_at : KitParts → List ℕ → Bool
is_put_at kit q =
    list_any (λ (c : Scripted). list_any (adds_at q) c.script) kit.callbacks
    || (list_any (λ (p : Plugin). list_any (loads_at q) p.load) kit.plugins || boots_at q)
