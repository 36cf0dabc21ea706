-- How many arguments a callback gets at most: as many as the greatest `accepted` with which a load
-- or a step puts it on a hook, and none under a tag (Plugin Handbook, Hooks: `add_filter`).
use Rattle.std.specs.Prelude.{ℕ, List, bytes_eq, if◌then◌else◌, fold, nat_le, Option, Some, None}
use Rattle.std.specs.BTreeMap.{get_by}
use Rattle.std.specs.Cmp.Lexicographic.{slice_cmp}
use Rattle.std.specs.Ordering.{nat_cmp}
use Rattle.press_callbacks.specs.declared.plugin.Load.{Load}
use Rattle.press_callbacks.specs.declared.plugin.Load.TheVariants.{Hook, Tag}
use Rattle.press_callbacks.specs.declared.plugin.Plugin.{Plugin}
use Rattle.press_callbacks.specs.declared.script.Op.{Op}
use Rattle.press_callbacks.specs.declared.script.Op.TheVariants as op
use Rattle.press_kit.specs.declared.kit_parts.KitParts.{KitParts}
use Rattle.press_kit.specs.declared.kit_parts.Scripted.{Scripted}
use Rattle.press_lint.specs.declared.accepted.Accepted.{Accepted}

-- the count that is kept beside a name
abbrev pub count_of : Accepted → List ℕ → Option ℕ
count_of accepted name = get_by (λ k. slice_cmp nat_cmp name k.now) accepted.counts

abbrev pub greater : Option ℕ → ℕ → ℕ
greater None n = n
greater (Some m) n = if nat_le n m then m else n

-- what is known of the callback of that name, once one is put somewhere with so many arguments
abbrev pub once_put : List ℕ → List ℕ → ℕ → Option ℕ → Option ℕ
once_put name callback accepted most = if bytes_eq callback name then Some (greater most accepted) else most

abbrev pub once_loaded : List ℕ → Option ℕ → Load → Option ℕ
once_loaded name most (Hook hook priority callback accepted) = once_put name callback accepted most
once_loaded name most (Tag tag callback) = once_put name callback 0 most

abbrev pub once_done : List ℕ → Option ℕ → Op → Option ℕ
once_done name most (op.AddHook hook callback priority accepted) = once_put name callback accepted most
once_done name most (op.AddTag tag callback) = once_put name callback 0 most
once_done name most (op.Set text) = most
once_done name most (op.RemoveHook h c p) = most
once_done name most (op.RemoveAll h p) = most
once_done name most (op.RemoveTag tag) = most
once_done name most (op.SkipIf left right n) = most
once_done name most (op.Apply h value more) = most
once_done name most (op.Do h args) = most
once_done name most (op.Shortcodes text) = most
once_done name most (op.Ask ask) = most
once_done name most (op.SetOption o value) = most
once_done name most (op.Schedule after every h arg) = most
once_done name most (op.Publish post) = most
once_done name most (op.Echo text) = most
once_done name most (op.Return text) = most

abbrev pub once_plugged : List ℕ → Option ℕ → Plugin → Option ℕ
once_plugged name most p = fold (once_loaded name) most p.load

abbrev pub once_played : List ℕ → Option ℕ → Scripted → Option ℕ
once_played name most c = fold (once_done name) most c.script

-- none, where nothing puts the callback anywhere
abbrev pub most_accepted : KitParts → List ℕ → Option ℕ
most_accepted kit name = fold (once_played name) (fold (once_plugged name) None kit.plugins) kit.callbacks
