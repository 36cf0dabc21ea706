-- Kit file: the callbacks and plugins that a JSON document (RFC 8259) gives, or the first place at which it is bad (own).
-- A text is a list of parts, of which a string is this very text. Keys that nobody names are bad, so that a misspelt one does not pass for a default.
use Rattle.std.specs.Prelude.{ℕ, ◌-◌, ◌^◌, ℤ, List, [], ◌∷◌, length, nat_le, if◌then◌else◌, bytes_eq, Option, Some, None, is_some, option_map, option_and_then, Result, Ok, Err, codes}
use Rattle.std.specs.Str.{is_utf8}
use Rattle.serde_json.specs.Data.{Data}
use Rattle.serde_json.specs.Read.{read}
use Rattle.serde_json.specs.Find.{get, as_str}
use Rattle.press_scan.specs.declared.att_key.AttKey.{AttKey}
use Rattle.press_scan.specs.declared.att_key.AttKey.TheVariants.{Name, Place as Numbered}
use Rattle.press_text.specs.declared.every.Every.{Every}
use Rattle.press_text.specs.declared.every.Every.TheVariants.{Once, Hourly, TwiceDaily, Daily}
use Rattle.press_callbacks.specs.declared.script.Source.{Source}
use Rattle.press_callbacks.specs.declared.script.Source.TheVariants.{Arg, Att, Content, Tag, Value, Last}
use Rattle.press_callbacks.specs.declared.script.Part.{Part}
use Rattle.press_callbacks.specs.declared.script.Part.TheVariants.{Lit, Raw, Escaped}
use Rattle.press_callbacks.specs.declared.script.Ask.TheVariants as ask
use Rattle.press_callbacks.specs.declared.script.Op.{Op}
use Rattle.press_callbacks.specs.declared.script.Op.TheVariants as op
use Rattle.press_callbacks.specs.declared.plugin.Load.{Load}
use Rattle.press_callbacks.specs.declared.plugin.Load.TheVariants as load
use Rattle.press_callbacks.specs.declared.plugin.Plugin.{Plugin}
use Rattle.press_kit.specs.declared.place.Place.{Place}
use Rattle.press_kit.specs.declared.place.Place.TheVariants as place
use Rattle.press_kit.specs.declared.op_kind.OpKind.{OpKind}
use Rattle.press_kit.specs.declared.op_kind.OpKind.TheVariants as kind
use Rattle.press_kit.specs.declared.kit_parts.Scripted.{Scripted}
use Rattle.press_kit.specs.declared.kit_parts.KitParts.{KitParts}
use Rattle.press_kit.specs.Fields.{◌>>=◌, or_bad, only, text_at, name_at, number_in, number_at, below, default, signed_in, map_ok, has_only, priority_at, accepted_at, list_in, few_in, list_at, each}
use Rattle.press_kit.specs.Ops.{kind_of, keys_of}

-- ---- files

-- the most bytes that a file may have
abbrev pub file_limit : ℕ
file_limit = 4194304

-- a JSON text is UTF-8 (RFC 8259, 8.1)
abbrev pub json_in : List ℕ → Option Data
json_in bytes = if is_utf8 bytes then read bytes else None

-- the value of a file that is not too long
unfoldable pub file_in : List ℕ → Result Data Place
file_in bytes = if nat_le (length bytes) file_limit then or_bad place.File (json_in bytes) else Err place.File

-- ---- parts of a text

-- what a part may be taken from
abbrev pub source_of : List ℕ → Option Source
source_of name =
    if bytes_eq name (codes "content") then Some Content else
    (if bytes_eq name (codes "tag") then Some Tag else
    (if bytes_eq name (codes "value") then Some Value else
    (if bytes_eq name (codes "last") then Some Last else None)))

-- an attribute goes by its name, or by its number among those without a name
abbrev pub att_key_where : Option (List ℕ) → Option ℕ → Option AttKey
att_key_where (Some name) n = Some (Name name)
att_key_where None n = option_map Numbered (option_and_then (below (2 ^ 32)) n)

abbrev pub att_key_of : Data → Option AttKey
att_key_of d = att_key_where (as_str d) (number_in d)

abbrev pub arg_in : Data → Option Source
arg_in d = option_map Arg (option_and_then number_in (get (codes "arg") d))

abbrev pub att_in : Data → Option Source
att_in d = option_map Att (option_and_then att_key_of (get (codes "att") d))

abbrev pub from_in : Data → Option Source
from_in d = option_and_then source_of (option_and_then as_str (get (codes "from") d))

-- an object with one key
unfoldable pub source_in : Data → Option Source
source_in d =
    if has_only (codes "arg" ∷ []) d then arg_in d else
    (if has_only (codes "att" ∷ []) d then att_in d else
    (if has_only (codes "from" ∷ []) d then from_in d else None))

abbrev pub raw_in : Data → Option Part
raw_in d = option_map Raw (source_in d)

abbrev pub escaped_in : Data → Option Part
escaped_in d = option_map Escaped (option_and_then source_in (get (codes "escaped") d))

-- a part that is read of the call, as it is or escaped
abbrev pub keyed_part : Data → Option Part
keyed_part d = if has_only (codes "escaped" ∷ []) d then escaped_in d else raw_in d

abbrev pub part_where : Option (List ℕ) → Data → Option Part
part_where (Some text) d = Some (Lit text)
part_where None d = keyed_part d

abbrev pub part_of : Place → Data → Result Part Place
part_of at d = or_bad at (part_where (as_str d) d)

-- a text is the list of its parts
abbrev pub text_of : Place → Data → Result (List Part) Place
text_of at d = do
  ds ← or_bad at (list_in d)
  each part_of at 0 ds

abbrev pub parts_at : Place → List ℕ → Data → Result (List Part) Place
parts_at at key d = do
  it ← or_bad at (get key d)
  text_of at it

abbrev pub texts_where : ℕ → Place → Option Data → Result (List (List Part)) Place
texts_where most at None = Ok []
texts_where most at (Some d) = do
  ds ← or_bad at (few_in most d)
  each text_of at 0 ds

-- the texts of a list, at most so many, none where the key is missing
abbrev pub texts_at : ℕ → Place → List ℕ → Data → Result (List (List Part)) Place
texts_at most at key d = texts_where most at (get key d)

-- ---- steps

-- the most arguments that a step hands to a hook's callbacks, the text that a filter runs on among them
abbrev pub most_args : ℕ
most_args = 3

abbrev pub hook_at : Place → Data → Result (List ℕ) Place
hook_at at d = name_at 64 at (codes "hook") d

abbrev pub callback_at : Place → Data → Result (List ℕ) Place
callback_at at d = name_at 32 at (codes "callback") d

abbrev pub some_signed : Data → Option (Option ℤ)
some_signed d = option_map Some (signed_in d)

-- all priorities, where none is given
abbrev pub any_priority_at : Place → Data → Result (Option ℤ) Place
any_priority_at at d = or_bad at (default None some_signed (get (codes "priority") d))

abbrev pub skip_at : Place → Data → Result ℕ Place
skip_at at d = or_bad at (option_and_then (below (2 ^ 16)) (option_and_then number_in (get (codes "skip") d)))

unfoldable pub add_hook_op : Place → Data → Result Op Place
add_hook_op at d = do
  hook ← hook_at at d
  callback ← callback_at at d
  priority ← priority_at at d
  accepted ← accepted_at at d
  Ok (op.AddHook hook callback priority accepted)

unfoldable pub remove_hook_op : Place → Data → Result Op Place
remove_hook_op at d = do
  hook ← hook_at at d
  callback ← callback_at at d
  priority ← priority_at at d
  Ok (op.RemoveHook hook callback priority)

unfoldable pub remove_all_op : Place → Data → Result Op Place
remove_all_op at d = do
  hook ← hook_at at d
  priority ← any_priority_at at d
  Ok (op.RemoveAll hook priority)

unfoldable pub add_tag_op : Place → Data → Result Op Place
add_tag_op at d = do
  tag ← text_at at (codes "tag") d
  callback ← callback_at at d
  Ok (op.AddTag tag callback)

unfoldable pub skip_op : Place → Data → Result Op Place
skip_op at d = do
  left ← parts_at at (codes "left") d
  right ← parts_at at (codes "right") d
  n ← skip_at at d
  Ok (op.SkipIf left right n)

unfoldable pub apply_op : Place → Data → Result Op Place
apply_op at d = do
  hook ← hook_at at d
  value ← parts_at at (codes "value") d
  more ← texts_at (most_args - 1) at (codes "more") d
  Ok (op.Apply hook value more)

unfoldable pub do_op : Place → Data → Result Op Place
do_op at d = do
  hook ← hook_at at d
  args ← texts_at most_args at (codes "args") d
  Ok (op.Do hook args)

unfoldable pub has_hook_op : Place → Data → Result Op Place
has_hook_op at d = do
  hook ← hook_at at d
  callback ← callback_at at d
  Ok (op.Ask (ask.Has hook callback))

-- a recurrence (`wp_get_schedules`), or once
abbrev pub every_of : List ℕ → Option Every
every_of word =
    if bytes_eq word (codes "once") then Some Once else
    (if bytes_eq word (codes "hourly") then Some Hourly else
    (if bytes_eq word (codes "twicedaily") then Some TwiceDaily else
    (if bytes_eq word (codes "daily") then Some Daily else None)))

abbrev pub every_in : Data → Option Every
every_in d = option_and_then every_of (as_str d)

-- once, where none is given (`wp_schedule_single_event`)
abbrev pub every_at : Place → Data → Result Every Place
every_at at d = or_bad at (default Once every_in (get (codes "every") d))

unfoldable pub schedule_op : Place → Data → Result Op Place
schedule_op at d = do
  after ← number_at at (codes "after") d
  every ← every_at at d
  hook ← hook_at at d
  arg ← parts_at at (codes "arg") d
  Ok (op.Schedule after every hook arg)

unfoldable pub set_option_op : Place → Data → Result Op Place
set_option_op at d = do
  name ← name_at 32 at (codes "name") d
  value ← parts_at at (codes "value") d
  Ok (op.SetOption name value)

unfoldable pub op_by : OpKind → Place → Data → Result Op Place
op_by kind.Set at d = map_ok op.Set (parts_at at (codes "text") d)
op_by kind.AddHook at d = add_hook_op at d
op_by kind.RemoveHook at d = remove_hook_op at d
op_by kind.RemoveAll at d = remove_all_op at d
op_by kind.AddTag at d = add_tag_op at d
op_by kind.RemoveTag at d = map_ok op.RemoveTag (text_at at (codes "tag") d)
op_by kind.SkipIf at d = skip_op at d
op_by kind.Apply at d = apply_op at d
op_by kind.Do at d = do_op at d
op_by kind.Shortcodes at d = map_ok op.Shortcodes (parts_at at (codes "text") d)
op_by kind.Did at d = map_ok (λ hook. op.Ask (ask.Did hook)) (hook_at at d)
op_by kind.Doing at d = map_ok (λ hook. op.Ask (ask.Doing hook)) (hook_at at d)
op_by kind.HasHook at d = has_hook_op at d
op_by kind.HasTag at d = map_ok (λ tag. op.Ask (ask.Tag tag)) (text_at at (codes "tag") d)
op_by kind.ReadOption at d = map_ok (λ name. op.Ask (ask.Option name)) (name_at 32 at (codes "name") d)
op_by kind.SetOption at d = set_option_op at d
op_by kind.Schedule at d = schedule_op at d
op_by kind.Publish at d = map_ok op.Publish (parts_at at (codes "post") d)
op_by kind.Echo at d = map_ok op.Echo (parts_at at (codes "text") d)
op_by kind.Return at d = map_ok op.Return (parts_at at (codes "text") d)

unfoldable pub op_of : Place → Data → Result Op Place
op_of at d = do
  kind ← or_bad at (option_and_then kind_of (option_and_then as_str (get (codes "op") d)))
  whole ← only at (keys_of kind) d
  op_by kind at whole

-- ---- callbacks

abbrev pub callback_keys : List (List ℕ)
callback_keys = codes "name" ∷ codes "script" ∷ []

unfoldable pub callback_of : Place → Data → Result Scripted Place
callback_of at d = do
  whole ← only at callback_keys d
  id ← name_at 32 at (codes "name") whole
  ds ← list_at at (codes "script") whole
  script ← each op_of at 0 ds
  Ok (record { id = id; script = script })

-- ---- plugins

abbrev pub hook_load_keys : List (List ℕ)
hook_load_keys = codes "hook" ∷ codes "callback" ∷ codes "priority" ∷ codes "accepted" ∷ []

abbrev pub tag_load_keys : List (List ℕ)
tag_load_keys = codes "tag" ∷ codes "callback" ∷ []

unfoldable pub hook_load : Place → Data → Result Load Place
hook_load at d = do
  whole ← only at hook_load_keys d
  hook ← hook_at at whole
  callback ← callback_at at whole
  priority ← priority_at at whole
  accepted ← accepted_at at whole
  Ok (load.Hook hook priority callback accepted)

unfoldable pub tag_load : Place → Data → Result Load Place
tag_load at d = do
  whole ← only at tag_load_keys d
  tag ← name_at 32 at (codes "tag") whole
  callback ← callback_at at whole
  Ok (load.Tag tag callback)

-- on a hook, or else under a tag
abbrev pub load_of : Place → Data → Result Load Place
load_of at d = if is_some (get (codes "hook") d) then hook_load at d else tag_load at d

abbrev pub plugin_keys : List (List ℕ)
plugin_keys = codes "name" ∷ codes "load" ∷ []

unfoldable pub plugin_of : Place → Data → Result Plugin Place
plugin_of at d = do
  whole ← only at plugin_keys d
  name ← name_at 32 at (codes "name") whole
  ds ← list_at at (codes "load") whole
  loads ← each load_of at 0 ds
  Ok (record { name = name; load = loads })

-- ---- kits

abbrev pub kit_keys : List (List ℕ)
kit_keys = codes "callbacks" ∷ codes "plugins" ∷ []

unfoldable pub kit_of : Data → Result KitParts Place
kit_of d = do
  whole ← only place.File kit_keys d
  cs ← list_at place.Callbacks (codes "callbacks") whole
  callbacks ← each callback_of place.Callbacks 0 cs
  ps ← list_at place.Plugins (codes "plugins") whole
  plugins ← each plugin_of place.Plugins 0 ps
  Ok (record { callbacks = callbacks; plugins = plugins })

unfoldable pub kit_in : List ℕ → Result KitParts Place
kit_in bytes = do
  d ← file_in bytes
  kit_of d
