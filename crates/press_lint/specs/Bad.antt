-- How a place is written at which a file is bad: with the name of what is there, where that is one,
-- and what is wrong with it, as far as its keys and their values show (own).
use Rattle.std.specs.Prelude.{ℕ, List, [], ◌∷◌, ◌++◌, Bool, true, false, not, ◌&&◌, ◌||◌, if◌then◌else◌, is_none, is_some, Option, Some, None, option_and_then, option_map, slice_get, codes, bytes_eq, decimal, length, nat_lt, take}
use Rattle.serde_json.specs.Data.{Data, Members, no_members, member}
use Rattle.serde_json.specs.Find.{as_object, as_str, get}
use Rattle.press_kit.specs.Fields.{is_one_of, list_in, name_in}
use Rattle.press_kit.specs.KitFile.{callback_keys, file_limit, hook_load_keys, kit_keys, plugin_keys, tag_load_keys}
use Rattle.press_kit.specs.Ops.{keys_of, kind_of}
use Rattle.press_kit.specs.PlayFile as play
use Rattle.press_kit.specs.declared.place.Place.{Place}
use Rattle.press_kit.specs.declared.place.Place.TheVariants.{File, Callbacks, Callback, Op, Plugins, Plugin, Load, Active, ActiveName, Commands, Command, Pages, Page, Plays, Play, Steps, Step}
use Rattle.press_lint.specs.Told.{tell_place}
use Rattle.press_lint.specs.Unfit.{tell_found, unfit, tell_wanted}
use Rattle.press_lint.specs.declared.wanted.Wanted.TheVariants.{Name}

-- ---- items by their places

abbrev pub item_in : List ℕ → ℕ → Data → Option Data
item_in list n whole = option_and_then (λ items. slice_get items n) (option_and_then list_in (get list whole))

abbrev pub callback_where : Data → ℕ → Option Data
callback_where kit n = item_in (codes "callbacks") n kit

abbrev pub plugin_where : Data → ℕ → Option Data
plugin_where kit n = item_in (codes "plugins") n kit

-- the callback or the plugin that a place is of
abbrev pub owner_where : Data → Place → Option Data
owner_where kit (Callback n) = callback_where kit n
owner_where kit (Op c o) = callback_where kit c
owner_where kit (Plugin n) = plugin_where kit n
owner_where kit (Load p l) = plugin_where kit p
owner_where kit File = None
owner_where kit Callbacks = None
owner_where kit Plugins = None
owner_where kit Active = None
owner_where kit (ActiveName n) = None
owner_where kit Commands = None
owner_where kit (Command n) = None
owner_where kit Pages = None
owner_where kit (Page n) = None
owner_where kit Plays = None
owner_where kit (Play n) = None
owner_where kit Steps = None
owner_where kit (Step n) = None

-- what is at a place
abbrev pub item_where : Data → Place → Option Data
item_where kit (Callback n) = callback_where kit n
item_where kit (Op c o) = option_and_then (item_in (codes "script") o) (callback_where kit c)
item_where kit (Plugin n) = plugin_where kit n
item_where kit (Load p l) = option_and_then (item_in (codes "load") l) (plugin_where kit p)
item_where kit File = Some kit
item_where kit Callbacks = None
item_where kit Plugins = None
item_where kit Active = None
item_where kit (ActiveName n) = item_in (codes "active") n kit
item_where kit Commands = None
item_where kit (Command n) = None
item_where kit Pages = None
item_where kit (Page n) = item_in (codes "pages") n kit
item_where kit Plays = None
item_where kit (Play n) = item_in (codes "plays") n kit
item_where kit Steps = None
item_where kit (Step n) = None

abbrev pub name_of : Data → Option (List ℕ)
name_of item = option_and_then (name_in 32) (option_and_then as_str (get (codes "name") item))

abbrev pub name_where : Data → Place → Option (List ℕ)
name_where kit at = option_and_then name_of (owner_where kit at)

-- ---- keys

-- those of a step, by its op
abbrev pub op_keys : List ℕ → Option (List (List ℕ))
op_keys word = option_map keys_of (kind_of word)

abbrev pub load_keys : Data → List (List ℕ)
load_keys item = if is_some (get (codes "hook") item) then hook_load_keys else tag_load_keys

abbrev pub play_keys : Data → List (List ℕ)
play_keys item = play.keys_of (play.kind_of item)

-- those that may stand in an item; of a step whose op nobody knows, none
abbrev pub keys_for : Place → Data → Option (List (List ℕ))
keys_for (Callback n) item = Some callback_keys
keys_for (Op c o) item = option_and_then op_keys (option_and_then as_str (get (codes "op") item))
keys_for (Plugin n) item = Some plugin_keys
keys_for (Load p l) item = Some (load_keys item)
keys_for File item = Some kit_keys
keys_for Callbacks item = Some []
keys_for Plugins item = Some []
keys_for Active item = Some []
keys_for (ActiveName n) item = Some []
keys_for Commands item = Some []
keys_for (Command n) item = Some []
keys_for Pages item = Some []
keys_for (Page n) item = Some []
keys_for Plays item = Some []
keys_for (Play n) item = Some (play_keys item)
keys_for Steps item = Some []
keys_for (Step n) item = Some []

abbrev pub unknown_key : List (List ℕ) → Members → Option (List ℕ)
unknown_key keys no_members = None
unknown_key keys (member k d ms) = if is_one_of keys k then unknown_key keys ms else Some k

-- those that may be left out
abbrev pub is_optional : List ℕ → Bool
is_optional key = is_one_of (codes "priority" ∷ codes "accepted" ∷ codes "more" ∷ codes "args" ∷ codes "every" ∷ codes "times" ∷ codes "trace" ∷ []) key

abbrev pub missing_key : List (List ℕ) → Data → Option (List ℕ)
missing_key [] item = None
missing_key (key ∷ keys) item = if not (is_optional key) && is_none (get key item) then Some key else missing_key keys item

-- ---- the message

-- a word of the file, where it could be a name
abbrev pub quoted_word : Option (List ℕ) → List ℕ
quoted_word None = []
quoted_word (Some word) = codes " \"" ++ (word ++ codes "\"")

abbrev pub quoted_if_name : List ℕ → List ℕ
quoted_if_name word = quoted_word (name_in 32 word)

abbrev pub tell_unfit : Option (List ℕ) → List ℕ
tell_unfit (Some told) = told
tell_unfit None = codes "a value does not fit"

abbrev pub tell_missing : Option (List ℕ) → List ℕ → List ℕ
tell_missing (Some key) otherwise = codes "lacks \"" ++ (key ++ codes "\"")
tell_missing None otherwise = otherwise

abbrev pub tell_unknown : Option (List ℕ) → List ℕ → List ℕ
tell_unknown (Some key) otherwise = codes "unknown key" ++ quoted_if_name key
tell_unknown None otherwise = otherwise

abbrev pub tell_members : Place → List (List ℕ) → Data → Option Members → List ℕ
tell_members at keys item None = codes "no object"
tell_members at keys item (Some ms) =
    tell_unknown (unknown_key keys ms) (tell_missing (missing_key keys item) (tell_unfit (unfit at item keys)))

abbrev pub tell_op : Option (List ℕ) → List ℕ
tell_op None = codes "no op"
tell_op (Some word) = codes "unknown op" ++ quoted_if_name word

abbrev pub why_bad : Place → Data → Option (List (List ℕ)) → List ℕ
why_bad at item None = tell_op (option_and_then as_str (get (codes "op") item))
why_bad at item (Some keys) = tell_members at keys item (as_object item)

-- what is wanted at a place that has no keys
abbrev pub bare_wanted : Place → Option (List ℕ)
bare_wanted (ActiveName n) = Some (tell_wanted Name)
bare_wanted (Page n) = Some (codes "front, post:ID, json:ID or result:EDITOR/SEQ")
bare_wanted File = None
bare_wanted Callbacks = None
bare_wanted (Callback n) = None
bare_wanted (Op c o) = None
bare_wanted Plugins = None
bare_wanted (Plugin n) = None
bare_wanted (Load p l) = None
bare_wanted Active = None
bare_wanted Commands = None
bare_wanted (Command n) = None
bare_wanted Pages = None
bare_wanted Plays = None
bare_wanted (Play n) = None
bare_wanted Steps = None
bare_wanted (Step n) = None

abbrev pub tell_bare : Option (List ℕ) → Data → List ℕ → List ℕ
tell_bare (Some wanted) item otherwise = tell_found item ++ (codes ", " ++ (wanted ++ codes " is wanted"))
tell_bare None item otherwise = otherwise

abbrev pub tell_item : Place → Option Data → List ℕ
tell_item at None = codes "is bad"
tell_item at (Some item) = codes "is bad: " ++ tell_bare (bare_wanted at) item (why_bad at item (keys_for at item))

abbrev pub is_file : Place → Bool
is_file File = true
is_file Callbacks = false
is_file (Callback n) = false
is_file (Op c o) = false
is_file Plugins = false
is_file (Plugin n) = false
is_file (Load p l) = false
is_file Active = false
is_file (ActiveName n) = false
is_file Commands = false
is_file (Command n) = false
is_file Pages = false
is_file (Page n) = false
is_file Plays = false
is_file (Play n) = false
is_file Steps = false
is_file (Step n) = false

-- a play file, of which the kit is a part, is easily taken for a kit file
abbrev pub is_play : Data → Bool
is_play d = is_some (get (codes "kit") d) || is_some (get (codes "plays") d)

abbrev pub tell_what : Data → Place → List ℕ
tell_what kit at =
    if is_file at && is_play kit then codes "this is a play file: its kit is the value of \"kit\"" else tell_item at (item_where kit at)

abbrev pub tell_bad : Data → Place → List ℕ
tell_bad kit at = tell_place (name_where kit at) at ++ tell_what kit at

-- ---- the message about a play file that is bad as a whole

-- a kit file, which is easily taken for a play file
abbrev pub is_kit : Data → Bool
is_kit d = is_none (get (codes "kit") d) && (is_some (get (codes "callbacks") d) || is_some (get (codes "plugins") d))

abbrev pub tell_bad_play : Data → List ℕ
tell_bad_play d =
    if is_kit d then codes "file: this is a kit file: a play file has it as the value of \"kit\"" else codes "file: is bad"

-- ---- bytes that are no kit, before they are read as JSON

-- U+FEFF in UTF-8
abbrev pub byte_order_mark : List ℕ
byte_order_mark = 239 ∷ 187 ∷ 191 ∷ []

-- they are too many, or begin with a mark, which JSON may not (RFC 8259, 8.1)
abbrev pub tell_front : List ℕ → Option (List ℕ)
tell_front bytes =
    if nat_lt file_limit (length bytes) then Some (codes "longer than " ++ (decimal file_limit ++ codes " bytes")) else
    (if bytes_eq (take 3 bytes) byte_order_mark then Some (codes "begins with a byte order mark, which JSON may not") else None)
