-- The kinds of steps, by the names that a kit file gives them, and the keys that each may have (own; the names follow the Plugin Handbook's
-- functions: `add_filter`, `remove_filter`, `remove_all_filters`, `apply_filters`, `do_action`, `did_action`, `doing_filter`, `has_filter`,
-- the Shortcode API's: `add_shortcode`, `remove_shortcode`, `do_shortcode`, `shortcode_exists`; the Options API's: `update_option`, `get_option`;
-- and WP-Cron's: `wp_schedule_event`, `check_and_publish_future_post`).
use Rattle.std.specs.Prelude.{ℕ, List, [], ◌∷◌, bytes_eq, if◌then◌else◌, Option, Some, None, codes}
use Rattle.std.specs.Option.{option_or}
use Rattle.press_kit.specs.declared.op_kind.OpKind.{OpKind}
use Rattle.press_kit.specs.declared.op_kind.OpKind.TheVariants.{Set, AddHook, RemoveHook, RemoveAll, AddTag, RemoveTag, SkipIf, Apply, Do, Shortcodes, Did, Doing, HasHook, HasTag, ReadOption, SetOption, Schedule, Publish, Echo, Return}

-- steps that edit the tables
abbrev pub edit_named : List ℕ → Option OpKind
edit_named name =
    if bytes_eq name (codes "add_hook") then Some AddHook else
    (if bytes_eq name (codes "remove_hook") then Some RemoveHook else
    (if bytes_eq name (codes "remove_all") then Some RemoveAll else
    (if bytes_eq name (codes "add_tag") then Some AddTag else
    (if bytes_eq name (codes "remove_tag") then Some RemoveTag else None))))

-- questions
abbrev pub question_named : List ℕ → Option OpKind
question_named name =
    if bytes_eq name (codes "did") then Some Did else
    (if bytes_eq name (codes "doing") then Some Doing else
    (if bytes_eq name (codes "has_hook") then Some HasHook else
    (if bytes_eq name (codes "has_tag") then Some HasTag else
    (if bytes_eq name (codes "option") then Some ReadOption else None))))

-- steps that change the site
abbrev pub change_named : List ℕ → Option OpKind
change_named name =
    if bytes_eq name (codes "set_option") then Some SetOption else
    (if bytes_eq name (codes "schedule") then Some Schedule else
    (if bytes_eq name (codes "publish") then Some Publish else None))

-- steps that make a text or run a hook
abbrev pub turn_named : List ℕ → Option OpKind
turn_named name =
    if bytes_eq name (codes "set") then Some Set else
    (if bytes_eq name (codes "skip_if") then Some SkipIf else
    (if bytes_eq name (codes "apply") then Some Apply else
    (if bytes_eq name (codes "do") then Some Do else
    (if bytes_eq name (codes "shortcodes") then Some Shortcodes else
    (if bytes_eq name (codes "echo") then Some Echo else
    (if bytes_eq name (codes "return") then Some Return else None))))))

abbrev pub kind_of : List ℕ → Option OpKind
kind_of name = option_or (edit_named name) (option_or (question_named name) (option_or (change_named name) (turn_named name)))

abbrev pub keys_of : OpKind → List (List ℕ)
keys_of Set = codes "op" ∷ codes "text" ∷ []
keys_of AddHook = codes "op" ∷ codes "hook" ∷ codes "callback" ∷ codes "priority" ∷ codes "accepted" ∷ []
keys_of RemoveHook = codes "op" ∷ codes "hook" ∷ codes "callback" ∷ codes "priority" ∷ []
keys_of RemoveAll = codes "op" ∷ codes "hook" ∷ codes "priority" ∷ []
keys_of AddTag = codes "op" ∷ codes "tag" ∷ codes "callback" ∷ []
keys_of RemoveTag = codes "op" ∷ codes "tag" ∷ []
keys_of SkipIf = codes "op" ∷ codes "left" ∷ codes "right" ∷ codes "skip" ∷ []
keys_of Apply = codes "op" ∷ codes "hook" ∷ codes "value" ∷ codes "more" ∷ []
keys_of Do = codes "op" ∷ codes "hook" ∷ codes "args" ∷ []
keys_of Shortcodes = codes "op" ∷ codes "text" ∷ []
keys_of Did = codes "op" ∷ codes "hook" ∷ []
keys_of Doing = codes "op" ∷ codes "hook" ∷ []
keys_of HasHook = codes "op" ∷ codes "hook" ∷ codes "callback" ∷ []
keys_of HasTag = codes "op" ∷ codes "tag" ∷ []
keys_of ReadOption = codes "op" ∷ codes "name" ∷ []
keys_of SetOption = codes "op" ∷ codes "name" ∷ codes "value" ∷ []
keys_of Schedule = codes "op" ∷ codes "after" ∷ codes "every" ∷ codes "hook" ∷ codes "arg" ∷ []
keys_of Publish = codes "op" ∷ codes "post" ∷ []
keys_of Echo = codes "op" ∷ codes "text" ∷ []
keys_of Return = codes "op" ∷ codes "text" ∷ []
