-- The demonstration kit: filters that append a letter, one that grows its own hook while it runs,
-- two that run their own hook again, an action that sets an option, two shortcodes, and a filter
-- that marks what shortcodes answer (own).
use Rattle.std.specs.Prelude.{ℕ, pos, List, [], ◌∷◌, ◌++◌, map, codes}
use Rattle.press_scan.specs.declared.att_key.AttKey.TheVariants.{Name}
use Rattle.press_callbacks.specs.declared.script.Source.TheVariants.{Arg, Att, Content, Value, Last}
use Rattle.press_callbacks.specs.declared.script.Part.TheVariants.{Lit, Raw}
use Rattle.press_callbacks.specs.declared.script.Op.{Op}
use Rattle.press_callbacks.specs.declared.script.Op.TheVariants.{Set, AddHook, Apply, SetOption, Shortcodes, Return}
use Rattle.press_callbacks.specs.declared.plugin.Plugin.{Plugin}
use Rattle.press_callbacks.specs.declared.plugin.Load.{Load}
use Rattle.press_callbacks.specs.declared.plugin.Load.TheVariants.{Hook, Tag}
use Rattle.press_demonstration.specs.declared.scripted.Scripted.{Scripted}
use Rattle.press_callbacks.specs.Kits.{Scripts, KitView, view_of}

-- the step that appends a text to the value, and the script of that step alone
abbrev pub append : List ℕ → Op
append text = Set (Raw Value ∷ Lit text ∷ [])

abbrev pub append_script : List ℕ → List Op
append_script text = append text ∷ []

abbrev pub the_title : List ℕ
the_title = codes "the_title"

-- adds d at its own priority, e above it and f below it, and appends a
abbrev pub grow_script : List Op
grow_script =
    AddHook the_title (codes "add_d") (pos 10) 1
    ∷ (AddHook the_title (codes "add_e") (pos 11) 1 ∷ (AddHook the_title (codes "add_f") (pos 9) 1 ∷ (append (codes "a") ∷ [])))

-- greets the one that the attribute `name` names
abbrev pub greet_script : List Op
greet_script = Return (Lit (codes "Hello ") ∷ (Raw (Att (Name (codes "name"))) ∷ [])) ∷ []

-- has the shortcodes of its content answered, in a box
abbrev pub box_script : List Op
box_script = Shortcodes (Raw Content ∷ []) ∷ (Return (Lit (codes "<div>") ∷ (Raw Last ∷ (Lit (codes "</div>") ∷ []))) ∷ [])

-- runs a filter on its value, and answers what that gave
abbrev pub filter_script : List ℕ → List Op
filter_script hook = Apply hook (Raw Value ∷ []) [] ∷ (Return (Raw Last ∷ []) ∷ [])

-- keeps its first argument as an option
abbrev pub note_script : List Op
note_script = SetOption (codes "last_saved") (Raw (Arg 0) ∷ []) ∷ []

-- the value in braces, with the tag that is its second argument
abbrev pub mark_script : List Op
mark_script = Set (Lit (codes "{") ∷ (Raw Value ∷ (Lit (codes "|") ∷ (Raw (Arg 1) ∷ (Lit (codes "}") ∷ []))))) ∷ []

-- the callbacks whose closures play their scripts
abbrev pub letters : Scripts
letters =
    (codes "add_a", append_script (codes "a"))
    ∷ (codes "add_b", append_script (codes "b"))
    ∷ (codes "add_c", append_script (codes "c"))
    ∷ (codes "add_d", append_script (codes "d"))
    ∷ (codes "add_e", append_script (codes "e"))
    ∷ (codes "add_f", append_script (codes "f"))
    ∷ []

abbrev pub others : Scripts
others =
    (codes "greet", greet_script)
    ∷ (codes "box", box_script)
    ∷ (codes "again", filter_script the_title)
    ∷ (codes "again_save", filter_script (codes "title_save_pre"))
    ∷ (codes "note", note_script)
    ∷ (codes "mark", mark_script)
    ∷ []

abbrev pub play_scripts : Scripts
play_scripts = letters ++ others

abbrev pub scripts : Scripts
scripts = (codes "grow", grow_script) ∷ play_scripts

abbrev pub on_hook : List ℕ → ℕ → List ℕ → Load
on_hook hook priority callback = Hook hook (pos priority) callback 1

abbrev pub on_title : ℕ → List ℕ → Load
on_title = on_hook the_title

abbrev pub grow_plugin : Plugin
grow_plugin = record { name = codes "grow"; load = on_title 10 (codes "grow") ∷ [] }

abbrev pub letters_load : List Load
letters_load = on_title 10 (codes "add_a") ∷ on_title 10 (codes "add_b") ∷ on_title 5 (codes "add_c") ∷ []

abbrev pub letters_plugin : Plugin
letters_plugin = record { name = codes "letters"; load = letters_load }

abbrev pub loop_plugin : Plugin
loop_plugin = record { name = codes "loop"; load = on_title 10 (codes "again") ∷ on_hook (codes "title_save_pre") 10 (codes "again_save") ∷ [] }

-- what a shortcode answered, and its tag
abbrev pub on_shortcode_tag : List ℕ → Load
on_shortcode_tag callback = Hook (codes "do_shortcode_tag") (pos 10) callback 2

abbrev pub marks_plugin : Plugin
marks_plugin = record { name = codes "marks"; load = on_shortcode_tag (codes "mark") ∷ [] }

abbrev pub notes_plugin : Plugin
notes_plugin = record { name = codes "notes"; load = on_hook (codes "save_post") 10 (codes "note") ∷ [] }

abbrev pub tags_plugin : Plugin
tags_plugin = record { name = codes "tags"; load = Tag (codes "greet") (codes "greet") ∷ Tag (codes "box") (codes "box") ∷ [] }

abbrev pub plugins : List Plugin
plugins = grow_plugin ∷ letters_plugin ∷ loop_plugin ∷ marks_plugin ∷ notes_plugin ∷ tags_plugin ∷ []

-- names and scripts
abbrev pub scripts_of : List Scripted → Scripts
scripts_of scripted = map (λ (s : Scripted). (s.id, s.script)) scripted

abbrev pub demonstration : KitView
demonstration = view_of scripts plugins
