-- Worked rows, computed by the definitions. A filter `add_a` appends the letter a.
use Rattle.std.specs.Prelude.{◌≡◌, refl, ℕ, ℤ, pos, negsuc, List, [], ◌∷◌, false, Option, Some, None, option_map, codes, count_by, bytes_eq}
use Rattle.press_hooks.specs.declared.row.Row.{Row}
use Rattle.press_hooks.specs.HookRows.{add_row, remove_row, remove_rows, has_rows, priority_of}
use Rattle.press_callbacks.specs.declared.script.Op.{Op}
use Rattle.press_callbacks.specs.declared.script.Op.TheVariants as op
use Rattle.press_callbacks.specs.declared.script.Ask.TheVariants as ask
use Rattle.press_callbacks.specs.declared.script.Source.TheVariants.{Arg, Att, Content, Value, Last}
use Rattle.press_callbacks.specs.declared.script.Part.TheVariants.{Lit, Raw, Escaped}
use Rattle.press_callbacks.specs.Kits.{Scripts}
use Rattle.press_scan.specs.declared.tag_row.TagRow.{TagRow}
use Rattle.press_scan.specs.declared.att_key.AttKey.TheVariants as key
use Rattle.press_scan.specs.Tags.{add_tag, remove_tag}
use Rattle.press_scan.specs.FirstShortcode.{shortcode_from}
use Rattle.press_scan.specs.AttributesOf.{attributes_of}
use Rattle.press_site.specs.Effects.{no_site}
use Rattle.press_run.specs.Links.{read_only}
use Rattle.press_run.specs.Run.{State, Answer, apply_hook, callbacks_of, run_entries, play, at_depth, do_fires, scan, scan_from}

abbrev title : List ℕ
title = codes "the_title"

abbrev appends : List ℕ → Op
appends letter = op.Set (Raw Value ∷ Lit letter ∷ [])

-- callbacks and their scripts
abbrev a : List ℕ
a = codes "add_a"

abbrev b : List ℕ
b = codes "add_b"

abbrev z : List ℕ
z = codes "add_z"

abbrev filter_a : List ℕ × List Op
filter_a = (a, appends (codes "a") ∷ [])

abbrev filter_b : List ℕ × List Op
filter_b = (b, appends (codes "b") ∷ [])

abbrev filter_z : List ℕ × List Op
filter_z = (z, appends (codes "z") ∷ [])

-- nothing counted and nothing written
abbrev start : List Row → State
start rows = record { rows = rows; tags = []; did = []; doing = []; turns = 0; output = []; site = no_site }

abbrev applied : Scripts → List ℕ → List Row → Option Answer
applied scripts text rows = apply_hook (callbacks_of read_only scripts) title (text ∷ []) (start rows)

-- the text that the filters give to x
abbrev text_by : Scripts → List Row → Option (List ℕ)
text_by scripts rows = option_map (λ (w : Answer). w.text) (applied scripts (codes "x") rows)

abbrev rows_after : Option Answer → List Row
rows_after None = []
rows_after (Some w) = w.state.rows

-- the same on the rows that a first such run leaves
abbrev again_by : Scripts → List Row → Option (List ℕ)
again_by scripts rows = text_by scripts (rows_after (applied scripts (codes "x") rows))

-- ---- add-remove: a is added again at its priority, and keeps its place

abbrev a_b : List Row
a_b = add_row title a (pos 10) 2 (add_row title b (pos 10) 1 (add_row title a (pos 10) 1 []))

abbrev letters : Scripts
letters = filter_a ∷ filter_b ∷ []

pub kept_place : text_by letters a_b ≡ Some (codes "xab")
unfolding run_entries play at_depth do_fires
kept_place = refl

pub has_ten : priority_of title a a_b ≡ Some (pos 10)
has_ten = refl

pub removed_other : text_by letters (remove_row title a (pos 11) a_b) ≡ Some (codes "xab")
unfolding run_entries play at_depth do_fires
removed_other = refl

pub removed_one : text_by letters (remove_row title a (pos 10) a_b) ≡ Some (codes "xb")
unfolding run_entries play at_depth do_fires
removed_one = refl

pub removed_all : text_by letters (remove_rows title None a_b) ≡ Some (codes "x")
unfolding run_entries play at_depth do_fires
removed_all = refl

pub has_none : has_rows title (remove_rows title None a_b) ≡ false
has_none = refl

-- ---- grow-running: a adds d at its own priority, e above it and f below

abbrev add : List ℕ → ℤ → Op
add callback priority = op.AddHook title callback priority 1

abbrev growing : Scripts
growing =
    (a, add (codes "add_d") (pos 10) ∷ add (codes "add_e") (pos 11) ∷ add (codes "add_f") (pos 9) ∷ appends (codes "a") ∷ [])
    ∷ (codes "add_d", appends (codes "d") ∷ []) ∷ (codes "add_e", appends (codes "e") ∷ []) ∷ (codes "add_f", appends (codes "f") ∷ []) ∷ []

abbrev a_alone : List Row
a_alone = add_row title a (pos 10) 1 []

pub grown_once : text_by growing a_alone ≡ Some (codes "xae")
unfolding run_entries play at_depth do_fires
grown_once = refl

pub grown_twice : again_by growing a_alone ≡ Some (codes "xfade")
unfolding run_entries play at_depth do_fires
grown_twice = refl

-- ---- remove-running: a removes b at its own priority; and a, which stands alone at its priority, removes itself

abbrev dropping : Scripts
dropping = (a, op.RemoveHook title b (pos 10) ∷ appends (codes "a") ∷ []) ∷ filter_b ∷ []

pub dropped_once : text_by dropping a_b ≡ Some (codes "xab")
unfolding run_entries play at_depth do_fires
dropped_once = refl

pub dropped_twice : again_by dropping a_b ≡ Some (codes "xa")
unfolding run_entries play at_depth do_fires
dropped_twice = refl

abbrev leaving : Scripts
leaving = (a, op.RemoveHook title a (pos 10) ∷ appends (codes "a") ∷ []) ∷ filter_z ∷ []

abbrev a_z : List Row
a_z = add_row title z (pos 12) 1 a_alone

pub left_once : text_by leaving a_z ≡ Some (codes "xaz")
unfolding run_entries play at_depth do_fires
left_once = refl

pub left_twice : again_by leaving a_z ≡ Some (codes "xz")
unfolding run_entries play at_depth do_fires
left_twice = refl

-- ---- extreme-priorities: z, at the greatest priority, adds b there

abbrev ends_rows : List Row
ends_rows = add_row title z (pos 9223372036854775807) 1 (add_row title a (negsuc 9223372036854775807) 1 [])

abbrev ends : Scripts
ends = filter_a ∷ filter_b ∷ (z, add b (pos 9223372036854775807) ∷ appends (codes "z") ∷ []) ∷ []

pub ends_once : text_by ends ends_rows ≡ Some (codes "xaz")
unfolding run_entries play at_depth do_fires
ends_once = refl

pub ends_twice : again_by ends ends_rows ≡ Some (codes "xazb")
unfolding run_entries play at_depth do_fires
ends_twice = refl

-- ---- did-doing-same: an action without entries is counted and is never running; the callback's own hook is

abbrev ping : List ℕ
ping = codes "ping"

abbrev asking : Scripts
asking =
    (a, op.Do ping [] ∷ op.Do ping [] ∷ op.Ask (ask.Doing ping) ∷ op.Set (Raw Value ∷ Raw Last ∷ []) ∷ op.Ask (ask.Doing title) ∷ op.Set (Raw Value ∷ Raw Last ∷ []) ∷ [])
    ∷ []

pub asked : text_by asking a_alone ≡ Some (codes "x1")
unfolding run_entries play at_depth do_fires
asked = refl

-- (the count itself: `decimal` does not compute here)
pub counted : option_map (λ (w : Answer). count_by (bytes_eq ping) w.state.did) (applied asking (codes "x") a_alone) ≡ Some 2
unfolding run_entries play at_depth do_fires
counted = refl

-- ---- again: a applies its own hook; and the same while its value has fewer than 32 letters, one for each open callback

abbrev applying : Scripts
applying = (a, op.Apply title (Raw Value ∷ []) [] ∷ op.Return (Raw Last ∷ []) ∷ []) ∷ []

pub at_limit : text_by applying a_alone ≡ None
unfolding run_entries play at_depth do_fires
at_limit = refl

abbrev applying_until : List ℕ → Scripts
applying_until letters = (a, op.SkipIf (Raw Value ∷ []) (Lit letters ∷ []) 2 ∷ op.Apply title (Raw Value ∷ Lit (codes "a") ∷ []) [] ∷ op.Return (Raw Last ∷ []) ∷ []) ∷ []

pub open_32 : option_map (λ (w : Answer). w.text) (applied (applying_until (codes "aaaaaaaaaaaaaaaaaaaaaaaaaaaaaaaa")) (codes "a") a_alone) ≡ Some (codes "aaaaaaaaaaaaaaaaaaaaaaaaaaaaaaaa")
unfolding run_entries play at_depth do_fires
open_32 = refl

pub open_33 : option_map (λ (w : Answer). w.text) (applied (applying_until (codes "aaaaaaaaaaaaaaaaaaaaaaaaaaaaaaaaa")) (codes "a") a_alone) ≡ None
unfolding run_entries play at_depth do_fires
open_33 = refl

-- ---- brackets: tag t answers T

abbrev tagged : List TagRow → State
tagged tags = record { rows = []; tags = tags; did = []; doing = []; turns = 0; output = []; site = no_site }

-- what a text means
abbrev meant : Scripts → List TagRow → List ℕ → Option (List ℕ)
meant scripts tags text = option_map (λ (w : Answer). w.text) (scan (callbacks_of read_only scripts) text (tagged tags))

abbrev say_t : Scripts
say_t = (codes "say_t", op.Return (Lit (codes "T") ∷ []) ∷ []) ∷ []

abbrev with_t : List TagRow
with_t = add_tag (codes "t") (codes "say_t") []

pub escape : meant say_t with_t (codes "[[t]]") ≡ Some (codes "[t]")
unfolding run_entries play at_depth scan_from shortcode_from attributes_of
escape = refl

pub half_escape : meant say_t with_t (codes "[[t]") ≡ Some (codes "[T")
unfolding run_entries play at_depth scan_from shortcode_from attributes_of
half_escape = refl

pub triple : meant say_t with_t (codes "[[[t]]]") ≡ Some (codes "[[t]]")
unfolding run_entries play at_depth scan_from shortcode_from attributes_of
triple = refl

pub enclosing : meant say_t with_t (codes "[[t]] u [/t]") ≡ Some (codes "[T")
unfolding run_entries play at_depth scan_from shortcode_from attributes_of
enclosing = refl

-- ---- near-misses

pub open_ended : meant say_t with_t (codes "[t") ≡ Some (codes "[t")
unfolding run_entries play at_depth scan_from shortcode_from attributes_of
open_ended = refl

pub longer_name : meant say_t with_t (codes "[tt]") ≡ Some (codes "[tt]")
unfolding run_entries play at_depth scan_from shortcode_from attributes_of
longer_name = refl

pub dashed_name : meant say_t with_t (codes "[t-2]") ≡ Some (codes "[t-2]")
unfolding run_entries play at_depth scan_from shortcode_from attributes_of
dashed_name = refl

pub removed_tag : meant say_t (remove_tag (codes "t") with_t) (codes "[t]") ≡ Some (codes "[t]")
unfolding run_entries play at_depth scan_from shortcode_from attributes_of
removed_tag = refl

-- ---- attribute-tokens: a tag that shows two of its attributes

abbrev show_atts : Scripts
show_atts = (codes "say_t", op.Return (Raw (Att (key.Name (codes "x"))) ∷ Lit (codes ",") ∷ Raw (Att (key.Place 0)) ∷ []) ∷ []) ∷ []

pub last_value : meant show_atts with_t (codes "[t x=1 x=\"2\" y X='3']") ≡ Some (codes "3,y")
unfolding run_entries play at_depth scan_from shortcode_from attributes_of
last_value = refl

pub bad_quote : meant show_atts with_t (codes "[t a=\"1\"b]") ≡ Some (codes ",a=\"1\"b")
unfolding run_entries play at_depth scan_from shortcode_from attributes_of
bad_quote = refl

pub empty_value : meant show_atts with_t (codes "[t \"\" z]") ≡ Some (codes ",z")
unfolding run_entries play at_depth scan_from shortcode_from attributes_of
empty_value = refl

-- `[t//]` closes itself with the attribute text `/`
pub slashes : meant show_atts with_t (codes "[t//]") ≡ Some (codes ",/")
unfolding run_entries play at_depth scan_from shortcode_from attributes_of
slashes = refl

-- ---- plugin-escaped: a tag that shows an attribute as it is, and escaped

abbrev show_escaped : Scripts
show_escaped = (codes "say_t", op.Return (Raw (Att (key.Name (codes "x"))) ∷ Lit (codes "|") ∷ Escaped (Att (key.Name (codes "x"))) ∷ []) ∷ []) ∷ []

pub escaped_markup : meant show_escaped with_t (codes "[t x=\"<a b='&'>\"]") ≡ Some (codes "<a b='&'>|&lt;a b=&#039;&amp;&#039;&gt;")
unfolding run_entries play at_depth scan_from shortcode_from attributes_of
escaped_markup = refl

pub escaped_quote : meant show_escaped with_t (codes "[t x='\"']") ≡ Some (codes "\"|&quot;")
unfolding run_entries play at_depth scan_from shortcode_from attributes_of
escaped_quote = refl

-- ---- nested-tags: box has the shortcodes of its content answered, greet names its attribute

abbrev boxes : Scripts
boxes =
    (codes "greet", op.Return (Lit (codes "Hello ") ∷ Raw (Att (key.Name (codes "name"))) ∷ []) ∷ [])
    ∷ (codes "box", op.Shortcodes (Raw Content ∷ []) ∷ op.Return (Lit (codes "<div>") ∷ Raw Last ∷ Lit (codes "</div>") ∷ []) ∷ []) ∷ []

abbrev box_tags : List TagRow
box_tags = add_tag (codes "box") (codes "box") (add_tag (codes "greet") (codes "greet") [])

pub nested : meant boxes box_tags (codes "[box]a [greet name=Bo] b[/box]") ≡ Some (codes "<div>a Hello Bo b</div>")
unfolding run_entries play at_depth scan_from shortcode_from attributes_of
nested = refl

pub bracket_in_value : meant boxes box_tags (codes "[greet name=\"[box]\"]") ≡ Some (codes "Hello \"]")
unfolding run_entries play at_depth scan_from shortcode_from attributes_of
bracket_in_value = refl

-- ---- marked-shortcodes: in profile 2 each answer goes through a filter that marks it with its tag

abbrev marks : Scripts
marks = (codes "mark", op.Set (Lit (codes "{") ∷ Raw Value ∷ Lit (codes "|") ∷ Raw (Arg 1) ∷ Lit (codes "}") ∷ []) ∷ []) ∷ boxes

-- what a text means in a profile, with a callback on the filter
abbrev meant_in : ℕ → Scripts → List ℕ → List ℕ → Option (List ℕ)
meant_in profile scripts callback text = option_map (λ (w : Answer). w.text) (scan (callbacks_of read_only scripts) text
    (record (tagged box_tags) { rows = add_row (codes "do_shortcode_tag") callback (pos 10) 2 []; site = record no_site { profile = profile } }))

pub unmarked : meant_in 1 marks (codes "mark") (codes "[box]a [greet name=Bo] b[/box]") ≡ Some (codes "<div>a Hello Bo b</div>")
unfolding run_entries play at_depth scan_from shortcode_from attributes_of
unmarked = refl

pub marked : meant_in 2 marks (codes "mark") (codes "[box]a [greet name=Bo] b[/box]") ≡ Some (codes "{<div>a {Hello Bo|greet} b</div>|box}")
unfolding run_entries play at_depth scan_from shortcode_from attributes_of
marked = refl

pub marked_half_escape : meant_in 2 marks (codes "mark") (codes "[[greet name=Bo]") ≡ Some (codes "[{Hello Bo|greet}")
unfolding run_entries play at_depth scan_from shortcode_from attributes_of
marked_half_escape = refl

pub unmarked_escape : meant_in 2 marks (codes "mark") (codes "[[greet]]") ≡ Some (codes "[greet]")
unfolding run_entries play at_depth scan_from shortcode_from attributes_of
unmarked_escape = refl

-- a filter that empties the answer, one that adds a tag for the rest of the text, and one that applies itself
abbrev on_answers : List Op → Scripts
on_answers script = (codes "on_answers", script) ∷ boxes

pub emptied : meant_in 2 (on_answers (op.Return [] ∷ [])) (codes "on_answers") (codes "a[greet name=Bo]b") ≡ Some (codes "ab")
unfolding run_entries play at_depth scan_from shortcode_from attributes_of
emptied = refl

pub tag_added : meant_in 2 (on_answers (op.AddTag (codes "later") (codes "greet") ∷ [])) (codes "on_answers") (codes "[later name=Al][greet name=Bo][later name=Al]") ≡ Some (codes "[later name=Al]Hello BoHello Al")
unfolding run_entries play at_depth scan_from shortcode_from attributes_of
tag_added = refl

pub applied_again : meant_in 2 (on_answers (op.Apply (codes "do_shortcode_tag") (Raw Value ∷ []) [] ∷ [])) (codes "on_answers") (codes "[greet name=Bo]") ≡ None
unfolding run_entries play at_depth scan_from shortcode_from attributes_of
applied_again = refl
