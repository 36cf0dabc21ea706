-- What pages alone run, so that it changes nothing, since a site is only read for a page: a
-- callback that something puts on a hook of pages or under a tag, and nothing anywhere else (own).
-- A hook that a step or a play runs is none of pages, whoever takes the step; nor is one of a boot,
-- which commands have too. Tags are none where anything but the engine's own `the_content` may
-- answer them.
use Rattle.std.specs.Prelude.{ℕ, List, [], ◌∷◌, Bool, true, false, not, ◌||◌, ◌&&◌, bytes_eq, is_none, is_some, codes}
use Rattle.std.specs.List.{list_any}
use Rattle.press_callbacks.specs.declared.plugin.Load.{Load}
use Rattle.press_callbacks.specs.declared.plugin.Load.TheVariants.{Hook, Tag}
use Rattle.press_callbacks.specs.declared.plugin.Plugin.{Plugin}
use Rattle.press_callbacks.specs.declared.script.Op.{Op}
use Rattle.press_callbacks.specs.declared.script.Op.TheVariants as op
use Rattle.press_kit.specs.declared.kit_parts.KitParts.{KitParts}
use Rattle.press_kit.specs.declared.kit_parts.Scripted.{Scripted}
use Rattle.press_kit.specs.declared.play_file.Play.{Play}
use Rattle.press_lint.specs.Accepts.{most_accepted}
use Rattle.press_lint.specs.Runs.{is_run_by}

-- the engine's, each of a page or of a post in JSON (hook reference), but for `do_shortcode_tag`,
-- which comes with each shortcode
abbrev pub page_hooks : List (List ℕ)
page_hooks = codes "wp_head" ∷ codes "the_title" ∷ codes "the_content" ∷ codes "wp_footer" ∷ []

-- a step that answers shortcodes
abbrev pub answers : Op → Bool
answers (op.Shortcodes text) = true
answers (op.Set text) = false
answers (op.AddHook h c p a) = false
answers (op.RemoveHook h c p) = false
answers (op.RemoveAll h p) = false
answers (op.AddTag tag c) = false
answers (op.RemoveTag tag) = false
answers (op.SkipIf left right n) = false
answers (op.Apply h value more) = false
answers (op.Do h args) = false
answers (op.Ask ask) = false
answers (op.SetOption name value) = false
answers (op.Schedule after every h arg) = false
answers (op.Publish post) = false
answers (op.Echo text) = false
answers (op.Return text) = false

abbrev pub some_answer : List Scripted → Bool
some_answer callbacks = list_any (λ (c : Scripted). list_any answers c.script) callbacks

module _ (kit : KitParts) (plays : List Play) where
  -- by a step or a play
  abbrev pub is_started : List ℕ → Bool
  is_started hook = is_run_by kit.callbacks hook || list_any (λ (p : Play). bytes_eq p.hook hook) plays

  abbrev pub is_of_pages : List ℕ → Bool
  is_of_pages hook = list_any (bytes_eq hook) page_hooks && not (is_started hook)

  abbrev pub are_tags_of_pages : Bool
  are_tags_of_pages =
      is_of_pages (codes "the_content") && not (some_answer kit.callbacks) && is_none (most_accepted kit (codes "do_shortcode"))

  -- ---- what puts the callback of a name elsewhere, by whether tags are of pages

  abbrev pub strays_on : List ℕ → List ℕ → List ℕ → Bool
  strays_on name hook callback = not (is_of_pages hook) && bytes_eq callback name

  abbrev pub strays_under : Bool → List ℕ → List ℕ → Bool
  strays_under tags name callback = not tags && bytes_eq callback name

  abbrev pub load_strays : Bool → List ℕ → Load → Bool
  load_strays tags name (Hook hook priority callback accepted) = strays_on name hook callback
  load_strays tags name (Tag tag callback) = strays_under tags name callback

  abbrev pub step_strays : Bool → List ℕ → Op → Bool
  step_strays tags name (op.AddHook hook callback priority accepted) = strays_on name hook callback
  step_strays tags name (op.AddTag tag callback) = strays_under tags name callback
  step_strays tags name (op.Set text) = false
  step_strays tags name (op.RemoveHook h c p) = false
  step_strays tags name (op.RemoveAll h p) = false
  step_strays tags name (op.RemoveTag tag) = false
  step_strays tags name (op.SkipIf left right n) = false
  step_strays tags name (op.Apply h value more) = false
  step_strays tags name (op.Do h args) = false
  step_strays tags name (op.Shortcodes text) = false
  step_strays tags name (op.Ask ask) = false
  step_strays tags name (op.SetOption o value) = false
  step_strays tags name (op.Schedule after every h arg) = false
  step_strays tags name (op.Publish post) = false
  step_strays tags name (op.Echo text) = false
  step_strays tags name (op.Return text) = false

  abbrev pub is_put_elsewhere : List ℕ → Bool
  is_put_elsewhere name =
      list_any (λ (c : Scripted). list_any (step_strays are_tags_of_pages name) c.script) kit.callbacks
      || list_any (λ (p : Plugin). list_any (load_strays are_tags_of_pages name) p.load) kit.plugins

  -- whether pages alone run the callback of that name
  abbrev pub runs_on_pages : List ℕ → Bool
  runs_on_pages name = is_some (most_accepted kit name) && not (is_put_elsewhere name)
