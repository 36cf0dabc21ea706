-- What is no mistake in a kit, but surely not meant: a skip past the end of its script or of
-- nothing, a read of what is never there, a change of the site that pages alone run, a callback on
-- a hook that nothing runs, and one that is taken from where nothing puts it (own).
use Rattle.std.specs.Prelude.{ℕ, ℤ, ◌+◌, List, [], ◌∷◌, ◌++◌, Bool, false, ◌||◌, ◌&&◌, bytes_eq, if◌then◌else◌, ◌==◌, nat_le, nat_lt, length, take, drop, Option, Some, None, option_and_then, codes, decimal}
use Rattle.std.specs.Fmt.{signed_decimal}
use Rattle.std.specs.List.{list_any}
use Rattle.press_callbacks.specs.Kits.{is_named}
use Rattle.press_callbacks.specs.declared.plugin.Load.{Load}
use Rattle.press_callbacks.specs.declared.plugin.Load.TheVariants.{Hook, Tag}
use Rattle.press_callbacks.specs.declared.plugin.Plugin.{Plugin}
use Rattle.press_callbacks.specs.declared.script.Op.{Op}
use Rattle.press_callbacks.specs.declared.script.Op.TheVariants as op
use Rattle.press_kit.specs.declared.kit_parts.KitParts.{KitParts}
use Rattle.press_kit.specs.declared.kit_parts.Scripted.{Scripted}
use Rattle.press_kit.specs.declared.place.Place.{Place}
use Rattle.press_kit.specs.declared.play_file.Play.{Play}
use Rattle.press_kit.specs.declared.place.Place.TheVariants as place
use Rattle.press_callbacks.specs.declared.script.Source.{Source}
use Rattle.press_lint.specs.Accepts.{most_accepted}
use Rattle.press_lint.specs.Pages.{runs_on_pages}
use Rattle.press_lint.specs.Reads.{unread_source, tell_unread}
use Rattle.press_lint.specs.Runs.{is_run_by}
use Rattle.press_lint.specs.Spots.{is_put_at, spot}
use Rattle.press_lint.specs.Told.{place_in}

-- ---- what runs a hook

-- those that the engine runs by themselves (hook reference), but for those with a status or an
-- option in their name
abbrev pub engine_hooks : List (List ℕ)
engine_hooks =
    codes "plugins_loaded" ∷ codes "init" ∷ codes "wp_loaded" ∷ codes "wp_head" ∷ codes "wp_footer"
    ∷ codes "the_title" ∷ codes "the_content" ∷ codes "title_save_pre" ∷ codes "content_save_pre"
    ∷ codes "transition_post_status" ∷ codes "save_post" ∷ codes "wp_trash_post" ∷ codes "trashed_post"
    ∷ codes "untrash_post" ∷ codes "untrashed_post" ∷ codes "before_delete_post" ∷ codes "deleted_post"
    ∷ codes "publish_future_post" ∷ codes "do_shortcode_tag" ∷ []

-- the statuses of a post
abbrev pub statuses : List (List ℕ)
statuses = codes "publish" ∷ codes "future" ∷ codes "draft" ∷ codes "pending" ∷ codes "private" ∷ codes "trash" ∷ []

abbrev pub is_status : List ℕ → Bool
is_status word = list_any (bytes_eq word) statuses

-- what follows a prefix
abbrev pub behind : List ℕ → List ℕ → Option (List ℕ)
behind front whole = if bytes_eq (take (length front) whole) front then Some (drop (length front) whole) else None

abbrev pub is_some_and : (List ℕ → Bool) → Option (List ℕ) → Bool
is_some_and test None = false
is_some_and test (Some word) = test word

-- `{old}_to_{new}`, where the old one may be `new`
abbrev pub is_turn : List ℕ → List ℕ → Bool
is_turn hook old = is_some_and is_status (option_and_then (behind (codes "_to_")) (behind old hook))

abbrev pub is_transition : List ℕ → Bool
is_transition hook = is_turn hook (codes "new") || list_any (is_turn hook) statuses

-- `{new}_post`
abbrev pub reaches : List ℕ → List ℕ → Bool
reaches hook new = is_some_and (λ rest. bytes_eq rest (codes "_post")) (behind new hook)

abbrev pub is_reached : List ℕ → Bool
is_reached hook = list_any (reaches hook) statuses

-- as long as the name of an option (Options API; its limit is own), which may have every byte that
-- the name of a hook may have
abbrev pub fits_option : List ℕ → Bool
fits_option name = nat_lt 0 (length name) && nat_le (length name) 32

abbrev pub is_change : List ℕ → List ℕ → Bool
is_change hook change = is_some_and fits_option (behind change hook)

-- `add_option_{name}` and `update_option_{name}`
abbrev pub is_of_option : List ℕ → Bool
is_of_option hook = is_change hook (codes "add_option_") || is_change hook (codes "update_option_")

abbrev pub is_engines : List ℕ → Bool
is_engines hook = list_any (bytes_eq hook) engine_hooks || is_transition hook || is_reached hook || is_of_option hook

-- by the engine, by a script, or by one of these plays
abbrev pub is_run : List Scripted → List Play → List ℕ → Bool
is_run callbacks plays hook = is_engines hook || is_run_by callbacks hook || list_any (λ (p : Play). bytes_eq p.hook hook) plays

-- ---- slips, each on a line after a prefix

abbrev pub slip : List ℕ → KitParts → Place → List ℕ → List ℕ
slip front kit at what = front ++ (place_in kit at ++ (what ++ codes "\n"))

abbrev pub past_end : List ℕ
past_end = codes "skips past the end of its script"

abbrev pub no_skip : List ℕ
no_skip = codes "skips nothing"

abbrev pub tell_unrun : List ℕ → List ℕ
tell_unrun hook = codes "puts a callback on a hook that nothing runs: \"" ++ (hook ++ codes "\"")

abbrev pub no_change : List ℕ
no_change = codes "changes the site, and its callback runs on pages alone, where nothing changes"

-- a callback that is taken off a hook at a priority
abbrev pub tell_removal : List ℕ → List ℕ → ℤ → List ℕ
tell_removal hook callback priority =
    codes "takes \"" ++ (callback ++ (codes "\" off \"" ++ (hook
    ++ (codes "\" at priority " ++ (signed_decimal priority ++ codes ", where nothing puts it")))))

-- what each item of a list gives, by its number, itself and those after it, one after the other
abbrev pub along : {A : Type 0} → (ℕ → A → List A → List ℕ) → ℕ → List A → List ℕ
along tells n [] = []
along tells n (x ∷ xs) = tells n x xs ++ along tells (n + 1) xs

module _ (front : List ℕ) (kit : KitParts) (plays : List Play) where
  abbrev pub hook_slip : Place → List ℕ → List ℕ
  hook_slip at hook = if is_run kit.callbacks plays hook then [] else slip front kit at (tell_unrun hook)

  abbrev pub removal_slip : Place → List ℕ → List ℕ → ℤ → List ℕ
  removal_slip at hook callback priority =
      if is_put_at kit (spot hook callback priority) then [] else slip front kit at (tell_removal hook callback priority)

  -- a skip of so many of the steps behind it
  abbrev pub skip_slip : Place → ℕ → List Op → List ℕ
  skip_slip at n behind =
      if nat_lt (length behind) n then slip front kit at past_end else
      (if n == 0 then slip front kit at no_skip else [])

  -- a step of a script, with those behind it
  abbrev pub op_slip : Place → Op → List Op → List ℕ
  op_slip at (op.SkipIf left right n) behind = skip_slip at n behind
  op_slip at (op.AddHook hook callback priority accepted) behind = hook_slip at hook
  op_slip at (op.Set text) behind = []
  op_slip at (op.RemoveHook hook callback priority) behind = removal_slip at hook callback priority
  op_slip at (op.RemoveAll h p) behind = []
  op_slip at (op.AddTag tag callback) behind = []
  op_slip at (op.RemoveTag tag) behind = []
  op_slip at (op.Apply h value more) behind = []
  op_slip at (op.Do h args) behind = []
  op_slip at (op.Shortcodes text) behind = []
  op_slip at (op.Ask ask) behind = []
  op_slip at (op.SetOption name value) behind = []
  op_slip at (op.Schedule after every h arg) behind = []
  op_slip at (op.Publish post) behind = []
  op_slip at (op.Echo text) behind = []
  op_slip at (op.Return text) behind = []

  abbrev pub unread_slip : Place → Option Source → List ℕ
  unread_slip at None = []
  unread_slip at (Some source) = slip front kit at (tell_unread source)

  -- all of a step, whose callback gets at most so many arguments
  abbrev pub step_slips : Option ℕ → Place → Op → List Op → List ℕ
  step_slips most at op behind = op_slip at op behind ++ unread_slip at (unread_source most op)

  -- a step that would change the site, in a callback that pages alone run
  abbrev pub change_slip : Place → Op → List ℕ
  change_slip at (op.SetOption name value) = slip front kit at no_change
  change_slip at (op.Schedule after every h arg) = slip front kit at no_change
  change_slip at (op.Publish post) = slip front kit at no_change
  change_slip at (op.Set text) = []
  change_slip at (op.AddHook h c p a) = []
  change_slip at (op.RemoveHook h c p) = []
  change_slip at (op.RemoveAll h p) = []
  change_slip at (op.AddTag tag c) = []
  change_slip at (op.RemoveTag tag) = []
  change_slip at (op.SkipIf left right n) = []
  change_slip at (op.Apply h value more) = []
  change_slip at (op.Do h args) = []
  change_slip at (op.Shortcodes text) = []
  change_slip at (op.Ask ask) = []
  change_slip at (op.Echo text) = []
  change_slip at (op.Return text) = []

  abbrev pub load_slip : Place → Load → List ℕ
  load_slip at (Hook hook priority callback accepted) = hook_slip at hook
  load_slip at (Tag tag callback) = []

  abbrev pub script_slips : Option ℕ → ℕ → List Op → List ℕ
  script_slips most c script = along (λ o. step_slips most (place.Op c o)) 0 script

  abbrev pub changes_slips : ℕ → List Op → List ℕ
  changes_slips c script = along (λ o op behind. change_slip (place.Op c o) op) 0 script

  abbrev pub page_slips : ℕ → Scripted → List ℕ
  page_slips n c = if runs_on_pages kit plays c.id then changes_slips n c.script else []

  abbrev pub loads_slips : ℕ → List Load → List ℕ
  loads_slips p loads = along (λ l load behind. load_slip (place.Load p l) load) 0 loads

  abbrev pub callback_slips : ℕ → Scripted → List Scripted → List ℕ
  callback_slips n c behind = script_slips (most_accepted kit c.id) n c.script ++ page_slips n c

  abbrev pub plugin_slips : ℕ → Plugin → List Plugin → List ℕ
  plugin_slips n p behind = loads_slips n p.load

  abbrev pub slips : List ℕ
  slips = along callback_slips 0 kit.callbacks ++ along plugin_slips 0 kit.plugins

-- an active plugin that a kit lacks
abbrev pub lacking_slip : List ℕ → ℕ → List ℕ → List ℕ
lacking_slip front n name = front ++ (codes "active[" ++ (decimal n ++ (codes "]: names a plugin that is not in the kit: \"" ++ (name ++ codes "\"\n"))))

abbrev pub active_slip : List ℕ → KitParts → ℕ → List ℕ → List ℕ
active_slip front kit n name = if is_named (λ (p : Plugin). p.name) kit.plugins name then [] else lacking_slip front n name

abbrev pub active_slips : List ℕ → KitParts → List (List ℕ) → List ℕ
active_slips front kit active = along (λ n name behind. active_slip front kit n name) 0 active
