-- When a site goes on over another kit by itself, and what comes out otherwise where it doesn't (own).
use Rattle.std.specs.Prelude.{◌≡◌, ◌==◌, ℕ, Bool, true, false, List, [], ◌∷◌, ◌++◌, codes, cond, decimal, Option, None, Some, is_some}
use Rattle.press_apply.specs.Apply.{applied}
use Rattle.press_apply.specs.declared.command.Command.{Command}
use Rattle.press_apply.specs.declared.command.Command.TheVariants.{Insert, Update, Trash, Untrash, Delete, SetOption, Activate, Deactivate, Tick, Profile}
use Rattle.press_apply.specs.declared.value.Value.{Value}
use Rattle.press_apply.specs.declared.value.Value.TheVariants.{Noop, Cmd}
use Rattle.press_callbacks.specs.Kits.{KitView}
use Rattle.press_kit.specs.declared.kit_parts.KitParts.{KitParts}
use Rattle.press_site.specs.Effects.{no_site}
use Rattle.press_site.specs.Outcomes.{outcome_of}
use Rattle.press_site.specs.SiteView.{SiteView}
use Rattle.press_site.specs.declared.token.Outcome.{Outcome}
use Rattle.press_site.specs.declared.token.Outcome.TheVariants.{Done, Refused}
use Rattle.press_upgrade.specs.Differences.{Tells}
use Rattle.press_upgrade.specs.Extends.{Extends, ask_new, asks_new}
use Rattle.press_upgrade.specs.declared.difference.Difference.{Difference}
use Rattle.press_upgrade.specs.declared.difference.Difference.TheVariants as difference
use Rattle.press_handover.specs.declared.comparing.Compared.{Compared}
use Rattle.press_handover.specs.declared.obstacle.Obstacle.{Obstacle}
use Rattle.press_handover.specs.declared.obstacle.Obstacle.TheVariants.{CallbackIsGone, CallbackIsOther, PluginIsGone, PluginIsOther, PluginWasNamed}
use Rattle.press_handover.specs.declared.otherwise.Otherwise.{Otherwise}

-- ---- what stands against another kit

abbrev pub name_of : Obstacle → List ℕ
name_of (CallbackIsGone name) = name
name_of (CallbackIsOther name) = name
name_of (PluginIsGone name) = name
name_of (PluginIsOther name) = name
name_of (PluginWasNamed name) = name

abbrev pub words_of : Obstacle → List ℕ × List ℕ
words_of (CallbackIsGone name) = (codes "callback", codes "is gone")
words_of (CallbackIsOther name) = (codes "callback", codes "has another script")
words_of (PluginIsGone name) = (codes "plugin", codes "is gone")
words_of (PluginIsOther name) = (codes "plugin", codes "has another load")
words_of (PluginWasNamed name) = (codes "plugin", codes "is new, and a command named it before")

unfoldable pub obstacle_text : Obstacle → List ℕ
obstacle_text o = (words_of o).0 ++ (codes " \"" ++ (name_of o ++ (codes "\" " ++ (words_of o).1)))

abbrev pub obstacle_of : Difference → Obstacle
obstacle_of (difference.CallbackIsGone name) = CallbackIsGone name.now
obstacle_of (difference.CallbackIsOther name) = CallbackIsOther name.now
obstacle_of (difference.PluginIsGone name) = PluginIsGone name.now
obstacle_of (difference.PluginIsOther name) = PluginIsOther name.now

-- it is the first difference of the kits
abbrev pub StandsAgainst : Obstacle → KitParts → KitParts → Type 0
StandsAgainst o old new = (d : Difference) × Tells d old new × (o ≡ obstacle_of d)

-- A site goes on by itself where the new kit extends the old one, and no command so far names a plugin that is new. Then nothing that came out before comes out otherwise.
pub record GoesOn (old new : KitView) (values : List Value) : Type 0 where
  pub extends : Extends old new
  pub unasked : ask_new old new values ≡ false

-- the plugin that a command activates or deactivates
abbrev pub plugin_of_command : Command → Option (List ℕ)
plugin_of_command (Insert draft) = None
plugin_of_command (Update id draft) = None
plugin_of_command (Trash id) = None
plugin_of_command (Untrash id) = None
plugin_of_command (Delete id) = None
plugin_of_command (SetOption name value) = None
plugin_of_command (Activate plugin) = Some plugin
plugin_of_command (Deactivate plugin) = Some plugin
plugin_of_command Tick = None
plugin_of_command (Profile to) = None

abbrev pub plugin_in : Value → Option (List ℕ)
plugin_in (Noop at) = None
plugin_in (Cmd c) = plugin_of_command c.command

-- the first of these values that names a plugin that is new names this one
abbrev pub NamesFirst : KitView → KitView → List Value → List ℕ → Type 0
NamesFirst old new values name = (front : List Value) × (value : Value) × (behind : List Value) × (values ≡ front ++ value ∷ behind) × (ask_new old new front ≡ false) × (asks_new old new value ≡ true) × (plugin_in value ≡ Some name)

-- ---- which outcomes come out otherwise

abbrev pub same_outcome : Outcome → Outcome → Bool
same_outcome (Done m) (Done n) = m == n
same_outcome (Refused m) (Refused n) = m == n
same_outcome (Done m) (Refused n) = false
same_outcome (Refused m) (Done n) = false

-- a command whose token is new: its outcome is the one that is kept
abbrev pub otherwise_at : SiteView → Value → Outcome → Outcome → List Otherwise
otherwise_at site (Noop at) before after = []
otherwise_at site (Cmd c) before after =
    cond (is_some (outcome_of c.token site.outcomes)) [] (cond (same_outcome before after) [] (record { token = c.token; before = before; after = after } ∷ []))

-- of each value in turn, over two kits from two sites
abbrev pub otherwises : KitView → KitView → SiteView → SiteView → List Value → List Otherwise
otherwises old new before after [] = []
otherwises old new before after (value ∷ values) =
    let was = applied old before value in
    let is = applied new after value in
    otherwise_at before value was.1 is.1 ++ otherwises old new was.0 is.0 values

abbrev pub all_otherwise : KitView → KitView → List Value → List Otherwise
all_otherwise old new values = otherwises old new no_site no_site values

-- how many of them are told
abbrev pub most_told : ℕ
most_told = 20

-- ---- in words

abbrev pub outcome_text : Outcome → List ℕ
outcome_text (Done id) = codes "{\"done\":" ++ (decimal id ++ codes "}")
outcome_text (Refused number) = codes "{\"refused\":" ++ (decimal number ++ codes "}")

unfoldable pub otherwise_line : Otherwise → List ℕ
otherwise_line o =
    codes "press: " ++ (o.token.editor ++ (codes "/" ++ (decimal o.token.seq ++ (codes " was " ++ (outcome_text o.before ++ (codes ", is " ++ (outcome_text o.after ++ codes "\n")))))))

abbrev pub otherwise_lines : List Otherwise → List ℕ
otherwise_lines [] = []
otherwise_lines (o ∷ os) = otherwise_line o ++ otherwise_lines os

unfoldable pub count_line : ℕ → List ℕ
count_line count = codes "press: over the new kit " ++ (decimal count ++ codes " outcomes come out otherwise\n")

-- what was found, in words
abbrev pub told_lines : Compared → List ℕ
told_lines compared = otherwise_lines compared.first.items ++ count_line compared.count
