-- Values applied to a site as they were before a site had a profile: their callbacks come to what they came to then. What is the same is told by the words
-- of Apply, over a meaning of callbacks.
use Rattle.std.specs.Prelude.{◌≡◌, ℕ, List, [], ◌∷◌, Option, Some, None, Result, Err, ⊤}
use Rattle.press_callbacks.specs.Kits.{KitView}
use Rattle.press_site.specs.declared.effect.Effect.TheVariants as effect
use Rattle.press_site.specs.declared.fault.SiteFault.TheVariants.{BadProfile}
use Rattle.press_site.specs.declared.token.Outcome.{Outcome}
use Rattle.press_site.specs.declared.token.Outcome.TheVariants.{Done}
use Rattle.press_site.specs.Effects.{effect_on, no_site}
use Rattle.press_site.specs.Outcomes.{outcome_of}
use Rattle.press_site.specs.SiteView.{SiteView}
use Rattle.press_run.specs.Earlier as runs
use Rattle.press_run.specs.Run.{Meaning, State}
use Rattle.press_apply.specs.declared.command.Command.{Command}
use Rattle.press_apply.specs.declared.command.Command.TheVariants.{Insert, Update, Trash, Untrash, Delete, SetOption, Activate, Deactivate, Tick, Profile}
use Rattle.press_apply.specs.declared.command.Stamped.{Stamped}
use Rattle.press_apply.specs.declared.fault.ApplyFault.{ApplyFault}
use Rattle.press_apply.specs.declared.fault.ApplyFault.TheVariants.{Site}
use Rattle.press_apply.specs.declared.kind.CommandKind.TheVariants as kind
use Rattle.press_apply.specs.declared.value.Value.{Value}
use Rattle.press_apply.specs.declared.value.Value.TheVariants.{Noop, Cmd}
use Rattle.press_apply.specs.Apply.{◌>>=◌, at_moment, boots, delete_work, does, insert_work, keep_outcome, site_of, tick_work, trash_work, untrash_work, update_work}
use Rattle.press_apply.specs.Apply as now
use Rattle.press_apply.specs.Kinds.{kind_of_command}

-- what the callbacks of a kit came to
abbrev pub callbacks_on : KitView → Meaning
callbacks_on kit = runs.callbacks_of effect_on kit.scripts

-- work after a boot by these callbacks
abbrev pub work_after_boot : KitView → SiteView → (State → Result (State × ℕ) ApplyFault) → Result (SiteView × ℕ) ApplyFault
work_after_boot kit site work = site_of (boots (callbacks_on kit) kit site >>= work)

-- the work of each command; a change of the plugins runs no callback (there was no switch of profile: here it is refused)
abbrev pub work_of : KitView → SiteView → Command → Result (SiteView × ℕ) ApplyFault
work_of kit s (Insert draft) = work_after_boot kit s (insert_work (callbacks_on kit) draft)
work_of kit s (Update id draft) = work_after_boot kit s (update_work (callbacks_on kit) id draft)
work_of kit s (Trash id) = work_after_boot kit s (trash_work (callbacks_on kit) id)
work_of kit s (Untrash id) = work_after_boot kit s (untrash_work (callbacks_on kit) id)
work_of kit s (Delete id) = work_after_boot kit s (delete_work (callbacks_on kit) id)
work_of kit s (SetOption name value) = work_after_boot kit s (does (callbacks_on kit) (effect.SetOption name value))
work_of kit s (Activate plugin) = now.work_of kit s (Activate plugin)
work_of kit s (Deactivate plugin) = now.work_of kit s (Deactivate plugin)
work_of kit s Tick = work_after_boot kit s (tick_work (callbacks_on kit))
work_of kit s (Profile to) = Err (Site BadProfile)

-- by what became of the token before
abbrev pub applied_where : KitView → SiteView → Stamped → Option Outcome → SiteView × Outcome
applied_where kit s c (Some outcome) = (s, outcome)
applied_where kit s c None = keep_outcome s c.token (work_of kit s c.command)

-- one value
abbrev pub applied : KitView → SiteView → Value → SiteView × Outcome
applied kit s (Noop at) = (at_moment at s, Done 0)
applied kit s (Cmd c) = applied_where kit (at_moment c.at s) c (outcome_of c.token s.outcomes)

-- Fold: values in their order
abbrev pub fold_values : KitView → SiteView → List Value → SiteView
fold_values kit s [] = s
fold_values kit s (v ∷ vs) = fold_values kit (applied kit s v).0 vs

-- the site that they make
abbrev pub site_after : KitView → List Value → SiteView
site_after kit values = fold_values kit no_site values

-- ---- which values leave a site in its profile

-- the value is a command that switches the profile
abbrev pub IsSwitch : Value → Type 0
IsSwitch (Noop at) = ⊥
IsSwitch (Cmd c) = kind_of_command c.command ≡ kind.Profile

-- none of the values switches the profile
abbrev pub HasNoSwitch : List Value → Type 0
HasNoSwitch [] = ⊤
HasNoSwitch (v ∷ vs) = (IsSwitch v → ⊥) × HasNoSwitch vs
