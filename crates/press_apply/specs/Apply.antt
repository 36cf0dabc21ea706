-- A value applied to a site. The site's moment moves on and never back. A noop does nothing more, and neither does a command whose token is known: its
-- outcome is the one that was kept. Another command does its work; refused, it leaves the site as it was; its outcome is kept under its token for good
-- (own; what the work of each command runs and fires: Plugin Handbook, Hooks and Cron; hook reference).
use Rattle.std.specs.Prelude.{ℕ, max, List, [], ◌∷◌, if◌then◌else◌, Bool, true, false, ◌||◌, Option, Some, None, Result, Ok, Err, is_some, codes, decimal}
use Rattle.press_callbacks.specs.Kits.{KitView, plugin_of}
use Rattle.press_posts.specs.declared.draft.Draft.{Draft}
use Rattle.press_posts.specs.declared.fault.PostFault.{PostFault}
use Rattle.press_posts.specs.declared.fire.Fire.{Fire}
use Rattle.press_posts.specs.declared.post.Move.{Move}
use Rattle.press_posts.specs.declared.post.Move.TheVariants as move
use Rattle.press_posts.specs.declared.post.Post.{Post}
use Rattle.press_posts.specs.declared.status.Status.{Status}
use Rattle.press_posts.specs.PostChange.{post_at, is_trash, status_after_move}
use Rattle.press_events.specs.declared.event.Event.{Event}
use Rattle.press_events.specs.DueEvents.{due}
use Rattle.press_site.specs.declared.changed.Changed.{Changed}
use Rattle.press_site.specs.declared.effect.Effect.{Effect}
use Rattle.press_site.specs.declared.effect.Effect.TheVariants as effect
use Rattle.press_site.specs.declared.fault.SiteFault.{SiteFault}
use Rattle.press_site.specs.declared.fault.SiteFault.TheVariants as refused
use Rattle.press_site.specs.declared.token.Outcome.{Outcome}
use Rattle.press_site.specs.declared.token.Outcome.TheVariants.{Done, Refused}
use Rattle.press_site.specs.declared.token.Token.{Token}
use Rattle.press_site.specs.Effects.{effect_on, no_site}
use Rattle.press_site.specs.Faults.{of_posts}
use Rattle.press_site.specs.Outcomes.{outcome_of, with_outcome}
use Rattle.press_site.specs.SiteView.{SiteView}
use Rattle.press_run.specs.Boot.{boot_actions, boot_with}
use Rattle.press_run.specs.Outcome.{state_at_start}
use Rattle.press_run.specs.Run.{Answer, Meaning, State, apply_hook, callbacks_of, do_fires}
use Rattle.press_apply.specs.declared.command.Command.{Command}
use Rattle.press_apply.specs.declared.command.Command.TheVariants.{Insert, Update, Trash, Untrash, Delete, SetOption, Activate, Deactivate, Tick, Profile}
use Rattle.press_apply.specs.declared.command.Stamped.{Stamped}
use Rattle.press_apply.specs.declared.fault.ApplyFault.{ApplyFault}
use Rattle.press_apply.specs.declared.fault.ApplyFault.TheVariants.{Limit, NoSuchPlugin, Site}
use Rattle.press_apply.specs.declared.value.Value.{Value}
use Rattle.press_apply.specs.declared.value.Value.TheVariants.{Noop, Cmd}
use Rattle.press_apply.specs.Faults.{apply_fault_number}

infixl 10 ◌>>=◌
abbrev pub ◌>>=◌ : {A B : Type 0} → Result A ApplyFault → (A → Result B ApplyFault) → Result B ApplyFault
(Ok x) >>= f = f x
(Err fault) >>= f = Err fault

-- ---- the steps of a command's work: a limit refuses the command, and so does what refuses its effect

abbrev pub or_limit : {A : Type 0} → Option A → Result A ApplyFault
or_limit None = Err Limit
or_limit (Some x) = Ok x

abbrev pub state_after : Option Answer → Option State
state_after None = None
state_after (Some a) = Some a.state

abbrev pub fires : Meaning → List Fire → State → Result State ApplyFault
fires callback fs s = or_limit (state_after (do_fires callback fs s))

abbrev pub filter_text : Meaning → List ℕ → List ℕ → State → Result Answer ApplyFault
filter_text callback hook text s = or_limit (apply_hook callback hook (text ∷ []) s)

abbrev pub with_effect : State → Result (SiteView × Changed) SiteFault → Result (State × Changed) ApplyFault
with_effect s (Ok after) = Ok (record s { site = after.0 }, after.1)
with_effect s (Err fault) = Err (Site fault)

abbrev pub changes : Effect → State → Result (State × Changed) ApplyFault
changes e s = with_effect s (effect_on s.site e)

-- a change and what it fires, with the id of the post that it is about, or 0
unfoldable pub does : Meaning → Effect → State → Result (State × ℕ) ApplyFault
does callback e s = do
  done ← changes e s
  s' ← fires callback done.1.fires done.0
  Ok (s', done.1.id)

-- an action with a post's id
abbrev pub about : List ℕ → ℕ → List Fire
about hook id = record { hook = hook; args = decimal id ∷ [] } ∷ []

-- ---- checks

abbrev pub passes : Option SiteFault → Result Unit ApplyFault
passes None = Ok tt
passes (Some fault) = Err (Site fault)

abbrev pub wanted_fault : Status → Option SiteFault
wanted_fault status = if is_trash status then Some refused.IsTrashed else None

abbrev pub update_fault : Status → Option Post → Option SiteFault
update_fault status None = Some refused.NoSuchPost
update_fault status (Some p) = if is_trash p.status || is_trash status then Some refused.IsTrashed else None

abbrev pub status_fault : Result (Option Status) PostFault → Option SiteFault
status_fault (Ok status) = None
status_fault (Err fault) = Some (of_posts fault)

abbrev pub move_fault : Move → Option Post → Option SiteFault
move_fault to None = Some refused.NoSuchPost
move_fault to (Some p) = status_fault (status_after_move to p)

abbrev pub delete_fault : Option Post → Option SiteFault
delete_fault None = Some refused.NoSuchPost
delete_fault (Some p) = if is_trash p.status then None else Some refused.NotTrashed

-- ---- the work of each command: its checks, its filters, its effect and its fires

-- the title is filtered before the content
unfoldable pub prepare_draft : Meaning → Draft → State → Result (State × Draft) ApplyFault
prepare_draft callback d s = do
  t ← filter_text callback (codes "title_save_pre") d.title s
  c ← filter_text callback (codes "content_save_pre") d.content t.state
  Ok (c.state, record d { title = t.text; content = c.text })

unfoldable pub insert_work : Meaning → Draft → State → Result (State × ℕ) ApplyFault
insert_work callback d s = do
  passed ← passes (wanted_fault d.status)
  done ← prepare_draft callback d s
  does callback (effect.Insert done.1) done.0

unfoldable pub update_work : Meaning → ℕ → Draft → State → Result (State × ℕ) ApplyFault
update_work callback id d s = do
  passed ← passes (update_fault d.status (post_at s.site.posts id))
  done ← prepare_draft callback d s
  does callback (effect.Edit id done.1) done.0

-- an action before the change, and one after its fires
unfoldable pub change_between : Meaning → List ℕ → Effect → List ℕ → ℕ → State → Result (State × ℕ) ApplyFault
change_between callback hook effect later id s = do
  begun ← fires callback (about hook id) s
  done ← does callback effect begun
  ended ← fires callback (about later id) done.0
  Ok (ended, done.1)

unfoldable pub trash_work : Meaning → ℕ → State → Result (State × ℕ) ApplyFault
trash_work callback id s = do
  passed ← passes (move_fault move.Trash (post_at s.site.posts id))
  change_between callback (codes "wp_trash_post") (effect.Move id move.Trash) (codes "trashed_post") id s

unfoldable pub untrash_work : Meaning → ℕ → State → Result (State × ℕ) ApplyFault
untrash_work callback id s = do
  passed ← passes (move_fault move.Untrash (post_at s.site.posts id))
  change_between callback (codes "untrash_post") (effect.Move id move.Untrash) (codes "untrashed_post") id s

unfoldable pub delete_work : Meaning → ℕ → State → Result (State × ℕ) ApplyFault
delete_work callback id s = do
  passed ← passes (delete_fault (post_at s.site.posts id))
  change_between callback (codes "before_delete_post") (effect.Delete id) (codes "deleted_post") id s

-- an event that is taken is done, and one that was cancelled since isn't
abbrev pub event_fires : Bool → Event → List Fire
event_fires true e = record { hook = e.hook; args = e.arg ∷ [] } ∷ []
event_fires false e = []

unfoldable pub takes : Meaning → Event → State → Result State ApplyFault
takes callback e s = do
  done ← changes (effect.Take e) s
  fires callback (event_fires done.1.did e) done.0

unfoldable pub takes_all : Meaning → List Event → State → Result State ApplyFault
takes_all callback [] s = Ok s
takes_all callback (e ∷ es) s = do
  s' ← takes callback e s
  takes_all callback es s'

abbrev pub no_id : Result State ApplyFault → Result (State × ℕ) ApplyFault
no_id (Ok s) = Ok (s, 0)
no_id (Err fault) = Err fault

-- what is due is listed once
unfoldable pub tick_work : Meaning → State → Result (State × ℕ) ApplyFault
tick_work callback s = no_id (takes_all callback (due s.site.moment s.site.events) s)

-- ---- the work with and without a boot

-- after a boot and its three actions
abbrev pub boots : Meaning → KitView → SiteView → Result State ApplyFault
boots callback kit site = fires callback boot_actions (state_at_start (boot_with kit.plugins site.active) site)

abbrev pub site_of : Result (State × ℕ) ApplyFault → Result (SiteView × ℕ) ApplyFault
site_of (Ok done) = Ok (done.0.site, done.1)
site_of (Err fault) = Err fault

abbrev pub callbacks_on : KitView → Meaning
callbacks_on kit = callbacks_of effect_on kit.scripts

abbrev pub work_after_boot : KitView → SiteView → (State → Result (State × ℕ) ApplyFault) → Result (SiteView × ℕ) ApplyFault
work_after_boot kit site work = site_of (boots (callbacks_on kit) kit site >>= work)

-- a change of the plugins and a switch of profile boot nothing and run no hook
abbrev pub work_without_boot : Result (SiteView × Changed) SiteFault → Result (SiteView × ℕ) ApplyFault
work_without_boot (Ok after) = Ok (after.0, after.1.id)
work_without_boot (Err fault) = Err (Site fault)

abbrev pub work_of : KitView → SiteView → Command → Result (SiteView × ℕ) ApplyFault
work_of kit s (Insert draft) = work_after_boot kit s (insert_work (callbacks_on kit) draft)
work_of kit s (Update id draft) = work_after_boot kit s (update_work (callbacks_on kit) id draft)
work_of kit s (Trash id) = work_after_boot kit s (trash_work (callbacks_on kit) id)
work_of kit s (Untrash id) = work_after_boot kit s (untrash_work (callbacks_on kit) id)
work_of kit s (Delete id) = work_after_boot kit s (delete_work (callbacks_on kit) id)
work_of kit s (SetOption name value) = work_after_boot kit s (does (callbacks_on kit) (effect.SetOption name value))
work_of kit s (Activate plugin) = if is_some (plugin_of plugin kit.plugins) then work_without_boot (effect_on s (effect.Activate plugin)) else Err NoSuchPlugin
work_of kit s (Deactivate plugin) = work_without_boot (effect_on s (effect.Deactivate plugin))
work_of kit s Tick = work_after_boot kit s (tick_work (callbacks_on kit))
work_of kit s (Profile to) = work_without_boot (effect_on s (effect.Profile to))

-- ---- values

abbrev pub at_moment : ℕ → SiteView → SiteView
at_moment at s = record s { moment = max s.moment at }

-- what was kept before is kept for good
abbrev pub with_kept : Token → Outcome → SiteView → SiteView → SiteView
with_kept token outcome before s = record s { outcomes = with_outcome token outcome before.outcomes }

abbrev pub keep_outcome : SiteView → Token → Result (SiteView × ℕ) ApplyFault → SiteView × Outcome
keep_outcome s token (Ok done) = (with_kept token (Done done.1) s done.0, Done done.1)
keep_outcome s token (Err fault) = (with_kept token (Refused (apply_fault_number fault)) s s, Refused (apply_fault_number fault))

-- by what became of the token before
abbrev pub applied_where : KitView → SiteView → Stamped → Option Outcome → SiteView × Outcome
applied_where kit s c (Some outcome) = (s, outcome)
applied_where kit s c None = keep_outcome s c.token (work_of kit s c.command)

abbrev pub applied : KitView → SiteView → Value → SiteView × Outcome
applied kit s (Noop at) = (at_moment at s, Done 0)
applied kit s (Cmd c) = applied_where kit (at_moment c.at s) c (outcome_of c.token s.outcomes)

-- Fold: values in their order
abbrev pub fold_values : KitView → SiteView → List Value → SiteView
fold_values kit s [] = s
fold_values kit s (v ∷ vs) = fold_values kit (applied kit s v).0 vs

abbrev pub site_after : KitView → List Value → SiteView
site_after kit values = fold_values kit no_site values
