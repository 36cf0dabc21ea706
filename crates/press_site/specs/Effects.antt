-- A change of a site: the site after it, and the id, whether anything changed and what is fired; or its first refusal
-- (Plugin Handbook, Posts, Cron, Activation; Options API; ids, limits, arguments and the order of refusals are own).
use Rattle.std.specs.Prelude.{ℕ, ◌+◌, length, [], List, true, false, Option, Some, None, Result, Ok, Err}
use Rattle.press_posts.specs.PostChange.Change.{Insert as PostInsert, Edit as PostEdit, Moves as PostMoves, Delete as PostDelete}
use Rattle.press_posts.specs.declared.fire.Fire.{Fire}
use Rattle.press_site.specs.declared.changed.Changed.{Changed}
use Rattle.press_site.specs.declared.effect.Effect.{Effect}
use Rattle.press_site.specs.declared.effect.Effect.TheVariants.{Insert, Edit, Move, Delete, SetOption, Schedule, Take, Activate, Deactivate, Profile}
use Rattle.press_site.specs.declared.fault.SiteFault.{SiteFault}
use Rattle.press_site.specs.Contents.{post_effect, add_event_effect, take_event_effect, no_post}
use Rattle.press_site.specs.ContentView.{ContentView}
use Rattle.press_site.specs.Options.{Values, set_option}
use Rattle.press_site.specs.Plugins.{activate_plugin, deactivate_plugin}
use Rattle.press_site.specs.Profile.{switch_profile}
use Rattle.press_site.specs.SiteView.{SiteView}

abbrev pub no_site : SiteView
no_site = record { moment = 0; profile = 1; posts = []; events = []; options = []; active = []; outcomes = [] }

-- how much a site holds
abbrev pub size : SiteView → ℕ
size s = length s.posts + (length s.events + (length s.options + (length s.active + length s.outcomes)))

abbrev pub content_of : SiteView → ContentView
content_of s = record { posts = s.posts; events = s.events }

abbrev pub with_content : SiteView → Result (ContentView × Changed) SiteFault → Result (SiteView × Changed) SiteFault
with_content s (Ok after) = Ok (record s { posts = after.0.posts; events = after.0.events }, after.1)
with_content s (Err fault) = Err fault

-- an option that has its value already changes nothing
abbrev pub option_change : Option (List Fire) → Changed
option_change None = no_post false
option_change (Some fires) = record { id = 0; did = true; fires = fires }

abbrev pub with_options : SiteView → Result (Values × Option (List Fire)) SiteFault → Result (SiteView × Changed) SiteFault
with_options s (Ok after) = Ok (record s { options = after.0 }, option_change after.1)
with_options s (Err fault) = Err fault

abbrev pub with_plugins : SiteView → Result (List (List ℕ)) SiteFault → Result (SiteView × Changed) SiteFault
with_plugins s (Ok names) = Ok (record s { active = names }, no_post true)
with_plugins s (Err fault) = Err fault

abbrev pub with_profile : SiteView → Result ℕ SiteFault → Result (SiteView × Changed) SiteFault
with_profile s (Ok profile) = Ok (record s { profile = profile }, no_post true)
with_profile s (Err fault) = Err fault

abbrev pub effect_on : SiteView → Effect → Result (SiteView × Changed) SiteFault
effect_on s (Insert draft) = with_content s (post_effect (content_of s) (PostInsert draft) s.moment)
effect_on s (Edit id draft) = with_content s (post_effect (content_of s) (PostEdit id draft) s.moment)
effect_on s (Move id to) = with_content s (post_effect (content_of s) (PostMoves id to) s.moment)
effect_on s (Delete id) = with_content s (post_effect (content_of s) (PostDelete id) s.moment)
effect_on s (SetOption name value) = with_options s (set_option name value s.options)
effect_on s (Schedule event) = with_content s (add_event_effect (content_of s) event)
effect_on s (Take event) = with_content s (Ok (take_event_effect (content_of s) event s.moment))
effect_on s (Activate plugin) = with_plugins s (activate_plugin plugin s.active)
effect_on s (Deactivate plugin) = with_plugins s (deactivate_plugin plugin s.active)
effect_on s (Profile to) = with_profile s (switch_profile to s.profile)
