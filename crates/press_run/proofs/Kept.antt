-- No change of a site touches its moment or its outcomes.
use Rattle.std.proofs.Common.{◌≡◌, refl, sym, ap, ◌∙◌, List, ℕ, Option, Some, Result, Ok, Err}
use Rattle.press_posts.specs.declared.fire.Fire.{Fire}
use Rattle.press_site.specs.declared.changed.Changed.{Changed}
use Rattle.press_site.specs.declared.effect.Effect.{Effect}
use Rattle.press_site.specs.declared.effect.Effect.TheVariants.{Insert, Edit, Move, Delete, SetOption, Schedule, Take, Activate, Deactivate, Profile}
use Rattle.press_site.specs.declared.fault.SiteFault.{SiteFault}
use Rattle.press_site.specs.Becomes.{Becomes}
use Rattle.press_site.specs.ContentView.{ContentView}
use Rattle.press_site.specs.Contents.{take_event_effect}
use Rattle.press_site.specs.Effects.{content_of, effect_on, with_content, with_options, with_plugins, with_profile}
use Rattle.press_site.specs.Options.{Values}
use Rattle.press_site.specs.SiteView.{SiteView}
use Rattle.press_run.specs.Links.{unchanging_part}

abbrev or_site : SiteView → Result (SiteView × Changed) SiteFault → SiteView
or_site s (Ok after) = after.0
or_site s (Err fault) = s

content : (s : SiteView) (r : Result (ContentView × Changed) SiteFault) → unchanging_part (or_site s (with_content s r)) ≡ unchanging_part s
content s (Ok after) = refl
content s (Err fault) = refl

options : (s : SiteView) (r : Result (Values × Option (List Fire)) SiteFault) → unchanging_part (or_site s (with_options s r)) ≡ unchanging_part s
options s (Ok after) = refl
options s (Err fault) = refl

plugins : (s : SiteView) (r : Result (List (List ℕ)) SiteFault) → unchanging_part (or_site s (with_plugins s r)) ≡ unchanging_part s
plugins s (Ok after) = refl
plugins s (Err fault) = refl

profile : (s : SiteView) (r : Result ℕ SiteFault) → unchanging_part (or_site s (with_profile s r)) ≡ unchanging_part s
profile s (Ok to) = refl
profile s (Err fault) = refl

after_effect : (s : SiteView) (e : Effect) → unchanging_part (or_site s (effect_on s e)) ≡ unchanging_part s
after_effect s (Insert draft) = content s _
after_effect s (Edit id draft) = content s _
after_effect s (Move id to) = content s _
after_effect s (Delete id) = content s _
after_effect s (SetOption name value) = options s _
after_effect s (Schedule event) = content s _
after_effect s (Take event) = content s (Ok (take_event_effect (content_of s) event s.moment))
after_effect s (Activate plugin) = plugins s _
after_effect s (Deactivate plugin) = plugins s _
after_effect s (Profile to) = profile s _

pub becomes_kept : (result : Result Changed SiteFault) (e : Effect) (old new : SiteView) → Becomes result (effect_on old e) old new → Some (unchanging_part new) ≡ Some (unchanging_part old)
becomes_kept (Ok answer) e old new h = ap (λ x. Some (unchanging_part x)) (sym (ap (or_site old) h)) ∙ ap Some (after_effect old e)
becomes_kept (Err fault) e old new h = ap (λ x. Some (unchanging_part x)) h.1
