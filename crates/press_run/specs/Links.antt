-- What a change of the site comes to, as a run sees it: a site's own change, or none where the site is only read (own).
use Rattle.std.specs.Prelude.{ℕ, ◌+◌, List, Bool, false, ◌||◌, ltb, length, IsTrue, Option, Some, None, option_map, Result, Ok, Err}
use Rattle.press_text.specs.Decimals.{decimal_in}
use Rattle.press_text.specs.Moments.{moment_of}
use Rattle.press_text.specs.declared.every.Every.{Every}
use Rattle.press_posts.specs.declared.post.Move.TheVariants.{PublishDue}
use Rattle.press_site.specs.declared.changed.Changed.{Changed}
use Rattle.press_site.specs.declared.effect.Effect.{Effect}
use Rattle.press_site.specs.declared.effect.Effect.TheVariants.{Move, Schedule}
use Rattle.press_site.specs.declared.fault.SiteFault.{SiteFault}
use Rattle.press_site.specs.Contents.{no_post}
use Rattle.press_site.specs.Effects.{no_site}
use Rattle.press_site.specs.SiteView.{SiteView}

abbrev pub Changes : Type 0
Changes = SiteView → Effect → Result (SiteView × Changed) SiteFault

abbrev pub no_change : Changed
no_change = no_post false

-- every change of a site that is only read is empty
abbrev pub read_only : Changes
read_only site effect = Ok (site, no_change)

-- what no change of a site touches: its moment, and what became of commands
abbrev pub unchanging_part : SiteView → SiteView
unchanging_part s = record no_site { moment = s.moment; outcomes = s.outcomes }

abbrev pub does_some : Changed → Bool
does_some c = c.did || ltb 0 (length c.fires)

-- in a run a refused change changes nothing
abbrev pub or_no_change : SiteView → Result (SiteView × Changed) SiteFault → SiteView × Changed
or_no_change site (Ok after) = after
or_no_change site (Err fault) = (site, no_change)

-- whether what is asked for changes something or fires something; what doesn't takes no memory
abbrev pub AsksSome : Changes → SiteView → Option Effect → Type 0
AsksSome changes site None = ⊥
AsksSome changes site (Some e) = IsTrue (does_some (or_no_change site (changes site e)).1)

-- publishing the post with that id in decimal, if it is future and due; a text that is no number names none
abbrev pub publishes : List ℕ → ℕ → Option Effect
publishes id now = option_map (λ n. Move n (PublishDue now)) (decimal_in id)

-- an event so many seconds from now; none past the greatest moment
abbrev pub schedules : ℕ → Every → List ℕ → List ℕ → ℕ → Option Effect
schedules after every hook arg now = option_map (λ time. Schedule (record { time = time; hook = hook; arg = arg; every = every })) (moment_of (now + after))
