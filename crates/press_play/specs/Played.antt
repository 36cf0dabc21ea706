-- What a play file comes to: the lines of its commands, applied in turn to the site with its active
-- plugins, then those of its pages of the site after them, then those of its plays on a fresh boot
-- of that site; or its fault (own).
use Rattle.std.specs.Prelude.{◌≡◌, ℕ, List, ◌++◌, map, Option, Some, None, Result, Ok, Err}
use Rattle.press_callbacks.specs.declared.kit_fault.KitFault.{KitFault}
use Rattle.press_callbacks.specs.Kits.{Scripts, KitView, view_of, kit_fault}
use Rattle.press_site.specs.SiteView.{SiteView}
use Rattle.press_run.specs.Boot.{boot_with}
use Rattle.press_run.specs.Outcome.{state_at_start}
use Rattle.press_kit.specs.declared.place.Place.{Place}
use Rattle.press_kit.specs.declared.kit_parts.Scripted.{Scripted}
use Rattle.press_kit.specs.declared.play_file.Play.{Play}
use Rattle.press_kit.specs.declared.play_file.PlayFile.{PlayFile}
use Rattle.press_kit.specs.PlayFile.{play_file_in}
use Rattle.press_play.specs.declared.fault.PlayFault.{PlayFault}
use Rattle.press_play.specs.declared.fault.PlayFault.TheVariants.{NoMemory, ReadFault, TwoNames, UnknownCallback, BadLoad, BadKitFile}
use Rattle.press_play.specs.Faults.{of_kit}
use Rattle.press_apply.specs.declared.command.Stamped.{Stamped}
use Rattle.press_play.specs.Commands.{outcome_lines, site_after}
use Rattle.press_page.specs.declared.reply.Target.{Target}
use Rattle.press_play.specs.Lines.{lines}
use Rattle.press_play.specs.Pages.{page_lines}
use Rattle.press_play.specs.Sites.{site_with}

abbrev pub scripts_of : List Scripted → Scripts
scripts_of callbacks = map (λ c. (c.id, c.script)) callbacks

-- the lines on a kit and a site, over a boot of its own
abbrev pub lines_on : KitView → SiteView → List Play → List ℕ
lines_on kit site plays = lines kit.scripts plays (state_at_start (boot_with kit.plugins site.active) site)

-- what is shown of a site: its pages, and plays
abbrev pub shown_lines : KitView → SiteView → List Target → List Play → List ℕ
shown_lines kit site pages plays = page_lines kit site pages ++ lines_on kit site plays

abbrev pub all_lines : KitView → SiteView → List Stamped → List Target → List Play → List ℕ
all_lines kit site commands pages plays = outcome_lines kit commands site ++ shown_lines kit (site_after kit commands site) pages plays

abbrev pub unless : Option KitFault → List ℕ → Result (List ℕ) PlayFault
unless None lines = Ok lines
unless (Some fault) lines = Err (of_kit fault)

abbrev pub lines_of_file : PlayFile → Result (List ℕ) PlayFault
lines_of_file f = unless (kit_fault (scripts_of f.kit.callbacks) f.kit.plugins) (all_lines (view_of (scripts_of f.kit.callbacks) f.kit.plugins) (site_with f.active) f.commands f.pages f.plays)

abbrev pub played_where : Result PlayFile Place → Result (List ℕ) PlayFault
played_where (Err place) = Err (BadKitFile place)
played_where (Ok f) = lines_of_file f

abbrev pub played_in : List ℕ → Result (List ℕ) PlayFault
played_in bytes = played_where (play_file_in bytes)

-- ---- what a fault of a reader of play files says

-- a fault is told only where it is met; a read may fail and memory run out at any time
abbrev pub Refuses : {Y : Type 0} → PlayFault → Result Y PlayFault → Type 0
Refuses NoMemory found = Unit {0}
Refuses ReadFault found = Unit {0}
Refuses TwoNames found = found ≡ Err TwoNames
Refuses UnknownCallback found = found ≡ Err UnknownCallback
Refuses BadLoad found = found ≡ Err BadLoad
Refuses (BadKitFile place) found = found ≡ Err (BadKitFile place)

-- a play file, seen with the faults of a play
abbrev pub file_where : Result PlayFile Place → Result PlayFile PlayFault
file_where (Err place) = Err (BadKitFile place)
file_where (Ok f) = Ok f
