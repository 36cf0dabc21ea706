-- What a part of a play file answers, and what its lines then are.
use Rattle.std.proofs.Common.{◌≡◌, ap, sym, ◌∙◌, append-nil, ℕ, List, [], ◌++◌, Option, Result, Ok, Err}
use Rattle.press_callbacks.specs.declared.kit_fault.KitFault.{KitFault}
use Rattle.press_callbacks.specs.declared.kit_fault.KitFault.TheVariants as kit
use Rattle.press_callbacks.specs.declared.plugin.Plugin.{Plugin}
use Rattle.press_callbacks.specs.Kits as kits
use Rattle.press_callbacks.specs.Kits.{Scripts, kit_fault}
use Rattle.press_kit.specs.declared.kit_parts.Scripted.{Scripted}
use Rattle.press_kit.specs.declared.place.Place.{Place}
use Rattle.press_kit.specs.declared.play_file.PlayFile.{PlayFile}
use Rattle.press_play.specs.Faults.{of_kit}
use Rattle.press_play.specs.Played.{Refuses, file_where, lines_of_file, played_where, scripts_of, unless}

pub all_given : (given : Scripts) (left : List Scripted) (scripts : Scripts) → left ≡ [] → given ++ scripts_of left ≡ scripts → given ≡ scripts
all_given given left scripts none is = sym (append-nil given) ∙ ap (λ (l : List Scripted). given ++ scripts_of l) (sym none) ∙ is

pub first_refused : (fault : KitFault) (first : Option KitFault) (lines : List ℕ) → kits.Refuses fault first → Refuses (of_kit fault) (unless first lines)
first_refused kit.NoMemory first lines h = tt
first_refused kit.TwoNames first lines h = ap (λ f. unless f lines) h
first_refused kit.UnknownCallback first lines h = ap (λ f. unless f lines) h
first_refused kit.BadLoad first lines h = ap (λ f. unless f lines) h

pub kit_refused : (fault : KitFault) (given scripts : Scripts) (taken plugins : List Plugin) (lines : List ℕ) → given ≡ scripts → taken ≡ plugins
    → kits.Refuses fault (kit_fault given taken) → Refuses (of_kit fault) (unless (kit_fault scripts plugins) lines)
kit_refused fault given scripts taken plugins lines gs ps h = rw (sym gs, sym ps) (first_refused fault (kit_fault given taken) lines h)

pub file_played : (file : PlayFile) (found : Result PlayFile Place) → file_where found ≡ Ok file → played_where found ≡ lines_of_file file
file_played file (Ok f) h = cc
file_played file (Err place) h = absurd (cc)
