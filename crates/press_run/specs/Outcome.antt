-- What the machine's calls say of the meaning: an Ok is its answer, Limit is returned only where there is none, and out of memory may come at any time.
use Rattle.std.specs.Prelude.{◌≡◌, ℕ, ◌+◌, List, [], ◌∷◌, ◌++◌, Option, Some, None, IsSome, Result, Ok, Err, MatchResult, Bool, true, false, ltb}
use Rattle.press_text.specs.Gives.{GivesOrStays}
use Rattle.press_hooks.specs.declared.open_run.OpenRun.{OpenRun}
use Rattle.press_hooks.specs.NextEntry.{Table, new_run}
use Rattle.press_scan.specs.declared.tag_row.TagRow.{TagRow}
use Rattle.press_callbacks.specs.declared.tables.Tables.{Tables}
use Rattle.press_run.specs.declared.run_fault.RunFault.{RunFault}
use Rattle.press_run.specs.declared.run_fault.RunFault.TheVariants.{Limit, NoMemory}
use Rattle.press_run.specs.Boot.{LoadedTables}
use Rattle.press_run.specs.Counts.{Counts}
use Rattle.press_run.specs.Links.{Changes}
use Rattle.press_site.specs.SiteView.{SiteView}
use Rattle.press_run.specs.declared.job.Job.{Job}
use Rattle.press_run.specs.declared.job.Job.TheVariants.{Fires, Apply}
use Rattle.press_run.specs.Run.{Answer, answer, State, within, do_fires, apply_hook, callbacks_of, most_turns}
use Rattle.press_callbacks.specs.Kits.{Scripts}
use Rattle.std.specs.Prelude.{String, string_bytes}

-- the tables, the counts, a site, that site where it is only read, and an output
pub record Machine : Type 0 where
  pub hooks : Table
  pub tags : List TagRow
  pub counts : Counts
  pub site : SiteView
  pub fixed : Option SiteView
  pub output : List ℕ

abbrev pub machine : Tables → Counts → SiteView → Option SiteView → List ℕ → Machine
machine tables counts site fixed output = record { hooks = tables.hooks; tags = tables.tags; counts = counts; site = site; fixed = fixed; output = output }

abbrev pub state_of : Machine → State
state_of w = record { rows = w.hooks.rows; tags = w.tags; did = w.counts.did; doing = w.counts.doing; turns = w.counts.turns; output = w.output; site = w.site }

-- what stands round a run: the open runs, the stack of running hooks, and a site that is only read
pub record Around : Type 0 where
  pub open_runs : List OpenRun
  pub doing : List (List ℕ)
  pub fixed : Option SiteView

abbrev pub around : Machine → Around
around w = record { open_runs = w.hooks.open_runs; doing = w.counts.doing; fixed = w.fixed }

-- what a fault says of a meaning: Limit is returned only where there is none, and out of memory says nothing
abbrev pub Refuses : {A : Type 0} → RunFault → Option A → Type 0
Refuses Limit meaning = meaning ≡ None
Refuses NoMemory meaning = Unit {0}

-- the text is that of the meaning, and what stood round it stands as before
abbrev pub GivesText : Option Answer → Around → Machine → Result (List ℕ) RunFault → Type 0
GivesText meaning before after result = MatchResult result (λ text. (meaning ≡ answer text (state_of after)) × (around after ≡ before)) (λ fault. Refuses fault meaning)

-- the innermost open run
abbrev pub innermost : List OpenRun → OpenRun
innermost [] = new_run []
innermost (r ∷ rs) = r

-- a text is put at the end of an output where that stays within the bytes; out of memory comes only there
abbrev pub RefusesText : RunFault → Option (List ℕ) → Type 0
RefusesText Limit put = put ≡ None
RefusesText NoMemory put = IsSome put

abbrev pub Pushes : List ℕ → List ℕ → List ℕ → Result Unit RunFault → Type 0
Pushes old text new result = GivesOrStays RefusesText (λ _. Some new) result (within (old ++ text)) old new

-- what a job comes to
abbrev pub job_meaning : Changes → Scripts → Job → State → Option Answer
job_meaning changes scripts (Fires fires) s = do_fires (callbacks_of changes scripts) fires s
job_meaning changes scripts (Apply hook args) s = apply_hook (callbacks_of changes scripts) hook args s

-- `GivesText` at a string
abbrev pub GivesJob : {A : Type 0} → Option Answer → Around → Machine → Result (String A) RunFault → Type 0
GivesJob meaning before after result =
    MatchResult result (λ text. (meaning ≡ answer (string_bytes text) (state_of after)) × (around after ≡ before)) (λ fault. Refuses fault meaning)

-- whether a run was ended by a limit
abbrev pub is_limit : {A : Type 0} → Result A RunFault → Bool
is_limit (Ok given) = false
is_limit (Err Limit) = true
is_limit (Err NoMemory) = false

-- whether one more turn is within the turns, which is then counted
abbrev pub CountsTurn : Counts → Counts → Bool → Type 0
CountsTurn old new true = (ltb old.turns most_turns ≡ true) × (new ≡ record old { turns = old.turns + 1 })
CountsTurn old new false = (ltb old.turns most_turns ≡ false) × (new ≡ old)

-- the rows and tags of tables
abbrev pub loaded_in : Tables → LoadedTables
loaded_in t = record { rows = t.hooks.rows; tags = t.tags }

-- these rows and tags, and no open run
abbrev pub BootsWith : LoadedTables → Tables → Type 0
BootsWith loaded t = (loaded_in t ≡ loaded) × (t.hooks.open_runs ≡ [])

-- a site's tables with nothing counted and nothing written
abbrev pub state_at_start : LoadedTables → SiteView → State
state_at_start tables site = record { rows = tables.rows; tags = tables.tags; did = []; doing = []; turns = 0; output = []; site = site }
