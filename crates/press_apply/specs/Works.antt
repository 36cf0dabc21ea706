-- What the steps of a command's work answer: an Ok is the meaning, with the state after it; a refusal is returned only where the meaning has it; and after each
-- of them the site can go back to what it was begun as.
use Rattle.std.specs.Prelude.{◌≡◌, ◌≢◌, ℕ, ⊤, Bool, true, false, Some, IfSome, Result, Ok, Err, MatchResult, IsErr, IsErrAnd, IsOk}
use Rattle.std.specs.declared.alloc.AllocError.{AllocError}
use Rattle.press_callbacks.specs.Kits.{KitView, kit_view}
use Rattle.press_callbacks.specs.declared.kit.Kit.{Kit}
use Rattle.press_run.specs.Outcome.{state_of}
use Rattle.press_run.specs.Run.{Meaning, State}
use Rattle.press_run.specs.Standing.{machine_view}
use Rattle.press_site.specs.declared.token.Outcome.{Outcome}
use Rattle.press_site.specs.declared.token.Outcome.TheVariants.{Done, Refused}
use Rattle.press_site.specs.Open.{Open, site_at_start}
use Rattle.press_site.specs.Outcomes.{outcome_of}
use Rattle.press_site.specs.SiteView.{SiteView}
use Rattle.press_apply.specs.Apply.{callbacks_on, work_of}
use Rattle.press_apply.specs.declared.command.Command.{Command}
use Rattle.press_apply.specs.declared.command.Command.TheVariants.{Insert, Update, Trash, Untrash, Delete, SetOption, Activate, Deactivate, Tick, Profile}
use Rattle.press_apply.specs.declared.fault.ApplyFault.{ApplyFault}
use Rattle.press_apply.specs.declared.fault.ApplyFault.TheVariants.{NoMemory, Limit, NoSuchPlugin, Site}
use Rattle.press_apply.specs.declared.value.Value.{Value}
use Rattle.press_apply.specs.declared.value.Value.TheVariants.{Noop, Cmd}
use Rattle.press_apply.specs.declared.work.Work.{Work}
use Rattle.press_apply.specs.declared.work.Worked.{Worked}
use Rattle.press_apply.specs.Faults.{apply_fault_number}

-- what a command's work is at
abbrev pub state_in : Work → State
state_in w = state_of (machine_view (λ o. o.site) (λ o. Some (site_at_start o)) w.machine)

-- what a kit's callbacks come to
abbrev pub meaning_in : {t : _} {F : _} {g : _} → Kit t F g → Meaning
meaning_in kit = callbacks_on (kit_view kit)

-- a refusal is the meaning's own; out of memory says nothing
abbrev pub Refuses : {A : Type 0} → ApplyFault → Result A ApplyFault → Type 0
Refuses NoMemory meant = Unit {0}
Refuses Limit meant = meant ≡ Err Limit
Refuses NoSuchPlugin meant = meant ≡ Err NoSuchPlugin
Refuses (Site fault) meant = meant ≡ Err (Site fault)

-- a boot on an open site, which a refusal hands back
abbrev pub Boots : Result State ApplyFault → Open → Result Work Worked → Type 0
Boots meant old result = MatchResult result (λ work. (meant ≡ Ok (state_in work)) × (site_at_start work.machine.site ≡ site_at_start old)) (λ stopped. IsErrAnd stopped.id (λ fault. Refuses fault meant) × (site_at_start stopped.site ≡ site_at_start old))

-- what a step shows of the state after it and of its answer
abbrev pub Steps : {A M : Type 0} → (State → A → M) → Result M ApplyFault → Work → Result A ApplyFault → Type 0
Steps shows meant new result = MatchResult result (λ x. meant ≡ Ok (shows (state_in new) x)) (λ fault. Refuses fault meant)

-- out of memory comes only behind what has to be passed
abbrev pub GrowsBehind : {A B E : Type 0} → Result A ApplyFault → Result B E → Type 0
GrowsBehind result needed = result ≡ Err NoMemory → IsOk needed

-- whether a limit is told
abbrev pub is_limit : {A : Type 0} → Result A ApplyFault → Bool
is_limit (Ok x) = false
is_limit (Err NoMemory) = false
is_limit (Err Limit) = true
is_limit (Err NoSuchPlugin) = false
is_limit (Err (Site fault)) = false

-- where it tells no limit, none was met since
abbrev pub TellsLimits : {A : Type 0} → Result A ApplyFault → Work → Work → Type 0
TellsLimits result old new = is_limit result ≡ false → new.machine.met_limit ≡ true → old.machine.met_limit ≡ true

-- what it leaves of the site
abbrev pub GoesBack : Work → Work → Type 0
GoesBack old new = site_at_start new.machine.site ≡ site_at_start old.machine.site

-- the site after the whole work, and the id of the post that it is about, or 0
abbrev pub Works : Result (SiteView × ℕ) ApplyFault → Open → Worked → Type 0
Works meant old worked = MatchResult worked.id (λ id. meant ≡ Ok (worked.site.site, id)) (λ fault. Refuses fault meant) × (site_at_start worked.site ≡ site_at_start old)

-- work that has ended with this
abbrev pub end_work : Work → Result ℕ ApplyFault → Worked
end_work w id = record { site = w.machine.site; id = id; met_limit = w.machine.met_limit }

-- where the whole work tells no limit, none was met
abbrev pub TellsItsLimit : Worked → Type 0
TellsItsLimit worked = is_limit worked.id ≡ false → worked.met_limit ≢ true

-- its outcome; out of memory is none
abbrev pub IsOutcome : Result ℕ ApplyFault → Result Outcome AllocError → Type 0
IsOutcome (Ok id) result = result ≡ Ok (Done id)
IsOutcome (Err NoMemory) result = IsErr result
IsOutcome (Err Limit) result = result ≡ Ok (Refused (apply_fault_number Limit))
IsOutcome (Err NoSuchPlugin) result = result ≡ Ok (Refused (apply_fault_number NoSuchPlugin))
IsOutcome (Err (Site fault)) result = result ≡ Ok (Refused (apply_fault_number (Site fault)))

-- which commands may take memory: all that boot, and of plugins those that aren't refused; no switch of profile does
abbrev pub TakesMemory : KitView → SiteView → Command → Type 0
TakesMemory kit s (Insert draft) = ⊤
TakesMemory kit s (Update id draft) = ⊤
TakesMemory kit s (Trash id) = ⊤
TakesMemory kit s (Untrash id) = ⊤
TakesMemory kit s (Delete id) = ⊤
TakesMemory kit s (SetOption name value) = ⊤
TakesMemory kit s (Activate plugin) = IsOk (work_of kit s (Activate plugin))
TakesMemory kit s (Deactivate plugin) = IsOk (work_of kit s (Deactivate plugin))
TakesMemory kit s Tick = ⊤
TakesMemory kit s (Profile to) = ⊥

-- a noop and a known token take no memory
abbrev pub TakesNone : Value → SiteView → Result Outcome AllocError → Type 0
TakesNone (Noop at) s result = result ≡ Ok (Done 0)
TakesNone (Cmd c) s result = IfSome (outcome_of c.token s.outcomes) (λ outcome. result ≡ Ok outcome)
