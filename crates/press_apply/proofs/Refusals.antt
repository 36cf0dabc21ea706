-- A step's refusal is that of all the work.
use Rattle.std.proofs.Common.{◌≡◌, ◌≢◌, refl, sym, ap, ◌∙◌, subst, true, ℕ, Result, Ok, Err, MatchResult, IsErrAnd}
use Rattle.press_run.specs.Run.{State}
use Rattle.press_site.specs.Becomes as change
use Rattle.press_site.specs.declared.changed.Changed.{Changed}
use Rattle.press_site.specs.declared.fault.SiteFault.{SiteFault}
use Rattle.press_site.specs.declared.fault.SiteFault.TheVariants as site
use Rattle.press_site.specs.Open.{Open, site_at_start}
use Rattle.press_site.specs.SiteView.{SiteView}
use Rattle.press_apply.specs.declared.fault.ApplyFault.{ApplyFault}
use Rattle.press_apply.specs.declared.fault.ApplyFault.TheVariants.{NoMemory, Limit, NoSuchPlugin, Site}
use Rattle.press_apply.specs.Apply.{◌>>=◌, work_without_boot, with_effect, no_id, site_of}
use Rattle.press_apply.specs.Faults.{of_site}
use Rattle.press_apply.specs.declared.work.Work.{Work}
use Rattle.press_apply.specs.declared.work.Worked.{Worked}
use Rattle.press_apply.specs.Works.{GoesBack, Refuses, Steps, TellsItsLimit, TellsLimits, Works, end_work, state_in}

pub handed_on : {A B : Type 0} (f : ApplyFault) (m : Result A ApplyFault) (rest : A → Result B ApplyFault) → Refuses f m → Refuses f (m >>= rest)
handed_on NoMemory m rest h = tt
handed_on Limit m rest h = ap (λ x. x >>= rest) h
handed_on NoSuchPlugin m rest h = ap (λ x. x >>= rest) h
handed_on (Site f) m rest h = ap (λ x. x >>= rest) h

pub no_id_refused : (f : ApplyFault) (m : Result State ApplyFault) → Refuses f m → Refuses f (no_id m)
no_id_refused NoMemory m h = tt
no_id_refused Limit m h = ap no_id h
no_id_refused NoSuchPlugin m h = ap no_id h
no_id_refused (Site f) m h = ap no_id h

pub site_refused : (f : SiteFault) (s : State) (m : Result (SiteView × Changed) SiteFault) → change.Refuses f m → Refuses (of_site f) (with_effect s m)
site_refused site.NoMemory s m h = tt
site_refused site.TooLong s m h = ap (with_effect s) h
site_refused site.NoSuchPost s m h = ap (with_effect s) h
site_refused site.NotTrashed s m h = ap (with_effect s) h
site_refused site.IsTrashed s m h = ap (with_effect s) h
site_refused site.TooManyPosts s m h = ap (with_effect s) h
site_refused site.TooManyEvents s m h = ap (with_effect s) h
site_refused site.AlreadyActive s m h = ap (with_effect s) h
site_refused site.NotActive s m h = ap (with_effect s) h
site_refused site.TooManyOptions s m h = ap (with_effect s) h
site_refused site.BadProfile s m h = ap (with_effect s) h

pub without_boot_refused : (f : SiteFault) (m : Result (SiteView × Changed) SiteFault) → change.Refuses f m → Refuses (of_site f) (work_without_boot m)
without_boot_refused site.NoMemory m h = tt
without_boot_refused site.TooLong m h = ap work_without_boot h
without_boot_refused site.NoSuchPost m h = ap work_without_boot h
without_boot_refused site.NotTrashed m h = ap work_without_boot h
without_boot_refused site.IsTrashed m h = ap work_without_boot h
without_boot_refused site.TooManyPosts m h = ap work_without_boot h
without_boot_refused site.TooManyEvents m h = ap work_without_boot h
without_boot_refused site.AlreadyActive m h = ap work_without_boot h
without_boot_refused site.NotActive m h = ap work_without_boot h
without_boot_refused site.TooManyOptions m h = ap work_without_boot h
without_boot_refused site.BadProfile m h = ap work_without_boot h

-- ---- a boot, and then the work

boot_refused : (f : ApplyFault) (m : Result State ApplyFault) (rest : State → Result (State × ℕ) ApplyFault) → Refuses f m → Refuses f (site_of (m >>= rest))
boot_refused NoMemory m rest h = tt
boot_refused Limit m rest h = ap (λ x. site_of (x >>= rest)) h
boot_refused NoSuchPlugin m rest h = ap (λ x. site_of (x >>= rest)) h
boot_refused (Site f) m rest h = ap (λ x. site_of (x >>= rest)) h

stopped_by : (m : Result State ApplyFault) (rest : State → Result (State × ℕ) ApplyFault) (site : SiteView) (id : Result ℕ ApplyFault) → IsErrAnd id (λ f. Refuses f m) → MatchResult id (λ n. site_of (m >>= rest) ≡ Ok (site, n)) (λ f. Refuses f (site_of (m >>= rest)))
stopped_by m rest site (Ok n) h = absurd h
stopped_by m rest site (Err f) h = boot_refused f m rest h

pub boot_stopped : (m : Result State ApplyFault) (rest : State → Result (State × ℕ) ApplyFault) (old : Open) (stopped : Worked) → IsErrAnd stopped.id (λ f. Refuses f m) → site_at_start stopped.site ≡ site_at_start old → Works (site_of (m >>= rest)) old stopped
boot_stopped m rest old stopped h b = (stopped_by m rest stopped.site.site stopped.id h, b)

pub work_refused : (f : ApplyFault) (m : Result State ApplyFault) (rest : State → Result (State × ℕ) ApplyFault) (s : State) → m ≡ Ok s → Refuses f (rest s) → Refuses f (site_of (m >>= rest))
work_refused NoMemory m rest s e h = tt
work_refused Limit m rest s e h = ap (λ x. site_of (x >>= rest)) e ∙ ap site_of h
work_refused NoSuchPlugin m rest s e h = ap (λ x. site_of (x >>= rest)) e ∙ ap site_of h
work_refused (Site f) m rest s e h = ap (λ x. site_of (x >>= rest)) e ∙ ap site_of h

pub work_done : (m : Result State ApplyFault) (rest : State → Result (State × ℕ) ApplyFault) (s s' : State) (id : ℕ) → m ≡ Ok s → rest s ≡ Ok (s', id) → site_of (m >>= rest) ≡ Ok (s'.site, id)
work_done m rest s s' id e h = ap (λ x. site_of (x >>= rest)) e ∙ ap site_of h

pub work_ended : (m : Result State ApplyFault) (rest : State → Result (State × ℕ) ApplyFault) (site : Open) (old new : Work) (id : Result ℕ ApplyFault) (result : Worked) → m ≡ Ok (state_in old) → site_at_start old.machine.site ≡ site_at_start site → Steps (λ s n. (s, n)) (rest (state_in old)) new id → GoesBack old new → result ≡ end_work new id → Works (site_of (m >>= rest)) site result
work_ended m rest site old new (Ok n) result b k h g e = subst (λ (r : Worked). Works (site_of (m >>= rest)) site r) (sym e) (work_done m rest (state_in old) (state_in new) n b h, g ∙ k)
work_ended m rest site old new (Err fault) result b k h g e = subst (λ (r : Worked). Works (site_of (m >>= rest)) site r) (sym e) (work_refused fault m rest (state_in old) b h, g ∙ k)

pub tells_its_limit : (id : Result ℕ ApplyFault) (old new : Work) (result : Worked) → old.machine.met_limit ≢ true → TellsLimits id old new → result ≡ end_work new id → TellsItsLimit result
tells_its_limit id old new result none tells e = subst TellsItsLimit (sym e) (λ untold met. none (tells untold met))

pub refused_is : {A : Type 0} (f : ApplyFault) (m : Result A ApplyFault) → (f ≡ NoMemory → ⊥) → Refuses f m → m ≡ Err f
refused_is NoMemory m own h = absurd (own refl)
refused_is Limit m own h = h
refused_is NoSuchPlugin m own h = h
refused_is (Site f) m own h = h
