-- The number that tells each refusal of a command, and which of them each fault of a run or of a change of a site is (own).
use Rattle.std.specs.Prelude.{ℕ}
use Rattle.press_run.specs.declared.run_fault.RunFault.{RunFault}
use Rattle.press_run.specs.declared.run_fault.RunFault.TheVariants as run
use Rattle.press_site.specs.declared.fault.SiteFault.{SiteFault}
use Rattle.press_site.specs.declared.fault.SiteFault.TheVariants as site
use Rattle.press_site.specs.Faults.{site_fault_number}
use Rattle.press_apply.specs.declared.fault.ApplyFault.{ApplyFault}
use Rattle.press_apply.specs.declared.fault.ApplyFault.TheVariants.{NoMemory, Limit, NoSuchPlugin, Site}

abbrev pub apply_fault_number : ApplyFault → ℕ
apply_fault_number NoMemory = 0
apply_fault_number Limit = 20
apply_fault_number NoSuchPlugin = 15
apply_fault_number (Site fault) = site_fault_number fault

abbrev pub of_run : RunFault → ApplyFault
of_run run.NoMemory = NoMemory
of_run run.Limit = Limit

abbrev pub of_site : SiteFault → ApplyFault
of_site site.NoMemory = NoMemory
of_site site.TooLong = Site site.TooLong
of_site site.NoSuchPost = Site site.NoSuchPost
of_site site.NotTrashed = Site site.NotTrashed
of_site site.IsTrashed = Site site.IsTrashed
of_site site.TooManyPosts = Site site.TooManyPosts
of_site site.TooManyEvents = Site site.TooManyEvents
of_site site.AlreadyActive = Site site.AlreadyActive
of_site site.NotActive = Site site.NotActive
of_site site.TooManyOptions = Site site.TooManyOptions
of_site site.BadProfile = Site site.BadProfile
