-- The profile: the version of the rules that a site goes by. It begins with 1, and may be switched to 2, once (own).
use Rattle.std.specs.Prelude.{ℕ, ◌==◌, ◌&&◌, if◌then◌else◌, Result, Ok, Err}
use Rattle.press_site.specs.declared.fault.SiteFault.{SiteFault}
use Rattle.press_site.specs.declared.fault.SiteFault.TheVariants.{BadProfile}

-- the profile after a switch to one from another
abbrev pub switch_profile : ℕ → ℕ → Result ℕ SiteFault
switch_profile to from = if to == 2 && from == 1 then Ok 2 else Err BadProfile
