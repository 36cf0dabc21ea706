-- Moments are whole seconds up to 2^40 (own).
use Rattle.std.specs.Prelude.{ℕ, ◌^◌, nat_le, Option, Some, None, if◌then◌else◌}

abbrev pub moment_of : ℕ → Option ℕ
moment_of seconds = if nat_le seconds (2 ^ 40) then Some seconds else None
