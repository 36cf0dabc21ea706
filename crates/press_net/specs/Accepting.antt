-- What an accept that gave no connection says, by the number of its error (accept(2); the numbers
-- are Linux's).
use Rattle.std.specs.Prelude.{ℤ, pos, Bool, ◌||◌, Option, Some, None, if◌then◌else◌}
use Rattle.std.specs.Ordering.{int_eq}
use Rattle.press_net.specs.declared.server.Miss.{Miss}
use Rattle.press_net.specs.declared.server.Miss.TheVariants.{NobodyWaits, WaitsOn, IsLost}

-- there is no memory, no descriptor of the process or of the machine, or no buffer
abbrev pub is_wanting : ℤ → Bool
is_wanting code = int_eq code (pos 12) || int_eq code (pos 23) || int_eq code (pos 24) || int_eq code (pos 105)

-- nobody waits (EAGAIN), who waits first waits on, or that one alone is lost
abbrev pub miss_of : Option ℤ → Miss
miss_of None = IsLost
miss_of (Some code) = if int_eq code (pos 11) then NobodyWaits else if is_wanting code then WaitsOn else IsLost
