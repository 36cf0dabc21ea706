-- Decimal texts: 1 to 20 digits whose value is below 2^64 (own).
use Rattle.std.specs.Prelude.{ℕ, ◌^◌, ◌&&◌, List, length, Bool, nat_lt, nat_le, Option, Some, None, if◌then◌else◌}
use Rattle.std.specs.List.{list_all}
use Rattle.std.specs.Char.{is_ascii_digit}
use Rattle.std.specs.Str.Parse.{digits_value}

abbrev pub are_digits : List ℕ → Bool
are_digits bytes = nat_lt 0 (length bytes) && nat_le (length bytes) 20 && list_all is_ascii_digit bytes

abbrev pub decimal_in : List ℕ → Option ℕ
decimal_in bytes = if are_digits bytes && nat_lt (digits_value 10 bytes) (2 ^ 64) then Some (digits_value 10 bytes) else None
