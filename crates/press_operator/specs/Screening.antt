-- What a server sees of a request before its node does (own).
use Rattle.std.specs.Prelude.{◌≡◌, ◌≢◌, ◌+◌, Bool, false, bytes_eq, codes, is_some, take, min, nat_lt, List, ℕ, Option, None, Some, Result, Ok, Err}
use Rattle.press_http.specs.declared.asked.Asked.{Asked}
use Rattle.press_http.specs.declared.asked.Asked.TheVariants as asked
use Rattle.press_http.specs.declared.fault.HttpFault.{HttpFault}
use Rattle.press_http.specs.declared.fault.HttpFault.TheVariants.{NoMemory}
use Rattle.std.specs.Io.KnownBytes.{Consumes}
use Rattle.press_node.specs.Serving.{AsksFor}
use Rattle.press_operator.specs.declared.operator_options.OperatorOptions.{OperatorOptions}
use Rattle.press_operator.specs.declared.operator_options.Sort.{Sort}
use Rattle.press_operator.specs.declared.operator_options.Sort.TheVariants.{Peer, Command, Page, Other}

abbrev pub sort_named : Asked → Sort
sort_named (asked.Peer message) = Peer
sort_named (asked.Command stamped) = Command stamped.at
sort_named (asked.Page target) = Page

-- what is refused is of no sort
abbrev pub sort_by : Result Asked HttpFault → Sort
sort_by (Ok what) = sort_named what
sort_by (Err fault) = Other

-- the target is of the desk
abbrev pub is_of_desk : List ℕ → Bool
is_of_desk target = bytes_eq (take 6 target) (codes "/desk/")

-- it is the sort of what the bytes ask for, and not of want of memory
abbrev pub IsOfSort : List ℕ → Sort → Type 0
IsOfSort bytes sort =
    (seen : List ℕ) × (left : Option (List ℕ)) × Consumes (Some bytes) left seen × (meant : Result Asked HttpFault) × AsksFor seen left meant
    × (meant ≢ Err NoMemory) × (sort ≡ sort_by meant)

-- a time is more seconds ahead than an operator allows
abbrev pub is_ahead : Option ℕ → ℕ → ℕ → Bool
is_ahead None at now = false
is_ahead (Some most) at now = nat_lt (min (now + most) 18446744073709551615) at

-- there is a page for editors
abbrev pub has_page : OperatorOptions → Bool
has_page options = is_some options.editors

-- how far ahead a command may be
abbrev pub ahead_of : OperatorOptions → Option ℕ
ahead_of options = options.ahead
