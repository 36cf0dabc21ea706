-- How many requests were answered with each status (own).
use Rattle.std.specs.Prelude.{ℕ, ◌+◌, ◌==◌, min, List, [], ◌∷◌, map, Result, Ok, Err, if◌then◌else◌}
use Rattle.press_http.specs.declared.fault.HttpFault.{HttpFault}
use Rattle.press_operator.specs.declared.counts.Count.{Count}

-- one more, or the most that 64 bits hold
abbrev pub one_more : ℕ → ℕ
one_more count = min (count + 1) 18446744073709551615

abbrev pub none_of : ℕ → Count
none_of status = record { status = status; requests = 0 }

-- the statuses with which a server answers, none of which was given yet
abbrev pub none_yet : List Count
none_yet =
    none_of 200 ∷ none_of 202 ∷ none_of 400 ∷ none_of 404 ∷ none_of 405 ∷ none_of 411 ∷ none_of 413 ∷ none_of 431 ∷ none_of 500 ∷ none_of 501 ∷ none_of 503 ∷ []

-- one more, where it is of that status
abbrev pub with_one : ℕ → Count → Count
with_one status count = if count.status == status then record count { requests = one_more count.requests } else count

-- one more of a status
abbrev pub with_count : ℕ → List Count → List Count
with_count status counts = map (with_one status) counts

-- a request that got no reply is none
abbrev pub counts_after : Result ℕ HttpFault → List Count → List Count
counts_after (Ok status) counts = with_count status counts
counts_after (Err fault) counts = counts
