-- What a learner keeps, as data.
use Rattle.std.specs.Prelude.{ℕ, refl}
use Rattle.std.specs.FinMap as map
use Rattle.std.specs.FinMap.{FinMap}
use Rattle.std.specs.Coded.{Coded, code_by, coded×, coded_ℕ}
use Rattle.press_wire.specs.declared.vote.Vote.{Vote}
use Rattle.press_learner.specs.Kept.{KeptVotes, place_cmp}

abbrev pub kept_code : Coded Vote → Coded KeptVotes
kept_code vote =
    code_by (ℕ × (FinMap place_cmp Vote × ℕ))
    (coded× coded_ℕ (coded× (map.code (coded× coded_ℕ coded_ℕ) vote) coded_ℕ))
    (λ k. (k.members, (k.votes, k.applied)))
    (λ p. record { members = p.0; votes = p.1.0; applied = p.1.1 })
    (λ _. refl)
