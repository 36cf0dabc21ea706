-- What a call's result says of what the call means (own). An Ok is the meaning, as `shows` has it. A fault says what `refuses` has of it: each meaning that faults are told of has
-- such a word, mostly `Refuses`. By it a refusal is returned only where the meaning has it; a failed read says nothing, or what its word has; out of memory says nothing, or that nothing
-- is refused.
use Rattle.std.specs.Prelude.{◌≡◌, Result, MatchResult}

abbrev pub Gives : {A E M : Type 0} → (E → M → Type 0) → (A → M) → Result A E → M → Type 0
Gives refuses shows result meant = MatchResult result (λ x. meant ≡ shows x) (λ fault. refuses fault meant)

-- the same of a change, which a fault leaves undone
abbrev pub GivesOrStays : {A E M S : Type 0} → (E → M → Type 0) → (A → M) → Result A E → M → S → S → Type 0
GivesOrStays refuses shows result meant old new = MatchResult result (λ x. meant ≡ shows x) (λ fault. refuses fault meant × (new ≡ old))
