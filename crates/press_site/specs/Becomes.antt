-- What a change answers: the state after it, or its refusal, which leaves the state as it was (own).
-- Every refusal is found before anything grows: out of memory comes only where the change isn't refused.
use Rattle.press_text.specs.Gives.{GivesOrStays}
use Rattle.std.specs.Prelude.{◌≡◌, ⊤, Result, Ok, Err}
use Rattle.press_site.specs.declared.fault.SiteFault.{SiteFault}
use Rattle.press_site.specs.declared.fault.SiteFault.TheVariants.{NoMemory, TooLong, NoSuchPost, NotTrashed, IsTrashed, TooManyPosts, TooManyEvents, AlreadyActive, NotActive, TooManyOptions, BadProfile}

abbrev pub MayGrow : {A : Type 0} → Result A SiteFault → Type 0
MayGrow (Ok after) = ⊤
MayGrow (Err fault) = ⊥

abbrev pub Refuses : {A : Type 0} → SiteFault → Result A SiteFault → Type 0
Refuses NoMemory meant = MayGrow meant
Refuses TooLong meant = meant ≡ Err TooLong
Refuses NoSuchPost meant = meant ≡ Err NoSuchPost
Refuses NotTrashed meant = meant ≡ Err NotTrashed
Refuses IsTrashed meant = meant ≡ Err IsTrashed
Refuses TooManyPosts meant = meant ≡ Err TooManyPosts
Refuses TooManyEvents meant = meant ≡ Err TooManyEvents
Refuses AlreadyActive meant = meant ≡ Err AlreadyActive
Refuses NotActive meant = meant ≡ Err NotActive
Refuses TooManyOptions meant = meant ≡ Err TooManyOptions
Refuses BadProfile meant = meant ≡ Err BadProfile

-- a change that answers something beside the state
abbrev pub Becomes : {S A : Type 0} → Result A SiteFault → Result (S × A) SiteFault → S → S → Type 0
Becomes result meant old new = GivesOrStays Refuses (λ answer. Ok (new, answer)) result meant old new

-- one that answers nothing more
abbrev pub Turns : {S A : Type 0} → Result A SiteFault → Result S SiteFault → S → S → Type 0
Turns result meant old new = GivesOrStays Refuses (λ _. Ok new) result meant old new
