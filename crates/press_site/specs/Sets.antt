-- What the setting of an option answers.
use Rattle.press_text.specs.Gives.{GivesOrStays}
use Rattle.std.specs.Prelude.{◌≡◌, ℕ, List, [], ◌∷◌, true, false, bytes_eq, Option, None, Some, Result, Ok, option_map}
use Rattle.press_posts.specs.declared.fire.Fire.{Fire}
use Rattle.press_site.specs.declared.fault.SiteFault.{SiteFault}
use Rattle.press_site.specs.declared.options.SetDone.{SetDone}
use Rattle.press_site.specs.Becomes.{Refuses}
use Rattle.press_site.specs.Options.{Values, put_back, option_update_fire}

abbrev pub Sets : Result (Option SetDone) SiteFault → Result (Values × Option (List Fire)) SiteFault → Values → Values → Type 0
Sets result meant old new = GivesOrStays Refuses (λ s. Ok (new, option_map (λ d. d.fires) s)) result meant old new

-- the options, once what stood at the name is back
abbrev pub set_back : List ℕ → Option SetDone → Values → Values
set_back name None values = values
set_back name (Some done) values = put_back name done.stood values

-- what the setting of an option that is there answers, over its value before and after
abbrev pub Changes : List ℕ → List ℕ → Option SetDone → List ℕ → List ℕ → Type 0
Changes name value None old new = (bytes_eq old value ≡ true) × (new ≡ old)
Changes name value (Some done) old new = (bytes_eq old value ≡ false) × (new ≡ value) × (done ≡ record { fires = option_update_fire name old value ∷ []; stood = Some old })
