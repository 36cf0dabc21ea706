-- Worked rows, computed by the definitions.
use Rattle.std.specs.Prelude.{◌≡◌, refl, ℕ, List, [], ◌∷◌, true, false, Result, Ok, Err, codes}
use Rattle.press_site.specs.declared.changed.Changed.{Changed}
use Rattle.press_site.specs.declared.effect.Effect.{Effect}
use Rattle.press_site.specs.declared.effect.Effect.TheVariants.{SetOption, Activate, Deactivate, Profile}
use Rattle.press_site.specs.declared.fault.SiteFault.{SiteFault}
use Rattle.press_site.specs.declared.fault.SiteFault.TheVariants.{AlreadyActive, NotActive, BadProfile}
use Rattle.press_site.specs.Effects.{no_site, effect_on}
use Rattle.press_site.specs.SiteView.{SiteView}

abbrev site_after : Result (SiteView × Changed) SiteFault → SiteView
site_after (Ok after) = after.0
site_after (Err fault) = no_site

abbrev told : Result (SiteView × Changed) SiteFault → Result Changed SiteFault
told (Ok after) = Ok after.1
told (Err fault) = Err fault

abbrev then : SiteView → Effect → SiteView
then s effect = site_after (effect_on s effect)

-- ---- options

abbrev set_a : List ℕ → Effect
set_a value = SetOption (codes "a") value

abbrev one : SiteView
one = then no_site (set_a (codes "1"))

added : told (effect_on no_site (set_a (codes "1"))) ≡ Ok (record { id = 0; did = true; fires = record { hook = codes "add_option_a"; args = codes "a" ∷ codes "1" ∷ [] } ∷ [] })
added = refl

updated : told (effect_on one (set_a (codes "2"))) ≡ Ok (record { id = 0; did = true; fires = record { hook = codes "update_option_a"; args = codes "1" ∷ codes "2" ∷ codes "a" ∷ [] } ∷ [] })
updated = refl

equal : told (effect_on (then one (set_a (codes "2"))) (set_a (codes "2"))) ≡ Ok (record { id = 0; did = false; fires = [] })
equal = refl

-- ---- plugins

abbrev letters : SiteView
letters = then no_site (Activate (codes "letters"))

activated_twice : told (effect_on letters (Activate (codes "letters"))) ≡ Err AlreadyActive
activated_twice = refl

not_active : told (effect_on letters (Deactivate (codes "tags"))) ≡ Err NotActive
not_active = refl

by_name : (then letters (Activate (codes "a"))).active ≡ codes "a" ∷ codes "letters" ∷ []
by_name = refl

-- ---- the profile

first_again : told (effect_on no_site (Profile 1)) ≡ Err BadProfile
first_again = refl

switched_once : told (effect_on no_site (Profile 2)) ≡ Ok (record { id = 0; did = true; fires = [] })
switched_once = refl

in_second : (then no_site (Profile 2)).profile ≡ 2
in_second = refl

switched_twice : told (effect_on (then no_site (Profile 2)) (Profile 2)) ≡ Err BadProfile
switched_twice = refl

never_back : told (effect_on (then no_site (Profile 2)) (Profile 1)) ≡ Err BadProfile
never_back = refl
