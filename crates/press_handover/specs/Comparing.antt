-- What a value makes of two sites of the same commands, over two kits (own).
use Rattle.std.specs.Prelude.{◌≡◌, ◌<◌, ◌+◌, ◌^◌, Bool, true, List, [], ◌∷◌, ◌++◌, cond, is_some, length, map, take}
use Rattle.press_apply.specs.Apply.{applied}
use Rattle.press_apply.specs.declared.value.Value.{Value}
use Rattle.press_apply.specs.declared.value.Value.TheVariants.{Noop, Cmd}
use Rattle.press_callbacks.specs.Kits.{KitView, kit_view, view_of}
use Rattle.press_kit.specs.declared.kit_parts.KitParts.{KitParts}
use Rattle.press_kit.specs.declared.kit_parts.Scripted.{Scripted}
use Rattle.press_site.specs.Outcomes.{outcome_of}
use Rattle.press_site.specs.SiteView.{SiteView}
use Rattle.press_site.specs.declared.token.Outcome.{Outcome}
use Rattle.press_site.specs.declared.token.Token.{Token}
use Rattle.press_handover.specs.Handovers.{most_told, otherwise_at, same_outcome}
use Rattle.press_handover.specs.declared.comparing.Compared.{Compared}
use Rattle.press_handover.specs.declared.comparing.Comparing.{Comparing}
use Rattle.press_handover.specs.declared.otherwise.Otherwise.{Otherwise}

-- the first of these, and how many there are
pub record Told (compared : Compared) (all : List Otherwise) : Type 0 where
  pub first : compared.first.items ≡ take most_told all
  pub count : compared.count ≡ length all

abbrev pub told_of : Compared → List Otherwise → Type 0
told_of compared all = Told compared all

-- the kit that is built of them
abbrev pub view_of_parts : KitParts → KitView
view_of_parts kit = view_of (map (λ (c : Scripted). (c.id, c.script)) kit.callbacks) kit.plugins

-- two sites of the same commands, and what came out otherwise, as long as it can be counted
pub record Course : Type 0 where
  pub old : KitView
  pub new : KitView
  pub before : SiteView
  pub after : SiteView
  pub compared : Compared

abbrev pub course_of : {t : _} {F : _} {g : _} → Comparing t F g → Course
course_of c = record { old = kit_view c.old.now; new = kit_view c.new.now; before = c.before; after = c.after; compared = c.compared }

-- its outcome is kept by now
abbrev pub is_known : SiteView → Value → Bool
is_known site (Noop at) = true
is_known site (Cmd c) = is_some (outcome_of c.token site.outcomes)

abbrev pub noted_of : Token → Outcome → Outcome → List Otherwise
noted_of token before after = cond (same_outcome before after) [] (record { token = token; before = before; after = after } ∷ [])

abbrev pub noted_at : Value → Outcome → Outcome → List Otherwise
noted_at (Noop at) before after = []
noted_at (Cmd c) before after = noted_of c.token before after

-- what comes out otherwise is noted
abbrev pub Adds : Compared → List Otherwise → Compared → Type 0
Adds old more new = (all : List Otherwise) → length all + length more < 2 ^ 64 → Told old all → Told new (all ++ more)

-- the value is applied to both sites
pub record Turns (old : Course) (value : Value) (new : Course) : Type 0 where
  pub same_old : new.old ≡ old.old
  pub same_new : new.new ≡ old.new
  pub before : new.before ≡ (applied old.old old.before value).0
  pub after : new.after ≡ (applied old.new old.after value).0
  pub noted : Adds old.compared (otherwise_at old.before value (applied old.old old.before value).1 (applied old.new old.after value).1) new.compared

abbrev pub Compares : {t : _} {F : _} {g : _} → Comparing t F g → Value → Comparing t F g → Type 0
Compares old value new = Turns (course_of old) value (course_of new)
