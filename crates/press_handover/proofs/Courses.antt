-- What comes out otherwise over many values, by what each of them makes of two sites.
use Rattle.std.proofs.Common.{◌≡◌, ◌∙◌, ◌+◌, ◌<◌, ◌≤◌, ◌^◌, Bool, true, false, cond, List, [], ◌∷◌, ◌++◌, length, length-append, sym, ap, subst, append_assoc, append-nil, arith}
use Rattle.std.specs.Prelude.{is_some}
use Rattle.press_apply.specs.Apply.{applied}
use Rattle.press_apply.specs.declared.value.Value.{Value}
use Rattle.press_apply.specs.declared.value.Value.TheVariants.{Noop, Cmd}
use Rattle.press_callbacks.specs.Kits.{KitView}
use Rattle.press_site.specs.Outcomes.{outcome_of}
use Rattle.press_site.specs.SiteView.{SiteView}
use Rattle.press_site.specs.declared.token.Outcome.{Outcome}
use Rattle.press_handover.specs.Comparing.{Course, Told, Turns}
use Rattle.press_handover.specs.Handovers.{otherwise_at, otherwises, same_outcome}
use Rattle.press_handover.specs.Voted.{Visits}
use Rattle.press_handover.specs.declared.otherwise.Otherwise.{Otherwise}

at_most_one : (known same : Bool) (o : Otherwise) → length (cond known [] (cond same [] (o ∷ []))) ≤ 1
at_most_one true same o = omega arith
at_most_one false true o = omega arith
at_most_one false false o = omega arith

one_more : (site : SiteView) (value : Value) (before after : Outcome) → length (otherwise_at site value before after) ≤ 1
one_more site (Noop at) before after = omega arith
one_more site (Cmd c) before after =
    at_most_one (is_some (outcome_of c.token site.outcomes)) (same_outcome before after) (record { token = c.token; before = before; after = after })

pub same_sites : (all : List Otherwise) (values : List Value) (old new old' new' : KitView) (before after before' after' : SiteView)
    → old' ≡ old → new' ≡ new → before' ≡ before → after' ≡ after → all ++ otherwises old' new' before' after' values ≡ all ++ otherwises old new before after values
same_sites all values old new old' new' before after before' after' o n b a =
    ap (λ (x : KitView). all ++ otherwises x new' before' after' values) o
    ∙ ap (λ (x : KitView). all ++ otherwises old x before' after' values) n
    ∙ ap (λ (x : SiteView). all ++ otherwises old new x after' values) b
    ∙ ap (λ (x : SiteView). all ++ otherwises old new before x values) a

module _ {V : Type 0} (see : V → Course) where
  abbrev pub step : V → Value → V → Type 0
  step old value new = Turns (see old) value (see new)

  pub tells : (values : List Value) (old new : V) (all : List Otherwise) → length all + length values < 2 ^ 64 → Told (see old).compared all → Visits step old values new
      → Told (see new).compared (all ++ otherwises (see old).old (see old).new (see old).before (see old).after values)
  tells [] old new all room so_far h =
      subst (λ (v : V). Told (see v).compared (all ++ [])) h (subst (λ (ys : List Otherwise). Told (see old).compared ys) (sym (append-nil all)) so_far)
  tells (x ∷ xs) old new all room so_far h =
      let was = applied (see old).old (see old).before x in
      let is = applied (see old).new (see old).after x in
      let more = otherwise_at (see old).before x was.1 is.1 in
      let few = one_more (see old).before x was.1 is.1 in
      let both = length-append all more in
      let rest = otherwises (see old).old (see old).new was.0 is.0 xs in
      let noted : Told (see h.0).compared (all ++ more) = h.1.noted all (omega arith) so_far in
      let behind = tells xs h.0 new (all ++ more) (omega arith) noted h.2 in
      let same = same_sites (all ++ more) xs (see old).old (see old).new (see h.0).old (see h.0).new was.0 is.0 (see h.0).before (see h.0).after h.1.same_old h.1.same_new h.1.before h.1.after in
      subst (λ (ys : List Otherwise). Told (see new).compared ys) (same ∙ append_assoc all more rest) behind
