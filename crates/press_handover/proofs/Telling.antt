-- What is told of what comes out otherwise: the first of it, and how much there is.
use Rattle.std.proofs.Common.{◌≡◌, ◌∙◌, ℕ, ◌+◌, ◌<◌, ◌≤◌, ◌^◌, Bool, true, false, cond, List, [], ◌∷◌, ◌++◌, length, length-append, get_or, take, drop, refl, sym, ap, subst, append_assoc, append-nil, arith}
use Rattle.std.proofs.Math.ListN.{drop_of_length-le}
use Rattle.std.proofs.lemmas.List.{length-take, take-append-le, take_all}
use Rattle.press_apply.specs.declared.value.Value.{Value}
use Rattle.press_apply.specs.declared.value.Value.TheVariants.{Noop, Cmd}
use Rattle.press_site.specs.SiteView.{SiteView}
use Rattle.press_site.specs.declared.token.Outcome.{Outcome}
use Rattle.press_handover.specs.Comparing.{Adds, Told, is_known, noted_at}
use Rattle.press_handover.specs.Handovers.{otherwise_at, otherwise_line, otherwise_lines}
use Rattle.press_handover.specs.declared.comparing.Compared.{Compared}
use Rattle.press_handover.specs.declared.otherwise.Otherwise.{Otherwise}
use Rattle.press_handover.proofs.Pieces.{next_is}

-- nothing more is told
pub adds_none : (compared : Compared) → Adds compared [] compared
adds_none compared = λ all room told. subst (λ (ys : List Otherwise). Told compared ys) (sym (append-nil all)) told

-- one more is counted, and told where there is room
pub adds_one : (old new : Compared) (o : Otherwise) → length old.first.items < 20 → new.first.items ≡ old.first.items ++ o ∷ [] → (old.count + 1 < 2 ^ 64 → new.count ≡ old.count + 1) → Adds old (o ∷ []) new
adds_one old new o few first count = λ all room told.
    let long = ap (λ (ys : List Otherwise). length ys) told.first in
    let cut = length-take 20 all in
    let short : length all ≤ 20 = omega arith in
    let both = length-append all (o ∷ []) in
    let whole : take 20 all ≡ all = take_all 20 all short in
    let fits : length (all ++ o ∷ []) ≤ 20 = omega arith in
    let counted : old.count + 1 < 2 ^ 64 = omega (arith, told.count) in
    record {
      first = first ∙ ap (λ (ys : List Otherwise). ys ++ o ∷ []) (told.first ∙ whole) ∙ sym (take_all 20 (all ++ o ∷ []) fits);
      count = omega (arith, count counted, told.count);
    }

pub adds_past : (old new : Compared) (o : Otherwise) → 20 ≤ length old.first.items → new.first.items ≡ old.first.items → (old.count + 1 < 2 ^ 64 → new.count ≡ old.count + 1) → Adds old (o ∷ []) new
adds_past old new o full first count = λ all room told.
    let long = ap (λ (ys : List Otherwise). length ys) told.first in
    let cut = length-take 20 all in
    let past : 20 ≤ length all = omega arith in
    let both = length-append all (o ∷ []) in
    let counted : old.count + 1 < 2 ^ 64 = omega (arith, told.count) in
    record {
      first = first ∙ told.first ∙ sym (take-append-le 20 all (o ∷ []) past);
      count = omega (arith, count counted, told.count);
    }

-- what a value is noted for, where its token is known and where it is new
known_is : (b : Bool) (os : List Otherwise) → b ≡ true → cond b [] os ≡ []
known_is b os e = rw e refl

new_is : (b : Bool) (os : List Otherwise) → b ≡ false → cond b [] os ≡ os
new_is b os e = rw e refl

pub at_known : (site : SiteView) (value : Value) (before after : Outcome) → is_known site value ≡ true → otherwise_at site value before after ≡ []
at_known site (Noop at) before after known = refl
at_known site (Cmd c) before after known = known_is _ _ known

pub at_new : (site : SiteView) (value : Value) (before after : Outcome) → is_known site value ≡ false → otherwise_at site value before after ≡ noted_at value before after
at_new site (Noop at) before after new = refl
at_new site (Cmd c) before after new = new_is _ _ new

module _ (site : SiteView) (value : Value) (before after before' after' : Outcome) (old new : Compared) where
  pub notes_none : is_known site value ≡ true → Adds old (otherwise_at site value before after) old
  notes_none known = subst (λ (more : List Otherwise). Adds old more old) (sym (at_known site value before after known)) (adds_none old)

  pub notes_new : is_known site value ≡ false → before ≡ before' → after ≡ after' → Adds old (noted_at value before after) new → Adds old (otherwise_at site value before' after') new
  notes_new unknown b a noted =
      subst (λ (more : List Otherwise). Adds old more new)
      (ap (λ (o : Outcome). noted_at value o after) b ∙ ap (λ (o : Outcome). noted_at value before' o) a ∙ sym (at_new site value before' after' unknown)) noted

-- ---- the lines of them

module _ (all : List Otherwise) (i : ℕ) (text whole : List ℕ) where
  pub lines_on : (o : Otherwise) (after : List ℕ) → i < length all → o ≡ get_or all i o → after ≡ text ++ otherwise_line o → text ++ otherwise_lines (drop i all) ≡ whole
      → after ++ otherwise_lines (drop (i + 1) all) ≡ whole
  lines_on o after lt here put so_far =
      ap (λ (ys : List ℕ). ys ++ otherwise_lines (drop (i + 1) all)) put
      ∙ append_assoc text (otherwise_line o) (otherwise_lines (drop (i + 1) all)) ∙ sym (ap (λ (os : List Otherwise). text ++ otherwise_lines os) (next_is all i o lt here)) ∙ so_far

  pub lines_end : length all ≤ i → text ++ otherwise_lines (drop i all) ≡ whole → text ≡ whole
  lines_end le so_far = sym (append-nil text) ∙ sym (ap (λ (os : List Otherwise). text ++ otherwise_lines os) (drop_of_length-le all le)) ∙ so_far
