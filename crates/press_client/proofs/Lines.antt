-- Lines, one after the other.
use Rattle.std.proofs.Common.{ℕ, zero, suc, ◌≡◌, ◌⊎◌, inl, inr, List, [], ◌∷◌, ◌++◌, drop, None, Some, slice_get, refl, sym, ap, ◌∙◌, append_assoc, append-nil}
use Rattle.press_apply.specs.declared.command.Stamped.{Stamped}
use Rattle.press_client.specs.Reporting.{line_of, lines_from}
use Rattle.press_client.specs.declared.ending.Ending.{Ending}

drop_at : {A : Type 0} (xs : List A) (i : ℕ) (x : A) → slice_get xs i ≡ Some x → drop i xs ≡ x ∷ drop (suc i) xs
drop_at [] i x is = cc
drop_at (y ∷ xs) zero x is = let same : y ≡ x = cc in ap (λ z. z ∷ xs) same
drop_at (y ∷ xs) (suc i) x is = drop_at xs i x is

drop_past : {A : Type 0} (xs : List A) (i : ℕ) → slice_get xs i ≡ None → drop i xs ≡ []
drop_past [] zero is = refl
drop_past [] (suc i) is = refl
drop_past (y ∷ xs) zero is = cc
drop_past (y ∷ xs) (suc i) is = drop_past xs i is

no_more : (place : ℕ) (commands : List Stamped) (endings : List Ending) → (commands ≡ []) ⊎ (endings ≡ []) → lines_from place commands endings ≡ []
no_more place [] endings h = refl
no_more place (c ∷ commands) [] h = refl
no_more place (c ∷ commands) (e ∷ endings) (inl h) = cc
no_more place (c ∷ commands) (e ∷ endings) (inr h) = cc

pub lines_on : (text : List ℕ) (i : ℕ) (commands : List Stamped) (endings : List Ending) (whole : List ℕ) (c : Stamped) (e : Ending) → slice_get commands i ≡ Some c → slice_get endings i ≡ Some e →
    text ++ lines_from i (drop i commands) (drop i endings) ≡ whole → (text ++ line_of i c e) ++ lines_from (suc i) (drop (suc i) commands) (drop (suc i) endings) ≡ whole
lines_on text i commands endings whole c e at got is =
    let one = drop_at commands i c at in
    let two = drop_at endings i e got in
    append_assoc text (line_of i c e) (lines_from (suc i) (drop (suc i) commands) (drop (suc i) endings))
    ∙ (ap (λ cs. text ++ lines_from i cs (e ∷ drop (suc i) endings)) (sym one) ∙ (ap (λ es. text ++ lines_from i (drop i commands) es) (sym two) ∙ is))

pub lines_end : (text : List ℕ) (i : ℕ) (commands : List Stamped) (endings : List Ending) (whole : List ℕ) → (slice_get commands i ≡ None) ⊎ (slice_get endings i ≡ None) →
    text ++ lines_from i (drop i commands) (drop i endings) ≡ whole → text ≡ whole
lines_end text i commands endings whole (inl h) is = sym (append-nil text) ∙ (ap (λ l. text ++ l) (sym (no_more i (drop i commands) (drop i endings) (inl (drop_past commands i h)))) ∙ is)
lines_end text i commands endings whole (inr h) is = sym (append-nil text) ∙ (ap (λ l. text ++ l) (sym (no_more i (drop i commands) (drop i endings) (inr (drop_past endings i h)))) ∙ is)
