-- What is found among outcomes after one more is put in.
use Rattle.std.proofs.Common.{◌≡◌, refl, sym, ap, ◌∙◌, Bool, true, false, cond, ◌&&◌, ◌==◌, List, [], ◌∷◌, Some, None, Ordering, Less, Equal, Greater, Decides, bytes_eq, nat_cmp, is_eq}
use Rattle.std.specs.Cmp.{unsigned_tied, unsigned_Decides}
use Rattle.std.specs.Cmp.Lexicographic.{slice_cmp}
use Rattle.std.specs.Ordering.{ordering_then, match_ordering}
use Rattle.std.proofs.lemmas.Bool.{and_from, and_parts}
use Rattle.std.proofs.lemmas.Map.Text.{is_eq-slice_cmp}
use Rattle.std.proofs.lemmas.Option.{none-some}
use Rattle.std.proofs.lemmas.Slice.Eq.{bytes_eq-Decides}
use Rattle.press_site.specs.declared.token.Outcome.{Outcome}
use Rattle.press_site.specs.declared.token.Token.{Token}
use Rattle.press_site.specs.Outcomes.{outcome_of, token_cmp, with_outcome}
use Rattle.press_apply.specs.Tokens.{is_same}

-- ---- the order of tokens tells exactly the same ones alike

both_equal : (r s : Ordering) → is_eq (ordering_then r s) ≡ (is_eq r && is_eq s)
both_equal Less s = refl
both_equal Equal s = refl
both_equal Greater s = refl

alike : (t u : Token) → is_eq (token_cmp t u) ≡ is_same t u
alike t u = both_equal (slice_cmp nat_cmp t.editor u.editor) (nat_cmp t.seq u.seq) ∙ ap (λ b. b && is_eq (nat_cmp t.seq u.seq)) (is_eq-slice_cmp t.editor u.editor) ∙ ap (λ b. bytes_eq t.editor u.editor && b) (unsigned_tied t.seq u.seq)

token_of : (t u : Token) → (t.editor ≡ u.editor) × (t.seq ≡ u.seq) → t ≡ u
token_of t u p = λ i. record { editor = p.0 i; seq = p.1 i }

pub is_same-Decides : (t u : Token) → Decides (is_same t u) (t ≡ u)
is_same-Decides t u = (
  λ e.
      let p = and_parts (bytes_eq t.editor u.editor) (t.seq == u.seq) e in
      token_of t u ((bytes_eq-Decides t.editor u.editor).0 p.0, (unsigned_Decides t.seq u.seq).0 p.1),
  λ e. and_from (bytes_eq t.editor u.editor) (t.seq == u.seq) ((bytes_eq-Decides t.editor u.editor).1 (ap (λ x. x.editor) e)) ((unsigned_Decides t.seq u.seq).1 (ap (λ x. x.seq) e)),
)

itself : (t : Token) → is_eq (token_cmp t t) ≡ true
itself t = alike t t ∙ (is_same-Decides t t).1 refl

tied : (t u : Token) → token_cmp t u ≡ Equal → t ≡ u
tied t u e = (is_same-Decides t u).0 (sym (alike t u) ∙ ap is_eq e)

-- ---- an outcome is found under its token, and every other one as before

pub found_new : (t : Token) (o : Outcome) (es : List (Token × Outcome)) → outcome_of t (with_outcome t o es) ≡ Some o
found_new t o [] = ap (λ b. cond b (Some o) None) (itself t)
found_new t o (e ∷ es) = by (token_cmp t e.0) refl (found_new t o es)
  where
    by : (r : Ordering) → token_cmp t e.0 ≡ r → outcome_of t (with_outcome t o es) ≡ Some o
        → outcome_of t (match_ordering r ((t, o) ∷ e ∷ es) ((e.0, o) ∷ es) (e ∷ with_outcome t o es)) ≡ Some o
    by Less p h = ap (λ b. cond b (Some o) (outcome_of t (e ∷ es))) (itself t)
    by Equal p h = ap (λ b. cond b (Some o) (outcome_of t es)) (ap is_eq p)
    by Greater p h = ap (λ b. cond b (Some e.1) (outcome_of t (with_outcome t o es))) (ap is_eq p) ∙ h

found_other : (t u : Token) (o : Outcome) (es : List (Token × Outcome)) → is_eq (token_cmp u t) ≡ false → outcome_of u (with_outcome t o es) ≡ outcome_of u es
found_other t u o [] apart = ap (λ b. cond b (Some o) None) apart
found_other t u o (e ∷ es) apart = by (token_cmp t e.0) refl (found_other t u o es apart)
  where
    by : (r : Ordering) → token_cmp t e.0 ≡ r → outcome_of u (with_outcome t o es) ≡ outcome_of u es
        → outcome_of u (match_ordering r ((t, o) ∷ e ∷ es) ((e.0, o) ∷ es) (e ∷ with_outcome t o es)) ≡ outcome_of u (e ∷ es)
    by Less p h = ap (λ b. cond b (Some o) (outcome_of u (e ∷ es))) apart
    by Equal p h =
        let there : is_eq (token_cmp u e.0) ≡ false = ap (λ k. is_eq (token_cmp u k)) (sym (tied t e.0 p)) ∙ apart in
        ap (λ b. cond b (Some o) (outcome_of u es)) there ∙ sym (ap (λ b. cond b (Some e.1) (outcome_of u es)) there)
    by Greater p h = ap (λ x. cond (is_eq (token_cmp u e.0)) (Some e.1) x) h

-- a token that had no outcome gets one, and those of the others stay
pub found_still : (t u : Token) (o kept : Outcome) (es : List (Token × Outcome)) → outcome_of t es ≡ None → outcome_of u es ≡ Some kept → outcome_of u (with_outcome t o es) ≡ Some kept
found_still t u o kept es none some = by (is_eq (token_cmp u t)) refl
  where
    by : (b : Bool) → is_eq (token_cmp u t) ≡ b → outcome_of u (with_outcome t o es) ≡ Some kept
    by true e =
        let one : u ≡ t = (is_same-Decides u t).0 (sym (alike u t) ∙ e) in
        absurd (none-some kept (sym none ∙ ap (λ k. outcome_of k es) (sym one) ∙ some))
    by false e = found_other t u o es e ∙ some
