-- One step of the meaning of a text, as a scan takes it.
use Rattle.std.proofs.Common.{◌≡◌, refl, sym, ◌∙◌, ap, ap₂, subst, ℕ, zero, suc, ◌+◌, ◌-◌, ◌<◌, ◌≤◌, ◌⊎◌, inl, inr, Bool, true, false, List, ◌++◌, take, drop, length, Option, Some, None, arith}
use Rattle.std.specs.Prelude.{◌↔◌, ◌&&◌, slice_range}
use Rattle.std.proofs.Math.Nat.{sub_self}
use Rattle.std.proofs.lemmas.Bool.{cases_lt}
use Rattle.std.proofs.lemmas.List.{append-nil}
use Rattle.press_scan.specs.declared.shortcode.Shortcode.{Shortcode}
use Rattle.press_scan.specs.Places.{NoneFrom, NoneBetween}
use Rattle.press_scan.specs.Shortcodes.{IsShortcode, HasShortcode, IsNext}
use Rattle.press_scan.specs.FirstShortcode.{shortcode_from}
use Rattle.press_scan.specs.Scans.{Progress, TakesText, TakesFront, TakesEscape, IsEscape, before as opens, behind}
use Rattle.press_scan.specs.Tags.{names_of}
use Rattle.press_run.specs.Run.{◌>>=◌, only_if, within, is_short, State, Answer, answer, Meaning, scan_from, scan_rest, shortcode_result, shortcode_answer, is_escape}
use Rattle.press_run.specs.Frames.{put_answer, resume_scan}

-- the laws of shortcodes
abbrev pub ComputesSome : Type 0
ComputesSome = (text : List ℕ) (tags : List (List ℕ)) (from : ℕ) (s : Shortcode) → (shortcode_from text tags from ≡ Some s) ↔ IsNext text tags from s

abbrev pub ComputesNone : Type 0
ComputesNone = (text : List ℕ) (tags : List (List ℕ)) (from : ℕ) → (shortcode_from text tags from ≡ None) ↔ NoneFrom (HasShortcode text tags) from

abbrev pub EndsWithin : Type 0
EndsWithin = (text : List ℕ) (tags : List (List ℕ)) (place : ℕ) (s : Shortcode) → IsShortcode text tags place s → (place < s.end) × (s.end ≤ length text)

-- ---- outputs

bind_all : {A B : Type 0} (o : Option A) (f g : A → Option B) → ((a : A) → f a ≡ g a) → (o >>= f) ≡ (o >>= g)
bind_all None f g e = refl
bind_all (Some a) f g e = e a

fitting : (t : List ℕ) → is_short t ≡ true → within t ≡ Some t
fitting t h = ap (λ b. only_if b t) h

too_long : (t : List ℕ) → is_short t ≡ false → within t ≡ None
too_long t h = ap (λ b. only_if b t) h

within_by : (b : Bool) (t : List ℕ) (f g : List ℕ → Option Answer) → is_short t ≡ b → (is_short t ≡ true → f t ≡ g t) → (within t >>= f) ≡ (within t >>= g)
within_by true t f g h e = ap (λ o. o >>= f) (fitting t h) ∙ e h ∙ sym (ap (λ o. o >>= g) (fitting t h))
within_by false t f g h e = ap (λ o. o >>= f) (too_long t h) ∙ sym (ap (λ o. o >>= g) (too_long t h))

-- only a text within the bytes goes on
within_same : (t : List ℕ) (f g : List ℕ → Option Answer) → (is_short t ≡ true → f t ≡ g t) → (within t >>= f) ≡ (within t >>= g)
within_same t f g e = within_by (is_short t) t f g refl e

nothing : (t text : List ℕ) (k : ℕ) → t ++ slice_range text k k ≡ t
nothing t text k = ap (λ n. t ++ take n (drop k text)) (sub_self k) ∙ append-nil t

-- an answer that is put together from another one
through : (o : Option Answer) (f : List ℕ → List ℕ) (g : Answer → Option Answer) → ((o >>= λ a. answer (f a.text) a.state) >>= g) ≡ (o >>= λ a. g (record { text = f a.text; state = a.state }))
through None f g = refl
through (Some a) f g = refl

not_both : (x y : Bool) → ((x ≡ true) × (y ≡ true) → ⊥) → (x && y) ≡ false
not_both true true plain = absurd (plain (refl, refl))
not_both true false plain = refl
not_both false y plain = refl

pub scan_stops : (callback : Meaning) (p : Progress) (s : State) → is_short p.output ≡ false → resume_scan callback p s ≡ None
scan_stops callback p s h = ap (λ o. o >>= λ output. scan_from callback (suc (length p.text)) p.text p.at output s) (too_long p.output h)

scan_fits : (callback : Meaning) (p : Progress) (s : State) → is_short p.output ≡ true → resume_scan callback p s ≡ scan_from callback (suc (length p.text)) p.text p.at p.output s
scan_fits callback p s h = ap (λ o. o >>= λ output. scan_from callback (suc (length p.text)) p.text p.at output s) (fitting p.output h)

module _ (some : ComputesSome) (none : ComputesNone) (ends : EndsWithin) (callback : Meaning) (text : List ℕ) where
  -- the rest of a meaning, with so many shortcodes at most
  abbrev pub rest : ℕ → ℕ → List ℕ → State → Option Answer
  rest n at output s = scan_from callback n text at output s

  opened : (n at : ℕ) (output : List ℕ) (s : State) (o : Option Shortcode) → shortcode_from text (names_of s.tags) at ≡ o → rest (suc n) at output s ≡ scan_rest callback (λ at' output' s'. rest n at' output' s') text at output s o
  unfolding scan_from
  opened n at output s o e = ap (λ x. scan_rest callback (λ at' output' s'. rest n at' output' s') text at output s x) e

  -- ---- more shortcodes than bytes make no difference

  same_rest : (f g : ℕ → List ℕ → State → Option Answer) (at : ℕ) (output : List ℕ) (s : State) (c : Shortcode) → ((longer : List ℕ) (s' : State) → f c.end longer s' ≡ g c.end longer s') → scan_rest callback f text at output s (Some c) ≡ scan_rest callback g text at output s (Some c)
  same_rest f g at output s c e =
      bind_all (within (output ++ slice_range text at c.start)) (λ front. shortcode_result callback text c s (is_escape c) >>= λ a. within (front ++ a.text) >>= λ longer. f c.end longer a.state) (λ front. shortcode_result callback text c s (is_escape c) >>= λ a. within (front ++ a.text) >>= λ longer. g c.end longer a.state)
      (λ front. bind_all (shortcode_result callback text c s (is_escape c)) (λ a. within (front ++ a.text) >>= λ longer. f c.end longer a.state) (λ a. within (front ++ a.text) >>= λ longer. g c.end longer a.state)
      (λ a. bind_all (within (front ++ a.text)) (λ longer. f c.end longer a.state) (λ longer. g c.end longer a.state) (λ longer. e longer a.state)))

  enough_step : (n m at : ℕ) (output : List ℕ) (s : State) (o : Option Shortcode) → shortcode_from text (names_of s.tags) at ≡ o → length text < suc n + at → length text < suc m + at
      → ((at' : ℕ) (output' : List ℕ) (s' : State) → at' ≤ length text → length text < n + at' → length text < m + at' → rest n at' output' s' ≡ rest m at' output' s')
      → rest (suc n) at output s ≡ rest (suc m) at output s
  enough_step n m at output s None e x y again = opened n at output s None e ∙ sym (opened m at output s None e)
  enough_step n m at output s (Some c) e x y again =
      let next : IsNext text (names_of s.tags) at c = (some text (names_of s.tags) at c).0 e in
      let w = ends text (names_of s.tags) c.start c next.stands in
      let late : at ≤ c.start = next.after in
      opened n at output s (Some c) e
      ∙ same_rest (λ at' output' s'. rest n at' output' s') (λ at' output' s'. rest m at' output' s') at output s c
      (λ longer s'. again c.end longer s' w.1 (omega (arith, w.0, late, x)) (omega (arith, w.0, late, y)))
      ∙ sym (opened m at output s (Some c) e)

  enough : (n m at : ℕ) (output : List ℕ) (s : State) → at ≤ length text → length text < n + at → length text < m + at → rest n at output s ≡ rest m at output s
  enough zero m at output s inside x y = absurd (omega arith)
  enough (suc n) zero at output s inside x y = absurd (omega arith)
  enough (suc n) (suc m) at output s inside x y = enough_step n m at output s (shortcode_from text (names_of s.tags) at) refl x y (λ at' output' s' i x' y'. enough n m at' output' s' i x' y')

  -- behind a shortcode one less is enough
  one_less : (c : Shortcode) (output : List ℕ) (s : State) → 0 < c.end → c.end ≤ length text → rest (length text) c.end output s ≡ rest (suc (length text)) c.end output s
  one_less c output s more inside = enough (length text) (suc (length text)) c.end output s inside (omega arith) (omega arith)

  module _ (s : State) where
    found : (at : ℕ) (c : Shortcode) → at ≤ c.start → IsShortcode text (names_of s.tags) c.start c → NoneBetween (HasShortcode text (names_of s.tags)) at c.start → shortcode_from text (names_of s.tags) at ≡ Some c
    found at c late stands before = (some text (names_of s.tags) at c).1 (record { after = late; stands = stands; none_before = before })

    starts_there : (to : ℕ) (c : Shortcode) → IsShortcode text (names_of s.tags) to c → IsShortcode text (names_of s.tags) c.start c
    starts_there to c stands = subst (λ (k : ℕ). IsShortcode text (names_of s.tags) k c) (sym stands.starts) stands

    none_at_end : (at to : ℕ) → to ≡ length text → NoneBetween (HasShortcode text (names_of s.tags)) at to → shortcode_from text (names_of s.tags) at ≡ None
    none_at_end at to e before = (none text (names_of s.tags) at).1 (λ k a here. elim (cases_lt k to) [
      | inl lt ↦ before k a lt here
      | inr ge ↦ (let w = ends text (names_of s.tags) k here.0 here.1 in absurd (omega (arith, w.0, w.1, e)))
    ])

    -- what follows a front that ends with this shortcode
    abbrev pub then_result : ℕ → Shortcode → List ℕ → Option Answer
    then_result n c front = shortcode_result callback text c s (is_escape c) >>= λ a. within (front ++ a.text) >>= λ longer. rest n c.end longer a.state

    fronted : (n at to : ℕ) (output : List ℕ) (c : Shortcode) → at ≤ to → IsShortcode text (names_of s.tags) to c → NoneBetween (HasShortcode text (names_of s.tags)) at to → rest (suc n) at output s ≡ (within (output ++ slice_range text at to) >>= then_result n c)
    fronted n at to output c late stands before =
        let same : to ≡ c.start = sym stands.starts in
        let first : shortcode_from text (names_of s.tags) at ≡ Some c = found at c (omega arith) (starts_there to c stands) (subst (λ (k : ℕ). NoneBetween (HasShortcode text (names_of s.tags)) at k) same before) in
        opened n at output s (Some c) first ∙ ap (λ k. within (output ++ slice_range text at k) >>= then_result n c) (sym same)

    -- a shortcode at the very place
    here : (n at : ℕ) (output : List ℕ) (c : Shortcode) → is_short output ≡ true → IsShortcode text (names_of s.tags) at c → rest (suc n) at output s ≡ then_result n c output
    here n at output c short stands =
        fronted n at at output c (omega arith) stands (λ k a b x. absurd (omega arith)) ∙ ap (λ t. within t >>= then_result n c) (nothing output text at) ∙ ap (λ o. o >>= then_result n c) (fitting output short)

    ended : (n at to : ℕ) (output : List ℕ) → to ≡ length text → NoneBetween (HasShortcode text (names_of s.tags)) at to → rest (suc n) at output s ≡ (within (output ++ slice_range text at to) >>= λ whole. answer whole s)
    ended n at to output e before =
        opened n at output s None (none_at_end at to e before) ∙ ap (λ k. within (output ++ slice_range text at k) >>= λ whole. answer whole s) (sym e)

    at_end : (n to : ℕ) (output : List ℕ) → to ≡ length text → is_short output ≡ true → rest (suc n) to output s ≡ answer output s
    at_end n to output e short =
        ended n to to output e (λ k a b x. absurd (omega arith)) ∙ ap (λ t. within t >>= λ w. answer w s) (nothing output text to) ∙ ap (λ o. o >>= λ w. answer w s) (fitting output short)

    -- a front is taken, up to a shortcode or to the end
    front : (n at to : ℕ) (output : List ℕ) → at < to → NoneBetween (HasShortcode text (names_of s.tags)) at to → (to ≡ length text) ⊎ HasShortcode text (names_of s.tags) to → rest (suc n) at output s ≡ (within (output ++ slice_range text at to) >>= λ longer. rest (suc n) to longer s)
    front n at to output more before (inl end) =
        ended n at to output end before ∙ within_same (output ++ slice_range text at to) (λ whole. answer whole s) (λ longer. rest (suc n) to longer s) (λ short. sym (at_end n to (output ++ slice_range text at to) end short))
    front n at to output more before (inr (c, stands)) =
        fronted n at to output c (omega arith) stands before ∙ within_same (output ++ slice_range text at to) (then_result n c) (λ longer. rest (suc n) to longer s) (λ short. sym (here n to (output ++ slice_range text at to) c short stands))

    escaped : (at : ℕ) (output : List ℕ) (c : Shortcode) → is_short output ≡ true → IsShortcode text (names_of s.tags) at c → IsEscape c → rest (suc (length text)) at output s ≡ (within (output ++ slice_range text (c.start + 1) (c.end - 1)) >>= λ longer. rest (suc (length text)) c.end longer s)
    escaped at output c short stands escape =
        let both : is_escape c ≡ true = ap₂ (λ (x y : Bool). x && y) escape.0 escape.1 in
        let w = ends text (names_of s.tags) at c stands in
        here (length text) at output c short stands
        ∙ ap (λ x. shortcode_result callback text c s x >>= λ a. within (output ++ a.text) >>= λ longer. rest (length text) c.end longer a.state) both
        ∙ bind_all (within (output ++ slice_range text (c.start + 1) (c.end - 1))) (λ longer. rest (length text) c.end longer s) (λ longer. rest (suc (length text)) c.end longer s) (λ longer. one_less c longer s (omega (arith, w.0)) w.1)

    -- a shortcode that a callback answers
    called : (at : ℕ) (output : List ℕ) (c : Shortcode) → is_short output ≡ true → IsShortcode text (names_of s.tags) at c → (IsEscape c → ⊥)
        → (shortcode_answer callback text c s >>= λ a. within (output ++ (opens c ++ (a.text ++ behind c))) >>= λ longer. rest (suc (length text)) c.end longer a.state) ≡ rest (suc (length text)) at output s
    called at output c short stands plain =
        let o = shortcode_answer callback text c s in
        let w = ends text (names_of s.tags) at c stands in
        sym (here (length text) at output c short stands
        ∙ ap (λ x. shortcode_result callback text c s x >>= λ a. within (output ++ a.text) >>= λ longer. rest (length text) c.end longer a.state) (not_both c.lead c.tail plain)
        ∙ through o (λ t. opens c ++ (t ++ behind c)) (λ a. within (output ++ a.text) >>= λ longer. rest (length text) c.end longer a.state)
        ∙ bind_all o (λ a. within (output ++ (opens c ++ (a.text ++ behind c))) >>= λ longer. rest (length text) c.end longer a.state) (λ a. within (output ++ (opens c ++ (a.text ++ behind c))) >>= λ longer. rest (suc (length text)) c.end longer a.state)
        (λ a. bind_all (within (output ++ (opens c ++ (a.text ++ behind c)))) (λ longer. rest (length text) c.end longer a.state) (λ longer. rest (suc (length text)) c.end longer a.state) (λ longer. one_less c longer a.state (omega (arith, w.0)) w.1)))

-- ---- the pieces of a scan

module _ (some : ComputesSome) (none : ComputesNone) (ends : EndsWithin) (callback : Meaning) (old : Progress) (s : State) (short : is_short old.output ≡ true) where
  -- text is taken
  pub text_taken : (new : Progress) → TakesText (names_of s.tags) old new → resume_scan callback new s ≡ resume_scan callback old s
  text_taken new takes = same takes.takes where
    same : TakesFront (names_of s.tags) old new ⊎ TakesEscape (names_of s.tags) old new → resume_scan callback new s ≡ resume_scan callback old s
    same (inl f) = rw (takes.text, f.output) (sym (scan_fits callback old s short ∙ front some none ends callback old.text s (length old.text) old.at new.at old.output takes.more f.none f.first))
    same (inr f) = rw (takes.text, f.output, f.at) (sym (scan_fits callback old s short ∙ escaped some none ends callback old.text s old.at old.output f.shortcode short f.stands f.escape))

  -- and stays within its text
  pub text_inside : (new : Progress) → TakesText (names_of s.tags) old new → new.at ≤ length old.text
  text_inside new takes = by takes.takes where
    by : TakesFront (names_of s.tags) old new ⊎ TakesEscape (names_of s.tags) old new → new.at ≤ length old.text
    by (inl f) = at_front f.first where
      at_front : (new.at ≡ length old.text) ⊎ HasShortcode old.text (names_of s.tags) new.at → new.at ≤ length old.text
      at_front (inl e) = omega arith
      at_front (inr (c, stands)) = (let w = ends old.text (names_of s.tags) new.at c stands in omega (arith, w.0, w.1))
    by (inr f) = (let w = ends old.text (names_of s.tags) old.at f.shortcode f.stands in omega (arith, w.1, f.at))

  -- a shortcode waits for its answer
  pub shortcode_waits : (c : Shortcode) → IsShortcode old.text (names_of s.tags) old.at c → (IsEscape c → ⊥)
      → (shortcode_answer callback old.text c s >>= λ a. resume_scan callback (put_answer (Some c) old a.text) a.state) ≡ resume_scan callback old s
  shortcode_waits c stands plain = called some none ends callback old.text s old.at old.output c short stands plain ∙ sym (scan_fits callback old s short)

  -- nothing is left
  pub scan_ends : old.at ≡ length old.text → answer old.output s ≡ resume_scan callback old s
  scan_ends e = sym (scan_fits callback old s short ∙ at_end some none ends callback old.text s (length old.text) old.at old.output e short)
