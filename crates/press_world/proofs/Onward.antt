-- What is written of a transcript, and what is still to come, is all of it.
use Rattle.std.proofs.Common.{ℕ, ◌+◌, ◌<◌, ◌≤◌, ◌≡◌, List, ◌∷◌, ◌++◌, length, map, drop, get_or, Option, Result, Ok, Err, OnOk, OnErr, refl, sym, subst, ap, ◌∙◌, append_assoc, add-one, drop-cons}
use Rattle.std.proofs.lemmas.List.{drop_all}
use Rattle.std.specs.Io.KnownBytes.{Appends}
use Rattle.press_callbacks.specs.Kits.{KitView}
use Rattle.press_text.specs.Streams.{AppendsFront}
use Rattle.press_text.proofs.Taken.{Appends-trans}
use Rattle.press_world.specs.Replays.{line_of, lines, WritesLines}
use Rattle.press_world.specs.Stored.{StoredWorld, stored_step}
use Rattle.press_world.specs.Telling.{applied_count_at}
use Rattle.press_world.specs.Transcript.{end_line}
use Rattle.press_world.specs.declared.step.Step.{Step}
use Rattle.press_text.proofs.Fronts.{in_first, in_second}

pub cut : {X : Type 0} (xs : List X) (i : ℕ) (x : X) → i < length xs → x ≡ get_or xs i x → drop i xs ≡ x ∷ drop (i + 1) xs
cut xs i x lt here = rw (add-one, drop-cons xs i x lt, ← here) refl

module _ (kit : KitView) (n : ℕ) (steps : List Step) (i number : ℕ) (s : StoredWorld) (old now : Option (List ℕ)) (written whole : List ℕ)
    (so_far : Appends old now written) (rest : written ++ lines kit n number s (drop i steps) ≡ whole) where
  module _ (x : Step) (lt : i < length steps) (here : x ≡ get_or steps i x) where
    one : lines kit n number s (drop i steps) ≡ line_of kit n number s x ++ lines kit n (number + 1) (stored_step n s x) (drop (i + 1) steps)
    one = ap (lines kit n number s) (cut steps i x lt here)

    -- the line of a step was written
    pub goes_on : (t : StoredWorld) (new : Option (List ℕ)) → t ≡ stored_step n s x → Appends now new (line_of kit n number s x) →
        (more : List ℕ) × Appends old new more × (more ++ lines kit n (number + 1) t (drop (i + 1) steps) ≡ whole)
    goes_on t new e told = (
      written ++ line_of kit n number s x,
      Appends-trans old now new written (line_of kit n number s x) so_far told,
      ap (λ u. (written ++ line_of kit n number s x) ++ lines kit n (number + 1) u (drop (i + 1) steps)) e
          ∙ append_assoc written (line_of kit n number s x) (lines kit n (number + 1) (stored_step n s x) (drop (i + 1) steps))
          ∙ ap (λ ls. written ++ ls) (sym one) ∙ rest,
    )

    -- or a front of its line
    pub stops : (new : Option (List ℕ)) → AppendsFront now new (line_of kit n number s x) → AppendsFront old new whole
    stops new told =
        subst (AppendsFront old new) (ap (λ ls. written ++ ls) (sym one) ∙ rest)
        (in_second old now new written (line_of kit n number s x ++ lines kit n (number + 1) (stored_step n s x) (drop (i + 1) steps)) so_far
        (in_first now new (line_of kit n number s x) (lines kit n (number + 1) (stored_step n s x) (drop (i + 1) steps)) told))

  -- the last line
  pub ends : {T E : Type 0} (r : Result T E) (new : Option (List ℕ)) → length steps ≤ i → OnOk r (Appends now new (end_line (map applied_count_at s.places))) → OnErr r (AppendsFront now new (end_line (map applied_count_at s.places))) → WritesLines whole old new r
  ends (Ok x) new done a b =
      subst (Appends old new) (ap (λ xs. written ++ lines kit n number s xs) (sym (drop_all i steps done)) ∙ rest) (Appends-trans old now new written (end_line (map applied_count_at s.places)) so_far a)
  ends (Err x) new done a b =
      subst (AppendsFront old new) (ap (λ xs. written ++ lines kit n number s xs) (sym (drop_all i steps done)) ∙ rest) (in_second old now new written (end_line (map applied_count_at s.places)) so_far b)

pub front_of : {T E : Type 0} (r : Result T E) (bytes : List ℕ) (old new : Option (List ℕ)) (e : E) → r ≡ Err e → WritesLines bytes old new r → AppendsFront old new bytes
front_of r bytes old new e is w = subst (WritesLines bytes old new) is w

pub err_lines : {T E : Type 0} (r : Result T E) (bytes : List ℕ) (old new : Option (List ℕ)) (e : E) → r ≡ Err e → AppendsFront old new bytes → WritesLines bytes old new r
err_lines r bytes old new e is w = subst (WritesLines bytes old new) (sym is) w
