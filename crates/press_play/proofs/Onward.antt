-- Plays one after the other, as a loop does.
use Rattle.std.proofs.Common.{◌≡◌, ℕ, ◌+◌, ◌<◌, ◌≤◌, List, [], ◌∷◌, ◌++◌, length, get_or, drop, refl, sym, ◌∙◌, append_assoc, append-nil, add-one, drop-cons}
use Rattle.std.proofs.Math.ListN.{drop_of_length-le}
use Rattle.press_site.specs.Effects.{effect_on}
use Rattle.press_callbacks.specs.Kits.{Scripts}
use Rattle.press_run.specs.Run.{State}
use Rattle.press_run.specs.Outcome.{job_meaning}
use Rattle.press_kit.specs.declared.play_file.Play.{Play}
use Rattle.press_play.specs.Lines.{line, lines, job_of, answer_data, limit_data, Shows, Stops}

module _ (scripts : Scripts) (plays : List Play) where
  -- the lines from a play on
  abbrev pub rest : ℕ → State → List ℕ
  rest i s = lines scripts (drop i plays) s

  pub goes_on : (old new : List ℕ) (i : ℕ) (p : Play) (s s' : State) (total : List ℕ) → i < length plays → p ≡ get_or plays i p → Shows (job_meaning effect_on scripts (job_of p) s) s' old new
      → old ++ rest i s ≡ total → new ++ rest (i + 1) s' ≡ total
  unfolding lines
  goes_on old new i p s s' total lt here shows so_far =
      let cut : drop i plays ≡ p ∷ drop (i + 1) plays = rw (add-one, drop-cons plays i p lt, ← here) refl in
      let one : rest i s ≡ line (answer_data shows.text s'.output) ++ rest (i + 1) s' = rw (cut, shows.comes) refl in
      let two : (old ++ line (answer_data shows.text s'.output)) ++ rest (i + 1) s' ≡ total = append_assoc old (line (answer_data shows.text s'.output)) (rest (i + 1) s') ∙ (rw one at so_far) in
      rw shows.written two

  pub stops : (old new : List ℕ) (i : ℕ) (p : Play) (s : State) (total : List ℕ) → i < length plays → p ≡ get_or plays i p → Stops (job_meaning effect_on scripts (job_of p) s) old new
      → old ++ rest i s ≡ total → new ≡ total
  unfolding lines
  stops old new i p s total lt here stop so_far =
      let cut : drop i plays ≡ p ∷ drop (i + 1) plays = rw (add-one, drop-cons plays i p lt, ← here) refl in
      let one : rest i s ≡ line limit_data = rw (cut, stop.comes) refl in
      rw stop.written (rw one at so_far)

  pub is_done : (old : List ℕ) (i : ℕ) (s : State) (total : List ℕ) → length plays ≤ i → old ++ rest i s ≡ total → old ≡ total
  unfolding lines
  is_done old i s total le so_far =
      let one : rest i s ≡ [] = rw (drop_of_length-le plays le) refl in
      sym (append-nil old) ∙ (rw one at so_far)
