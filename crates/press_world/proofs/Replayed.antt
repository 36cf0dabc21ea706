-- What a replay writes, by how the schedule was read and how its transcript was written.
use Rattle.std.proofs.Common.{ℕ, ◌≡◌, ◌≤◌, ◌⊎◌, inl, inr, List, [], ◌∷◌, length, map, take, zero, suc, Option, None, Some, Result, Ok, Err, IfErr, refl, sym, subst, ap, append-nil, arith}
use Rattle.press_callbacks.specs.Kits.{KitView}
use Rattle.press_kit.specs.declared.place.Place.{Place}
use Rattle.press_text.specs.Streams.{AppendsFront}
use Rattle.press_world.specs.ReadingFiles.{ReadsAs, Refuses}
use Rattle.press_world.specs.Replays.{Replays, Writes, WritesLines}
use Rattle.press_world.specs.Starts.{AreKit}
use Rattle.press_world.specs.declared.replay_fault.ReplayFault.{ReplayFault}
use Rattle.press_world.specs.declared.replay_fault.ReplayFault.TheVariants.{NoMemory, ReadFault, WriteFault, BadSchedule}
use Rattle.press_world.specs.declared.step.Step.{Step}

-- nothing is a front of any bytes
nothing : (bytes : List ℕ) (old : Option (List ℕ)) → AppendsFront old old bytes
nothing bytes None = (0, tt)
nothing bytes (Some known) = (0, sym (append-nil known))

module _ (reads : List ℕ → Result (ℕ × List Step) Place) (shows : ℕ × List Step → List ℕ) (remaining old new : Option (List ℕ)) where
  pub replayed : {T : Type 0} (schedule : ℕ × List Step) (r : Result T ReplayFault) → ReadsAs reads remaining (Ok schedule) → IfErr r (λ e. (e ≡ WriteFault) ⊎ (e ≡ NoMemory)) → WritesLines (shows schedule) old new r → Replays reads shows remaining old new r
  unfolding ReadsAs
  replayed {T} schedule r given fault wrote = (given.0, given.1, subst (λ m. Writes shows m old new r) (sym given.2) (go r fault wrote))
    where
      go : (r : Result T ReplayFault) → IfErr r (λ e. (e ≡ WriteFault) ⊎ (e ≡ NoMemory)) → WritesLines (shows schedule) old new r → Writes shows (Ok schedule) old new r
      go (Ok done) f w = w
      go (Err NoMemory) f w = w
      go (Err WriteFault) f w = w
      go (Err ReadFault) (inl f) w = cc
      go (Err ReadFault) (inr f) w = cc
      go (Err BadSchedule) (inl f) w = cc
      go (Err BadSchedule) (inr f) w = cc

  pub unread : {T : Type 0} (fault : ReplayFault) (r : Result T ReplayFault) → r ≡ Err fault → new ≡ old → ReadsAs reads remaining (Err fault) → Replays reads shows remaining old new r
  unfolding ReadsAs
  unread {T} fault r is same given = (given.0, given.1, subst (Writes shows (reads given.0) old new) (sym is) (subst (λ o. Writes {T = T} shows (reads given.0) old o (Err fault)) (sym same) (go fault (reads given.0) given.2)))
    where
      go : (f : ReplayFault) (m : Result (ℕ × List Step) Place) → Refuses f m → Writes {T = T} shows m old old (Err f)
      go NoMemory (Ok schedule) h = nothing (shows schedule) old
      go NoMemory (Err place) h = refl
      go ReadFault (Ok schedule) h = refl
      go ReadFault (Err place) h = refl
      go BadSchedule (Ok schedule) h = let q : Ok schedule ≡ Err h.0 = h.1 in cc
      go BadSchedule (Err place) h = refl
      go WriteFault m h = absurd h

-- the first of kits that are alike are alike
pub first_alike : (kit : KitView) (n : ℕ) (kits : List KitView) → AreKit kit kits → AreKit kit (take n kits)
first_alike kit zero [] h = tt
first_alike kit (suc n) [] h = tt
first_alike kit zero (k ∷ kits) h = tt
first_alike kit (suc n) (k ∷ kits) h = (h.0, first_alike kit n kits h.1)

pub map_take : {X Y : Type 0} (f : X → Y) (n : ℕ) (xs : List X) → map f (take n xs) ≡ take n (map f xs)
map_take f zero [] = refl
map_take f (suc n) [] = refl
map_take f zero (x ∷ xs) = refl
map_take f (suc n) (x ∷ xs) = ap (λ ys. f x ∷ ys) (map_take f n xs)

pub length_take : {X : Type 0} (n : ℕ) (xs : List X) → n ≤ length xs → length (take n xs) ≡ n
length_take zero [] h = refl
length_take (suc n) [] h = absurd (omega arith)
length_take zero (x ∷ xs) h = refl
length_take (suc n) (x ∷ xs) h = ap suc (length_take n xs (omega arith))
