-- What a loop writes, by how the schedule was read and how its transcript was written; and its
-- nodes.
use Rattle.std.proofs.Common.{ℕ, ◌≡◌, ◌≢◌, List, [], Option, None, Some, Result, Ok, Err, IfErr, refl, sym, subst, append-nil}
use Rattle.std.specs.Io.KnownBytes.{Appends}
use Rattle.press_kit.specs.declared.place.Place.{Place}
use Rattle.press_text.specs.Streams.{AppendsFront}
use Rattle.press_world.specs.ReadingFiles.{ReadsAs, Refuses}
use Rattle.press_world.specs.Replays.{WritesLines}
use Rattle.press_world.specs.declared.replay_fault.ReplayFault.{ReplayFault}
use Rattle.press_world.specs.declared.replay_fault.ReplayFault.TheVariants.{NoMemory, ReadFault, WriteFault, BadSchedule}
use Rattle.press_world.specs.declared.step.Step.{Step}
use Rattle.press_loop.specs.Loops.{Loops, WritesFront}

-- nothing is a front of any bytes
pub nothing : (bytes : List ℕ) (old : Option (List ℕ)) → AppendsFront old old bytes
nothing bytes None = (0, tt)
nothing bytes (Some known) = (0, sym (append-nil known))

-- and nothing at all is written of no bytes
pub unchanged : (old : Option (List ℕ)) → Appends old old []
unchanged None = tt
unchanged (Some known) = sym (append-nil known)

module _ (reads : List ℕ → Result (ℕ × List Step) Place) (shows : ℕ × List Step → List ℕ) (remaining old new : Option (List ℕ)) where
  pub looped : {T : Type 0} (schedule : ℕ × List Step) (r : Result T ReplayFault) → ReadsAs reads remaining (Ok schedule) → IfErr r (λ e. e ≢ BadSchedule) → WritesLines (shows schedule) old new r → Loops reads shows remaining old new r
  unfolding ReadsAs
  looped {T} schedule r given fault wrote = (given.0, given.1, subst (λ m. WritesFront shows m old new r) (sym given.2) (go r fault wrote))
    where
      go : (r : Result T ReplayFault) → IfErr r (λ e. e ≢ BadSchedule) → WritesLines (shows schedule) old new r → WritesFront shows (Ok schedule) old new r
      go (Ok done) f w = w
      go (Err NoMemory) f w = w
      go (Err WriteFault) f w = w
      go (Err ReadFault) f w = w
      go (Err BadSchedule) f w = absurd (f refl)

  pub unread : {T : Type 0} (fault : ReplayFault) (r : Result T ReplayFault) → r ≡ Err fault → new ≡ old → ReadsAs reads remaining (Err fault) → Loops reads shows remaining old new r
  unfolding ReadsAs
  unread {T} fault r is same given = (given.0, given.1, subst (WritesFront shows (reads given.0) old new) (sym is) (subst (λ o. WritesFront {T = T} shows (reads given.0) old o (Err fault)) (sym same) (go fault (reads given.0) given.2)))
    where
      go : (f : ReplayFault) (m : Result (ℕ × List Step) Place) → Refuses f m → WritesFront {T = T} shows m old old (Err f)
      go NoMemory (Ok schedule) h = nothing (shows schedule) old
      go NoMemory (Err place) h = refl
      go ReadFault (Ok schedule) h = nothing (shows schedule) old
      go ReadFault (Err place) h = refl
      go BadSchedule (Ok schedule) h = let q : Ok schedule ≡ Err h.0 = h.1 in cc
      go BadSchedule (Err place) h = refl
      go WriteFault m h = absurd h
