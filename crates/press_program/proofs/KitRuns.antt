-- What a run over kit files comes to.
use Rattle.std.proofs.Common.{◌≡◌, ◌==◌, ◌⊎◌, inl, inr, ℕ, List, [], ◌∷◌, false, length, subst, sym}
use Rattle.std.specs.Prelude.{Option}
use Rattle.std.specs.Io.KnownBytes.{Keeps}
use Rattle.press_demonstration.specs.Demonstration.{demonstration}
use Rattle.press_lint.specs.Files.{GivesSlips}
use Rattle.press_lint.specs.Joints.{File, read_together}
use Rattle.press_program.specs.Endings.{Does, RunsOver, ServeRelation}
use Rattle.press_program.specs.KitFiles.{AreNamed, MeetsFault, fault_line, kit_line, slip_front, view_where}
use Rattle.press_program.specs.Words.{Job}
use Rattle.press_program.specs.declared.kitting.KitSourceFault.{KitSourceFault}
use Rattle.press_program.specs.declared.kitting.KitSourceFault.TheVariants as fault
use Rattle.press_text.specs.Streams.{AppendsFront}
use Rattle.press_world.specs.declared.replay_fault.ReplayFault.TheVariants.{NoMemory}

module _ (served : ServeRelation) (job : Job) (remaining : Option (List ℕ)) (result : ℕ) (out out' err err' : Option (List ℕ)) where
  pub demonstrated : (names : List (List ℕ)) → names ≡ [] → Does served demonstration job remaining result out out' err err'
      → RunsOver served names job remaining result out out' err err'
  demonstrated names none does = subst (λ ns. RunsOver served ns job remaining result out out' err err') (sym none) does

  pub played : (names : List (List ℕ)) (files : List File) (told : List ℕ) (by_then : Option (List ℕ)) → (length names == 0) ≡ false
      → AreNamed names files → GivesSlips slip_front (read_together files) told → AppendsFront err by_then told
      → Does served (view_where (read_together files)) job remaining result out out' by_then err' → RunsOver served names job remaining result out out' err err'
  played [] files told by_then some named gives front does = cc
  played (name ∷ names) files told by_then some named gives front does = inr (files, named, told, gives, by_then, front, does)

  pub refused : (names : List (List ℕ)) (file : List ℕ) (met : KitSourceFault) → (length names == 0) ≡ false → MeetsFault names file met → result ≡ 2 → Keeps out out'
      → AppendsFront err err' (kit_line file met) ⊎ AppendsFront err err' (fault_line NoMemory) → RunsOver served names job remaining result out out' err err'
  refused [] file met some meets two kept told = cc
  refused (name ∷ names) file met some meets two kept (inl told) = inl (two, kept, file, met, meets, told)
  refused (name ∷ names) file met some meets two kept (inr told) = inl (two, kept, file, fault.NoMemory, tt, told)
