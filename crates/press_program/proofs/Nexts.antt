-- What a run comes to that prints the next kit of two kit files.
use Rattle.std.proofs.Common.{ℕ, suc, ◌≡◌, inl, inr, List, [], ◌∷◌, ◌++◌, drop, Some, None, sym, ap, ◌∙◌, append_assoc, append-nil, subst, ◌⊎◌}
use Rattle.std.specs.Prelude.{Option, String, slice_get, string_bytes}
use Rattle.std.specs.declared.alloc.Global.{Global}
use Rattle.std.specs.Io.KnownBytes.{Appends, Keeps}
use Rattle.press_lint.specs.Files.{GivesSlips}
use Rattle.press_lint.specs.Joints.{File, read_together}
use Rattle.press_text.specs.Streams.{AppendsFront}
use Rattle.press_upgrade.specs.Next.{IsNext}
use Rattle.press_upgrade.specs.declared.next.NextKit.{NextKit}
use Rattle.press_world.specs.declared.replay_fault.ReplayFault.TheVariants.{NoMemory, WriteFault}
use Rattle.press_program.specs.KitFiles.{AreNamed, MeetsFault, fault_line, kit_line, slip_front}
use Rattle.press_program.specs.Nexts.{NextsOf, OverFile, Prints, TellsNone, kit_text, task_line, task_lines, tasks_of}
use Rattle.press_program.specs.declared.kitting.KitSourceFault.{KitSourceFault}
use Rattle.press_program.specs.declared.kitting.KitSourceFault.TheVariants as source
use Rattle.press_program.proofs.Exports.{drop_at, drop_past}

-- ---- lines

pub lines_on : (text : List ℕ) (i : ℕ) (task : List ℕ) (names : List (String Global)) (whole : List ℕ) (n : String Global) → slice_get names i ≡ Some n →
    text ++ task_lines task (drop i names) ≡ whole → (text ++ task_line task (string_bytes n)) ++ task_lines task (drop (suc i) names) ≡ whole
lines_on text i task names whole n at is =
    append_assoc text (task_line task (string_bytes n)) (task_lines task (drop (suc i) names)) ∙ (ap (λ ns. text ++ task_lines task ns) (sym (drop_at names i n at)) ∙ is)

pub lines_end : (text : List ℕ) (i : ℕ) (task : List ℕ) (names : List (String Global)) (whole : List ℕ) → slice_get names i ≡ None → text ++ task_lines task (drop i names) ≡ whole → text ≡ whole
lines_end text i task names whole past is = sym (append-nil text) ∙ (ap (λ ns. text ++ task_lines task ns) (sym (drop_past names i past)) ∙ is)

-- ---- how it ends

module _ (result : ℕ) (out out' err err' : Option (List ℕ)) where
  pub is_printed : (next : NextKit) (kit tasks : List ℕ) → kit ≡ kit_text next → tasks ≡ tasks_of next → result ≡ 0 → Appends out out' kit → AppendsFront err err' tasks
      → Prints next result out out' err err'
  is_printed next kit tasks same told none put front = inl (none, subst (Appends out out') same put, subst (AppendsFront err err') told front)

  pub is_cut : (next : NextKit) (kit : List ℕ) → kit ≡ kit_text next → result ≡ 2 → AppendsFront out out' kit → AppendsFront err err' (fault_line WriteFault)
      → Prints next result out out' err err'
  is_cut next kit same two put front = inr (two, subst (AppendsFront out out') same put, front)

  pub of_next : (old : List ℕ) (next : NextKit) → IsNext old (string_bytes next.text) → Prints next result out out' err err' ⊎ TellsNone result out out' err err'
      → NextsOf old result out out' err err'
  of_next old next is (inl prints) = inl (next, is, prints)
  of_next old next is (inr none) = inr none

  -- one file was read, and this came of its bytes
  pub is_read : (name bytes told : List ℕ) (Does : List ℕ → Option (List ℕ) → Type 0) (files : List File) (by_then : Option (List ℕ)) → AreNamed (name ∷ []) files
      → GivesSlips slip_front (read_together files) told → AppendsFront err by_then told → (file : File) × (files ≡ file ∷ []) × (file.bytes ≡ bytes) → Does bytes by_then
      → OverFile name Does result out out' err err'
  is_read name bytes told Does files by_then named gives front one does =
      inr (one.0, subst (AreNamed (name ∷ [])) one.1 named, told, subst (λ fs. GivesSlips slip_front (read_together fs) told) one.1 gives, by_then, front, subst (λ bs. Does bs by_then) (sym one.2) does)

  pub is_unusable : (name : List ℕ) (Does : List ℕ → Option (List ℕ) → Type 0) (file : List ℕ) (met : KitSourceFault) → MeetsFault (name ∷ []) file met → result ≡ 2 → Keeps out out'
      → AppendsFront err err' (kit_line file met) ⊎ AppendsFront err err' (fault_line NoMemory) → OverFile name Does result out out' err err'
  is_unusable name Does file met meets two kept (inl told) = inl (two, kept, file, met, meets, told)
  is_unusable name Does file met meets two kept (inr told) = inl (two, kept, file, source.NoMemory, tt, told)
