-- What a run comes to that makes site files of a log.
use Rattle.std.proofs.Common.{ℕ, zero, suc, ◌≡◌, inl, inr, List, [], ◌∷◌, ◌++◌, drop, Some, None, slice_get, refl, sym, ap, ◌∙◌, append_assoc, append-nil}
use Rattle.std.specs.Prelude.{Option}
use Rattle.std.specs.Io.KnownBytes.{Appends, Keeps}
use Rattle.press_client.specs.declared.entry.LogEntry.{LogEntry}
use Rattle.press_client.specs.declared.site_files.SiteFile.{SiteFile}
use Rattle.press_text.specs.Streams.{AppendsFront}
use Rattle.press_world.specs.declared.replay_fault.ReplayFault.TheVariants.{NoMemory}
use Rattle.press_program.specs.Endings.{Exports, usage_line}
use Rattle.press_program.specs.Exports.{fault_of, line, lines_from, lines_of, name_of, reason_of}
use Rattle.press_program.specs.KitFiles.{fault_line}
use Rattle.press_program.specs.Words.{Export}
use Rattle.press_program.specs.declared.exporting.Unmade.{Unmade}

-- ---- lines

pub drop_at : {A : Type 0} (xs : List A) (i : ℕ) (x : A) → slice_get xs i ≡ Some x → drop i xs ≡ x ∷ drop (suc i) xs
drop_at [] i x is = cc
drop_at (y ∷ xs) zero x is = let same : y ≡ x = cc in ap (λ z. z ∷ xs) same
drop_at (y ∷ xs) (suc i) x is = drop_at xs i x is

pub drop_past : {A : Type 0} (xs : List A) (i : ℕ) → slice_get xs i ≡ None → drop i xs ≡ []
drop_past [] zero is = refl
drop_past [] (suc i) is = refl
drop_past (y ∷ xs) zero is = cc
drop_past (y ∷ xs) (suc i) is = drop_past xs i is

pub lines_on : (text : List ℕ) (i : ℕ) (file : List ℕ) (files : List SiteFile) (whole : List ℕ) (f : SiteFile) → slice_get files i ≡ Some f →
    text ++ lines_from file i (drop i files) ≡ whole → (text ++ line (name_of file i) f.commands) ++ lines_from file (suc i) (drop (suc i) files) ≡ whole
lines_on text i file files whole f at is =
    append_assoc text (line (name_of file i) f.commands) (lines_from file (suc i) (drop (suc i) files)) ∙ (ap (λ fs. text ++ lines_from file i fs) (sym (drop_at files i f at)) ∙ is)

pub lines_end : (text : List ℕ) (i : ℕ) (file : List ℕ) (files : List SiteFile) (whole : List ℕ) → slice_get files i ≡ None → text ++ lines_from file i (drop i files) ≡ whole → text ≡ whole
lines_end text i file files whole past is = sym (append-nil text) ∙ (ap (λ fs. text ++ lines_from file i fs) (sym (drop_past files i past)) ∙ is)

-- ---- how it ends

module _ (it : Export) (result : ℕ) (out out' err err' : Option (List ℕ)) where
  pub usage : result ≡ 2 → Keeps out out' → AppendsFront err err' usage_line → Exports it result out out' err err'
  usage two kept told = inl (two, kept, inl told)

  pub no_room : result ≡ 2 → Keeps out out' → AppendsFront err err' (fault_line NoMemory) → Exports it result out out' err err'
  no_room two kept told = inl (two, kept, inr told)

  pub are_made : (entries : List LogEntry) → result ≡ 0 → Appends out out' (lines_of it entries) → Keeps err err' → Exports it result out out' err err'
  are_made entries none put kept = inr (inl (entries, none, put, kept))

  pub is_told : (entries : List LogEntry) (why : Unmade) (by_then : Option (List ℕ)) → result ≡ 2 → AppendsFront out out' (lines_of it entries) → AppendsFront err by_then (fault_line (fault_of why)) →
      AppendsFront by_then err' (reason_of it why) → Exports it result out out' err err'
  is_told entries why by_then two put fault reason = inr (inr (entries, why, by_then, two, put, fault, reason))
