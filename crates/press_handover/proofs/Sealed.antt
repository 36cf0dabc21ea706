-- What was kept, taken apart again.
use Rattle.std.proofs.Common.{◌≡◌, ◌∙◌, ℕ, ◌<◌, Bool, true, false, cond, List, [], ◌∷◌, ◌++◌, length, take, drop, bytes_eq, refl, sym, ap, subst, arith}
use Rattle.std.proofs.lemmas.List.{length-take}
use Rattle.std.proofs.Math.Seq.{take-append_seam, drop-append_seam}
use Rattle.std.proofs.lemmas.Slice.Eq.{bytes_eq-Decides}
use Rattle.std.specs.Prelude.{None, Ok, Some}
use Rattle.sha2.proofs.Facts256.{length-sha256}
use Rattle.sha2.specs.Sha256.{sha256}
use Rattle.press_kit.specs.declared.kit_parts.KitParts.{KitParts}
use Rattle.press_lint.specs.Joints.{File, Joint, files_of, read_together}
use Rattle.press_lint.specs.declared.joint.NamedFile.{NamedFile}
use Rattle.press_handover.specs.Kept.{IsOfFiles, demonstration_parts, files_bytes, kept_kit, unsealed}

front_is : (bytes : List ℕ) → take 32 (sha256 bytes ++ bytes) ≡ sha256 bytes
front_is bytes = subst (λ (n : ℕ). take n (sha256 bytes ++ bytes) ≡ sha256 bytes) (length-sha256 bytes) (take-append_seam (sha256 bytes) bytes)

behind_is : (bytes : List ℕ) → drop 32 (sha256 bytes ++ bytes) ≡ bytes
behind_is bytes = subst (λ (n : ℕ). drop n (sha256 bytes ++ bytes) ≡ bytes) (length-sha256 bytes) (drop-append_seam (sha256 bytes) bytes)

same : (bytes : List ℕ) → bytes_eq bytes bytes ≡ true
same bytes = (bytes_eq-Decides bytes bytes).1 refl

pub opened : (files : List (List ℕ)) → unsealed (kept_kit files) ≡ Some (files_bytes files)
unfolding unsealed kept_kit
opened files = rw (front_is (files_bytes files), behind_is (files_bytes files), same (sha256 (files_bytes files))) refl

-- what some files give is what was read of them
pub given : (files : List File) (joint : Joint) → (files ≡ [] → ⊥) → read_together files ≡ Ok joint → IsOfFiles files joint.kit
given [] joint some read = absurd (some refl)
given (file ∷ files) joint some read = (joint, read, refl)

pub no_file : (files : List NamedFile) → files_of files ≡ [] → length files ≡ 0
no_file [] none = refl
no_file (file ∷ files) none = cc

pub of_none : (files : List File) (kit : KitParts) → files ≡ [] → kit ≡ demonstration_parts → IsOfFiles files kit
of_none [] kit none is = is
of_none (file ∷ files) kit none is = cc

-- what is shorter than a digest has none
pub too_short : (kept : List ℕ) → length kept < 32 → None ≡ unsealed kept
unfolding unsealed
too_short kept few = go (bytes_eq (take 32 kept) (sha256 (drop 32 kept))) refl
  where
    go : (b : Bool) → b ≡ bytes_eq (take 32 kept) (sha256 (drop 32 kept)) → None ≡ cond b (Some (drop 32 kept)) None
    go true e =
        let same = (bytes_eq-Decides (take 32 kept) (sha256 (drop 32 kept))).0 (sym e) in
        let equal = ap (λ (ys : List ℕ). length ys) same in
        let long = length-sha256 (drop 32 kept) in
        let cut = length-take 32 kept in
        absurd (omega arith)
    go false e = refl

-- what was kept of some files is theirs
pub of_kept : (kept bytes : List ℕ) (files : List (List ℕ)) → Some bytes ≡ unsealed kept → kept ≡ kept_kit files → bytes ≡ files_bytes files
of_kept kept bytes files got are = let e : Some bytes ≡ Some (files_bytes files) = got ∙ ap unsealed are ∙ opened files in cc
