-- Files that hold no database yet have no first page that is sound.
use Rattle.std.proofs.Common.{◌≡◌, ◌≤◌, ◌<◌, ◌-◌, ◌*◌, ℕ, List, [], length, take, slice_index, Option, Some, unwrap_or, sym, ap, ◌∙◌, inl, inr, arith, get_or-take, zero-add, refl, true, false}
use Rattle.std.proofs.lemmas.List.{length-take}
use Rattle.std.proofs.Math.Logic.{∥∥₁_elim}
use Rattle.sqlite.specs.Recovery.{Image}
use Rattle.sqlite.specs.Tree.{Trees}
use Rattle.sqlite.specs.Files.{IsNothing, AreFoundIn}
use Rattle.sqlite_wal.specs.Recovery.{pages_after}
use Rattle.sqlite_wal.specs.Format.{part}
use Rattle.sqlite_wal.proofs.PartLemmas.{slice_index-part, part_within}
use Rattle.sqlite_wal.proofs.RecoveryLemmas.{replays_once}
use Rattle.sqlite_wal.proofs.AppendLemmas.{some_value, page_from_pages}
use Rattle.sqlite_pages.specs.PageMap.{PageMap}
use Rattle.sqlite_pool.specs.Stored.{stored_size, used_size, Adopts}
use Rattle.sqlite_pool.specs.StoredLaws.{trimmed_some}
use Rattle.sqlite_pool.specs.File.{header_in, IsSoundFile}
use Rattle.sqlite_pool.specs.Opening.{IsBlankFile}
use Rattle.sqlite_pool.proofs.ProbeLemmas.{first_byte}
use Rattle.sqlite_trees.specs.Objects.{catalog_tree}

module _ (size : ℕ) (image : Image) (pages : PageMap) (found : Adopts size image pages) (sound : IsSoundFile size pages) where
  abbrev whole : ℕ
  whole = stored_size size

  abbrev first : List ℕ
  first = (some_value (found.stored 1) found.whole.first).0

  has_first : found.stored 1 ≡ Some first
  has_first = (some_value (found.stored 1) found.whole.first).1

  header_is : header_in pages ≡ take 100 (take size first)
  header_is =
      let used : pages 1 ≡ Some (take size first) = ap (λ (p : PageMap). p 1) (sym found.shows) ∙ trimmed_some size _ 1 first has_first in
      ap (λ (o : Option (List ℕ)). take 100 (unwrap_or o [])) used

  -- its first sixteen bytes are those of a database
  is_long : 16 ≤ size
  is_long =
      let named : length (take 16 (header_in pages)) ≡ 16 = ap length sound.header.0.magic in
      let front = length-take 16 (header_in pages) in
      let head = ap length header_is ∙ length-take 100 (take size first) in
      let cut = length-take size first in
      grind (arith, named, front, head, cut)

  from_file : found.found.frames ≡ 0 → (whole ≤ length image.db) × (slice_index (header_in pages) 0 ≡ slice_index image.db 0)
  from_file none =
      let large = is_long in
      let raw = found.found in
      let alone : pages_after whole image.log image.db 0 1 ≡ Some first = ap (λ (p : PageMap). p 1) (ap (pages_after whole image.log image.db) (sym none) ∙ raw.gives) ∙ has_first in
      let start : (1 - 1) * whole ≡ 0 = omega arith in
      let front : part image.db 0 whole ≡ first = ap (λ (at : ℕ). part image.db at whole) (sym start) ∙ (page_from_pages whole image.log image.db 0 1 first alone).0 in
      let long = part_within image.db 0 whole (omega arith) (ap length front ∙ found.whole.sized 1 first has_first) in
      let head : header_in pages ≡ take 100 (take size (part image.db 0 whole)) = header_is ∙ ap (λ (b : List ℕ). take 100 (take size b)) (sym front) in (
        omega arith,
        ap (λ (b : List ℕ). slice_index b 0) head ∙ get_or-take 100 (take size (part image.db 0 whole)) 0 0 (omega arith)
            ∙ get_or-take size (part image.db 0 whole) 0 0 (omega arith) ∙ slice_index-part image.db 0 whole 0 (omega arith) ∙ ap (slice_index image.db) (zero-add 0),
      )

  not_blank : (other : ℕ) → 0 < other → IsBlankFile other image → ⊥
  not_blank other some (inl none) = omega (arith, found.found.present)
  not_blank other some (inr blank) =
      let large = is_long in
      let raw = found.found in
      let none : raw.frames ≡ 0 = elim blank.0 [
        | inl ignored ↦ replays_once whole image.log raw.frames 0 raw.replays (inl (ignored.0, refl))
        | inr taken ↦ elim raw.replays [
          | inl ignored ↦ ignored.1
          | inr ours ↦ replays_once whole image.log raw.frames 0 raw.replays (rw (sym ours.0.head.size ∙ taken.0.head.size) blank.0)
        ]
      ] in
      let (long, byte) = from_file none in
      let magic : slice_index image.db 0 ≡ 83 =
      sym byte ∙ sym (get_or-take 16 (header_in pages) 0 0 (omega arith)) ∙ ap (λ (b : List ℕ). slice_index b 0) sound.header.0.magic in
      elim blank.1.0 [
        | inl short ↦ omega arith
        | inr more ↦ elim more [ inl zero' ↦ omega (arith, zero'.1) | inr rest ↦ rest.1 (magic ∙ sym (first_byte other some)) ]
      ]

pub finds_empty : (image : Image) (db : Trees) → IsNothing image → AreFoundIn image db → db catalog_tree ≡ []
finds_empty image db nothing (inl (size, pages, wanted, adopts, ours, is)) =
    absurd (∥∥₁_elim ours (λ a b. absurd a) (λ it. elim nothing [
      | inl plain ↦ not_blank size image pages adopts it.file.sound (used_size 4096 false) (omega arith) plain
      | inr summed ↦ not_blank size image pages adopts it.file.sound (used_size 4096 true) (omega arith) summed
    ]))
finds_empty image db nothing (inr (none, empty)) = empty.1
