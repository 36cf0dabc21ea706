-- An export on its way: what is told is put into files.
use Rattle.std.proofs.Common.{ℕ, ◌≡◌, ◌<◌, ◌≤◌, ◌+◌, ◌-◌, List, [], ◌∷◌, ◌++◌, Ok, Err, inl, inr, length, take, refl, sym, subst, ap, ◌∙◌, arith, length-append}
use Rattle.std.proofs.Math.Seq.{take-append-add}
use Rattle.std.proofs.lemmas.List.{nil_from_length, take_all}
use Rattle.press_client.specs.Exporting.{UnfinishedFiles, first_file, files_in, files_of, with_entry, put_all}
use Rattle.press_client.specs.Telling.{Asks, HoldsNothing, IsExport, IsMissing, IsUnanswered, Question, entries_of}
use Rattle.press_client.specs.declared.entry.LogEntry.{LogEntry}
use Rattle.press_client.specs.declared.log.LogFault.{LogFault}
use Rattle.press_client.specs.declared.log.Piece.{Piece}
use Rattle.press_client.specs.declared.site_files.Limits.{Limits}
use Rattle.press_client.specs.declared.site_files.SiteFile.{SiteFile}

put_on : (limits : Limits) (es fs : List LogEntry) (w : UnfinishedFiles) → put_all limits (es ++ fs) w ≡ put_all limits fs (put_all limits es w)
put_on limits [] fs w = refl
put_on limits (e ∷ es) fs w = put_on limits es fs (with_entry limits e w)

-- where some are missing, the first so many of all with more behind them are all, and the first of
-- those that are behind
take_on : (n : ℕ) (es fs : List LogEntry) → length es < n → take n (es ++ fs) ≡ take n es ++ take (n - length es) fs
take_on n es fs short =
    let k = n - length es in
    let is : n ≡ length es + k = omega (arith, short) in
    let all : take n es ≡ es = take_all n es (omega (arith, short)) in
    ap (λ m. take m (es ++ fs)) is ∙ (take-append-add es fs k ∙ ap (λ front. front ++ take k fs) (sym all))

-- all that was told by now is put, within these limits; so many of what had been applied by the
-- first piece are left
abbrev pub IsOnTheWay : {Node : Type 0} → Question Node → Limits → Limits → ℕ → ℕ → Node → Node → UnfinishedFiles → Type 0
IsOnTheWay tells limits own applied left old now w =
    (first : Piece) × (more : List Piece) × Asks tells first more old now × (own ≡ limits) × (first.applied ≡ applied)
    × (left ≡ applied - length (entries_of first more)) × (w ≡ put_all limits (take applied (entries_of first more)) first_file)

module _ {Node : Type 0} (tells : Question Node) (limits : Limits) where
  pub first_is : (own own' : Limits) (left : ℕ) (first : Piece) (old now : Node) (w w' : UnfinishedFiles) → tells old 0 (Ok first) now → own ≡ limits → own' ≡ own
      → left ≡ first.applied - length first.entries.items → w ≡ first_file → w' ≡ put_all own (take first.applied first.entries.items) w
      → IsOnTheWay tells limits own' first.applied left old now w'
  first_is own own' left first old now w w' told same kept is from put = (
    first,
    [],
    told,
    kept ∙ same,
    refl,
    is,
    put ∙ (ap (λ l. put_all l (take first.applied first.entries.items) w) same ∙ ap (put_all limits (take first.applied first.entries.items)) from),
  )

  pub goes_on : (own own' : Limits) (applied left next : ℕ) (old before now : Node) (w w' : UnfinishedFiles) (piece : Piece) → 0 < left → IsOnTheWay tells limits own applied left old before w
      → tells before (applied - left) (Ok piece) now → own' ≡ own → next ≡ left - length piece.entries.items → w' ≡ put_all own (take left piece.entries.items) w
      → IsOnTheWay tells limits own' applied next old now w'
  goes_on own own' applied left next old before now w w' piece some (first, more, asks, same, is, rest, put) told kept fewer more_put =
      let es = entries_of first more in
      let short : length es < applied = omega (arith, some, rest) in
      let at : applied - left ≡ length es = omega (arith, rest, short) in (
        first,
        piece ∷ more,
        (before, asks, subst (λ n. length es < n) (sym is) short, subst (λ n. tells before n (Ok piece) now) at told),
        kept ∙ same,
        is,
        omega (arith, fewer, rest, length-append es piece.entries.items),
        more_put ∙ (ap (λ l. put_all l (take left piece.entries.items) w) same ∙ (ap (put_all limits (take left piece.entries.items)) put
            ∙ (sym (put_on limits (take applied es) (take left piece.entries.items) first_file)
            ∙ ap (λ front. put_all limits front first_file) (ap (λ n. take applied es ++ take n piece.entries.items) rest ∙ sym (take_on applied es piece.entries.items short))))),
      )

  pub ended : (own : Limits) (applied left : ℕ) (old now : Node) (w : UnfinishedFiles) (files : List SiteFile) → left ≡ 0 → IsOnTheWay tells limits own applied left old now w → files ≡ files_in w
      → IsExport tells limits old now files
  unfolding files_of
  ended own applied left old now w files none (first, more, asks, same, is, rest, put) are =
      (first, more, asks, omega (arith, is, rest, none), are ∙ (ap files_in put ∙ ap (λ n. files_in (put_all limits (take n (entries_of first more)) first_file)) (sym is)))

  pub is_unanswered : (own : Limits) (applied left : ℕ) (old before now : Node) (w : UnfinishedFiles) (fault : LogFault) → 0 < left → IsOnTheWay tells limits own applied left old before w
      → tells before (applied - left) (Err fault) now → IsUnanswered tells fault old now
  is_unanswered own applied left old before now w fault some (first, more, asks, same, is, rest, put) told =
      let es = entries_of first more in
      let short : length es < applied = omega (arith, some, rest) in
      let at : applied - left ≡ length es = omega (arith, rest, short) in
      inr (first, more, before, asks, subst (λ n. length es < n) (sym is) short, subst (λ n. tells before n (Err fault) now) at told)

  pub holds_nothing : (own : Limits) (applied left next : ℕ) (old before now : Node) (w : UnfinishedFiles) (piece : Piece) → 0 < left → IsOnTheWay tells limits own applied left old before w
      → tells before (applied - left) (Ok piece) now → next ≡ left - length piece.entries.items → next ≡ left → HoldsNothing tells old now
  holds_nothing own applied left next old before now w piece some (first, more, asks, same, is, rest, put) told fewer stays =
      let es = entries_of first more in
      let short : length es < applied = omega (arith, some, rest) in
      let at : applied - left ≡ length es = omega (arith, rest, short) in (
        first,
        piece,
        more,
        (before, asks, subst (λ n. length es < n) (sym is) short, subst (λ n. tells before n (Ok piece) now) at told),
        nil_from_length piece.entries.items (omega (arith, fewer, stays, some)),
      )
